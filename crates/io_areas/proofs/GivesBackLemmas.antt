-- A reader's end of a link after two of its steps.
use Rattle.std.proofs.Common.{◌≡◌, ℕ, ◌+◌, Bool, true, false, List, refl, ap, ◌∙◌, set-set, get_or-set_same}
use Rattle.board_rule.specs.declared.view.ReadView.{ReadView}
use Rattle.board_rule.specs.declared.view.View.{View}
use Rattle.board_rule.specs.Layout.{BoardLayout}
use Rattle.board_rule.specs.View.{unread}
use Rattle.board_rule.specs.buffers.EndViews.{read_of, view_read}
use Rattle.board_rule.specs.buffers.ReaderSteps.{read_cycle, readers_lowered, need_stored}
use Rattle.io_areas.specs.Reading.{GivesBack, given_back}

module _ (is_driver : Bool) (p : BoardLayout) (v : View) (l : ℕ) where
  cycle_again : (b : Bool) (y : ReadView) → read_cycle b p (view_read v l y) l ≡ read_cycle b p v l
  cycle_again true y = refl
  cycle_again false y = refl

  pub gives_back : GivesBack is_driver p v l → need_stored is_driver p (readers_lowered is_driver p v l) l ≡ given_back is_driver p v l
  gives_back h =
      ap (λ (k : ReadView × ℕ). view_read (view_read v l y) l (record k.0 { stored = k.1 + 1 }))
      (λ i. (get_or-set_same v.reads l y (unread 0) h.0.0.0.1 i, cycle_again is_driver y i))
      ∙ ap (λ (xs : List ReadView). record v { reads = xs }) (set-set v.reads l y _)
    where
      y : ReadView
      y = record (read_of v l) { lowered = read_cycle is_driver p v l + 1 }
