-- A step in vain leaves what its seat has left as it is, but for what is to be loaded again.
use Rattle.std.proofs.Common.{ℕ, ◌+◌, ◌≤◌, List, set, refl, sym, ap, subst, arith}
use Rattle.std.proofs.Common.{get_or-set_same, get_or-set_other}
use Rattle.board_rule.specs.declared.view.View.{View}
use Rattle.board_rule.specs.Layout.{BoardLayout, last}
use Rattle.board_rule.specs.buffers.EndViews.{pool_of, reader_of, read_of}
use Rattle.board_progress.specs.Moves.{Move}
use Rattle.board_progress.specs.VainSteps.{VainSteps}
use Rattle.board_progress.specs.VainSteps.VainSteps.{claims_early, loads_again}
use Rattle.board_progress.specs.BuffersLeft.{read_left, words_at, steps_left}
use Rattle.board_progress.proofs.BufferAdvancesLemmas.{holds_it, read_moves}

module _ (p : BoardLayout) (words : List ℕ) (v : View) where
  abbrev Rises : ℕ → Move → Type 0
  Rises back x = steps_left p x.view ≤ steps_left p v + back

  pub vain_rises : (x : Move) (back : ℕ) → VainSteps p words v x back → Rises back x
  vain_rises x back (claims_early b m found may is late none e) = subst (Rises back) (sym e) (omega arith)
  vain_rises x back (loads_again b l id i found may again is more e) = subst (Rises back) (sym e)
      (let m = read_moves p v l v.reads (set v.words_read l (i + 1)) 0 back may.0.0.0.0 (holds_it p b v (reader_of p l) may.0.0.0.2)
      (λ j o. refl) (λ j o. get_or-set_other v.words_read l j (i + 1) 0 o)
      (let d = get_or-set_same v.words_read l (i + 1) 0 may.0.0.0.4 in
      let n = ap (read_left (last p) (words_at p (pool_of p l)) (read_of v l)) d in omega arith) in omega arith)
