-- A board that is not at its end goes on, and a step in vain takes it nowhere else.
use Rattle.std.proofs.Common.{◌≡◌, ℕ, ◌<◌, List, Option, set, get_or, sym, ap, ◌∙◌, subst, arith}
use lib.Seq.{set-get_or}
use lib.ListN.{get_elem?}
use mathlib.Core.Option.{some}
use Rattle.atomic_table.specs.Table.{State}
use Rattle.board_rule.specs.declared.board_shape.BoardShape.{BoardShape}
use Rattle.board_rule.specs.declared.view.View.{View}
use Rattle.board_rule.specs.Layout.{BoardLayout, layout_of, nodes}
use Rattle.board_rule.specs.BoardRule.{Holds}
use Rattle.board_progress.specs.Moves.{Move, moved}
use Rattle.board_progress.specs.Progress.{Advances, IsStaffed, IsUnfinished}
use Rattle.board_progress.specs.Ends.{AreWords, IsFurther, IsAsFar, LosesNothing, GoesOn}
use Rattle.board_progress.specs.VainSteps.{VainSteps}
use Rattle.board_progress.specs.VainSteps.VainSteps.{claims_early, loads_again}
use Rattle.board_progress.proofs.NeverStuckLemmas.{some_work}
use Rattle.board_progress.proofs.RunLemmas.{advance_falls, vain_most}
use Rattle.board_progress.proofs.KeepLemmas.{advance_keeps, vain_keeps}
use Rattle.board_progress.proofs.StayLemmas.{advance_stays, vain_stays, staffed}
use Rattle.board_progress.proofs.WordLemmas.{few_required, words_fit}

module _ (p : BoardLayout) (few : (n : ℕ) → n < nodes p → p.required n < 4294967296) (s : State (Option ℕ) View) (h : Holds p s) (fits : AreWords s)
    (staff : IsStaffed p s.views) where
  pub further : (i : ℕ) (v : View) (x : Move) → get_elem? s.views i ≡ some v → Advances p s.words v x → IsFurther p s (moved s i x)
  further i v x at a = let stays = advance_stays p s.words v x a in record {
    rule = advance_keeps p s h (λ j. let f = fits j in omega arith) i v at x a;
    words = words_fit p few s h fits i v at x a;
    staffed = staffed p s.views i v x.view at stays.0 stays.1 staff;
    less = advance_falls p s h i v x at a;
  }

  -- a step in vain leaves the words
  vain_word : (v : View) (x : Move) (back : ℕ) → VainSteps p s.words v x back → x.word ≡ get_or s.words x.place 0
  vain_word v x back (claims_early b m found may is late none e) =
      ap (λ (y : Move). y.word) e ∙ is ∙ sym (ap (λ (y : Move). get_or s.words y.place 0) e)
  vain_word v x back (loads_again b l id i found may low is more e) =
      ap (λ (y : Move). y.word) e ∙ is ∙ sym (ap (λ (y : Move). get_or s.words y.place 0) e)

  pub as_far : (i : ℕ) (v : View) (x : Move) (back : ℕ) → get_elem? s.views i ≡ some v → VainSteps p s.words v x back
      → IsAsFar p back s (moved s i x)
  as_far i v x back at a = let stays = vain_stays p s.words v x back a in record {
    rule = vain_keeps p s h (λ j. let f = fits j in omega arith) i v at x back a;
    words = λ j. subst (λ (ws : List ℕ). get_or ws j 0 < 18446744073709551616)
        (sym (ap (set s.words x.place) (vain_word v x back a) ∙ set-get_or s.words x.place 0)) (fits j);
    staffed = staffed p s.views i v x.view at stays.0 stays.1 staff;
    most = vain_most p s i v x back at a;
  }

pub loses_nothing : (board_shape : BoardShape) (s : State (Option ℕ) View) → Holds (layout_of board_shape) s → AreWords s
    → IsStaffed (layout_of board_shape) s.views → LosesNothing (layout_of board_shape) s
loses_nothing board_shape s h fits staff = as_far (layout_of board_shape) (few_required board_shape h.seated.pooled.sound) s h fits staff

pub goes_on : (board_shape : BoardShape) (s : State (Option ℕ) View) → Holds (layout_of board_shape) s → AreWords s
    → IsStaffed (layout_of board_shape) s.views → IsUnfinished (layout_of board_shape) s.views → GoesOn (layout_of board_shape) s
goes_on board_shape s h fits staff more = record {
  can = some_work board_shape s h staff more;
  after = further (layout_of board_shape) (few_required board_shape h.seated.pooled.sound) s h fits staff;
}
