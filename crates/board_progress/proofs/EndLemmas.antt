-- From each state the end can be reached.
use Rattle.std.proofs.Common.{◌≡◌, ℕ, zero, suc, ◌<◌, Option, refl, ap, arith}
use mathlib.Core.Logic.{dite}
use native.Mathlib.Decide.{dec_le}
use Rattle.atomic_table.specs.Table.{State}
use Rattle.board_rule.specs.declared.board_shape.BoardShape.{BoardShape}
use Rattle.board_rule.specs.declared.view.View.{View}
use Rattle.board_rule.specs.declared.view.DriverView.{DriverView}
use Rattle.board_rule.specs.Layout.{BoardLayout, layout_of, last}
use Rattle.board_rule.specs.BoardRule.{Holds}
use Rattle.board_progress.specs.Moves.{moved}
use Rattle.board_progress.specs.Progress.{IsStaffed, IsUnfinished, HaveEnded}
use Rattle.board_progress.specs.Runs.{board_left, Runs}
use Rattle.board_progress.specs.Ends.{AreWords, HasNoTick, ReachesEnd}
use Rattle.board_progress.proofs.RunLemmas.{bounded}
use Rattle.board_progress.proofs.GoesOnLemmas.{goes_on}

module _ (board_shape : BoardShape) where
  abbrev p : BoardLayout
  p = layout_of board_shape

  abbrev Reached : State (Option ℕ) View → Type 0
  Reached s = (n : ℕ) × (t : State (Option ℕ) View) × (r : Runs p n s t) × HasNoTick p n s t r × Holds p t × AreWords t × IsStaffed p t.views
      × HaveEnded p t.views

  reached : (k : ℕ) (s : State (Option ℕ) View) → board_left p s.views < k → Holds p s → AreWords s → IsStaffed p s.views → Reached s
  reached zero s low h fits staff = absurd (omega arith)
  reached (suc k) s low h fits staff = dite (dec_le (last p) h.whole.lead.cycle)
      (λ z. (
        0,
        s,
        refl,
        tt,
        h,
        fits,
        staff,
        λ i v at number. let is = ((h.seated.knows i v at).is_driver number).0 in
            let e : v.lead.cycle ≡ h.whole.lead.cycle = ap (λ (x : DriverView). x.cycle) is in let early = h.activations.early in omega arith,
      ))
      (λ z. let more : IsUnfinished p s.views = λ i v at number. (let is = ((h.seated.knows i v at).is_driver number).0 in
      let e : v.lead.cycle ≡ h.whole.lead.cycle = ap (λ (x : DriverView). x.cycle) is in omega arith) in
      let o = goes_on board_shape s h fits staff more in
      let a = o.can in let f = o.after a.0 a.1 a.2 a.3 a.4 in let less = f.less in
      let r = reached k (moved s a.0 a.2) (omega arith) f.rule f.words f.staffed in
      (suc r.0, r.1, (h, (a.0, a.1, a.2, a.3, a.4, r.2)), (a.6, r.3), r.4, r.5, r.6, r.7))

  pub end_reached : (s : State (Option ℕ) View) → Holds p s → AreWords s → IsStaffed p s.views → ReachesEnd p s
  end_reached s h fits staff = let r = reached (suc (board_left p s.views)) s (omega arith) h fits staff in record {
    steps = r.0;
    state = r.1;
    run = r.2;
    few = (let b = bounded p r.0 s r.1 r.2 in omega arith);
    unticked = r.3;
    rule = r.4;
    words = r.5;
    staffed = r.6;
    ended = r.7;
  }
