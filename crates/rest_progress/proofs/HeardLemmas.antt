-- Where what is said of rests is kept, a node that is TRIGGERED is heard by its home, if that is asleep.
use Rattle.std.proofs.Common.{◌≡◌, ℕ, ◌<◌, inl, inr, ⊎_elim, Some}
use Rattle.std.proofs.Common.{sym, ap, ◌∙◌, subst, arith}
use mathlib.Core.Logic.{dite}
use native.Mathlib.Decide.{ℕ_discrete}
use Rattle.board_rule.specs.declared.view.NodeView.{NodeView}
use Rattle.board_rule.specs.Layout.{BoardLayout, nodes}
use Rattle.board_rule.specs.View.{node_of, idle}
use Rattle.board_rule.specs.BoardRule.{Holds}
use Rattle.board_rule.proofs.buffers.HolderLemmas.{got}
use Rattle.rest_progress.specs.Sleepers.{Crew, RunState, Sleeps, HasTried, seat_at, IsTriggered}
use Rattle.rest_progress.specs.Heard.{IsCalled, IsHeard}
use Rattle.rest_progress.specs.working.Kept.{IsKept}
use Rattle.rest_progress.proofs.RowLemmas.{idle_row}
use Rattle.rest_progress.proofs.NodeEndLemmas.{driver_seat, follower_seat}

module _ (p : BoardLayout) (crew : Crew) (s : RunState) (h : Holds p s.board) (k : IsKept p crew s) where
  -- A NODE THAT IS TRIGGERED, and whose home is asleep
  called_at : (n a : ℕ) → n < nodes p → crew.home (seat_at p n) ≡ Some a → Sleeps s a → IsTriggered p s.board.words n → IsCalled s a
  called_at n a inside at sleeps t = dite (ℕ_discrete n p.driver)
      (λ e. let r = (k.rests a sleeps).driver (ap crew.home (sym (driver_seat p n e)) ∙ at) in
      k.called n a inside at (subst (HasTried s a) (sym e) r.tried) t)
      (λ o. let r = (k.rests a sleeps).followers n inside o (ap crew.home (sym (follower_seat p n o)) ∙ at) in
      let same : node_of r.view n ≡ h.whole.nodes n = got r.view.nodes n (h.whole.nodes n) (idle 0)
      ((h.seated.knows r.id r.view r.at).owns n inside o (sym r.number)) in
      ⊎_elim (λ tried. k.called n a inside at tried t)
      (λ ended. let row = idle_row p s.board h n inside o (ap (λ (x : NodeView). x.phase) (sym same) ∙ r.idle) t in
      let cycle = row.0 in let low = row.1 in let next = ap (λ (x : NodeView). x.next) same in absurd (omega arith)) r.done)

  -- who owes an unpark is up
  pub heard : IsHeard p crew s
  heard n a inside at sleeps t = ⊎_elim (λ token. inl token) (λ d. inr (d.0, k.owed d.0 a d.2, d.2)) (called_at n a inside at sleeps t)
