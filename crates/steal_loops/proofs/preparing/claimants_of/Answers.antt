use Rattle.std.proofs.Common.{◌≡◌, ◌∙◌, ℕ, false, List, [], ◌∷◌, length, sym, ap, subst, arith, length-append}
use Rattle.std.specs.Prelude.{All, replicate}
use Rattle.std.proofs.lemmas.List.Elements.{All-head, All-tail, All-push}
use Rattle.ready_queues.specs.declared.way.Way.{Way}
use Rattle.steal_shelf.specs.declared.shelf.ShelfSeat.{ShelfSeat}
use Rattle.steal_loops.specs.declared.claimant.Claimant.{Claimant}
use Rattle.steal_loops.specs.working.Claimants.{IsUnusedSeat, IsNewWorker, IsWorkersWay}
use Rattle.steal_loops.proofs.PrepareLemmas.{new_worker}
use Rattle.steal_loops.proofs.preparing.claimants_of.Goals as goal

pub loop-seat-preserved-in-Continue-branch-2 : goal.loop-seat-preserved-in-Continue-branch-2
loop-seat-preserved-in-Continue-branch-2 c = let i = c.loop-seat.invariant in let shared = c.args.shared.now in
    let seat : ShelfSeat = c.in-Some.seat in let way : Way = c.in-Some-next.way in
    let rest = c.next-in-loop-seat.new.self.rest.items in let left = c.next.new.self.rest.items in
    let ways_step : c.loop-seat.rest.rest.items ≡ way ∷ rest = c.in-Some-next.ensures.items in
    let seats_step : c.loop-seat.seat-iterator.rest.items ≡ seat ∷ left = c.in-Some.ensures.steps.0 in
    let seats = subst (All (IsUnusedSeat shared.shelf)) seats_step i.seats in
    let ways = subst (All (IsWorkersWay shared.ways)) ways_step i.ways in
    let t : Claimant = c.in_ok-claimant.claimant in let made = c.in_ok-claimant.ensures in
    let many = ap (λ (l : List Way). length l) ways_step in let few = ap (λ (l : List ShelfSeat). length l) seats_step in
    let same = i.same in let count = i.count in
    let pushed = c.in_ok-push.ensures.ok in let long = ap (λ (l : List Claimant). length l) pushed in let grown = length-append c.loop-seat.claimants (t ∷ []) in record {
      seats = All-tail (IsUnusedSeat shared.shelf) seat left seats;
      ways = All-tail (IsWorkersWay shared.ways) way rest ways;
      same = omega (arith, many, few, same);
      claimants = subst (All (IsNewWorker shared)) (sym pushed) (All-push (IsNewWorker shared) c.loop-seat.claimants t i.claimants
          (new_worker shared c.requires.cells t (subst (IsUnusedSeat shared.shelf) (sym made.seat) (All-head (IsUnusedSeat shared.shelf) seat left seats))
          (subst (IsWorkersWay shared.ways) (sym made.way) (All-head (IsWorkersWay shared.ways) way rest ways))
          (made.ended ∙ ap (λ (n : ℕ). replicate n false) c.loops-cells.ensures)));
      count = omega (arith, many, count, long, grown);
    }

pub returns-clause-count : goal.returns-clause-count
returns-clause-count c = let i = c.loop-seat.invariant in let count = i.count in let same = i.same in
    let rest = c.loop-seat.seat-iterator.rest in let end = rest.ok.0 in let none = c.in-None.ensures.steps.0 in omega (arith, count, same, end, none)
