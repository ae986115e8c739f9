use Rattle.std.proofs.Common.{◌≡◌, ◌+◌, ◌-◌, ◌∙◌, take, sym, ap, arith}
use Rattle.graph_script.specs.Lexical.{lines_of}
use Rattle.fault_messages.specs.CycleRoom.{nodes_made, counted}
use Rattle.fault_messages.proofs.RoomLemmas.{more_made, counted_few}
use Rattle.fault_messages.proofs.cycle_room.nodes_made.Goals as goal

pub loop-preserved : goal.loop-preserved
loop-preserved c =
    let more = rw c.in-Some.is at c.next_piece.ensures.pieces in
    let step : c.counted-count.result ≡ counted c.next_piece.result.0.now c.loop.count = c.counted-count.ensures in
    let one = counted_few c.next_piece.result.0.now c.loop.count in
    record {
      left = ap (λ m. m + nodes_made (take (c.args.number - (c.loop.counter + 1)) (lines_of c.in-Some.more.now))) step
          ∙ (sym (more_made c.args.number c.loop.counter c.loop.count c.next_piece.result.0.now
          (lines_of c.loop.rest.now) (lines_of c.in-Some.more.now) (omega (arith, c.loop-test.true)) more)
          ∙ c.loop.invariant.left);
      within = omega arith;
      few = omega (arith, step, one, c.loop.invariant.few);
    }
