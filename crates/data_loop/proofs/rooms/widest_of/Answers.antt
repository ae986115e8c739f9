use Rattle.std.proofs.Common.{subst, arith}
use Rattle.std.specs.Prelude.{All}
use Rattle.data_loop.specs.Rooms.{IsWithin}
use Rattle.data_loop.specs.EpochStateParts.{IsEpochStateWithin}
use Rattle.data_loop.proofs.RoomLemmas.{all_within_le, epoch_state_within_le, taken_more, taken_all}
use Rattle.data_loop.proofs.rooms.widest_of.Goals as goal

pub loop-epoch_state-preserved : goal.loop-epoch_state-preserved
loop-epoch_state-preserved c = let a = c.loop-epoch_state.most in let b = c.widest-most.result in let d = c.widest-most-in-loop-epoch_state.result in
    let ab = c.widest-most.ensures.least in let bd = c.widest-most-in-loop-epoch_state.ensures.least in
    taken_more (IsEpochStateWithin a) (IsEpochStateWithin d) c.args.epoch_states.now c.loop-epoch_state.epoch_state-index _
    c.loop-epoch_state-test.true (λ g h. epoch_state_within_le a d g (omega (arith, ab, bd)) h) c.loop-epoch_state.invariant
    (subst (IsEpochStateWithin d) c.epoch_state-item.is (
      all_within_le b d c.epoch_state-item.result.members bd (subst (All (IsWithin b)) c.as_slice.ensures c.widest-most.ensures.widest),
      subst (All (IsWithin d)) c.as_slice-in-loop-epoch_state.ensures c.widest-most-in-loop-epoch_state.ensures.widest,
    ))

pub returns : goal.returns
returns c = taken_all (IsEpochStateWithin c.loop-epoch_state.most) c.args.epoch_states.now c.loop-epoch_state.epoch_state-index
    (let past = c.loop-epoch_state-test.false in omega (arith, past)) c.loop-epoch_state.invariant
