use Rattle.std.proofs.Common.{take}
use Rattle.std.specs.Prelude.{All}
use Rattle.data_loop.specs.EpochStateParts.{IsEpochStateWithin}
use Rattle.data_loop.proofs.rooms.widest_of.Given as goal

abbrev pub invariant-loop-epoch_state : goal.invariant-loop-epoch_state
invariant-loop-epoch_state l = All (IsEpochStateWithin l.most) (take l.epoch_state-index l.epoch_states)
