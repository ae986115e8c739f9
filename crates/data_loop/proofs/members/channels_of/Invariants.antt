use Rattle.std.proofs.Common.{◌≡◌, drop}
use Rattle.cycle_model.specs.Epochs.{channels_of}
use Rattle.data_loop.proofs.members.channels_of.Given as goal

abbrev pub invariant-loop-form : goal.invariant-loop-form
invariant-loop-form l = channels_of l.forms l.port ≡ channels_of (drop l.form-index l.forms) l.port
