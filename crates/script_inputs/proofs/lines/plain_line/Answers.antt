-- A node that no wave belongs to keeps the inputs sound.
use Rattle.std.proofs.Common.{subst, sym, ap, ◌∙◌}
use Rattle.script_inputs.specs.Inputs.{plain_kind, with_plain}
use Rattle.script_inputs.specs.working.SoundInputs.{AreInputsAfter}
use Rattle.script_inputs.proofs.SoundInputsLemmas.{plain_sound}
use Rattle.script_inputs.proofs.lines.plain_line.Goals as goal

pub returns-in-Ok-with_plain-clause-sound : goal.returns-in-Ok-with_plain-clause-sound
returns-in-Ok-with_plain-clause-sound c =
    subst (AreInputsAfter c.args.inputs (plain_kind c.args.command.now))
    (sym (c.in-Ok-with_plain.ensures ∙ ap (with_plain c.args.inputs) c.in-Ok.ensures))
    (plain_sound c.args.inputs (plain_kind c.args.command.now) c.requires.sound c.requires.line)
