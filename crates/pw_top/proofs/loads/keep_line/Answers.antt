-- A node that needs no file keeps the inputs sound.
use Rattle.std.proofs.Common.{subst, sym, ap, ◌∙◌}
use Rattle.script_inputs.specs.Inputs.{plain_kind}
use Rattle.pw_top.specs.PlanInputs.{with_plain, AreInputsAfter}
use Rattle.pw_top.proofs.PlanInputLemmas.{plain_sound}
use Rattle.pw_top.proofs.loads.keep_line.Goals as goal

pub returns-in-Ok-with_plain-clause-cause : goal.returns-in-Ok-with_plain-clause-cause
returns-in-Ok-with_plain-clause-cause c =
    subst (AreInputsAfter c.args.inputs (plain_kind c.args.command.now))
    (sym (c.in-Ok-with_plain.ensures ∙ ap (with_plain c.args.inputs) c.in-Ok.ensures))
    (plain_sound c.args.inputs (plain_kind c.args.command.now) c.requires.sound c.requires.line)
