-- A narrowed port keeps the inputs sound.
use Rattle.std.proofs.Common.{subst}
use Rattle.port_model.specs.declared.narrowing.Narrowed.{Narrowed}
use Rattle.port_model.specs.Narrowing.{Narrows}
use Rattle.script_inputs.proofs.SoundInputsLemmas.{narrow_done}
use Rattle.script_inputs.proofs.lines.narrow.Goals as goal

pub returns-in-Ok-Done-clause-sound : goal.returns-in-Ok-Done-clause-sound
returns-in-Ok-Done-clause-sound c = narrow_done c.args.inputs c.args.port c.args.format.now c.offer.new.self c.requires.sound c.requires.port
    (subst (λ (n : Narrowed). Narrows c.args.inputs.ports c.args.port c.args.format.now n c.offer.new.self) c.in-Ok-Done.field-0-is
    c.in-Ok-Done.ensures.ok)
