-- A narrowed port keeps the inputs sound.
use Rattle.pw_top.proofs.PlanInputLemmas.{narrow_done}
use Rattle.port_model.specs.declared.narrowing.Narrowed.{Narrowed}
use Rattle.port_model.specs.Narrowing.{Narrows}
use Rattle.std.proofs.Common.{subst}
use Rattle.pw_top.proofs.loads.narrow.Goals as goal

pub returns-in-Ok-Done-clause-cause : goal.returns-in-Ok-Done-clause-cause
returns-in-Ok-Done-clause-cause c = narrow_done c.args.inputs c.args.port c.args.format.now c.offer.new.self c.requires.sound c.requires.port
    (subst (λ (n : Narrowed). Narrows c.args.inputs.ports c.args.port c.args.format.now n c.offer.new.self) c.in-Ok-Done.field-0-is
    c.in-Ok-Done.ensures.ok)
