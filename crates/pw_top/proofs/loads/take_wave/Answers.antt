-- The node of a source keeps the inputs sound.
use Rattle.std.proofs.Common.{subst, sym, arith}
use Rattle.std.specs.Prelude.{Some}
use Rattle.pw_graph.specs.declared.kind.Kind.TheVariants as K
use Rattle.pw_top.specs.PlanInputs.{AreInputsAfter}
use Rattle.pw_top.proofs.PlanInputLemmas.{wave_sound}
use Rattle.pw_top.proofs.loads.take_wave.Goals as goal

pub returns-in-Ok-clause-cause : goal.returns-in-Ok-clause-cause
returns-in-Ok-clause-cause c = let used = c.requires.sound.used in let size = c.requires.size in
    subst (AreInputsAfter c.args.inputs (Some K.Source)) (sym c.in-Ok.ensures)
    (wave_sound c.args.inputs c.args.node c.args.size c.args.wav c.requires.sound c.requires.node c.requires.room c.requires.wave
    (omega (arith, used, size)))
