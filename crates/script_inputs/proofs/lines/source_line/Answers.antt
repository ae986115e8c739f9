-- The node of a source keeps the inputs sound.
use Rattle.std.proofs.Common.{subst, sym}
use Rattle.std.specs.Prelude.{Option, Some, IfSome}
use Rattle.pw_graph.specs.declared.kind.Kind.TheVariants as K
use Rattle.wav_files.specs.declared.wav.Wav.{Wav}
use Rattle.script_inputs.specs.Inputs.{HasForm}
use Rattle.script_inputs.specs.working.SoundInputs.{AreInputsAfter}
use Rattle.script_inputs.proofs.SoundInputsLemmas.{wave_sound}
use Rattle.script_inputs.proofs.lines.source_line.Goals as goal

pub returns-in-Ok-clause-sound : goal.returns-in-Ok-clause-sound
returns-in-Ok-clause-sound c = subst (AreInputsAfter c.args.inputs (Some K.Source)) (sym c.in-Ok.ensures)
    (wave_sound c.args.inputs c.args.node c.in-Some.wav c.requires.sound c.requires.node c.requires.room
    (subst (λ (o : Option Wav). IfSome o HasForm) c.in-Some.is c.requires.form))
