-- Rows that the definition of a script's inputs gives, worked out by only it.
use Rattle.std.proofs.Common.{◌≡◌, List, [], ◌∷◌, refl, arith, pos}
use Rattle.std.specs.Prelude.{Ok, Err, codes}
use Rattle.pw_graph.specs.declared.kind.Kind.TheVariants as K
use Rattle.format_filter.specs.declared.format.Format.{Format}
use Rattle.wav_files.specs.declared.wav.Wav.{Wav}
use Rattle.graph_script.specs.declared.command.Command.TheVariants as C
use Rattle.graph_script.specs.declared.script.Line.{Line}
use Rattle.port_model.specs.declared.narrowing.Narrowed.TheVariants as N
use Rattle.port_model.specs.Offers.{new_node}
use Rattle.script_inputs.specs.declared.fault.InputFault.TheVariants as F
use Rattle.script_inputs.specs.Inputs.{nothing_made}
use Rattle.script_inputs.specs.ScriptInputs.{MakesAll}

abbrev source : Line
source = record { line = 1; command = C.Source 0 (codes "a.wav") }

abbrev gain : Line
gain = record { line = 1; command = C.Gain 0 (pos 256) }

abbrev offer : Line
offer = record { line = 3; command = C.Offer (record { node = 0; port = 0 }) (codes "f.pod") }

abbrev mono : Wav
mono = record { rate = 48000; channels = 1; samples = [] }

-- an object of type Props, which is no Format
abbrev props : Format
props = record { object = 262146; id = 2; fields = [] }

-- a source with its wave, and without one
with_its_wave : MakesAll (source ∷ []) (mono ∷ []) [] nothing_made
    (Ok (record { ports = new_node K.Source 48000 1 ∷ []; waves = (record { node = 0; wav = mono }) ∷ [] }))
with_its_wave = (Ok (record { ports = new_node K.Source 48000 1 ∷ []; waves = (record { node = 0; wav = mono }) ∷ [] }), refl, refl)

without_a_wave : MakesAll (source ∷ []) [] [] nothing_made (Err (F.NoWave 1))
without_a_wave = (Err (F.NoWave 1), refl, refl)

-- an offer without a format, and one of another object
without_a_format : MakesAll (gain ∷ offer ∷ []) (mono ∷ []) [] nothing_made (Err (F.NoFormat 3))
without_a_format =
    (Ok (record { ports = new_node (K.Gain (pos 256)) 0 0 ∷ []; waves = [] }), refl, (Err (F.NoFormat 3), refl, refl))

of_no_format : MakesAll (gain ∷ offer ∷ []) [] (props ∷ []) nothing_made (Err (F.NotFormat 3))
of_no_format = (
  Ok (record { ports = new_node (K.Gain (pos 256)) 0 0 ∷ []; waves = [] }),
  refl,
  (Err (F.NotFormat 3), (N.NotFormat, new_node (K.Gain (pos 256)) 0 0 ∷ [], (λ e. absurd (omega (arith, e)), refl), refl), refl),
)
