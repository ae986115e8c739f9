-- Inputs with a count of bytes stay sound through each line, as those without one do.
use Rattle.std.proofs.Common.{◌≡◌, ℕ, ◌+◌, ◌<◌, ◌≤◌, List, length, Option, Some, None}
use Rattle.std.specs.Prelude.{IfSome}
use Rattle.pw_graph.specs.declared.ids.PortId.{PortId}
use Rattle.pw_graph.specs.declared.kind.Kind.{Kind}
use Rattle.pw_graph.specs.declared.kind.Kind.TheVariants as K
use Rattle.pw_graph.specs.KindRanges.{IsInRange}
use Rattle.pw_lists.specs.Limits.{all_wav_bytes_limit}
use Rattle.format_filter.specs.declared.format.Format.{Format}
use Rattle.wav_files.specs.declared.wav.Wav.{Wav}
use Rattle.wav_files.specs.WavWriting.{IsWave}
use Rattle.port_model.specs.declared.port_state.Node.{Node}
use Rattle.port_model.specs.Offers.{HasFileNumbers}
use Rattle.port_model.specs.Narrowing.{Narrows}
use Rattle.port_model.specs.PortState.{IsPort}
use Rattle.port_model.specs.declared.narrowing.Narrowed.TheVariants.{Done}
use Rattle.script_inputs.specs.declared.inputs.Inputs.{Inputs}
use Rattle.script_inputs.specs.working.SoundInputs as M
use Rattle.script_inputs.proofs.SoundInputsLemmas as L
use Rattle.pw_top.specs.declared.inputs.PlanInputs.{PlanInputs}
use Rattle.pw_top.specs.PlanInputs.{with_wave, with_plain, AreSoundInputs, AreInputsAfter}

-- without the count
abbrev pub uncounted : PlanInputs → Inputs
uncounted inputs = record { ports = inputs.ports; waves = inputs.waves }

pub uncounted_sound : (inputs : PlanInputs) → AreSoundInputs inputs → M.AreSoundInputs (uncounted inputs)
uncounted_sound inputs h = record { ports = h.ports; unused = h.unused; waves = h.waves }

-- sound with the count too, where that is within its limit
pub counted_sound : (inputs : PlanInputs) → M.AreSoundInputs (uncounted inputs) → inputs.used ≤ all_wav_bytes_limit → AreSoundInputs inputs
counted_sound inputs h used = record { ports = h.ports; unused = h.unused; waves = h.waves; used = used }

counted : (inputs after : PlanInputs) (made : Option Kind) → M.AreInputsAfter (uncounted inputs) made (uncounted after)
    → after.used ≤ all_wav_bytes_limit → AreInputsAfter inputs made after
counted inputs after made h used = record { sound = counted_sound after h.sound used; kinds = h.kinds }

pub plain_sound : (inputs : PlanInputs) (made : Option Kind) → AreSoundInputs inputs
    → IfSome made (λ kind. (length inputs.ports < 63) × IsInRange kind × HasFileNumbers kind 0 0)
    → AreInputsAfter inputs made (with_plain inputs made)
plain_sound inputs None sound may = counted inputs inputs None (L.plain_sound (uncounted inputs) None (uncounted_sound inputs sound) may) sound.used
plain_sound inputs (Some kind) sound may = counted inputs (with_plain inputs (Some kind)) (Some kind)
    (L.plain_sound (uncounted inputs) (Some kind) (uncounted_sound inputs sound) may) sound.used

pub wave_sound : (inputs : PlanInputs) (node size : ℕ) (wav : Wav) → AreSoundInputs inputs → node ≡ length inputs.ports → length inputs.ports < 63
    → IsWave wav → inputs.used + size ≤ all_wav_bytes_limit → AreInputsAfter inputs (Some K.Source) (with_wave inputs node size wav)
wave_sound inputs node size wav sound place room wave small = counted inputs (with_wave inputs node size wav) (Some K.Source)
    (L.wave_sound (uncounted inputs) node wav (uncounted_sound inputs sound) place room (wave.rate, wave.channels)) small

pub narrow_done : (inputs : PlanInputs) (port : PortId) (file : Format) (after : List Node) → AreSoundInputs inputs → IsPort inputs.ports port
    → Narrows inputs.ports port file Done after → AreInputsAfter inputs None (record inputs { ports = after })
narrow_done inputs port file after sound is h = counted inputs (record inputs { ports = after }) None
    (L.narrow_done (uncounted inputs) port file after (uncounted_sound inputs sound) is h) sound.used
