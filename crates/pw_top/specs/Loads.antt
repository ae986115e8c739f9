-- The loads of a script's lines, each by the limit that earlier ones leave.
-- Source: this project's own grammar, docs/FORMATS.md.
use Rattle.std.specs.Prelude.{◌≡◌, ℕ, ◌-◌, List, [], ◌∷◌, length, Result, Ok, nat_lt, if◌then◌else◌}
use Rattle.pw_graph.specs.declared.ids.PortId.{PortId}
use Rattle.pw_lists.specs.declared.limit.Which.{Which}
use Rattle.pw_lists.specs.declared.limit.Which.TheVariants as W
use Rattle.pw_outside.specs.Files.{Names}
use Rattle.pw_lists.specs.Limits.{wav_bytes_limit, all_wav_bytes_limit}
use Rattle.format_filter.specs.declared.format.Format.{Format}
use Rattle.wav_files.specs.declared.wav.Wav.{Wav}
use Rattle.wav_files.specs.WavReading.{wav_of}
use Rattle.graph_script.specs.declared.command.Command.{Command}
use Rattle.graph_script.specs.declared.command.Command.TheVariants as C
use Rattle.graph_script.specs.declared.script.Line.{Line}
use Rattle.port_model.specs.declared.narrowing.Narrowed.{Narrowed}
use Rattle.port_model.specs.declared.port_state.Node.{Node}
use Rattle.port_model.specs.Narrowing.{Narrows}
use Rattle.run_results.specs.declared.status.Status.{Status}
use Rattle.pw_top.specs.declared.inputs.PlanInputs.{PlanInputs}
use Rattle.pw_top.specs.Answer.{Expected}
use Rattle.pw_top.specs.Allowed.{Binds, Reads, IsLoad}
use Rattle.pw_top.specs.FormatFile.{HoldsFormat}
use Rattle.pw_top.specs.PodFile.{pod_file_limit}
use Rattle.pw_top.specs.Refusals.{wave_outcome}
pub use Rattle.pw_top.specs.Narrowing.{narrowed_outcome}
use Rattle.script_inputs.specs.Inputs.{plain_kind}
use Rattle.pw_top.specs.PlanInputs.{with_wave, with_plain}

-- the limit of a WAV file after n bytes of others: its own, or what all of them leave
abbrev pub wav_limit : ℕ → ℕ
wav_limit used = if nat_lt (all_wav_bytes_limit - used) wav_bytes_limit
    then all_wav_bytes_limit - used else wav_bytes_limit

abbrev pub wav_which : ℕ → Which
wav_which used = if nat_lt (all_wav_bytes_limit - used) wav_bytes_limit then W.AllWavBytes
    else W.WavBytes

-- a `source` line: its file is a wave, with which the node is made
abbrev pub TakesWave : ℕ → PlanInputs → ℕ → Wav → Expected PlanInputs → Type 0
TakesWave node inputs size wav = Reads (λ outcome. outcome ≡ Ok (with_wave inputs node size wav))

abbrev pub ReadsSource : ℕ → ℕ → PlanInputs → List ℕ → Expected PlanInputs → Type 0
ReadsSource place node inputs bytes =
    Binds (Reads (λ outcome. outcome ≡ wave_outcome place (wav_of bytes)))
    (TakesWave node inputs (length bytes))

abbrev pub LoadsSource : Names → ℕ → ℕ → List ℕ → PlanInputs → Expected PlanInputs
    → Type 0
LoadsSource names place node file inputs =
    Binds (IsLoad names place file (wav_limit inputs.used) (wav_which inputs.used))
    (ReadsSource place node inputs)

-- an `offer` line: its file is an object, by which the port's own offer is narrowed
abbrev pub NarrowsTo : ℕ → PortId → PlanInputs → Format → Result PlanInputs Status
    → Type 0
NarrowsTo place port inputs format outcome = (did : Narrowed) × (later : List Node)
    × Narrows inputs.ports port format did later
    × (outcome ≡ narrowed_outcome place inputs did later)

abbrev pub ReadsOffer : ℕ → PortId → PlanInputs → List ℕ → Expected PlanInputs
    → Type 0
ReadsOffer place port inputs bytes =
    Binds (Reads (HoldsFormat place bytes)) (λ format. Reads (NarrowsTo place port inputs format))

abbrev pub LoadsOffer : Names → ℕ → PortId → List ℕ → PlanInputs → Expected PlanInputs
    → Type 0
LoadsOffer names place port file inputs =
    Binds (IsLoad names place file pod_file_limit W.PodBytes) (ReadsOffer place port inputs)

-- what one line loads; the others only make their nodes
abbrev pub LoadsLine : Names → ℕ → Command → PlanInputs → Expected PlanInputs → Type 0
LoadsLine names place (C.Source node file) inputs = LoadsSource names place node file inputs
LoadsLine names place (C.Offer port file) inputs = LoadsOffer names place port file inputs
LoadsLine names place other inputs = Reads (λ o. o ≡ Ok (with_plain inputs (plain_kind other)))

-- ALL LOADS of a script
abbrev pub LoadsAll : Names → List Line → PlanInputs → Expected PlanInputs → Type 0
LoadsAll names [] inputs = Reads (λ outcome. outcome ≡ Ok inputs)
LoadsAll names (l ∷ ls) inputs =
    Binds (LoadsLine names l.line l.command inputs) (LoadsAll names ls)
