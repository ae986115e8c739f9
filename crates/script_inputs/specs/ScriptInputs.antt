-- The inputs of a script: what its lines make, one after the other, of the waves of its `source`
-- lines and the formats of its `offer` lines, each in order. Source: this project's own grammar,
-- docs/FORMATS.md; an offer: SPA POD, "Object"; spa/pod/filter.h, spa_pod_filter.
use Rattle.std.specs.Prelude.{◌≡◌, ℕ, List, [], ◌∷◌, drop, Option, Some, None, slice_get, Result, Ok, Err}
use Rattle.pw_graph.specs.declared.ids.PortId.{PortId}
use Rattle.format_filter.specs.declared.format.Format.{Format}
use Rattle.wav_files.specs.declared.wav.Wav.{Wav}
use Rattle.graph_script.specs.declared.command.Command.{Command}
use Rattle.graph_script.specs.declared.command.Command.TheVariants as C
use Rattle.graph_script.specs.declared.script.Line.{Line}
use Rattle.port_model.specs.declared.narrowing.Narrowed.{Narrowed}
use Rattle.port_model.specs.declared.narrowing.Narrowed.TheVariants as N
use Rattle.port_model.specs.declared.port_state.Node.{Node}
use Rattle.port_model.specs.Narrowing.{Narrows}
use Rattle.script_inputs.specs.declared.fault.InputFault.{InputFault}
use Rattle.script_inputs.specs.declared.fault.InputFault.TheVariants as F
use Rattle.script_inputs.specs.declared.inputs.Inputs.{Inputs}
use Rattle.script_inputs.specs.Inputs.{nothing_made, with_wave, plain_kind, with_plain}

-- a `source` line makes its node with the next wave; where none is left it is refused
abbrev pub source_outcome : ℕ → ℕ → Option Wav → Inputs → Result Inputs InputFault
source_outcome line node None inputs = Err (F.NoWave line)
source_outcome line node (Some wav) inputs = Ok (with_wave inputs node wav)

-- the ports with the narrowed offer; or why the line is refused
abbrev pub narrowed_outcome : ℕ → Inputs → Narrowed → List Node → Result Inputs InputFault
narrowed_outcome line inputs N.Done later = Ok (record inputs { ports = later })
narrowed_outcome line inputs N.NotFormat later = Err (F.NotFormat line)
narrowed_outcome line inputs (N.Clash key) later = Err (F.Clash line key)

-- an `offer` line narrows what its port offers by then to what it has in common with the next
-- format; where none is left it is refused
abbrev pub OffersFormat : ℕ → PortId → Option Format → Inputs → Result Inputs InputFault → Type 0
OffersFormat line port None inputs outcome = outcome ≡ Err (F.NoFormat line)
OffersFormat line port (Some format) inputs outcome = (did : Narrowed) × (later : List Node)
    × Narrows inputs.ports port format did later
    × (outcome ≡ narrowed_outcome line inputs did later)

-- ONE LINE, by the wave and the format that come next; all other lines only make their nodes
abbrev pub MakesLine : ℕ → Command → Option Wav → Option Format → Inputs
    → Result Inputs InputFault → Type 0
MakesLine line (C.Source node file) wave format inputs outcome =
    outcome ≡ source_outcome line node wave inputs
MakesLine line (C.Offer port file) wave format inputs outcome =
    OffersFormat line port format inputs outcome
MakesLine line other wave format inputs outcome =
    outcome ≡ Ok (with_plain inputs (plain_kind other))

-- how many waves and how many formats a line takes
abbrev pub waves_taken : Command → ℕ
waves_taken (C.Source node file) = 1
waves_taken other = 0

abbrev pub formats_taken : Command → ℕ
formats_taken (C.Offer port file) = 1
formats_taken other = 0

-- further lines, unless one is refused
abbrev pub GoesOn : (Inputs → Result Inputs InputFault → Type 0) → Result Inputs InputFault
    → Result Inputs InputFault → Type 0
GoesOn Rest (Ok after) outcome = Rest after outcome
GoesOn Rest (Err fault) outcome = outcome ≡ Err fault

-- ALL LINES, with the waves and the formats that are left
abbrev pub MakesAll : List Line → List Wav → List Format → Inputs → Result Inputs InputFault
    → Type 0
MakesAll [] waves formats inputs outcome = outcome ≡ Ok inputs
MakesAll (l ∷ ls) waves formats inputs outcome = (did : Result Inputs InputFault)
    × MakesLine l.line l.command (slice_get waves 0) (slice_get formats 0) inputs did
    × GoesOn (MakesAll ls (drop (waves_taken l.command) waves)
    (drop (formats_taken l.command) formats)) did outcome

-- what is answered, unless memory runs out
abbrev pub UnlessMemory : (Result Inputs InputFault → Type 0) → Result Inputs InputFault → Type 0
UnlessMemory Says (Err F.Memory) = Unit {0}
UnlessMemory Says outcome = Says outcome

-- THE INPUTS OF A SCRIPT: what all its lines make of nothing
abbrev pub AreInputsOf : List Line → List Wav → List Format → Result Inputs InputFault → Type 0
AreInputsOf lines waves formats = UnlessMemory (MakesAll lines waves formats nothing_made)
