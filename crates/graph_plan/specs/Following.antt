-- Following the lines of a script: up to its end, or up to the first line that passes a limit.
-- Source: this project's script grammar and limits.
use Rattle.std.specs.Prelude.{◌≡◌, ◌⊎◌, ℕ, List, [], ◌∷◌, Result, Ok, Err}
use Rattle.pw_lists.specs.declared.limit.Which.{Which}
use Rattle.wav_files.specs.declared.wav.WavIn.{WavIn}
use Rattle.graph_script.specs.declared.script.Line.{Line}
use Rattle.graph_lines.specs.declared.graph.Graph.{Graph}
use Rattle.graph_lines.specs.declared.graph.Stepped.TheVariants as T
use Rattle.graph_lines.specs.EpochLines.{Steps}

-- a line does what it says, and the rest follows from the graph after it
abbrev pub GoesOn : List WavIn → Graph → Line → (Graph → Type 0) → Type 0
GoesOn waves g l Rest = (next : Graph) × Steps waves g l.command T.Done next × Rest next

-- a line passes a limit, and its number is answered
abbrev pub StopsAt : List WavIn → Graph → Line → Result Graph (ℕ × Which) → Type 0
StopsAt waves g l outcome =
    (which : Which) × (after : Graph) × Steps waves g l.command (T.Passed which) after
    × (outcome ≡ Err (l.line, which))

-- FOLLOWS: the graph after all lines, or the first line that passes a limit, and which
abbrev pub Follows : List WavIn → Graph → List Line → Result Graph (ℕ × Which) → Type 0
Follows waves g [] outcome = outcome ≡ Ok g
Follows waves g (l ∷ ls) outcome =
    GoesOn waves g l (λ next. Follows waves next ls outcome) ⊎ StopsAt waves g l outcome
