-- The line of a sink or a meter in a text. Source: the form is this project's own.
use Rattle.std.specs.Prelude.{ℕ, ◌/◌, ◌==◌, if◌then◌else◌, List, [], ◌∷◌, length, codes, decimal, find}
use Rattle.std.specs.Option.{option_map_or}
use Rattle.pw_graph.specs.declared.kind.Kind.{Kind}
use Rattle.pw_graph.specs.declared.kind.Kind.TheVariants.{Sink, Meter}
use Rattle.pw_graph.specs.declared.plan.PlanNode.{PlanNode}
use Rattle.wav_files.specs.declared.outcome.Outcome.{Outcome}
use Rattle.cycle_trace.specs.Words.{line}

-- the frames that a sink has kept
abbrev pub sink_frames : Outcome → ℕ → ℕ
sink_frames outcome place = option_map_or (λ k. length k.wav.samples / k.wav.channels)
    (find (λ k. k.node == place) outcome.sinks) 0

-- the greatest absolute value that a meter has received
abbrev pub meter_peak : Outcome → ℕ → ℕ
meter_peak outcome place = option_map_or (λ p. p.value)
    (find (λ p. p.node == place) outcome.peaks) 0

-- the line wanted, unless the node has no format, which its rate of 0 says
abbrev pub unless_unused : PlanNode → List ℕ → List ℕ
unless_unused node wanted = if node.rate == 0 then line (codes "unused") (node.name ∷ [])
    else wanted

-- the line of the node at a place if it were of a kind; only sinks and meters have one
abbrev pub kept_line : Outcome → ℕ → PlanNode → Kind → List ℕ
kept_line outcome place node Sink = unless_unused node
    (line (codes "wrote") (node.name ∷ decimal (sink_frames outcome place) ∷ []))
kept_line outcome place node Meter = unless_unused node
    (line (codes "peak") (node.name ∷ decimal (meter_peak outcome place) ∷ []))
kept_line outcome place node _ = []

-- the line of the node at a place
abbrev pub result_line : Outcome → ℕ → PlanNode → List ℕ
result_line outcome place node = kept_line outcome place node node.kind
