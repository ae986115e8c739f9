-- The whole text of a run. Source: the form is this project's own.
use Rattle.std.specs.Prelude.{ℕ, List, [], ◌++◌, map, flat_map, Option, unwrap_or}
use Rattle.std.specs.List.{enumerate_from}
use Rattle.pw_graph.specs.declared.plan.Plan.{Plan}
use Rattle.pw_graph.specs.declared.event.Event.{Event}
use Rattle.wav_files.specs.declared.outcome.Outcome.{Outcome}
use Rattle.cycle_trace.specs.LinkLines.{link_line}
use Rattle.cycle_trace.specs.EventLines.{event_line}
use Rattle.cycle_trace.specs.ResultLines.{result_line}

-- the link lines in the script's order, the events if a history is given, and the sinks and meters
-- ascending by number
abbrev pub run_text_of : Plan → Option (List Event) → Outcome → List ℕ
run_text_of plan history outcome =
    flat_map (link_line plan.nodes) plan.lines
    ++ flat_map (event_line (map (λ n. n.name) plan.nodes))
    (unwrap_or history [])
    ++ flat_map (λ n. result_line outcome n.0 n.1) (enumerate_from 0 plan.nodes)
