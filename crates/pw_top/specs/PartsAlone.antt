-- What all parts of a script store, and their peaks: node by node what each does by only its own
-- lines. Source: this project's own.
use Rattle.std.specs.Prelude.{◌≡◌, ℕ, List, Option, None, Ok, Contains, option_map}
use Rattle.wav_files.specs.declared.outcome.Kept.{Kept}
use Rattle.graph_script.specs.declared.script.Line.{Line}
use Rattle.port_model.specs.declared.port_state.Node.{Node}
use Rattle.pw_graph.specs.declared.parts.Part.{Part}
use Rattle.graph_plan.specs.PartLines.{part_lines}
use Rattle.graph_plan.specs.Planned.{IsPlanned}
use Rattle.cycle_model.specs.Rendering.{rendered_sinks, rendered_peaks}
use Rattle.pw_top.specs.declared.parted.Parted.{Parted}
use Rattle.command_frame.specs.declared.work.Store.{Store}
use Rattle.pw_top.specs.Groups.{parts_outcome}
use Rattle.pw_top.specs.Joined.{kept_at, peak_at}
use Rattle.pw_top.specs.SinkStores.{sink_store}

-- the store of a sink, by the lines of its script, if it has kept a wave
abbrev pub store_at : List Line → List Kept → ℕ → Option Store
store_at lines sinks n = option_map (sink_store lines) (kept_at sinks n)

-- ALONE: the plan of a part is that of its own lines; of each of its nodes all parts store and have
-- the peak that this plan has, and it has nothing of other nodes
pub record StoresAlone (p : Parted) (ports : List Node) (part : Part) : Type 0 where
  pub planned : IsPlanned (part_lines part.nodes p.script.lines) p.script.names p.waves ports
      (Ok part.plan)
  pub stores : (n : ℕ) → Contains part.nodes n
      → store_at p.script.lines (parts_outcome p).sinks n
      ≡ store_at (part_lines part.nodes p.script.lines) (rendered_sinks part.plan p.waves) n
  pub peaks : (n : ℕ) → Contains part.nodes n
      → peak_at (parts_outcome p).peaks n ≡ peak_at (rendered_peaks part.plan p.waves) n
  pub others : (n : ℕ) → ¬ Contains part.nodes n
      → (kept_at (rendered_sinks part.plan p.waves) n ≡ None)
      × (peak_at (rendered_peaks part.plan p.waves) n ≡ None)
