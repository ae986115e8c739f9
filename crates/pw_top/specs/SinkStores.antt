-- The stores of a script's sinks: each kept wave at the line and under the file name of its `sink`
-- command.
-- Source: this project's script grammar.
use Rattle.std.specs.Prelude.{ℕ, ◌<◌, ◌==◌, All, Bool, false, List, [], find, Option, Some, None}
use Rattle.pw_graph.specs.declared.kind.Kind.{Kind}
use Rattle.pw_graph.specs.declared.kind.Kind.TheVariants as K
use Rattle.pw_graph.specs.declared.plan.Plan.{Plan}
use Rattle.wav_files.specs.declared.wav.WavIn.{WavIn}
use Rattle.wav_files.specs.declared.outcome.Kept.{Kept}
use Rattle.graph_script.specs.declared.command.Command.{Command}
use Rattle.graph_script.specs.declared.command.Command.TheVariants as C
use Rattle.graph_script.specs.declared.script.Line.{Line}
use Rattle.graph_script.specs.Kinds.{made_by}
use Rattle.cycle_model.specs.Rendering.{rendered_sinks}
use Rattle.command_frame.specs.declared.work.Content.TheVariants.{Wave}
use Rattle.command_frame.specs.declared.work.Store.{Store}

-- the line that makes a node as a sink
abbrev pub makes_sink : ℕ → Option (ℕ × Kind) → Bool
makes_sink node (Some (made, K.Sink)) = made == node
makes_sink node other = false

abbrev pub sink_line_of : List Line → ℕ → Option Line
sink_line_of lines node = find (λ l. makes_sink node (made_by l.command)) lines

abbrev pub place_of : Option Line → ℕ
place_of None = 0
place_of (Some l) = l.line

abbrev pub sink_file : Command → List ℕ
sink_file (C.Sink node file) = file
sink_file other = []

abbrev pub name_of : Option Line → List ℕ
name_of None = []
name_of (Some l) = sink_file l.command

-- the store of a kept wave
abbrev pub sink_store : List Line → Kept → Store
sink_store lines kept = record {
  place = place_of (sink_line_of lines kept.node);
  name = name_of (sink_line_of lines kept.node);
  content = Wave kept.wav;
}

-- what is kept has a line, whose number is never that of the text
abbrev pub AllPlaced : List Line → Plan → List WavIn → Type 0
AllPlaced lines plan waves = All (λ kept. 0 < place_of (sink_line_of lines kept.node))
    (rendered_sinks plan waves)
