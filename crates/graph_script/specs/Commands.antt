-- The meaning of a line's words, by what the lines before it have said. Source: the commands are
-- this project's own.
use Rattle.std.specs.Prelude.{ℕ, List, [], ◌∷◌, ok_or, Err}
use Rattle.graph_script.specs.declared.fault.ScriptWhy.TheVariants as W
use Rattle.graph_script.specs.declared.name.Name.{Name}
use Rattle.graph_script.specs.declared.name.Name.TheVariants as N
use Rattle.graph_script.specs.declared.reading.ParsedLine.{ParsedLine}
use Rattle.graph_script.specs.declared.reading.Reading.{Reading}
use Rattle.graph_script.specs.Checked.{Checked, ◌>>=◌}
use Rattle.graph_script.specs.CommandWords.{name_called}
use Rattle.graph_script.specs.FileNodes as files
use Rattle.graph_script.specs.NodeCommands as nodes
use Rattle.graph_script.specs.PortCommands as ports
use Rattle.graph_script.specs.GraphCommands as graph

-- the meaning of a command with these arguments
unfoldable pub meaning_of_command : Reading → Name → List (List ℕ) → Checked ParsedLine
meaning_of_command reading N.Quantum words = graph.quantum_of reading words
meaning_of_command reading N.Source words = files.source_of reading words
meaning_of_command reading N.Square words = nodes.square_of reading words
meaning_of_command reading N.Gain words = nodes.gain_of reading words
meaning_of_command reading N.Mix2 words = nodes.mix2_of reading words
meaning_of_command reading N.Delay words = nodes.delay_of reading words
meaning_of_command reading N.Map words = nodes.map_of reading words
meaning_of_command reading N.Split words = nodes.split_of reading words
meaning_of_command reading N.Sink words = files.sink_of reading words
meaning_of_command reading N.Meter words = nodes.meter_of reading words
meaning_of_command reading N.Driver words = graph.driver_of reading words
meaning_of_command reading N.Loop words = graph.loop_of reading words
meaning_of_command reading N.Offer words = ports.offer_of reading words
meaning_of_command reading N.Buffers words = ports.buffers_of reading words
meaning_of_command reading N.Link words = ports.link_of reading words
meaning_of_command reading N.Unlink words = ports.unlink_of reading words
meaning_of_command reading N.On words = graph.on_of reading words
meaning_of_command reading N.Off words = graph.off_of reading words
meaning_of_command reading N.Async words = graph.async_of reading words
meaning_of_command reading N.Cycles words = graph.cycles_of reading words
meaning_of_command reading N.Drain words = graph.drain_of reading words

-- the meaning of words: the first is the name of a command, the others are its arguments
abbrev pub meaning_of_words : Reading → List (List ℕ) → Checked ParsedLine
meaning_of_words reading [] = Err W.Command
meaning_of_words reading (name ∷ words) = do
  command ← ok_or (name_called name) W.Command
  meaning_of_command reading command words
