-- Sinks and meters that had no format at the end, in words. Source: this project's own.
use Rattle.std.specs.Prelude.{ℕ, List, [], ◌++◌, codes, if◌then◌else◌}
use Rattle.command_frame.specs.declared.work.Store.{Store}
use Rattle.graph_script.specs.declared.script.Line.{Line}
use Rattle.fault_messages.specs.Places.{quoted}
use Rattle.fault_messages.specs.ScriptLines.{has_link_to}
use Rattle.fault_messages.specs.SinkFiles.{is_written}

-- of a sink, whose file another sink may write; and of a meter
unfoldable pub unused_sink : List ℕ → List ℕ → List ℕ
unused_sink name file = quoted name ++ (codes " had no format at the end, so it does not write "
    ++ quoted file)

unfoldable pub unused_other : List ℕ → List ℕ → List ℕ
unused_other name file = quoted name ++ (codes " had no format at the end, so it does not write "
    ++ (quoted file ++ codes ", which another sink writes"))

abbrev pub unused_said : List Store → List ℕ → List ℕ → List ℕ
unused_said stores name file =
    if is_written stores file then unused_other name file else unused_sink name file

unfoldable pub unused_meter : List ℕ → List ℕ
unused_meter name = quoted name ++ codes " had no format at the end, so it has no peak"

-- of one that no `link` line names; its one input has the number 0
unfoldable pub unlinked : List ℕ → List ℕ
unlinked name = codes "; no link line names " ++ quoted name

abbrev pub unlinked_part : List Line → ℕ → List ℕ → List ℕ
unlinked_part lines node name = if has_link_to lines node 0 then [] else unlinked name

-- WHAT IS SAID of a sink, and of a meter
abbrev pub sink_said : List Line → List Store → ℕ → List ℕ → List ℕ → List ℕ
sink_said lines stores node name file =
    unused_said stores name file ++ unlinked_part lines node name

abbrev pub meter_said : List Line → ℕ → List ℕ → List ℕ
meter_said lines node name = unused_meter name ++ unlinked_part lines node name
