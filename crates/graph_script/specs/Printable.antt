-- Scripts that can be written as text: those that were read. Source: this project's own.
use Rattle.std.specs.Prelude.{◌≡◌, ℕ, ◌≤◌, List, [], ◌∷◌, length, Ok}
use Rattle.pw_lists.specs.Limits.{script_bytes_limit}
use Rattle.pw_graph.specs.declared.kind.Kind.{Kind}
use Rattle.graph_script.specs.declared.script.Line.{Line}
use Rattle.graph_script.specs.declared.script.Script.{Script}
use Rattle.graph_script.specs.Grammar.{script_of}
use Rattle.graph_script.specs.Kinds.{HasPorts}
use Rattle.graph_script.specs.Ranges.{HasNodes}

-- a script that some bytes are
pub record IsParsed (script : Script) : Type 0 where
  pub bytes : List ℕ
  pub small : length bytes ≤ script_bytes_limit
  pub reads : script_of bytes ≡ Ok script

-- the numbers of lines do not fall, from this one on
abbrev pub AreFrom : ℕ → List Line → Type 0
AreFrom number [] = Unit {0}
AreFrom number (line ∷ lines) = (number ≤ line.line) × AreFrom line.line lines

-- lines whose nodes and ports are there
abbrev pub AreWritable : List (List ℕ) → List Kind → List Line → Type 0
AreWritable names kinds [] = Unit {0}
AreWritable names kinds (line ∷ lines) =
    HasNodes (length names) line.command × HasPorts kinds line.command
    × AreWritable names kinds lines
