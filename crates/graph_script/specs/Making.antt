-- Making: each line makes the next node or no node, and names only nodes that it or a line before
-- it makes. Source: this project's own.
use Rattle.std.specs.Prelude.{◌≡◌, ℕ, ◌+◌, List, [], ◌∷◌, IfSome, fold}
use Rattle.std.specs.Option.{option_map_or}
use Rattle.graph_script.specs.declared.command.Command.{Command}
use Rattle.graph_script.specs.declared.script.Line.{Line}
use Rattle.graph_script.specs.Kinds.{made_by}
use Rattle.graph_script.specs.Ranges.{HasNodes}

-- how many nodes there are after a line, and after lines
abbrev pub grown : ℕ → Command → ℕ
grown count command = option_map_or (λ m. m.0 + 1) (made_by command) count

abbrev pub all_grown : ℕ → List Line → ℕ
all_grown count lines = fold (λ n l. grown n l.command) count lines

-- with `count` nodes there, a line makes the next node or no node, and names only nodes that are
-- there then
abbrev pub NamesMade : ℕ → List Line → Type 0
NamesMade count [] = Unit {0}
NamesMade count (l ∷ ls) = IfSome (made_by l.command) (λ m. m.0 ≡ count)
    × HasNodes (grown count l.command) l.command × NamesMade (grown count l.command) ls
