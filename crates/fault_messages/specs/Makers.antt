-- The lines that make nodes, the one that makes a node of a name, and the kind of node, which is
-- the line's command. Source: the grammar is this project's own.
use Rattle.std.specs.Prelude.{ℕ, ◌&&◌, Bool, true, false, is_some, List, [], ◌∷◌, bytes_eq, find, Option, Some, None}
use Rattle.graph_script.specs.Lexical.{words_of}
use Rattle.graph_script.specs.declared.name.Name.{Name}
use Rattle.graph_script.specs.declared.param.Form.{Form}
use Rattle.graph_script.specs.declared.param.Form.TheVariants as F
use Rattle.graph_script.specs.declared.param.Param.{Param}
use Rattle.graph_script.specs.CommandWords.{name_called}
use Rattle.graph_script.specs.Table.{params_of}
use Rattle.fault_messages.specs.Places.{word}

-- a command whose first word names a new node
abbrev pub is_new : Form → Bool
is_new F.New = true
is_new _ = false

abbrev pub begins_new : List Param → Bool
begins_new [] = false
begins_new (first ∷ more) = is_new first.form

abbrev pub names_new : Option Name → Bool
names_new None = false
names_new (Some name) = begins_new (params_of name)

-- a line that makes a node
abbrev pub is_maker : List ℕ → Bool
is_maker line = names_new (name_called (word (words_of line) 0))

-- one that makes a node of this name, the first of some, and whether there is one
abbrev pub makes : List ℕ → List ℕ → Bool
makes name line = is_maker line && bytes_eq (word (words_of line) 1) name

abbrev pub maker : List ℕ → List (List ℕ) → Option (List ℕ)
maker name lines = find (makes name) lines

abbrev pub is_made : List ℕ → List (List ℕ) → Bool
is_made name lines = is_some (maker name lines)

-- the kind of the node of this name; nothing where no line makes one
abbrev pub kind_in : Option (List ℕ) → List ℕ
kind_in None = []
kind_in (Some line) = word (words_of line) 0

unfoldable pub kind_of : List ℕ → List (List ℕ) → List ℕ
kind_of name lines = kind_in (maker name lines)
