-- Laws of `specs/Making.antt`: one line more.
use Rattle.std.proofs.Common.{◌≡◌, ℕ, ◌+◌, List, [], ◌∷◌, ◌++◌, length, refl, sym, ap, subst, ◌∙◌, arith}
use Rattle.std.specs.Prelude.{Option, Some, None, IfSome, option_map}
use Rattle.std.specs.Option.{option_map_or}
use Rattle.pw_graph.specs.declared.kind.Kind.{Kind}
use Rattle.graph_script.specs.declared.command.Command.{Command}
use Rattle.graph_script.specs.declared.script.Line.{Line}
use Rattle.graph_script.specs.declared.reading.Made.{Made}
use Rattle.graph_script.specs.declared.reading.ParsedLine.{ParsedLine}
use Rattle.graph_script.specs.declared.reading.Reading.{Reading}
use Rattle.graph_script.specs.Kinds.{made_by}
use Rattle.graph_script.specs.Ranges.{HasNodes}
use Rattle.graph_script.specs.Making.{grown, all_grown, NamesMade}
use Rattle.graph_script.proofs.FitLemmas.{added, IsFit}

-- a line makes the next node or no node, and its nodes are there then
abbrev pub MakesNext : ℕ → Command → Type 0
MakesNext count command = IfSome (made_by command) (λ m. m.0 ≡ count) × HasNodes (grown count command) command

pub all_grown-push : (count : ℕ) (ls : List Line) (l : Line) → all_grown count (ls ++ l ∷ []) ≡ grown (all_grown count ls) l.command
all_grown-push count [] l = refl
all_grown-push count (x ∷ xs) l = all_grown-push (grown count x.command) xs l

pub names-push : (count : ℕ) (ls : List Line) (l : Line) → NamesMade count ls → MakesNext (all_grown count ls) l.command
    → NamesMade count (ls ++ l ∷ [])
names-push count [] l h more = (more.0, more.1, tt)
names-push count (x ∷ xs) l h more = (h.0, h.1, names-push (grown count x.command) xs l h.2 more)

-- as many more as a line adds
grown_by : (count : ℕ) (made : Option Made)
    → option_map_or {T = ℕ × Kind} (λ m. m.0 + 1) (option_map (λ (m : Made). (count, m.kind)) made) count ≡ count + added made
grown_by count None = omega arith
grown_by count (Some m) = refl

next_by : (count : ℕ) (made : Option Made) → IfSome {T = ℕ × Kind} (option_map (λ (m : Made). (count, m.kind)) made) (λ m. m.0 ≡ count)
next_by count None = tt
next_by count (Some m) = refl

pub grown-added : (reading : Reading) (parsed : ParsedLine) → IsFit reading parsed
    → grown (length reading.script.names) parsed.command ≡ length reading.script.names + added parsed.made
grown-added reading parsed fit =
    ap (λ (m : Option (ℕ × Kind)). option_map_or (λ x. x.0 + 1) m (length reading.script.names)) fit.made
    ∙ grown_by (length reading.script.names) parsed.made

pub fit-makes : (reading : Reading) (parsed : ParsedLine) → IsFit reading parsed → MakesNext (length reading.script.names) parsed.command
fit-makes reading parsed fit = (
  subst (λ (m : Option (ℕ × Kind)). IfSome m (λ x. x.0 ≡ length reading.script.names)) (sym fit.made)
      (next_by (length reading.script.names) parsed.made),
  subst (λ n. HasNodes n parsed.command) (sym (grown-added reading parsed fit)) fit.nodes,
)
