-- Laws of commands after more nodes: those that a command names are still there.
use Rattle.std.proofs.Common.{◌≡◌, ℕ, ◌+◌, ◌<◌, ◌≤◌, List, [], ◌∷◌, ◌++◌, length, refl, sym, ◌∙◌, subst, arith, append-nil}
use Rattle.std.specs.Prelude.{Option, Some, None, option_map, option_to_list}
use Rattle.std.specs.List.{enumerate_from}
use Rattle.std.proofs.lemmas.List.Elements.{filter_map-append}
use Rattle.std.proofs.lemmas.List.{get_or_append_left}
use Rattle.pw_graph.specs.declared.kind.Kind.{Kind}
use Rattle.pw_graph.specs.declared.kind.Kind.TheVariants as K
use Rattle.pw_graph.specs.KindPorts.{input_count, port_count}
use Rattle.graph_script.specs.declared.command.Command.{Command}
use Rattle.graph_script.specs.declared.command.Command.TheVariants as C
use Rattle.graph_script.specs.declared.script.Line.{Line}
use Rattle.graph_script.specs.declared.reading.Made.{Made}
use Rattle.graph_script.specs.Ranges.{HasNodes}
use Rattle.graph_script.specs.Kinds.{made_by, made_of, kind_in, HasPorts}

-- with more nodes, those of a command are still there
pub HasNodes-more : (m n : ℕ) (command : Command) → m ≤ n → HasNodes m command → HasNodes n command
HasNodes-more m n (C.Quantum k) le h = tt
HasNodes-more m n (C.Source node file) le h = omega arith
HasNodes-more m n (C.Square node rate channels period amp) le h = omega arith
HasNodes-more m n (C.Gain node g) le h = omega arith
HasNodes-more m n (C.Mix2 node ga gb) le h = omega arith
HasNodes-more m n (C.Delay node frames) le h = omega arith
HasNodes-more m n (C.Map node channels list) le h = omega arith
HasNodes-more m n (C.Split node) le h = omega arith
HasNodes-more m n (C.Sink node file) le h = omega arith
HasNodes-more m n (C.Meter node) le h = omega arith
HasNodes-more m n (C.Driver node priority) le h = omega arith
HasNodes-more m n (C.Loop node k) le h = omega arith
HasNodes-more m n (C.Offer port file) le h = omega arith
HasNodes-more m n (C.Buffers port k) le h = omega arith
HasNodes-more m n (C.Link from to) le h = (omega (arith, h.0), omega (arith, h.1))
HasNodes-more m n (C.Unlink from to) le h = (omega (arith, h.0), omega (arith, h.1))
HasNodes-more m n (C.On node) le h = omega arith
HasNodes-more m n (C.Off node) le h = omega arith
HasNodes-more m n (C.Cycles k) le h = tt
HasNodes-more m n C.Drain le h = tt
HasNodes-more m n (C.Async node) le h = omega arith

-- with more kinds, the ports of a command are still there
pub kind_in-more : (kinds more : List Kind) (node : ℕ) → node < length kinds → kind_in (kinds ++ more) node ≡ kind_in kinds node
kind_in-more kinds more node lt = get_or_append_left kinds more K.Dummy node lt

pub HasPorts-more : (kinds more : List Kind) (command : Command) → HasNodes (length kinds) command → HasPorts kinds command
    → HasPorts (kinds ++ more) command
HasPorts-more kinds more (C.Quantum k) there h = tt
HasPorts-more kinds more (C.Source node file) there h = tt
HasPorts-more kinds more (C.Square node rate channels period amp) there h = tt
HasPorts-more kinds more (C.Gain node g) there h = tt
HasPorts-more kinds more (C.Mix2 node ga gb) there h = tt
HasPorts-more kinds more (C.Delay node frames) there h = tt
HasPorts-more kinds more (C.Map node channels list) there h = tt
HasPorts-more kinds more (C.Split node) there h = tt
HasPorts-more kinds more (C.Sink node file) there h = tt
HasPorts-more kinds more (C.Meter node) there h = tt
HasPorts-more kinds more (C.Driver node priority) there h = tt
HasPorts-more kinds more (C.Loop node k) there h = tt
HasPorts-more kinds more (C.Offer port file) there h =
    subst (λ k. port.port < port_count k) (sym (kind_in-more kinds more port.node there)) h
HasPorts-more kinds more (C.Buffers port k) there h =
    subst (λ k. port.port < port_count k) (sym (kind_in-more kinds more port.node there)) h
HasPorts-more kinds more (C.Link from to) there h = (
  subst (λ k. (input_count k ≤ from.port) × (from.port < port_count k)) (sym (kind_in-more kinds more from.node there.0)) h.0,
  subst (λ k. to.port < input_count k) (sym (kind_in-more kinds more to.node there.1)) h.1,
)
HasPorts-more kinds more (C.Unlink from to) there h = (
  subst (λ k. (input_count k ≤ from.port) × (from.port < port_count k)) (sym (kind_in-more kinds more from.node there.0)) h.0,
  subst (λ k. to.port < input_count k) (sym (kind_in-more kinds more to.node there.1)) h.1,
)
HasPorts-more kinds more (C.On node) there h = tt
HasPorts-more kinds more (C.Off node) there h = tt
HasPorts-more kinds more (C.Cycles k) there h = tt
HasPorts-more kinds more C.Drain there h = tt
HasPorts-more kinds more (C.Async node) there h = tt

-- a list counted on, and the nodes that one more line makes
enumerate_from-push : (n m : ℕ) (kinds : List Kind) (kind : Kind) → m ≡ n + length kinds
    → enumerate_from n (kinds ++ kind ∷ []) ≡ enumerate_from n kinds ++ (m, kind) ∷ []
enumerate_from-push n m [] kind e = let same : m ≡ n = omega (arith, e) in rw same refl
enumerate_from-push n m (k ∷ kinds) kind e = rw (enumerate_from-push (n + 1) m kinds kind (omega (arith, e))) refl

pub made-after : (lines : List Line) (line : Line) (kinds : List Kind) (made : Option Made) → made_of lines ≡ enumerate_from 0 kinds
    → made_by line.command ≡ option_map (λ m. (length kinds, m.kind)) made
    → made_of (lines ++ line ∷ []) ≡ enumerate_from 0 (kinds ++ option_to_list (option_map (λ m. m.kind) made))
made-after lines line kinds None before here =
    filter_map-append (λ l. made_by l.command) lines (line ∷ []) ∙ rw (here, append-nil (made_of lines), append-nil kinds) before
made-after lines line kinds (Some m) before here =
    filter_map-append (λ l. made_by l.command) lines (line ∷ [])
    ∙ rw (here, before, enumerate_from-push 0 (length kinds) kinds m.kind (omega arith)) refl
