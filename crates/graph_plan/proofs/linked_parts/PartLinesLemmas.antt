-- The lines of a part are again those of a script: the nodes and the quantum are the same, and each
-- line names what is made before it.
use Rattle.std.proofs.Common.{◌≡◌, ℕ, ◌+◌, ◌≤◌, List, [], ◌∷◌, length, map, refl, sym, ap, ◌∙◌, subst, arith, Bool, true, false, cond, Some, None}
use Rattle.std.specs.Prelude.{Option, filter, filter_map, ◌||◌}
use Rattle.std.specs.Option.{is_some, option_map_or}
use Rattle.std.specs.List.{range_with_len, list_all, cons_option}
use Rattle.std.proofs.lemmas.List.Elements.{All-filter}
use Rattle.pw_graph.specs.declared.kind.Kind.{Kind}
use Rattle.graph_script.specs.declared.command.Command.{Command}
use Rattle.graph_script.specs.declared.command.Command.TheVariants as C
use Rattle.graph_script.specs.declared.script.Line.{Line}
use Rattle.graph_script.specs.declared.script.Script.{Script}
use Rattle.graph_script.specs.Kinds.{made_by, made_of, HasKinds, HasPorts}
use Rattle.graph_script.specs.Making.{NamesMade, grown}
use Rattle.graph_script.specs.Ranges.{HasRanges, HasNodes, IsInRange}
use Rattle.port_model.specs.declared.port_state.Node.{Node}
use Rattle.graph_lines.specs.declared.graph.Graph.{Graph}
use Rattle.graph_lines.specs.declared.standing.Standing.{Standing}
use Rattle.graph_lines.specs.Start.{kinds_of, quantum_of, newcomer, IsStart}
use Rattle.graph_plan.specs.Conditions.{AreScriptPorts}
use Rattle.graph_plan.specs.Parts.{is_among}
use Rattle.graph_plan.specs.PartLines.{named_by, is_line_of, part_lines, part_script}

-- a filter that drops only what gives nothing
filter_map_filter : {X Y : Type 0} (p : X → Bool) (h : X → Option Y) → ((x : X) → p x ≡ false → h x ≡ None) → (xs : List X)
    → filter_map h (filter p xs) ≡ filter_map h xs
filter_map_filter p h none [] = refl
filter_map_filter {X} {Y} p h none (x ∷ xs) = go (filter_map_filter p h none xs) (p x) refl where
  go : filter_map h (filter p xs) ≡ filter_map h xs → (b : Bool) → p x ≡ b → filter_map h (filter p (x ∷ xs)) ≡ filter_map h (x ∷ xs)
  go rest true e = ap (λ (c : Bool). filter_map h (cond c (x ∷ filter p xs) (filter p xs))) e ∙ ap (cons_option (h x)) rest
  go rest false e = ap (λ (c : Bool). filter_map h (cond c (x ∷ filter p xs) (filter p xs))) e
      ∙ (rest ∙ sym (ap (λ (o : Option Y). cons_option o (filter_map h xs)) (none x e)))

-- a line that is not kept makes no node
no_node : {A : Type 0} (o : Option A) (b : Bool) → (is_some o || b) ≡ false → o ≡ None
no_node None b e = refl
no_node (Some m) b e = cc

module _ (nodes : List ℕ) where
  pub makes_none_of : (l : Line) → is_line_of nodes l ≡ false → made_by l.command ≡ None
  makes_none_of l e = no_node (made_by l.command) (list_all (is_among nodes) (named_by l.command)) e

  pub made_same : (lines : List Line) → made_of (part_lines nodes lines) ≡ made_of lines
  made_same lines = filter_map_filter (is_line_of nodes) (λ (l : Line). made_by l.command) makes_none_of lines

  pub kinds_same : (lines : List Line) → kinds_of (part_lines nodes lines) ≡ kinds_of lines
  kinds_same lines = ap (map (λ (m : ℕ × Kind). m.1)) (made_same lines)

  -- the first line names nothing that is not made, so it stays
  first_kept : (c : Command) → HasNodes (grown 0 c) c → (is_some (made_by c) || list_all (is_among nodes) (named_by c)) ≡ true
  first_kept (C.Quantum n) h = refl
  first_kept (C.Source n file) h = refl
  first_kept (C.Square n rate channels period amp) h = refl
  first_kept (C.Gain n gain) h = refl
  first_kept (C.Mix2 n ga gb) h = refl
  first_kept (C.Delay n frames) h = refl
  first_kept (C.Map n channels list) h = refl
  first_kept (C.Split n) h = refl
  first_kept (C.Sink n file) h = refl
  first_kept (C.Meter n) h = refl
  first_kept (C.Driver n p) h = absurd (omega (arith, h))
  first_kept (C.Loop n k) h = absurd (omega (arith, h))
  first_kept (C.Offer port file) h = absurd (omega (arith, h))
  first_kept (C.Buffers port n) h = absurd (omega (arith, h))
  first_kept (C.Link from to) h = let a = h.0 in absurd (omega (arith, a))
  first_kept (C.Unlink from to) h = let a = h.0 in absurd (omega (arith, a))
  first_kept (C.On n) h = absurd (omega (arith, h))
  first_kept (C.Off n) h = absurd (omega (arith, h))
  first_kept (C.Async n) h = absurd (omega (arith, h))
  first_kept (C.Cycles n) h = refl
  first_kept C.Drain h = refl

  pub quantum_same : (lines : List Line) → NamesMade 0 lines → quantum_of (part_lines nodes lines) ≡ quantum_of lines
  quantum_same [] made = refl
  quantum_same (l ∷ ls) made = ap (λ (b : Bool). quantum_of (cond b (l ∷ part_lines nodes ls) (part_lines nodes ls))) (first_kept l.command made.1)

  pub names_kept : (lines : List Line) (count : ℕ) → NamesMade count lines → NamesMade count (part_lines nodes lines)
  names_kept [] count made = made
  names_kept (l ∷ ls) count made = go (names_kept ls (grown count l.command) made.2) (is_line_of nodes l) refl where
    go : NamesMade (grown count l.command) (part_lines nodes ls) → (b : Bool) → is_line_of nodes l ≡ b → NamesMade count (part_lines nodes (l ∷ ls))
    go rest true e = subst (λ (b : Bool). NamesMade count (cond b (l ∷ part_lines nodes ls) (part_lines nodes ls))) (sym e)
        (made.0, made.1, rest)
    go rest false e = subst (λ (b : Bool). NamesMade count (cond b (l ∷ part_lines nodes ls) (part_lines nodes ls))) (sym e)
        (subst (λ (n : ℕ). NamesMade n (part_lines nodes ls)) (ap (λ (o : Option (ℕ × Kind)). option_map_or (λ m. m.0 + 1) o count) (makes_none_of l e))
        rest)

  -- THE SCRIPT of a part is a script
  pub ranges_kept : (script : Script) → HasRanges script → HasRanges (part_script nodes script)
  ranges_kept script h = record {
    numbered = All-filter (is_line_of nodes) (λ (l : Line). 1 ≤ l.line) script.lines h.numbered;
    ranges = All-filter (is_line_of nodes) (λ (l : Line). IsInRange l.command) script.lines h.ranges;
    nodes = All-filter (is_line_of nodes) (λ (l : Line). HasNodes (length script.names) l.command) script.lines h.nodes;
    count = h.count;
    names = h.names;
  }

  pub kinds_kept : (script : Script) → HasKinds script → HasKinds (part_script nodes script)
  kinds_kept script h = record {
    kinds = h.kinds;
    made = made_same script.lines ∙ h.made;
    named = h.named;
    ports = All-filter (is_line_of nodes) (λ (l : Line). HasPorts h.kinds l.command) script.lines h.ports;
  }

  pub ports_kept : (lines : List Line) (ports : List Node) → AreScriptPorts lines ports → AreScriptPorts (part_lines nodes lines) ports
  ports_kept lines ports h = record { kinds = h.kinds ∙ sym (kinds_same lines); sound = h.sound; unused = h.unused }

  -- its graph before the first line is that of the whole script
  pub start_same : (lines : List Line) (ports : List Node) (g : Graph) → NamesMade 0 lines → IsStart lines ports g
      → IsStart (part_lines nodes lines) ports g
  start_same lines ports g made h = record {
    quantum = h.quantum ∙ sym (quantum_same lines made);
    kinds = h.kinds ∙ sym (kinds_same lines);
    ports = h.ports;
    links = h.links;
    wires = h.wires;
    nodes = subst (λ (n : ℕ). g.nodes ≡ n_newcomers n) (sym (ap length (kinds_same lines))) h.nodes;
    lines = h.lines;
    epochs = h.epochs;
    first = h.first;
    sums = h.sums;
  }
    where
      n_newcomers : ℕ → List Standing
      n_newcomers n = map newcomer (range_with_len 0 n)
