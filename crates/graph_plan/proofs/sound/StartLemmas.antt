-- The graph before the first line is sound.
use Rattle.std.proofs.Common.{◌≡◌, ◌⊎◌, inl, inr, ℕ, ◌<◌, List, [], ◌∷◌, length, get_or, map, replicate, false}
use Rattle.std.proofs.Common.{None, refl, sym, ap, ◌∙◌, subst, arith}
use Rattle.std.specs.Prelude.{slice_get}
use Rattle.std.specs.List.{All, range_with_len}
use Rattle.std.proofs.lemmas.Bool.{cases_lt}
use Rattle.std.proofs.lemmas.Option.{none-some}
use Rattle.std.proofs.lemmas.List.{get_or_past, get_or-replicate, length-replicate}
use Rattle.std.proofs.lemmas.List.FromFn.{length-map-range_with_len, get_or-map-range_with_len}
use Rattle.std.proofs.lemmas.List.Elements.{All-nil, All-head}
use Rattle.pw_graph.specs.declared.plan.Epoch.{Epoch}
use Rattle.pw_graph.specs.declared.plan.Plan.{Plan}
use Rattle.pw_graph.specs.PlanFresh.{IsEpoch}
use Rattle.pw_lists.specs.Limits.{quantum_limit}
use Rattle.pw_graph.specs.SoundShape.{IsBetween}
use Rattle.graph_script.specs.declared.command.Command.{Command}
use Rattle.graph_script.specs.declared.command.Command.TheVariants as C
use Rattle.graph_script.specs.declared.script.Line.{Line}
use Rattle.graph_script.specs.Ranges.{IsInRange}
use Rattle.port_model.specs.declared.port_state.Node.{Node}
use Rattle.port_model.specs.SoundPorts.{AreSoundNodes}
use Rattle.link_negotiation.specs.Links.{LinkState, link_of, is_marked}
use Rattle.graph_lines.specs.declared.graph.Graph.{Graph}
use Rattle.graph_lines.specs.declared.standing.Standing.{Standing}
use Rattle.graph_lines.specs.declared.wire.Wire.{Wire}
use Rattle.graph_lines.specs.Activity.{standing, nobody}
use Rattle.graph_lines.specs.Start.{quantum_in, quantum_of, kinds_of, newcomer, IsStart}
use Rattle.graph_plan.specs.Conditions.{AreScriptPorts}
use Rattle.graph_plan.specs.working.Reaching.{IsOrdered}
use Rattle.graph_plan.specs.working.SoundWires.{IsSoundWire, AreSoundWires}
use Rattle.graph_plan.specs.working.Summing.{AreSummed}
use Rattle.graph_plan.specs.working.SoundGraph.{IsSoundPart, IsPast, IsJoining, IsSoundGraph}

-- the quantum is in range
in_range : (command : Command) → IsInRange command → IsBetween 1 quantum_limit (quantum_in command)
in_range (C.Quantum n) h = h
in_range (C.Source n file) h = (omega arith, omega arith)
in_range (C.Square n rate channels period amp) h = (omega arith, omega arith)
in_range (C.Gain n gain) h = (omega arith, omega arith)
in_range (C.Mix2 n ga gb) h = (omega arith, omega arith)
in_range (C.Delay n frames) h = (omega arith, omega arith)
in_range (C.Map n channels list) h = (omega arith, omega arith)
in_range (C.Split n) h = (omega arith, omega arith)
in_range (C.Sink n file) h = (omega arith, omega arith)
in_range (C.Meter n) h = (omega arith, omega arith)
in_range (C.Driver n p) h = (omega arith, omega arith)
in_range (C.Loop n k) h = (omega arith, omega arith)
in_range (C.On n) h = (omega arith, omega arith)
in_range (C.Off n) h = (omega arith, omega arith)
in_range (C.Async n) h = (omega arith, omega arith)
in_range (C.Buffers port n) h = (omega arith, omega arith)
in_range (C.Link from to) h = (omega arith, omega arith)
in_range (C.Unlink from to) h = (omega arith, omega arith)
in_range (C.Offer port file) h = (omega arith, omega arith)
in_range (C.Cycles n) h = (omega arith, omega arith)
in_range C.Drain h = (omega arith, omega arith)

pub quantum_ok : (lines : List Line) → All (λ l. IsInRange l.command) lines → IsBetween 1 quantum_limit (quantum_of lines)
quantum_ok [] h = (omega arith, omega arith)
quantum_ok (l ∷ ls) h = in_range l.command (All-head (λ (x : Line). IsInRange x.command) l ls h)

-- what is said of each number before the first line: nothing but its own number, or nothing
said_first : (n m : ℕ) → (standing (map newcomer (range_with_len 0 n)) m ≡ newcomer m) ⊎ (standing (map newcomer (range_with_len 0 n)) m ≡ nobody)
said_first n m = elim (cases_lt m n) [
  | inl l ↦ inl (get_or-map-range_with_len newcomer 0 n m m nobody l (omega arith))
  | inr past ↦ inr (get_or_past (map newcomer (range_with_len 0 n)) m nobody
      (omega (arith, past, length-map-range_with_len newcomer 0 n)))
]

pub first_is : {X : Type 0} (f : Standing → X) (x : X) → ((m : ℕ) → f (newcomer m) ≡ x) → f nobody ≡ x → (n m : ℕ)
    → f (standing (map newcomer (range_with_len 0 n)) m) ≡ x
first_is f x new none n m = elim (said_first n m) [ inl e ↦ ap f e ∙ new m | inr e ↦ ap f e ∙ none ]

unmarked : (m : ℕ) → get_or (replicate 64 false) m false ≡ false
unmarked m = elim (cases_lt m 64) [
  | inl l ↦ get_or-replicate 64 m false false l
  | inr past ↦ get_or_past (replicate 64 false) m false (omega (arith, past, length-replicate 64 false))
]

-- no epoch
no_epoch : (plan : Plan) (i : ℕ) (e : Epoch) → plan.epochs ≡ [] → IsEpoch plan i e → ⊥
no_epoch plan i e none at = none-some e (sym (ap (λ (es : List Epoch). slice_get es i) none) ∙ at)

past_first : (plan : Plan) (nodes : List Node) (n : ℕ) → plan.epochs ≡ [] → IsPast plan nodes (map newcomer (range_with_len 0 n))
past_first plan nodes n none = record {
  forms = record {
    kept = λ i e port rate channels at has quiet gave. absurd (no_epoch plan i e none at);
    last = λ m some. absurd (let zero' = first_is (λ (s : Standing). s.told) 0 (λ k. refl) refl n m in omega (arith, some, zero'));
    forms = λ i j e f port rate channels rate' channels' before at here stays has has'. absurd (no_epoch plan i e none at);
    told = λ j e node rate channels at inputs has. absurd (no_epoch plan j e none at);
  };
  sinks = record {
    forms = λ i e port rate channels at kind has. absurd (no_epoch plan i e none at);
    sinks = λ i j e port rate channels more before at kind has names. no_epoch plan i e none at;
  };
}

-- THE FIRST GRAPH
pub first_sound : (lines : List Line) (ports : List Node) (g : Graph) → All (λ l. IsInRange l.command) lines → AreScriptPorts lines ports
    → IsStart lines ports g → IsSoundGraph 0 g
first_sound lines ports g ranges script start = record {
  quantum = subst (IsBetween 1 quantum_limit) (sym start.quantum) (quantum_ok lines ranges);
  ports = subst (λ (ns : List Node). AreSoundNodes ns) (sym start.ports) script.sound;
  kinds = ap (map (λ (n : Node). n.kind)) start.ports ∙ (script.kinds ∙ sym start.kinds);
  nodes = ap length start.nodes ∙ (length-map-range_with_len newcomer 0 (length (kinds_of lines)) ∙ ap length (sym start.kinds));
  made = record {
    within = omega arith;
    there = λ n l. absurd (omega (arith, l));
    wires_at = subst (All (λ w. (w.from.node < 0) × (w.to.node < 0))) (sym start.wires) (All-nil (λ (w : Wire). (w.from.node < 0) × (w.to.node < 0)));
    prior = λ n p h. absurd (none-some p (sym (said (λ (s : Standing). s.priority) None (λ k. refl) refl n) ∙ h));
  };
  wires = subst (AreSoundWires g.kinds g.ports) (sym start.wires) (record {
    few = omega arith;
    each = All-nil (IsSoundWire g.kinds g.ports);
    apart = λ i j d a b. absurd (omega (arith, b));
  });
  wired = ap (map (λ (w : Wire). link_of w.from w.to)) start.wires ∙ sym (ap (λ (s : LinkState). s.made) start.links);
  marks = ap (λ (s : LinkState). length s.marks) start.links ∙ length-replicate 64 false;
  marked = λ n. ap (λ (s : LinkState). is_marked s n) start.links ∙ (unmarked n ∙ sym (said (λ (s : Standing). s.marked) false (λ k. refl) refl n));
  order = subst IsOrdered (sym start.links) (record { rank = λ n. 0; rises = λ l w. absurd (let k = w.1 in omega arith) });
  sums = subst (λ (es : List Epoch). AreSummed g.quantum g.kinds es g.first g.sums) (sym start.epochs)
      (subst (λ (k : ℕ). AreSummed g.quantum g.kinds [] k g.sums) (sym start.first)
      (subst (AreSummed g.quantum g.kinds [] 0) (sym start.sums) (record {
        follow = refl;
        cycles = omega arith;
        quanta = All-nil (λ (e : Epoch). e.shape.quantum ≡ g.quantum);
        events = refl;
        samples = refl;
        bytes = refl;
        within = refl;
      })));
  parts = λ plan like. subst (All (IsSoundPart plan)) (sym start.epochs) (All-nil (IsSoundPart plan));
  past = λ plan like epochs. subst (IsPast plan g.ports) (sym start.nodes)
      (past_first plan g.ports (length (kinds_of lines)) (epochs ∙ start.epochs));
  lines = subst (All (IsJoining g.kinds)) (sym start.lines) (All-nil (IsJoining g.kinds));
} where
  said : {X : Type 0} (f : Standing → X) (x : X) → ((m : ℕ) → f (newcomer m) ≡ x) → f nobody ≡ x → (m : ℕ) → f (standing g.nodes m) ≡ x
  said f x new none m = ap (λ (ns : List Standing). f (standing ns m)) start.nodes ∙ first_is f x new none (length (kinds_of lines)) m
