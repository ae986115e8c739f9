-- Laws of printing: the nodes that a legal history names are those of the plan.
use Rattle.std.proofs.Common.{ℕ, List, [], ◌∷◌, ◌++◌, map, sym, subst}
use Rattle.std.specs.Prelude.{All, Contains, Bool, true, false}
use Rattle.std.specs.List.{flat_map, range_with_len, AllZip}
use Rattle.std.proofs.lemmas.List.Elements.{All-nil, All-cons, All-head, All-tail, All-map, All-weaker, All-append}
use Rattle.pw_graph.specs.declared.event.Event.{Event}
use Rattle.pw_graph.specs.declared.event.Event.TheVariants.{Begin, Start, Finish, Tick, End}
use Rattle.pw_graph.specs.declared.plan.Epoch.{Epoch}
use Rattle.pw_graph.specs.declared.plan.Plan.{Plan}
use Rattle.pw_graph.specs.declared.shape.Shape.{Shape}
use Rattle.pw_graph.specs.Dependencies.{nodes_of}
use Rattle.pw_graph.specs.History.{IsOfCycle, IsLegalCycle, IsLegalHistory, epoch_cycles, cycles_of}
use Rattle.pw_graph.specs.SoundPlan.{IsSoundPlan, IsSoundEpoch}
use Rattle.cycle_trace.specs.Printable.{IsPrintable, IsNode, NamesNodes}
use Rattle.trace_check.proofs.NodeSetsLemmas.{of_bit}
use Rattle.graph_plan.specs.Joining.{JoinsKinds}
use Rattle.pw_top.specs.PlannedWork.{if_traced}
use Rattle.pw_top.proofs.PlanWorkLemmas.{lines_print}

module _ (plan : Plan) where
  -- the event names nodes of the plan; so do all nodes of a shape
  abbrev Named : Event → Type 0
  Named = NamesNodes plan.nodes

  abbrev HasNamed : Shape → Type 0
  HasNamed shape = (n : ℕ) → Contains (nodes_of shape) n → IsNode plan.nodes n

  event_named : (shape : Shape) → HasNamed shape → (events : List Event) (cycle : ℕ) (e : Event) → IsOfCycle shape events cycle e → Named e
  event_named shape named events cycle (Begin c) o = absurd o
  event_named shape named events cycle (Start c n) o = named n o.1
  event_named shape named events cycle (Finish c n) o = named n o.1
  event_named shape named events cycle (Tick c late) o = λ n small set. named n (o.2 n small (of_bit late n set)).0
  event_named shape named events cycle (End c) o = absurd o

  part_named : (shape : Shape) → HasNamed shape → (cycle : ℕ) (part : List Event) → IsLegalCycle shape cycle part → All Named part
  part_named shape named cycle part h =
      let inside = All-weaker (IsOfCycle shape h.0 cycle) Named (event_named shape named h.0 cycle) h.0 h.2.only in
      subst (All Named) (sym h.1) (All-cons Named (Begin cycle) (h.0 ++ End cycle ∷ []) tt
      (All-append Named h.0 (End cycle ∷ []) inside (All-cons Named (End cycle) [] tt (All-nil Named))))

  parts_named : (cycles : List (Shape × ℕ)) (parts : List (List Event)) → All (λ (c : Shape × ℕ). HasNamed c.0) cycles
      → AllZip (λ (c : Shape × ℕ) (part : List Event). IsLegalCycle c.0 c.1 part) cycles parts → All Named (flat_map (λ part. part) parts)
  parts_named [] [] all legal = All-nil Named
  parts_named [] (p ∷ ps) all legal = absurd legal
  parts_named (c ∷ cs) [] all legal = absurd legal
  parts_named (c ∷ cs) (p ∷ ps) all legal = All-append Named p (flat_map (λ part. part) ps)
      (part_named c.0 (All-head (λ (x : Shape × ℕ). HasNamed x.0) c cs all) c.1 p legal.0)
      (parts_named cs ps (All-tail (λ (x : Shape × ℕ). HasNamed x.0) c cs all) legal.1)

  cycles_named : (epochs : List Epoch) → All (λ (e : Epoch). HasNamed e.shape) epochs
      → All (λ (c : Shape × ℕ). HasNamed c.0) (cycles_of (map (λ (e : Epoch). e.shape) epochs))
  cycles_named [] all = All-nil (λ (c : Shape × ℕ). HasNamed c.0)
  cycles_named (e ∷ es) all =
      let first = All-head (λ (x : Epoch). HasNamed x.shape) e es all in
      All-append (λ (c : Shape × ℕ). HasNamed c.0) (epoch_cycles e.shape e.shape.cycles) (cycles_of (map (λ (x : Epoch). x.shape) es))
      (All-map (λ (c : Shape × ℕ). HasNamed c.0) (λ (k : ℕ). (e.shape, k)) (range_with_len e.shape.first e.shape.cycles) (λ i d l. first))
      (cycles_named es (All-tail (λ (x : Epoch). HasNamed x.shape) e es all))

  legal_named : IsSoundPlan plan → (history : List Event) → IsLegalHistory (map (λ (e : Epoch). e.shape) plan.epochs) history → All Named history
  legal_named sound history legal =
      let named = All-weaker (IsSoundEpoch plan) (λ (e : Epoch). HasNamed e.shape) (λ e s n there other. s.places.places n there other) plan.epochs
      sound.epochs in
      subst (All Named) (sym legal.joined) (parts_named (cycles_of (map (λ (e : Epoch). e.shape) plan.epochs)) legal.parts
      (cycles_named plan.epochs named) legal.legal)

  -- THE TEXT of a run can be printed, with its events or without
  pub run_prints : IsSoundPlan plan → All (JoinsKinds plan) plan.lines → (trace : Bool) (history : List Event)
      → IsLegalHistory (map (λ (e : Epoch). e.shape) plan.epochs) history → IsPrintable plan (if_traced trace history)
  run_prints sound joins true history legal = record { lines = lines_print plan joins; events = legal_named sound history legal }
  run_prints sound joins false history legal = record { lines = lines_print plan joins; events = All-nil Named }
