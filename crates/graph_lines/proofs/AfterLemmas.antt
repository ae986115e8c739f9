-- A sound graph after an epoch, and the drain that passes the limit of events.
use Rattle.std.proofs.Common.{◌≡◌, ◌⊎◌, inl, inr, ℕ, zero, suc, ◌+◌, ◌*◌, ◌^◌, ◌<◌, ◌≤◌, min, Bool, true, false, List, [], ◌∷◌, ◌++◌, length, Some, None, refl, sym, ap, ◌∙◌, subst, arith}
use Rattle.std.specs.Prelude.{if◌then◌else◌, Result, Ok, Err, IfOk}
use Rattle.std.proofs.lemmas.Bool.{cases_lt}
use Rattle.std.proofs.lemmas.List.{get_or_past, get_or_append_left, get_or_push}
use Rattle.pw_lists.specs.declared.limit.Which.{Which}
use Rattle.pw_lists.specs.declared.limit.Which.TheVariants as W
use Rattle.pw_graph.specs.declared.plan.Epoch.{Epoch}
use Rattle.pw_graph.specs.PlanSums.{epoch_events}
use Rattle.pw_lists.specs.declared.memory.Memory.{Memory}
use Rattle.wav_files.specs.declared.wav.WavIn.{WavIn}
use Rattle.graph_script.specs.declared.command.Command.TheVariants as C
use Rattle.graph_lines.specs.Gathering.{DrainsUpTo, IsActivityOf}
use Rattle.graph_lines.specs.declared.epochs.ActiveNodes.{ActiveNodes}
use Rattle.graph_lines.specs.declared.graph.Graph.{Graph}
use Rattle.graph_lines.specs.declared.graph.Stepped.{Stepped}
use Rattle.graph_lines.specs.declared.graph.Stepped.TheVariants as T
use Rattle.graph_lines.specs.declared.limits.Sums.{Sums}
use Rattle.graph_lines.specs.declared.standing.Standing.{Standing}
use Rattle.graph_lines.specs.Activity.{nobody, standing}
use Rattle.graph_lines.specs.Epochs.{has_node, IsEpochOf}
use Rattle.graph_lines.specs.Draining.{rest_cycles, drain_cycles, DrainsFor}
use Rattle.graph_lines.specs.EpochLines.{cycles_in, StandsAfter, IsAfter, IsTaken, RunsFor, Steps}
use Rattle.graph_lines.specs.Searching.{is_in}
use Rattle.graph_lines.specs.Sums.{sums_with, passed}
use Rattle.graph_lines.specs.Ready.{IsReady, HasRan}
use Rattle.graph_lines.proofs.DrainingLemmas.{most_enough, most_needed}
use Rattle.graph_lines.proofs.SumLemmas.{passes_events}

-- each cycle has at least three events
pub three_a_cycle : (e : Epoch) → 3 * e.shape.cycles ≤ epoch_events e
three_a_cycle e = go e.shape.cycles (length e.shape.nodes) where
  go : (c n : ℕ) → 3 * c ≤ c * (2 * n + 3)
  go zero n = omega arith
  go (suc c) n = let l = go c n in omega (arith, l)

-- sums that pass no limit have few events
few_events : (s : Sums) → passed s ≡ None → s.events ≤ 4194304
few_events s e = elim (cases_lt 4194304 s.events) [
  | inl l ↦ absurd (none_not W.Events (sym e ∙ passes_events s l))
  | inr l ↦ l
] where
  none_not : (w : Which) → None ≡ Some w → ⊥
  none_not w d = cc

-- so the number of the next cycle has 32 bits
pub cycles_fit : (g : Graph) (e : Epoch) → IsReady g → passed (sums_with g.kinds g.sums e) ≡ None → g.first + e.shape.cycles < 2 ^ 32
cycles_fit g e sound none =
    let few = few_events (sums_with g.kinds g.sums e) none in
    let more = three_a_cycle e in
    let so_far = sound.counts.events in
    omega (arith, few, more, so_far)

cycles_at_most : (e : Epoch) (n : ℕ) → cycles_in e n ≤ e.shape.cycles
cycles_at_most e n = go (has_node e.shape n) where
  go : (b : Bool) → (if b then e.shape.cycles else 0) ≤ e.shape.cycles
  go true = omega arith
  go false = omega arith

-- AFTER AN EPOCH
pub after_sound : (g after : Graph) (e : Epoch) → IsReady g → passed (sums_with g.kinds g.sums e) ≡ None → IsAfter g e after → IsReady after
after_sound g after e sound none h = subst IsReady (sym h.same) (record {
  nodes = record { many = h.many ∙ sound.nodes.many; kinds = sound.nodes.kinds; ports = sound.nodes.ports };
  wires = record { wired = sound.wires.wired; each = sound.wires.each };
  marks = record { many = sound.marks.many; same = λ n. marked n (cases_lt n (length g.nodes)) ∙ sound.marks.same n };
  counts = record {
    quantum = sound.counts.quantum;
    events = let more = three_a_cycle e in let so_far = sound.counts.events in omega (arith, more, so_far);
    limit = few_events (sums_with g.kinds g.sums e) none;
  };
}) where
  marked : (n : ℕ) → (n < length g.nodes) ⊎ (length g.nodes ≤ n) → (standing after.nodes n).marked ≡ (standing g.nodes n).marked
  marked n (inl l) = ap (λ (s : Standing). s.marked) (h.nodes n l).rest
  marked n (inr past) = ap (λ (s : Standing). s.marked)
      (get_or_past after.nodes n nobody (let many = h.many in omega (arith, past, many)) ∙ sym (get_or_past g.nodes n nobody past))

pub after_ran : (g after : Graph) (e : Epoch) → HasRan g → IsAfter g e after → HasRan after
after_ran g after e ran h = subst HasRan (sym h.same) (record { within = λ n. few n (cases_lt n (length g.nodes)) }) where
  few : (n : ℕ) → (n < length g.nodes) ⊎ (length g.nodes ≤ n) → (standing after.nodes n).ran ≤ g.first + e.shape.cycles
  few n (inl l) =
      let is = ap (λ (s : Standing). s.ran) (h.nodes n l).rest in
      let before = ran.within n in
      let here = cycles_at_most e n in
      omega (arith, is, before, here)
  few n (inr past) =
      let is = ap (λ (s : Standing). s.ran) (get_or_past after.nodes n nobody (let many = h.many in omega (arith, past, many))) in
      omega (arith, is)

pub run_sound : (g after : Graph) (cycles : ℕ) → IsReady g → RunsFor g cycles T.Done after → IsReady after
run_sound g after zero sound h = subst IsReady (sym h.1) sound
run_sound g after (suc n) sound h = after_sound g after h.0 sound h.2.0 h.2.1

pub run_ran : (g after : Graph) (cycles : ℕ) → HasRan g → RunsFor g cycles T.Done after → HasRan after
run_ran g after zero ran h = subst HasRan (sym h.1) ran
run_ran g after (suc n) ran h = after_ran g after h.0 ran h.2.1

-- some cycles make an epoch
pub runs_some : (g after : Graph) (cycles : ℕ) (stepped : Stepped) (e : Epoch) → 0 < cycles → IsEpochOf g cycles e → IsTaken g e stepped after
    → RunsFor g cycles stepped after
runs_some g after zero stepped e some is taken = absurd (omega (arith, some))
runs_some g after (suc n) stepped e some is taken = (e, is, taken)

-- MORE CYCLES than there may be events pass that limit, however many they are
abbrev pub with_cycles : ℕ → Epoch → Epoch
with_cycles n e = record e { shape = record e.shape { cycles = n } }

pub more_cycles : (g : Graph) (few many : ℕ) (e : Epoch) → IsEpochOf g few e → IsEpochOf g many (with_cycles many e)
more_cycles g few many e h = record {
  quantum = h.quantum;
  first = h.first;
  cycles = refl;
  nodes = record { driver = h.nodes.driver; ascend = h.nodes.ascend; active = h.nodes.active; counts = h.nodes.counts };
  links = h.links;
  forms = record { ascend = h.forms.ascend; each = h.forms.each };
  fresh = record { ascend = h.fresh.ascend; each = h.fresh.each };
}

passes_over : (g : Graph) (n : ℕ) (e : Epoch) → 4194304 < n → e.shape.cycles ≡ n → passed (sums_with g.kinds g.sums e) ≡ Some W.Events
passes_over g n e over is = let more = three_a_cycle e in passes_events (sums_with g.kinds g.sums e) (omega (arith, over, is, more))

only_events : (g after : Graph) (few many : ℕ) (e : Epoch) (stepped : Stepped) → 4194304 < few → few ≤ many → IsEpochOf g few e → IsTaken g e stepped after
    → RunsFor g many stepped after
only_events g after few many e T.Done over le is taken = absurd (none_not (sym taken.0 ∙ passes_over g few e over is.cycles)) where
  none_not : None ≡ Some W.Events → ⊥
  none_not d = cc
only_events g after few many e (T.Passed which) over le is taken =
    runs_some g after many (T.Passed which) (with_cycles many e) (omega (arith, over, le)) (more_cycles g few many e is)
    (passes_over g many (with_cycles many e) (omega (arith, over, le)) refl ∙ (sym (passes_over g few e over is.cycles) ∙ taken))

pub runs_over : (g after : Graph) (few many : ℕ) (stepped : Stepped) → 4194304 < few → few ≤ many → RunsFor g few stepped after
    → RunsFor g many stepped after
runs_over g after zero many stepped over le h = absurd (omega (arith, over))
runs_over g after (suc n) many stepped over le h = only_events g after (suc n) many h.0 stepped over le h.1 h.2

-- so a drain may be cut there
pub runs_cut : (g after : Graph) (cycles : ℕ) (stepped : Stepped) → RunsFor g (min cycles 4194305) stepped after → RunsFor g cycles stepped after
runs_cut g after cycles stepped h = elim (cases_lt 4194304 cycles) [
  | inl over ↦ runs_over g after 4194305 cycles stepped (omega arith) (omega (arith, over))
      (subst (λ (n : ℕ). RunsFor g n stepped after) (let e : min cycles 4194305 ≡ 4194305 = omega (arith, over) in e) h)
  | inr few ↦ subst (λ (n : ℕ). RunsFor g n stepped after) (let e : min cycles 4194305 ≡ cycles = omega (arith, few) in e) h
]

-- what is said of the nodes after an epoch, one node after the other
pub standings_more : (g : Graph) (e : Epoch) (nodes : List Standing) (count : ℕ) (s : Standing) → length nodes ≡ count
    → ((n : ℕ) → n < count → StandsAfter g e n (standing nodes n)) → StandsAfter g e count s
    → (n : ℕ) → n < count + 1 → StandsAfter g e n (standing (nodes ++ s ∷ []) n)
standings_more g e nodes count s many each here n l = elim (cases_lt n count) [
  | inl below ↦ subst (StandsAfter g e n) (sym (get_or_append_left nodes (s ∷ []) nobody n (omega (arith, below, many)))) (each n below)
  | inr past ↦
      let same : n ≡ count = omega (arith, l, past) in
      subst (λ (k : ℕ). StandsAfter g e k (standing (nodes ++ s ∷ []) k)) (sym same)
      (subst (StandsAfter g e count) (sym (get_or_push nodes s nobody count many)) here)
]

-- the cycles of a drain, of the nodes that are active now
pub drains_for : (waves : List WavIn) (g : Graph) (a : ActiveNodes) (n : ℕ) → IsActivityOf g a
    → n ≡ drain_cycles g.quantum g.nodes a.here waves → DrainsFor waves g n
drains_for waves g a n h e = record {
  driver = a.driver;
  drives = h.driver;
  enough = λ rest w.
      let most = most_enough (λ (x : WavIn). is_in a.here x.node) (λ (x : WavIn). rest_cycles g.quantum g.nodes x) 0 waves w.0 w.1 ((h.active w.0.node).1 w.2) in
      let same = w.3 in
      omega (arith, most, same, e);
  needed = λ some. elim (most_needed (λ (x : WavIn). is_in a.here x.node) (λ (x : WavIn). rest_cycles g.quantum g.nodes x) 0 waves) [
    | inl none ↦ absurd (omega (arith, none, e, some))
    | inr w ↦ (w.0, w.1, (h.active w.0.node).0 w.2, w.3 ∙ sym e)
  ];
}

-- a drain runs for the cycles that are left
pub drained : (waves : List WavIn) (g after : Graph) (cycles : ℕ) (r : Result Stepped Memory) → DrainsUpTo 4194305 waves g cycles
    → IfOk r (λ stepped. RunsFor g cycles stepped after) → IfOk r (λ stepped. Steps waves g C.Drain stepped after)
drained waves g after cycles (Ok stepped) d h = (d.0, d.1, runs_cut g after d.0 stepped (subst (λ (n : ℕ). RunsFor g n stepped after) d.2 h))
drained waves g after cycles (Err m) d h = h
