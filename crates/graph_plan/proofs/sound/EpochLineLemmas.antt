-- A line that makes an epoch keeps a sound graph sound.
use Rattle.std.proofs.Common.{◌≡◌, inl, inr, ℕ, zero, suc, ◌+◌, ◌≤◌, List, [], ◌∷◌, ◌++◌, length, None}
use Rattle.std.proofs.Common.{refl, sym, ap, ◌∙◌, subst, arith}
use Rattle.std.proofs.lemmas.Bool.{cases_lt}
use Rattle.std.proofs.lemmas.Option.{none-some}
use Rattle.std.proofs.lemmas.List.Elements.{All-push}
use Rattle.std.proofs.lemmas.List.Sums.{sum_by_push}
use Rattle.pw_graph.specs.declared.plan.Epoch.{Epoch}
use Rattle.pw_graph.specs.declared.plan.Plan.{Plan}
use Rattle.pw_graph.specs.PlanSums.{epoch_events}
use Rattle.link_negotiation.specs.Links.{is_marked}
use Rattle.graph_lines.specs.declared.graph.Graph.{Graph}
use Rattle.graph_lines.specs.declared.graph.Stepped.TheVariants as T
use Rattle.graph_lines.specs.declared.standing.Standing.{Standing}
use Rattle.graph_lines.specs.Activity.{standing}
use Rattle.graph_lines.specs.Epochs.{IsEpochOf}
use Rattle.graph_lines.specs.EpochLines.{IsAfter, RunsFor}
use Rattle.graph_lines.specs.Sums.{sink_samples, block_bytes, sums_with, passed}
use Rattle.graph_plan.specs.working.Remembering.{IsLike}
use Rattle.graph_plan.specs.working.NextEpoch.{with_epoch}
use Rattle.graph_plan.specs.working.SoundGraph.{AreMade, IsSoundPart, IsPast, IsSoundGraph}
use Rattle.graph_plan.specs.working.Summing.{FollowTo, AreSummed}
use Rattle.graph_plan.proofs.sound.RememberingLemmas.{remembers_more, sinks_more}
use Rattle.graph_plan.proofs.sound.SoundGraphLemmas.{past_nodes}
use Rattle.graph_plan.proofs.sound.SoundPartLemmas.{part_ok}
use Rattle.graph_plan.proofs.sound.NextEpochLemmas.{next_ok, sinks_ok, past_after}

-- epochs that follow one another, and one more
follow_push : (first next : ℕ) (es : List Epoch) (e : Epoch) → FollowTo first es next → e.shape.first ≡ next
    → FollowTo first (es ++ e ∷ []) (next + e.shape.cycles)
follow_push first next [] e h f = (f ∙ sym h, ap (λ (k : ℕ). k + e.shape.cycles) h)
follow_push first next (x ∷ es) e h f = (h.0, follow_push (first + x.shape.cycles) next es e h.1 f)

module _ (count : ℕ) (g : Graph) (sound : IsSoundGraph count g) (n : ℕ) (e : Epoch) (is : IsEpochOf g n e) (after : Graph) (taken : IsAfter g e after)
    (within : passed (sums_with g.kinds g.sums e) ≡ None) (some : 1 ≤ n) where
  sums_ok : AreSummed g.quantum g.kinds (g.epochs ++ e ∷ []) (g.first + e.shape.cycles) (sums_with g.kinds g.sums e)
  sums_ok = record {
    follow = follow_push 0 g.first g.epochs e sound.sums.follow is.first;
    cycles = (let a = sound.sums.cycles in omega (arith, a));
    quanta = All-push (λ (x : Epoch). x.shape.quantum ≡ g.quantum) g.epochs e sound.sums.quanta is.quantum;
    events = ap (λ (k : ℕ). k + epoch_events e) sound.sums.events ∙ sym (sum_by_push epoch_events g.epochs e);
    samples = ap (λ (k : ℕ). k + sink_samples g.kinds e) sound.sums.samples ∙ sym (sum_by_push (sink_samples g.kinds) g.epochs e);
    bytes = ap (λ (k : ℕ). k + block_bytes e) sound.sums.bytes ∙ sym (sum_by_push block_bytes g.epochs e);
    within = within;
  }

  made_ok : AreMade count after.nodes g.wires
  made_ok = record {
    within = (let w = sound.made.within in let m = taken.many in omega (arith, w, m));
    there = λ m l.
        let w = sound.made.within in
        ap (λ (s : Standing). s.there) (taken.nodes m (omega (arith, l, w))).rest ∙ sound.made.there m l;
    wires_at = sound.made.wires_at;
    prior = λ m p h. elim (cases_lt m (length g.nodes)) [
      | inl l ↦ sound.made.prior m p (sym (ap (λ (s : Standing). s.priority) (taken.nodes m l).rest) ∙ h)
      | inr past ↦ absurd (none-some p (sym (ap (λ (s : Standing). s.priority)
          (past_after count g sound n e is after taken m past)) ∙ h))
    ];
  }

  marked_ok : (m : ℕ) → is_marked g.links m ≡ (standing after.nodes m).marked
  marked_ok m = elim (cases_lt m (length g.nodes)) [
    | inl l ↦ sound.marked m ∙ sym (ap (λ (s : Standing). s.marked) (taken.nodes m l).rest)
    | inr past ↦ sound.marked m ∙ (ap (λ (s : Standing). s.marked) (past_nodes count g sound m past)
        ∙ sym (ap (λ (s : Standing). s.marked) (past_after count g sound n e is after taken m past)))
  ]

  past_ok : (plan : Plan) → IsLike g.quantum g.kinds plan → plan.epochs ≡ g.epochs ++ e ∷ [] → IsPast plan g.ports after.nodes
  past_ok plan like same =
      let before : Plan = record plan { epochs = g.epochs } in
      let like_before : IsLike g.quantum g.kinds before = record { quantum_is = like.quantum_is; count = like.count; kind = like.kind } in
      let old = sound.past before like_before refl in
      let next = next_ok count g sound n e is after taken before like_before in
      let sinks = sinks_ok count g sound n e is after taken before like_before in
      let both : with_epoch before e ≡ plan = ap (λ (es : List Epoch). record plan { epochs = es }) (sym same) in
      subst (λ (p : Plan). IsPast p g.ports after.nodes) both (record {
        forms = remembers_more before g.ports g.nodes after.nodes e sound.ports old.forms next;
        sinks = sinks_more before g.ports g.nodes after.nodes e sound.ports old.forms next old.sinks sinks;
      })

  pub epoch_sound : IsSoundGraph count after
  epoch_sound = subst (IsSoundGraph count) (sym taken.same) (record {
    quantum = sound.quantum;
    ports = sound.ports;
    kinds = sound.kinds;
    nodes = taken.many ∙ sound.nodes;
    made = made_ok;
    wires = sound.wires;
    wired = sound.wired;
    marks = sound.marks;
    marked = marked_ok;
    order = sound.order;
    sums = sums_ok;
    parts = λ plan like. All-push (IsSoundPart plan) g.epochs e (sound.parts plan like) (part_ok count g sound n e is plan like within some);
    past = past_ok;
    lines = sound.lines;
  })

-- so does any line that runs for some cycles
pub runs_sound : (count : ℕ) (g after : Graph) (n : ℕ) → IsSoundGraph count g → RunsFor g n T.Done after → IsSoundGraph count after
runs_sound count g after zero sound h = subst (IsSoundGraph count) (sym h.1) sound
runs_sound count g after (suc n) sound h = epoch_sound count g sound (suc n) h.0 h.1 after h.2.1 h.2.0 (omega arith)
