-- The plan that is read off a sound graph is sound.
use Rattle.std.proofs.Common.{◌≡◌, ◌⊎◌, inl, inr, ℕ, zero, suc, ◌+◌, ◌*◌, ◌<◌, ◌≤◌, List, [], ◌∷◌, length, get_or}
use Rattle.std.proofs.Common.{Option, Some, None, refl, sym, ap, ◌∙◌, subst, arith}
use Rattle.std.specs.Prelude.{slice_get, option_map, unwrap_or, sum_by}
use Rattle.std.specs.List.{All, filter}
use Rattle.std.proofs.lemmas.Option.{none-some, slice_get-get_or, slice_get_within}
use Rattle.std.proofs.lemmas.List.{get_or_past, length-map}
use Rattle.std.proofs.lemmas.List.Elements.{All-head, All-tail, All-weaker, filter_agree}
use Rattle.std.proofs.lemmas.List.Sums.{sum_by-cons}
use Rattle.pw_graph.specs.declared.ids.PortId.{PortId}
use Rattle.pw_graph.specs.declared.kind.Kind.{Kind}
use Rattle.pw_graph.specs.declared.kind.Kind.TheVariants.{Source, Square, Gain, Mix2, Delay, Map, Split, Sink, Meter, Dummy}
use Rattle.pw_graph.specs.declared.plan.Epoch.{Epoch}
use Rattle.pw_graph.specs.declared.plan.Plan.{Plan}
use Rattle.pw_graph.specs.declared.plan.PlanNode.{PlanNode}
use Rattle.pw_graph.specs.declared.plan.PortForm.{PortForm}
use Rattle.pw_graph.specs.declared.shape.ShapeLink.{ShapeLink}
use Rattle.pw_graph.specs.KindPorts.{input_count, port_count}
use Rattle.pw_graph.specs.KindRanges.{IsInRange, IsRate, IsChannels, IsSinkOrMeter, MayHaveRate}
use Rattle.pw_graph.specs.PlanForms.{kind_at}
use Rattle.pw_graph.specs.PlanFresh.{HasSoundFresh}
use Rattle.pw_graph.specs.PlanSums.{is_sink, epoch_events, epoch_samples, epoch_bytes}
use Rattle.pw_graph.specs.Pools.{asked}
use Rattle.pw_graph.specs.SoundPlan.{FollowFrom, IsSoundNode, EndsWith, IsSoundEpoch, IsSoundPlan}
use Rattle.port_model.specs.declared.port_state.Node.{Node}
use Rattle.port_model.specs.SoundPorts.{IsSoundNode as IsSoundPorts}
use Rattle.port_model.proofs.NodeLemmas.{at_place}
use Rattle.graph_lines.specs.declared.graph.Graph.{Graph}
use Rattle.graph_lines.specs.Forms.{FormIn}
use Rattle.graph_lines.specs.Sums.{is_sink_form, sink_samples, block_bytes, form_samples}
use Rattle.graph_plan.specs.Joining.{JoinsKinds}
use Rattle.graph_plan.specs.PlanOf.{IsEndOf, IsNodeOf, IsPlanOf}
use Rattle.graph_plan.specs.working.Remembering.{IsLike}
use Rattle.graph_plan.specs.working.SoundGraph.{IsSoundPart, IsJoining, IsSoundGraph}
use Rattle.graph_plan.specs.working.Summing.{FollowTo}
use Rattle.graph_plan.proofs.sound.FormLemmas.{one_form, port_count_is, kind_at_is}
use Rattle.graph_plan.proofs.sound.RangeLemmas.{within_limits}
use Rattle.graph_plan.proofs.sound.SoundGraphLemmas.{few_nodes, form_ranges}

follow_from : (first next : ℕ) (es : List Epoch) → FollowTo first es next → FollowFrom first es
follow_from first next [] h = tt
follow_from first next (e ∷ es) h = (h.0, follow_from (first + e.shape.cycles) next es h.1)

-- sums of what is the same
same_sums : {X : Type 0} (f h : X → ℕ) (xs : List X) → All (λ x. f x ≡ h x) xs → sum_by f xs ≡ sum_by h xs
same_sums f h [] w = refl
same_sums f h (x ∷ xs) w =
    let first : f x ≡ h x = All-head (λ y. f y ≡ h y) x xs w in
    let rest = same_sums f h xs (All-tail (λ y. f y ≡ h y) x xs w) in
    let a = sum_by-cons f x xs in
    let b = sum_by-cons h x xs in
    omega (arith, first, rest, a, b)

-- a sink or meter may have any rate
end_rate : (kind : Kind) (rate : ℕ) → IsSinkOrMeter kind → MayHaveRate kind rate → IsRate rate
end_rate Sink rate e h = h
end_rate Meter rate e h = h
end_rate Source rate e h = absurd e
end_rate (Square r channels period amp) rate e h = absurd e
end_rate (Gain g) rate e h = absurd e
end_rate (Mix2 ga gb) rate e h = absurd e
end_rate (Delay frames) rate e h = absurd e
end_rate (Map channels list) rate e h = absurd e
end_rate Split rate e h = absurd e
end_rate Dummy rate e h = absurd e

-- a place without a thing is past the end
none_past : {X : Type 0} (xs : List X) (n : ℕ) → slice_get xs n ≡ None → length xs ≤ n
none_past [] n e = omega arith
none_past (x ∷ xs) zero e = absurd (none-some x (sym e))
none_past (x ∷ xs) (suc n) e = let l = none_past xs n e in omega arith

module _ (count : ℕ) (g : Graph) (sound : IsSoundGraph count g) (names : List (List ℕ)) (plan : Plan) (is : IsPlanOf names g plan) where
  kind_ok : (n : ℕ) → kind_at plan n ≡ get_or g.kinds n Dummy
  kind_ok n = go (slice_get plan.nodes n) refl where
    go : (o : Option PlanNode) → slice_get plan.nodes n ≡ o → kind_at plan n ≡ get_or g.kinds n Dummy
    go (Some node) e = ap (λ (o : Option PlanNode). unwrap_or (option_map (λ (m : PlanNode). m.kind) o) Dummy) e ∙ (is.nodes n node e).kind
    go None e =
        let past = none_past plan.nodes n e in
        let c = is.count in
        ap (λ (o : Option PlanNode). unwrap_or (option_map (λ (m : PlanNode). m.kind) o) Dummy) e
        ∙ sym (get_or_past g.kinds n Dummy (omega (arith, past, c)))

  pub like : IsLike g.quantum g.kinds plan
  like = record { quantum_is = is.quantum; count = is.count; kind = kind_ok }

  -- NODES
  kinds_in_range : (n : ℕ) → n < length g.kinds → IsInRange (get_or g.kinds n Dummy)
  kinds_in_range n l =
      let e = ap length sound.kinds in
      let m = length-map g.ports (λ (x : Node). x.kind) in
      let node = get_or g.ports n (record { kind = Dummy; ports = [] }) in
      let at = slice_get-get_or g.ports n (record { kind = Dummy; ports = [] }) (omega (arith, l, e, m)) in
      subst IsInRange (kind_at_is g.ports g.kinds sound.kinds n node at) (at_place IsSoundPorts g.ports n node sound.ports.each at).kind

  node_ok : (n : ℕ) (node : PlanNode) → slice_get plan.nodes n ≡ Some node → IsSoundNode node
  node_ok n node e =
      let o = is.nodes n node e in
      let l = slice_get_within plan.nodes n node e in
      let c = is.count in
      record { kind = subst IsInRange (sym o.kind) (kinds_in_range n (omega (arith, l, c))); kept = kept o o.ends }
    where
      kept : IsNodeOf names g n node → IsEndOf g n node.kind node.rate node.channels
          → ((node.rate ≡ 0) × (node.channels ≡ 0)) ⊎ (IsSinkOrMeter node.kind × IsRate node.rate × IsChannels node.channels)
      kept o (inr h) = inl (h.0, h.1)
      kept o (inl h) =
          let r = form_ranges count g sound (record { node = n; port = 0 }) node.rate node.channels h.1 in
          inr (h.0, end_rate node.kind node.rate h.0 (subst (λ (k : Kind). MayHaveRate k node.rate) (sym o.kind) r.0), r.2)

  nodes_ok : All IsSoundNode plan.nodes
  nodes_ok n d l = node_ok n (get_or plan.nodes n d) (slice_get-get_or plan.nodes n d l)

  -- EPOCHS
  part_of : All (IsSoundPart plan) plan.epochs
  part_of = subst (All (IsSoundPart plan)) (sym is.epochs) (sound.parts plan like)

  sink_end : (node : PlanNode) (port : PortId) (rate channels : ℕ) → slice_get plan.nodes port.node ≡ Some node → node.kind ≡ Sink
      → FormIn g.ports port rate channels → (rate ≡ node.rate) × (channels ≡ node.channels)
  sink_end node port rate channels at kind form = go o.ends where
    o : IsNodeOf names g port.node node
    o = is.nodes port.node node at

    zero_port : port.port ≡ 0
    zero_port =
        let l : port.port < port_count Sink = subst (λ (d : Kind). port.port < port_count d) (sym o.kind ∙ kind)
        (subst (λ (m : ℕ). port.port < m) (port_count_is g.ports g.kinds sound.kinds port.node) form.0) in
        omega (arith, l)

    own : FormIn g.ports (record { node = port.node; port = 0 }) rate channels
    own = subst (λ (q : ℕ). FormIn g.ports (record { node = port.node; port = q }) rate channels) zero_port form

    is_end : IsSinkOrMeter node.kind
    is_end = subst IsSinkOrMeter (sym kind) tt

    go : IsEndOf g port.node node.kind node.rate node.channels → (rate ≡ node.rate) × (channels ≡ node.channels)
    go (inl h) = one_form g.ports sound.ports (record { node = port.node; port = 0 }) rate channels node.rate node.channels own h.1
    go (inr h) = absurd (h.2 rate channels (is_end, own))

  ends_ok : (i : ℕ) (e : Epoch) → slice_get plan.epochs i ≡ Some e → EndsWith plan e
  ends_ok i e at port rate channels node has there kind =
      let past = sound.past plan like is.epochs in
      let k : kind_at plan port.node ≡ Sink =
      ap (λ (o : Option PlanNode). unwrap_or (option_map (λ (m : PlanNode). m.kind) o) Dummy) there ∙ kind in
      sink_end node port rate channels there kind (past.sinks.forms i e port rate channels at k has).form.form

  epochs_ok : All (IsSoundEpoch plan) plan.epochs
  epochs_ok i d l =
      let p = part_of i d l in record {
        shape = p.shape;
        quantum = p.quantum;
        places = p.places;
        forms = p.forms;
        ends = ends_ok i (get_or plan.epochs i d) (slice_get-get_or plan.epochs i d l);
      }

  fresh_ok : HasSoundFresh plan
  fresh_ok = let past = sound.past plan like is.epochs in record {
    ascend = λ i d l. (part_of i d l).ascend;
    each = λ i d l. (part_of i d l).fresh;
    forms = past.forms.forms;
    sinks = past.sinks.sinks;
    told = past.forms.told;
  }

  -- SUMS
  one_quantum : (e : Epoch) → e.shape.quantum ≡ g.quantum → plan.quantum ≡ e.shape.quantum
  one_quantum e h = is.quantum ∙ sym h

  samples_of : (e : Epoch) → e.shape.quantum ≡ g.quantum → epoch_samples plan e ≡ sink_samples g.kinds e
  samples_of e h =
      ap (λ (q : ℕ). sum_by (λ (f : PortForm). e.shape.cycles * (q * f.channels)) (filter (λ f. is_sink (kind_at plan f.port.node)) e.forms))
      (one_quantum e h)
      ∙ ap (sum_by (form_samples e)) (filter_agree (λ (f : PortForm). is_sink (kind_at plan f.port.node)) (is_sink_form g.kinds)
      (λ f. ap is_sink (kind_ok f.port.node)) e.forms)

  bytes_of : (e : Epoch) → e.shape.quantum ≡ g.quantum → epoch_bytes plan e ≡ block_bytes e
  bytes_of e h = ap (λ (q : ℕ). sum_by (λ (l : ShapeLink). asked l * (q * (l.channels * 2))) e.shape.links) (one_quantum e h)

  sums_ok : (sum_by epoch_events plan.epochs ≤ 4194304) × (sum_by (epoch_samples plan) plan.epochs ≤ 134217728)
      × (sum_by (epoch_bytes plan) plan.epochs ≤ 268435456)
  sums_ok =
      let s = sound.sums in
      let w = within_limits g.sums s.within in
      let a = ap (sum_by epoch_events) is.epochs in
      let b = ap (sum_by (epoch_samples plan)) is.epochs in
      let c = ap (sum_by (epoch_bytes plan)) is.epochs in
      let d = same_sums (epoch_samples plan) (sink_samples g.kinds) g.epochs
      (All-weaker (λ (e : Epoch). e.shape.quantum ≡ g.quantum) (λ (e : Epoch). epoch_samples plan e ≡ sink_samples g.kinds e) samples_of g.epochs s.quanta) in
      let f = same_sums (epoch_bytes plan) block_bytes g.epochs
      (All-weaker (λ (e : Epoch). e.shape.quantum ≡ g.quantum) (λ (e : Epoch). epoch_bytes plan e ≡ block_bytes e) bytes_of g.epochs s.quanta) in (
        subst (λ (k : ℕ). k ≤ 4194304) (sym (a ∙ sym s.events)) w.0,
        subst (λ (k : ℕ). k ≤ 134217728) (sym (b ∙ (d ∙ sym s.samples))) w.1,
        subst (λ (k : ℕ). k ≤ 268435456) (sym (c ∙ (f ∙ sym s.bytes))) w.2,
      )

  -- THE PLAN
  pub plan_sound : IsSoundPlan plan
  plan_sound = record {
    follow = subst (FollowFrom 0) (sym is.epochs) (follow_from 0 g.first g.epochs sound.sums.follow);
    few = (let f = few_nodes count g sound in let c = is.count in omega (arith, f, c));
    nodes = nodes_ok;
    epochs = epochs_ok;
    fresh = fresh_ok;
    events = sums_ok.0;
    samples = sums_ok.1;
    bytes = sums_ok.2;
  }

  -- and its lines join outputs to inputs
  pub plan_joins : All (JoinsKinds plan) plan.lines
  plan_joins = subst (All (JoinsKinds plan)) (sym is.lines) (All-weaker (IsJoining g.kinds) (JoinsKinds plan) (λ l h. record {
    behind = subst (λ (k : Kind). input_count k ≤ l.from.port) (sym (kind_ok l.from.node)) h.0.0;
    from = subst (λ (k : Kind). l.from.port < port_count k) (sym (kind_ok l.from.node)) h.0.1;
    to = subst (λ (k : Kind). l.to.port < input_count k) (sym (kind_ok l.to.node)) h.1;
  }) g.lines sound.lines)
