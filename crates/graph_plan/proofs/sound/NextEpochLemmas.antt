-- What later epochs need of the epoch that a line makes of a sound graph, and of what is said after it.
use Rattle.std.proofs.Common.{◌≡◌, inl, inr, ℕ, ◌<◌, ◌≤◌, length, get_or, true, false, ◌||◌, ◌==◌}
use Rattle.std.proofs.Common.{refl, sym, ap, ◌∙◌, subst, arith}
use Rattle.std.specs.Prelude.{Contains}
use Rattle.std.specs.List.{list_any}
use Rattle.std.proofs.lemmas.Bool.{cases_lt, both_ways, or_left, or_right, and_from, eq-eqb}
use Rattle.std.proofs.lemmas.List.{get_or_past}
use Rattle.pw_graph.specs.declared.ids.PortId.{PortId}
use Rattle.pw_graph.specs.declared.kind.Kind.{Kind}
use Rattle.pw_graph.specs.declared.kind.Kind.TheVariants.{Dummy, Sink}
use Rattle.pw_graph.specs.declared.plan.Epoch.{Epoch}
use Rattle.pw_graph.specs.declared.plan.Plan.{Plan}
use Rattle.pw_graph.specs.declared.plan.PortForm.{PortForm}
use Rattle.pw_graph.specs.KindPorts.{input_count, port_count}
use Rattle.pw_graph.specs.PlanForms.{kind_at, HasForm}
use Rattle.pw_graph.specs.PlanSums.{is_sink}
use Rattle.graph_lines.specs.declared.graph.Graph.{Graph}
use Rattle.graph_lines.specs.declared.standing.Standing.{Standing}
use Rattle.graph_lines.specs.Activity.{standing, nobody}
use Rattle.graph_lines.specs.Epochs.{IsEpochOf}
use Rattle.graph_lines.specs.EpochLines.{is_formed_sink, IsAfter}
use Rattle.graph_lines.specs.Forms.{FormIn}
use Rattle.graph_lines.specs.Fresh.{ChannelsIn}
use Rattle.graph_plan.specs.working.Remembering.{IsLike, Stands, KeepsIt}
use Rattle.graph_plan.specs.working.NextEpoch.{Changes, IsNext, KeepsSinksOn}
use Rattle.graph_plan.specs.working.SoundGraph.{IsSoundGraph}
use Rattle.graph_plan.proofs.sound.FormLemmas.{port_count_is, input_count_is}
use Rattle.graph_plan.proofs.lists.ElementLemmas.{any_of}
use Rattle.graph_plan.proofs.sound.SoundGraphLemmas.{port_below, form_ranges, one_channels, past_nodes, fresh_below}
use Rattle.graph_plan.proofs.sound.SoundPartLemmas.{stands, form_made}

module _ (count : ℕ) (g : Graph) (sound : IsSoundGraph count g) (n : ℕ) (e : Epoch) (is : IsEpochOf g n e) (after : Graph) (taken : IsAfter g e after) where
  pub told_is : (m : ℕ) → m < length g.nodes → ChannelsIn g m (standing after.nodes m).told
  told_is m l = (taken.nodes m l).told

  pub past_after : (m : ℕ) → length g.nodes ≤ m → standing after.nodes m ≡ nobody
  past_after m past = get_or_past after.nodes m nobody (let same = taken.many in omega (arith, past, same))

  quiet : (m : ℕ) → (standing after.nodes m).gave_up ≡ false
  quiet m = elim (cases_lt m (length g.nodes)) [
    | inl l ↦ ap (λ (s : Standing). s.gave_up) (taken.nodes m l).rest
    | inr past ↦ ap (λ (s : Standing). s.gave_up) (past_after m past)
  ]

  -- a node that lines have made is one of the nodes
  made_below : (m : ℕ) → m < count → m < length g.nodes
  made_below m l = let w = sound.made.within in omega (arith, l, w)

  -- the first input of a node that is there
  first_is : (m rate channels : ℕ) → (standing g.nodes m).there ≡ true → 0 < input_count (get_or g.kinds m Dummy)
      → FormIn g.ports (record { node = m; port = 0 }) rate channels → ChannelsIn g m channels
  first_is m rate channels there inputs form = inl (record {
    there = there;
    input = subst (λ (k : ℕ). 0 < k) (sym (input_count_is g.ports g.kinds sound.kinds m)) inputs;
    rate = rate;
    form = form;
  })

  module _ (plan : Plan) (like : IsLike g.quantum g.kinds plan) where
    first : (node rate channels : ℕ) → 0 < input_count (kind_at plan node) → HasForm e (record { node = node; port = 0 }) rate channels
        → ((standing after.nodes node).told ≡ channels) × (0 < channels)
    first node rate channels inputs h =
        let p : PortId = record { node = node; port = 0 } in
        let s = stands count g sound n e is p rate channels h in
        let made = form_made count g sound n e is p rate channels h in
        let own = first_is node rate channels (sound.made.there node made) (subst (λ (k : Kind). 0 < input_count k) (like.kind node) inputs) s.form in
        let r = form_ranges count g sound p rate channels s.form in (
          one_channels count g sound node (standing after.nodes node).told channels (told_is node (made_below node made)) own,
          (let c = r.2.0 in omega (arith, c)),
        )

    only : (node channels : ℕ) → Contains e.fresh (record { node = node; channels = channels })
        → (channels ≡ (standing after.nodes node).told) × Changes g.nodes after.nodes node
    only node channels w =
        let h = (is.fresh.each node channels).0 w in
        let l = fresh_below count g sound node channels h.0 h.1 in
        let same = one_channels count g sound node channels (standing after.nodes node).told h.0 (told_is node l) in
        (same, elim h.1 [ inl gave ↦ inl gave | inr other ↦ inr (λ d. other (same ∙ d)) ])

    named : (node : ℕ) → Changes g.nodes after.nodes node
        → Contains e.fresh (record { node = node; channels = (standing after.nodes node).told })
    named node h = elim (cases_lt node (length g.nodes)) [
      | inl l ↦ (is.fresh.each node (standing after.nodes node).told).1 (told_is node l, h)
      | inr past ↦ absurd (go (past_nodes count g sound node past) (past_after node past) h)
    ] where
      go : standing g.nodes node ≡ nobody → standing after.nodes node ≡ nobody → Changes g.nodes after.nodes node → ⊥
      go a b (inl gave) = both_ways (standing g.nodes node).gave_up (ap (λ (s : Standing). s.gave_up) a) gave
      go a b (inr other) = other (ap (λ (s : Standing). s.told) b ∙ sym (ap (λ (s : Standing). s.told) a))

    pub next_ok : IsNext plan g.ports g.nodes after.nodes e
    next_ok = record { forms = stands count g sound n e is; first = first; only = only; named = named; quiet = quiet }

    -- the one port of a sink
    kind_sink : (m : ℕ) → kind_at plan m ≡ Sink → get_or g.kinds m Dummy ≡ Sink
    kind_sink m k = sym (like.kind m) ∙ k

    port_zero : (port : PortId) (rate channels : ℕ) → kind_at plan port.node ≡ Sink → FormIn g.ports port rate channels → port.port ≡ 0
    port_zero port rate channels k f =
        let l : port.port < port_count Sink = subst (λ (d : Kind). port.port < port_count d) (kind_sink port.node k)
        (subst (λ (m : ℕ). port.port < m) (port_count_is g.ports g.kinds sound.kinds port.node) f.0) in
        omega (arith, l)

    -- what was noted of a sink after the epoch
    told_now : (port : PortId) (rate channels : ℕ) → kind_at plan port.node ≡ Sink → (standing g.nodes port.node).there ≡ true
        → FormIn g.ports port rate channels → (standing after.nodes port.node).told ≡ channels
    told_now port rate channels k there f =
        let below = port_below count g sound port f.0 in
        let l : port.node < length g.nodes = (let same = sound.nodes in omega (arith, below, same)) in
        let inputs : 0 < input_count (get_or g.kinds port.node Dummy) = subst (λ (d : Kind). 0 < input_count d) (sym (kind_sink port.node k)) (omega arith) in
        let form = subst (λ (q : ℕ). FormIn g.ports (record { node = port.node; port = q }) rate channels) (port_zero port rate channels k f) f in
        one_channels count g sound port.node (standing after.nodes port.node).told channels (told_is port.node l)
        (first_is port.node rate channels there inputs form)

    keeps : (port : PortId) (rate channels : ℕ) → kind_at plan port.node ≡ Sink → (standing g.nodes port.node).there ≡ true
        → Stands g.ports port rate channels → ((standing g.nodes port.node).kept || is_formed_sink g e port.node) ≡ true
        → KeepsIt g.ports after.nodes port rate channels
    keeps port rate channels k there f kept =
        let below = port_below count g sound port f.form.0 in
        let l : port.node < length g.nodes = (let same = sound.nodes in omega (arith, below, same)) in
        let rest = (taken.nodes port.node l).rest in
        record {
          there = ap (λ (s : Standing). s.there) rest ∙ there;
          kept = ap (λ (s : Standing). s.kept) rest ∙ kept;
          quiet = quiet port.node;
          told = told_now port rate channels k there f.form;
          form = f;
        }

    formed_now : (port : PortId) (rate channels : ℕ) → kind_at plan port.node ≡ Sink → HasForm e port rate channels
        → is_formed_sink g e port.node ≡ true
    formed_now port rate channels k h = and_from (is_sink (get_or g.kinds port.node Dummy)) (list_any (λ (f : PortForm). f.port.node == port.node) e.forms)
        (ap is_sink (kind_sink port.node k))
        (any_of (λ (f : PortForm). f.port.node == port.node) e.forms (record { port = port; rate = rate; channels = channels }) h
        (eq-eqb port.node port.node refl))

    pub sinks_ok : KeepsSinksOn plan g.ports g.nodes after.nodes e
    sinks_ok = record {
      still = λ port rate channels k was. keeps port rate channels k was.there was.form
          (or_left (standing g.nodes port.node).kept (is_formed_sink g e port.node) was.kept);
      formed = λ port rate channels k h.
          let s = stands count g sound n e is port rate channels h in
          keeps port rate channels k (sound.made.there port.node (form_made count g sound n e is port rate channels h)) s
          (or_right (standing g.nodes port.node).kept (is_formed_sink g e port.node) (formed_now port rate channels k h));
    }
