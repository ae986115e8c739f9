-- The epoch that a line makes of a sound graph is sound by itself.
use Rattle.std.proofs.Common.{◌≡◌, ◌⊎◌, inl, inr, ℕ, ◌<◌, ◌≤◌, List, length, get_or, filter}
use Rattle.std.proofs.Common.{false, ◌&&◌, None, sym, ap, ◌∙◌, subst, arith}
use Rattle.std.specs.Prelude.{Contains, IsSome}
use Rattle.std.specs.List.{AllPairs}
use Rattle.std.proofs.lemmas.Bool.{and_parts, and_from, or_parts, not_from_false}
use Rattle.std.proofs.lemmas.List.Kept.{AllPairs-filter}
use Rattle.std.proofs.lemmas.List.Sums.{length-filter, count_by-le-length}
use Rattle.pw_graph.specs.declared.ids.PortId.{PortId}
use Rattle.pw_graph.specs.declared.kind.Kind.{Kind}
use Rattle.pw_graph.specs.declared.kind.Kind.TheVariants.{Dummy}
use Rattle.pw_graph.specs.declared.plan.Epoch.{Epoch}
use Rattle.pw_graph.specs.declared.plan.Fresh.{Fresh}
use Rattle.pw_graph.specs.declared.plan.Plan.{Plan}
use Rattle.pw_graph.specs.declared.plan.PortForm.{PortForm}
use Rattle.pw_graph.specs.declared.shape.ShapeLink.{ShapeLink}
use Rattle.pw_graph.specs.declared.shape.ShapeNode.{ShapeNode}
use Rattle.pw_graph.specs.Dependencies.{nodes_of}
use Rattle.pw_graph.specs.KindPorts.{input_count, port_count}
use Rattle.pw_graph.specs.KindRanges.{IsSinkOrMeter, MayHaveRate, MayHaveChannels, SharesChannels}
use Rattle.pw_graph.specs.LinkOrder.{HasOrder}
use Rattle.pw_graph.specs.PlanForms.{kind_at, HasForm, IsSoundForm, AreShared, IsFormed, HasSoundForms}
use Rattle.pw_graph.specs.PlanFresh.{IsSoundFresh}
use Rattle.pw_graph.specs.Pools.{AreAlike, IsPooledShape}
use Rattle.pw_graph.specs.SoundPlan.{HasSoundPlaces}
use Rattle.pw_lists.specs.Limits.{quantum_limit}
use Rattle.pw_graph.specs.SoundShape.{IsBetween, IsSoundLink, HasSoundLinks, HasSoundNodes, HasSoundCycles}
use Rattle.port_model.specs.declared.port_state.PortState.{PortState}
use Rattle.port_model.specs.declared.port_state.Node.{Node}
use Rattle.port_model.specs.PortState.{IsPort}
use Rattle.port_model.proofs.NodeLemmas.{at_port, port_at}
use Rattle.link_negotiation.specs.declared.link.Link.{Link}
use Rattle.link_negotiation.specs.Links.{link_of, is_synchronous}
use Rattle.link_negotiation.proofs.MayBeGivenLemmas.{there}
use Rattle.graph_lines.specs.declared.graph.Graph.{Graph}
use Rattle.graph_lines.specs.declared.wire.Wire.{Wire}
use Rattle.graph_lines.specs.Activity.{standing, is_live, live_wires, HasWire}
use Rattle.graph_lines.specs.Epochs.{has_node, is_used, IsLinkOf, IsEpochOf}
use Rattle.graph_lines.specs.Forms.{IsFormOfPort, FormIn}
use Rattle.graph_lines.specs.Sums.{sums_with, passed}
use Rattle.graph_plan.specs.working.SoundWires.{IsSoundWire, AreApart}
use Rattle.graph_plan.specs.working.Remembering.{IsLike, HasSomeFormat, Stands}
use Rattle.graph_plan.specs.working.SoundGraph.{IsSoundPart, IsSoundGraph}
use Rattle.graph_plan.proofs.lists.ElementLemmas.{origin, kept, stands_for, number_found, all_of, pairs_of, zip_length, zip_at, zip_all}
use Rattle.graph_plan.proofs.sound.FormLemmas.{one_form, port_count_is, input_count_is, kind_at_is, formatted_form, channels_shared}
use Rattle.graph_plan.proofs.sound.FormattedNodeLemmas.{whole_in, shared_in}
use Rattle.graph_plan.proofs.sound.ActiveLemmas.{active_cases, driver_active, live_is, IsCandidate, driver_cases, end_drives, no_output}
use Rattle.graph_plan.proofs.sound.RangeLemmas.{within_limits}
use Rattle.graph_plan.proofs.sound.SoundGraphLemmas.{few_nodes, count_within, wire_at, from_there, to_there, wire_format, wire_made, port_there, port_below, form_ranges, fresh_below}

module _ (count : ℕ) (g : Graph) (sound : IsSoundGraph count g) (n : ℕ) (e : Epoch) (is : IsEpochOf g n e) where
  -- an active node drives, or has a link
  node_cases : (m : ℕ) → Contains (nodes_of e.shape) m → (m ≡ e.shape.driver) ⊎ HasWire g.wires m
  node_cases m c = elim (active_cases (live_wires g.nodes g.wires) e.shape.driver m ((is.nodes.active m).0 c)) [
    | inl same ↦ inl same
    | inr w ↦ inr (live_is g.nodes g.wires m w)
  ]

  drives : (e.shape.driver ≡ 63) ⊎ IsCandidate g.kinds g.nodes e.shape.driver
  drives = driver_cases g.kinds g.nodes e.shape.driver is.nodes.driver

  driver_ends : IsCandidate g.kinds g.nodes e.shape.driver → IsSinkOrMeter (get_or g.kinds e.shape.driver Dummy)
  driver_ends k = end_drives (get_or g.kinds e.shape.driver Dummy) k.drives

  -- an active node is 63, which drives, or one that lines have made
  pub made_cases : (m : ℕ) → Contains (nodes_of e.shape) m → ((m ≡ 63) × (e.shape.driver ≡ 63)) ⊎ (m < count)
  made_cases m c = elim (node_cases m c) [
    | inl same ↦ elim drives [
      | inl d ↦ inl (same ∙ d, d)
      | inr k ↦ inr (subst (λ (x : ℕ). x < count) (sym same) (sound.made.prior e.shape.driver k.priority k.has))
    ]
    | inr w ↦ inr (wire_made count g sound m w)
  ]

  small : (m : ℕ) → m < count → m < 63
  small m l = omega (arith, l, count_within count g sound, few_nodes count g sound)

  -- a form of the epoch is one of the graph, of an active node
  form_at : (port : PortId) (rate channels : ℕ) → HasForm e port rate channels
      → Contains (nodes_of e.shape) port.node × FormIn g.ports port rate channels
  form_at port rate channels h = (is.forms.each port rate channels).0 h

  port_small : (port : PortId) → IsPort g.ports port → port.node ≡ 63 → ⊥
  port_small port is' e' = omega (arith, e', port_below count g sound port is', few_nodes count g sound)

  some_format : (port : PortId) (rate channels : ℕ) → Contains (nodes_of e.shape) port.node → FormIn g.ports port rate channels
      → HasSomeFormat g.ports port.node
  some_format port rate channels c f = elim (node_cases port.node c) [
    | inr w ↦ wire_format count g sound port.node w
    | inl same ↦ elim drives [
      | inl d ↦ absurd (port_small port f.0 (same ∙ d))
      | inr k ↦
          let t = there g.ports port sound.ports f.0 in
          let own = at_port (IsFormOfPort rate channels) g.ports port t.node t.state t.node_is t.state_is f.1 in
          let kind = kind_at_is g.ports g.kinds sound.kinds port.node t.node t.node_is in
          let ends : IsSinkOrMeter t.node.kind = subst IsSinkOrMeter (sym (kind ∙ ap (λ (m : ℕ). get_or g.kinds m Dummy) same)) (driver_ends k) in
          record {
            port = port.port;
            there = f.0;
            has = port_at (λ (node : Node) (s : PortState). IsSome s.format) g.ports port t.node t.state t.node_is t.state_is (own.1 ends);
          }
    ]
  ]

  pub stands : (port : PortId) (rate channels : ℕ) → HasForm e port rate channels → Stands g.ports port rate channels
  stands port rate channels h = let f = form_at port rate channels h in
      record { form = f.1; some = some_format port rate channels f.0 f.1 }

  -- a form is of a node that lines have made
  pub form_made : (port : PortId) (rate channels : ℕ) → HasForm e port rate channels → port.node < count
  form_made port rate channels h = let f = form_at port rate channels h in elim (made_cases port.node f.0) [
    | inl d ↦ absurd (port_small port f.1.0 d.0)
    | inr l ↦ l
  ]

  -- LINKS
  link_ok : (w : Wire) (l : ShapeLink) → Contains (filter (is_used g e.shape) g.wires) w → IsLinkOf g w l → IsSoundLink e.shape l
  link_ok w l c k =
      let o = origin (is_used g e.shape) g.wires w c in
      let s = wire_at count g sound w o.0 in
      let u = and_parts (is_live g.nodes w) (has_node e.shape w.from.node && has_node e.shape w.to.node) o.1 in
      let v = and_parts (has_node e.shape w.from.node) (has_node e.shape w.to.node) u.1 in
      record {
        from_active = subst (λ (p : PortId). Contains (nodes_of e.shape) p.node) (sym k.from) (number_found (nodes_of e.shape) w.from.node v.0);
        to_active = subst (λ (p : PortId). Contains (nodes_of e.shape) p.node) (sym k.to) (number_found (nodes_of e.shape) w.to.node v.1);
        from_follower = λ d. follower s (ap (λ (p : PortId). p.node) (sym k.from) ∙ d);
        ends = λ d. s.apart (ap (λ (p : PortId). p.node) (sym k.from) ∙ (d ∙ ap (λ (p : PortId). p.node) k.to));
        channels = (form_ranges count g sound w.from k.rate l.channels k.form).2;
        buffers = subst (IsBetween 1 8) (sym k.buffers) s.buffers;
      }
    where
      follower : IsSoundWire g.kinds g.ports w → w.from.node ≡ e.shape.driver → ⊥
      follower s d = elim drives [
        | inl f ↦ port_small w.from (from_there count g sound w s) (d ∙ f)
        | inr c' ↦ no_output (get_or g.kinds w.from.node Dummy) w.from.port
            (subst (λ (m : ℕ). IsSinkOrMeter (get_or g.kinds m Dummy)) (sym d) (driver_ends c')) s.from.0 s.from.1
      ]

  rank_ok : HasOrder e.shape.links
  rank_ok = record {
    rank = sound.order.rank;
    rises = zip_all (IsLinkOf g) (λ (l : ShapeLink). l.delayed ≡ false → sound.order.rank l.from.node < sound.order.rank l.to.node)
        (filter (is_used g e.shape) g.wires) e.shape.links rises is.links;
  } where
    rises : (w : Wire) (l : ShapeLink) → Contains (filter (is_used g e.shape) g.wires) w → IsLinkOf g w l → l.delayed ≡ false
        → sound.order.rank l.from.node < sound.order.rank l.to.node
    rises w l c k d =
        let o = origin (is_used g e.shape) g.wires w c in
        let link = link_of w.from w.to in
        let made : Contains g.links.made (link_of w.from w.to) =
        subst (λ (ls : List Link). Contains ls (link_of w.from w.to)) sound.wired
        (stands_for (λ (x : Wire). link_of x.from x.to) g.wires w o.0) in
        let both = or_parts (standing g.nodes w.from.node).marked (standing g.nodes w.to.node).marked (sym k.delayed ∙ d) in
        let synchronous = and_from _ _ (not_from_false _ (sound.marked w.from.node ∙ both.0)) (not_from_false _ (sound.marked w.to.node ∙ both.1)) in
        let up = sound.order.rises (link_of w.from w.to) (kept (is_synchronous g.links) g.links.made (link_of w.from w.to) made synchronous) in
        subst (λ (p : PortId). sound.order.rank p.node < sound.order.rank l.to.node) (sym k.from)
        (subst (λ (p : PortId). sound.order.rank w.from.node < sound.order.rank p.node) (sym k.to) up)

  -- two links beside their wires
  wire_for : ShapeLink → Wire
  wire_for l = record { from = l.from; to = l.to; buffers = l.buffers }

  at_wire : (i : ℕ) (d : ShapeLink) → i < length e.shape.links
      → IsLinkOf g (get_or (filter (is_used g e.shape) g.wires) i (wire_for d)) (get_or e.shape.links i d)
  at_wire i d l = zip_at (IsLinkOf g) (filter (is_used g e.shape) g.wires) e.shape.links i (wire_for d) d is.links
      (omega (arith, l, zip_length (IsLinkOf g) (filter (is_used g e.shape) g.wires) e.shape.links is.links))

  links_ok : HasSoundLinks e.shape
  links_ok = record {
    few = (let a = zip_length (IsLinkOf g) (filter (is_used g e.shape) g.wires) e.shape.links is.links in
        let b = length-filter (is_used g e.shape) g.wires in
        let c = count_by-le-length (is_used g e.shape) g.wires in
        let f = sound.wires.few in omega (arith, a, b, c, f));
    each = zip_all (IsLinkOf g) (IsSoundLink e.shape) (filter (is_used g e.shape) g.wires) e.shape.links link_ok is.links;
    apart = λ i j d a b same.
        let v = at_wire i d (omega arith) in
        let w = at_wire j d b in
        AllPairs-filter AreApart (is_used g e.shape) g.wires sound.wires.apart i j (wire_for d) a
        (omega (arith, b, zip_length (IsLinkOf g) (filter (is_used g e.shape) g.wires) e.shape.links is.links))
        (sym v.from ∙ (same.0 ∙ w.from), sym v.to ∙ (same.1 ∙ w.to));
    order = rank_ok;
  }

  alike_ok : AllPairs AreAlike e.shape.links
  alike_ok i j d a b same =
      let v = at_wire i d (omega arith) in
      let w = at_wire j d b in
      (one_form g.ports sound.ports (get_or e.shape.links i d).from v.rate (get_or e.shape.links i d).channels w.rate
      (get_or e.shape.links j d).channels (subst (λ (p : PortId). FormIn g.ports p v.rate (get_or e.shape.links i d).channels) (sym v.from) v.form)
      (subst (λ (p : PortId). FormIn g.ports p w.rate (get_or e.shape.links j d).channels) (sym (same ∙ w.from)) w.form)).1

  -- NODES AND CYCLES
  nodes_ok : HasSoundNodes e.shape
  nodes_ok = record {
    ascend = is.nodes.ascend;
    numbers = all_of (λ (x : ShapeNode). x.node ≤ 63) e.shape.nodes (λ x c.
        elim (made_cases x.node (stands_for (λ (y : ShapeNode). y.node) e.shape.nodes x c)) [
          | inl d ↦ omega (arith, d.0)
          | inr l ↦ omega (arith, small x.node l)
        ]);
    driver = (is.nodes.active e.shape.driver).1 (driver_active (live_wires g.nodes g.wires) e.shape.driver);
  }

  module _ (within : passed (sums_with g.kinds g.sums e) ≡ None) (some : 1 ≤ n) where
    cycles_ok : HasSoundCycles e.shape
    cycles_ok = record {
      quantum = subst (IsBetween 1 quantum_limit) (sym is.quantum) sound.quantum;
      some = (let c = is.cycles in omega (arith, c, some));
      events = (let l = (within_limits (sums_with g.kinds g.sums e) within).0 in omega (arith, l));
      numbers = (let l = (within_limits (sums_with g.kinds g.sums e) within).0 in
          let a = sound.sums.cycles in let f = is.first in omega (arith, l, a, f));
    }

    pub shape_ok : IsPooledShape e.shape
    shape_ok = record {
      sound = record { cycles = cycles_ok; nodes = nodes_ok; counts = is.nodes.counts; links = links_ok };
      alike = alike_ok;
    }

  -- IN A PLAN like the graph
  module _ (plan : Plan) (like : IsLike g.quantum g.kinds plan) where
    places_ok : HasSoundPlaces plan e
    places_ok = record {
      places = λ m c ne. elim (made_cases m c) [
        | inl d ↦ absurd (ne d.0)
        | inr l ↦ (let k = like.count in omega (arith, l, k, count_within count g sound))
      ];
      dummy = λ c. elim (made_cases 63 c) [ inl d ↦ d.1 | inr l ↦ absurd (let k = small 63 l in omega (arith, k)) ];
      driver = elim drives [ inl d ↦ inl d | inr k ↦ inr (subst IsSinkOrMeter (sym (like.kind e.shape.driver)) (driver_ends k)) ];
    }

    port_in : (port : PortId) → port.port < port_count (kind_at plan port.node) → IsPort g.ports port
    port_in port h = port_there count g sound port (subst (λ (k : Kind). port.port < port_count k) (like.kind port.node) h)

    in_port : (port : PortId) → IsPort g.ports port → port.port < port_count (kind_at plan port.node)
    in_port port h = subst (λ (k : Kind). port.port < port_count k) (sym (like.kind port.node))
        (subst (λ (m : ℕ). port.port < m) (port_count_is g.ports g.kinds sound.kinds port.node) h)

    form_ok : (f : PortForm) → Contains e.forms f → IsSoundForm plan e f
    form_ok f c =
        let h = form_at f.port f.rate f.channels c in
        let r = form_ranges count g sound f.port f.rate f.channels h.1 in
        record {
          active = h.0;
          port = in_port f.port h.1.0;
          rate = subst (λ (k : Kind). MayHaveRate k f.rate) (sym (like.kind f.port.node)) r.0;
          channels = subst (λ (k : Kind). MayHaveChannels k f.port.port f.channels) (sym (like.kind f.port.node)) r.1;
        }

    shared_ok : (f h : PortForm) → Contains e.forms f → Contains e.forms h → AreShared plan f h
    shared_ok f h c d same =
        let a = form_at f.port f.rate f.channels c in
        let b = form_at h.port h.rate h.channels d in
        let some = some_format f.port f.rate f.channels a.0 a.1 in
        let t = there g.ports f.port sound.ports a.1.0 in
        let other : FormIn g.ports (record { node = f.port.node; port = h.port.port }) h.rate h.channels =
        subst (λ (m : ℕ). FormIn g.ports (record { node = m; port = h.port.port }) h.rate h.channels) (sym same) b.1 in
        let r = shared_in g.ports sound.ports f.port.node some f.port.port h.port.port f.rate f.channels h.rate h.channels a.1 other t.node t.node_is in (
          r.0,
          λ shares. r.1 (channels_shared t.node.kind (subst SharesChannels
              (like.kind f.port.node ∙ sym (kind_at_is g.ports g.kinds sound.kinds f.port.node t.node t.node_is)) shares)),
        )

    has_form_there : (port : PortId) (rate channels : ℕ) → Contains (nodes_of e.shape) port.node → FormIn g.ports port rate channels
        → HasForm e port rate channels
    has_form_there port rate channels c f = (is.forms.each port rate channels).1 (c, f)

    formed_ok : (w : Wire) (l : ShapeLink) → Contains (filter (is_used g e.shape) g.wires) w → IsLinkOf g w l → IsFormed plan e l
    formed_ok w l c k =
        let o = origin (is_used g e.shape) g.wires w c in
        let s = wire_at count g sound w o.0 in
        let ends = link_ok w l c k in
        let from = formatted_form g.ports sound.ports w.from s.rate s.channels (from_there count g sound w s) s.from_format in
        let to = formatted_form g.ports sound.ports w.to s.rate s.channels (to_there count g sound w s) s.to_format in
        let same = (one_form g.ports sound.ports w.from k.rate l.channels s.rate s.channels k.form from).1 in
        record {
          output = (
            subst (λ (p : PortId). input_count (kind_at plan p.node) ≤ p.port) (sym k.from)
                (subst (λ (d : Kind). input_count d ≤ w.from.port) (sym (like.kind w.from.node)) s.from.0),
            subst (λ (p : PortId). p.port < port_count (kind_at plan p.node)) (sym k.from)
                (subst (λ (d : Kind). w.from.port < port_count d) (sym (like.kind w.from.node)) s.from.1),
          );
          input = subst (λ (p : PortId). p.port < input_count (kind_at plan p.node)) (sym k.to)
              (subst (λ (d : Kind). w.to.port < input_count d) (sym (like.kind w.to.node)) s.to);
          rate = s.rate;
          from = has_form_there l.from s.rate l.channels ends.from_active
              (subst (λ (p : PortId). FormIn g.ports p s.rate l.channels) (sym k.from)
              (subst (FormIn g.ports w.from s.rate) (sym same) from));
          to = has_form_there l.to s.rate l.channels ends.to_active
              (subst (λ (p : PortId). FormIn g.ports p s.rate l.channels) (sym k.to)
              (subst (FormIn g.ports w.to s.rate) (sym same) to));
        }

    forms_ok : HasSoundForms plan e
    forms_ok = record {
      ascend = is.forms.ascend;
      each = all_of (IsSoundForm plan e) e.forms form_ok;
      shared = pairs_of (AreShared plan) e.forms shared_ok;
      whole = λ port c follower h. elim (node_cases port.node c) [
        | inl same ↦ absurd (follower same)
        | inr w ↦
            let f = whole_in g.ports sound.ports port.node (wire_format count g sound port.node w) port.port (port_in port h) in
            (f.0, f.1, has_form_there port f.0 f.1 c f.2)
      ];
      links = zip_all (IsLinkOf g) (IsFormed plan e) (filter (is_used g e.shape) g.wires) e.shape.links formed_ok is.links;
    }

    fresh_ok : (x : Fresh) → Contains e.fresh x → IsSoundFresh plan x
    fresh_ok x c =
        let h = (is.fresh.each x.node x.channels).0 c in
        let l = fresh_below count g sound x.node x.channels h.0 h.1 in
        record {
          place = (let a = like.count in let b = sound.nodes in omega (arith, l, a, b));
          channels = elim h.0 [
            | inl first ↦ inr (
              subst (λ (k : Kind). 0 < input_count k) (sym (like.kind x.node))
                  (subst (λ (m : ℕ). 0 < m) (input_count_is g.ports g.kinds sound.kinds x.node) first.input),
              subst (λ (k : Kind). MayHaveChannels k 0 x.channels) (sym (like.kind x.node))
                  (form_ranges count g sound (record { node = x.node; port = 0 }) first.rate x.channels first.form).1,
            )
            | inr none ↦ inl none.0
          ];
        }

    -- THE EPOCH IS SOUND
    pub part_ok : passed (sums_with g.kinds g.sums e) ≡ None → 1 ≤ n → IsSoundPart plan e
    part_ok within some = record {
      shape = shape_ok within some;
      quantum = is.quantum ∙ sym like.quantum_is;
      places = places_ok;
      forms = forms_ok;
      ascend = is.fresh.ascend;
      fresh = all_of (IsSoundFresh plan) e.fresh fresh_ok;
    }
