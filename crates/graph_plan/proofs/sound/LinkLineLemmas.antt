-- A `link` line keeps a sound graph sound.
use Rattle.std.proofs.Common.{◌≡◌, ℕ, ◌<◌, List, [], ◌∷◌, ◌++◌, length, get_or, Option, Some, None, true, false}
use Rattle.std.proofs.Common.{refl, sym, ap, ◌∙◌, subst, arith, length-append}
use Rattle.std.specs.Prelude.{IfSome, Contains}
use Rattle.std.specs.List.{All}
use Rattle.std.proofs.lemmas.Bool.{both_ways, and_from, eq-eqb}
use Rattle.std.proofs.lemmas.List.{map-append, length-map}
use Rattle.std.proofs.lemmas.List.Elements.{All-push, All-weaker, Contains-get_or}
use Rattle.std.proofs.lemmas.List.Quantifiers.{all_pairs_push}
use Rattle.pod_codec.specs.declared.pod.Pod.{Pod}
use Rattle.pw_graph.specs.declared.ids.PortId.{PortId}
use Rattle.pw_graph.specs.declared.plan.LinkLine.{LinkLine}
use Rattle.pw_graph.specs.declared.plan.LineOutcome.{LineOutcome}
use Rattle.pw_graph.specs.SoundShape.{IsBetween}
use Rattle.pw_graph.specs.Pools.{is_same_port}
use Rattle.format_filter.specs.declared.choice.Choice.{Choice}
use Rattle.format_filter.specs.declared.format.Format.{Format}
use Rattle.format_filter.specs.Members.{IsMember, pick_of}
use Rattle.format_filter.specs.Intersection.{Meets}
use Rattle.graph_script.specs.Kinds.{IsInput, IsOutput}
use Rattle.port_model.specs.declared.port_state.PortState.{PortState}
use Rattle.port_model.specs.declared.port_state.Node.{Node}
use Rattle.port_model.specs.PortState.{IsPort, AtPort, changed, with_port}
use Rattle.port_model.specs.Forms.{buffers_of}
use Rattle.port_model.specs.Offers.{int_of}
use Rattle.port_model.specs.SoundPorts.{IsNumber, AreSoundNodes}
use Rattle.port_model.proofs.NodeLemmas.{at_port}
use Rattle.port_model.proofs.OfferLemmas.{between_number}
use Rattle.link_negotiation.specs.declared.link.Link.{Link}
use Rattle.link_negotiation.specs.declared.negotiation.Linked.{Linked}
use Rattle.link_negotiation.specs.declared.negotiation.Linked.TheVariants as L
use Rattle.link_negotiation.specs.Links.{LinkState, joins, link_of, is_synchronous, are_linked}
use Rattle.link_negotiation.specs.LinkOutcome.{given, formatted, IsNewLink, IsLinkOutcome, LeavesLink}
use Rattle.link_negotiation.specs.Negotiation.{IsCount, MeetsIn, SharesBuffers}
use Rattle.link_negotiation.proofs.MayBeGivenLemmas.{there}
use Rattle.graph_lines.specs.declared.graph.Graph.{Graph}
use Rattle.graph_lines.specs.declared.graph.Stepped.TheVariants as T
use Rattle.graph_lines.specs.declared.standing.Standing.{Standing}
use Rattle.graph_lines.specs.declared.wire.Wire.{Wire}
use Rattle.graph_lines.specs.Forms.{HasKinds}
use Rattle.graph_lines.specs.LinkLines.{IsRecorded, NotesAlone, LinksLine}
use Rattle.graph_plan.specs.working.Reaching.{IsOrdered}
use Rattle.graph_plan.specs.working.SoundWires.{IsSoundWire, AreApart, AreSoundWires}
use Rattle.graph_plan.specs.working.Remembering.{Stands, CarriesOn}
use Rattle.graph_plan.specs.working.SoundGraph.{IsJoining, IsSoundGraph}
use Rattle.graph_plan.proofs.lists.ElementLemmas.{any_of, map_changed, stands_for}
use Rattle.graph_plan.proofs.sound.RankLemmas.{filtered_rank}
use Rattle.graph_plan.proofs.sound.SoundGraphLemmas.{port_there}
use Rattle.graph_plan.proofs.sound.MadeLinkLemmas.{IsMade, link_made}
use Rattle.graph_plan.proofs.sound.CarriesOnLemmas.{rebuilt_sound}

-- nodes that stay as they are carry on
pub carries : (nodes nodes' : List Node) (said : List Standing)
    → ((port : PortId) (rate channels : ℕ) → Stands nodes port rate channels → Stands nodes' port rate channels) → (n : ℕ)
    → CarriesOn nodes said nodes' said n
carries nodes nodes' said stands n = record {
  told = refl;
  there = λ h. h;
  kept = λ h. h;
  quiet = λ h. h;
  stands = λ quiet port rate channels h. stands (record { node = n; port = port }) rate channels h;
  held = λ kept quiet. quiet;
}

-- a line that only notes itself
pub noted_sound : (count : ℕ) (g after : Graph) (ports : List Node) (links : LinkState) (wires : List Wire) (lines : List LinkLine) (l : LinkLine)
    → IsSoundGraph count g → IsJoining g.kinds l → ports ≡ g.ports → links ≡ g.links → wires ≡ g.wires → lines ≡ g.lines ++ l ∷ []
    → after ≡ record g { ports = ports; links = links; wires = wires; lines = lines } → IsSoundGraph count after
noted_sound count g after ports links wires lines l sound joins p k w n same =
    rebuilt_sound count count g after g.ports g.links g.wires g.nodes lines sound (record {
      sound = sound.ports;
      kinds = sound.kinds;
      many = refl;
      made = sound.made;
      wires_sound = sound.wires;
      wired = sound.wired;
      marks = sound.marks;
      marked = sound.marked;
      order = sound.order;
      on = carries g.ports g.ports g.nodes (λ port rate channels h. h);
      joins = subst (All (IsJoining g.kinds)) (sym n) (All-push (IsJoining g.kinds) g.lines l sound.lines joins);
    }) (same ∙ parts)
  where
    parts : record g { ports = ports; links = links; wires = wires; lines = lines } ≡ record g { lines = lines }
    parts = ap (λ (x : List Node). record g { ports = x; links = links; wires = wires; lines = lines }) p
        ∙ (ap (λ (x : LinkState). record g { links = x; wires = wires; lines = lines }) k
        ∙ ap (λ (x : List Wire). record g { wires = x; lines = lines }) w)

-- A COUNT OF BUFFERS that two ports settle on is 1 to 8
counts : (s : PortState) → IfSome s.buffers (IsBetween 1 8) → (x : Pod) → IsMember (buffers_of s) x → IsNumber (IsBetween 1 8) x
counts s range x w = go s.buffers refl range w where
  go : (o : Option ℕ) → s.buffers ≡ o → IfSome s.buffers (IsBetween 1 8) → IsMember (buffers_of s) x → IsNumber (IsBetween 1 8) x
  go (Some n) e r m =
      let b : IsBetween 1 8 n = subst (λ (o : Option ℕ). IfSome o (IsBetween 1 8)) e r in
      between_number n n n 1 8 x b.0 b.1 (subst (λ (o : Option ℕ). IsMember (buffers_of (record s { buffers = o })) x) e m)
  go None e r m = between_number 2 1 8 1 8 x (omega arith) (omega arith)
      (subst (λ (o : Option ℕ). IsMember (buffers_of (record s { buffers = o })) x) e m)

same_count : (a b : ℕ) → int_of a ≡ int_of b → a ≡ b
same_count a b e = cc

settled_count : (own other : Choice) (n : ℕ) → ((x : Pod) → IsMember own x → IsNumber (IsBetween 1 8) x) → MeetsIn own other (Some n) → IsBetween 1 8 n
settled_count own other n h w = go w.0 w.1 w.2 where
  go : (c : Option Choice) → Meets own other c → IsCount c (Some n) → IsBetween 1 8 n
  go (Some c) m e =
      let k = h (pick_of c) (m.only (pick_of c) m.sound.pick).0 in
      subst (IsBetween 1 8) (same_count k.0 n (sym k.1 ∙ e)) k.2
  go None m e = absurd e

few_buffers : (nodes : List Node) (from to : PortId) (n : ℕ) → AreSoundNodes nodes → IsPort nodes from → IsPort nodes to
    → SharesBuffers nodes from to (Some n) → IsBetween 1 8 n
few_buffers nodes from to n sound is_from is_to w =
    let s = there nodes from sound is_from in
    let t = there nodes to sound is_to in
    let outer = at_port (λ (node : Node) (a : PortState). AtPort nodes to (λ (other : Node) (b : PortState). MeetsIn (buffers_of a) (buffers_of b) (Some n)))
    nodes from s.node s.state s.node_is s.state_is w in
    let inner = at_port (λ (other : Node) (b : PortState). MeetsIn (buffers_of s.state) (buffers_of b) (Some n)) nodes to t.node t.state t.node_is
    t.state_is outer in
    settled_count (buffers_of s.state) (buffers_of t.state) n (counts s.state s.sound.buffers) inner

-- A LINK THAT IS MADE
module _ (count : ℕ) (g : Graph) (sound : IsSoundGraph count g) (from to : PortId) (out : IsOutput g.kinds from) (in' : IsInput g.kinds to)
    (from_made : from.node < count) (to_made : to.node < count) where
  from_is : IsPort g.ports from
  from_is = port_there count g sound from out.1

  to_is : IsPort g.ports to
  to_is = port_there count g sound to (omega (arith, in'))

  abbrev pub wire_of : ℕ → Wire
  wire_of buffers = record { from = from; to = to; buffers = buffers }

  -- it is not there yet
  apart : (buffers : ℕ) → are_linked g.links.made from to ≡ false → (w : Wire) → Contains g.wires w → AreApart w (wire_of buffers)
  apart buffers once w c same =
      let link : Contains g.links.made (link_of w.from w.to) = subst (λ (ls : List Link). Contains ls (link_of w.from w.to)) sound.wired
      (stands_for (λ (x : Wire). link_of x.from x.to) g.wires w c) in
      both_ways (are_linked g.links.made from to) once (any_of (joins from to) g.links.made (link_of w.from w.to) link
      (and_from (is_same_port w.from from) (is_same_port w.to to) (same_port w.from from same.0) (same_port w.to to same.1)))
    where
      same_port : (p q : PortId) → p ≡ q → is_same_port p q ≡ true
      same_port p q e = and_from _ _ (eq-eqb p.node q.node (ap (λ (x : PortId). x.node) e)) (eq-eqb p.port q.port (ap (λ (x : PortId). x.port) e))

  module _ (format : Format) (buffers : ℕ) (made : IsMade g.ports (formatted g.ports from to format) from to) (new : IsNewLink g.links from to)
      (range : IsBetween 1 8 buffers) (few : length g.links.made < 256) (l : LinkLine) (joins_l : IsJoining g.kinds l) where
    wires_ok : AreSoundWires g.kinds (formatted g.ports from to format) (g.wires ++ wire_of buffers ∷ [])
    wires_ok = record {
      few = (let a = length-append g.wires (wire_of buffers ∷ []) in let b = ap length sound.wired in
          let c = length-map g.wires (λ (w : Wire). link_of w.from w.to) in omega (arith, a, b, c, few));
      each = All-push (IsSoundWire g.kinds (formatted g.ports from to format)) g.wires (wire_of buffers)
          (All-weaker (IsSoundWire g.kinds g.ports) (IsSoundWire g.kinds (formatted g.ports from to format)) (λ w s. record {
            from = s.from;
            to = s.to;
            apart = s.apart;
            buffers = s.buffers;
            rate = s.rate;
            channels = s.channels;
            from_format = made.formats w.from s.rate s.channels s.from_format;
            to_format = made.formats w.to s.rate s.channels s.to_format;
          }) g.wires sound.wires.each)
          (record {
            from = out;
            to = in';
            apart = new.other;
            buffers = range;
            rate = made.rate;
            channels = made.channels;
            from_format = made.from_format;
            to_format = made.to_format;
          });
      apart = all_pairs_push AreApart g.wires (wire_of buffers) sound.wires.apart
          (λ k d b. apart buffers new.once (get_or g.wires k d) (Contains-get_or g.wires k d b));
    }

    kinds_ok : HasKinds (formatted g.ports from to format) g.kinds
    kinds_ok = map_changed (λ (n : Node). n.kind) (with_port g.ports from (given format)) to.node
        (λ node. record node { ports = changed node.ports to.port (given format) }) (λ node. refl)
        ∙ (map_changed (λ (n : Node). n.kind) g.ports from.node (λ node. record node { ports = changed node.ports from.port (given format) })
        (λ node. refl) ∙ sound.kinds)

    order_ok : IsOrdered (record g.links { made = g.links.made ++ link_of from to ∷ [] })
    order_ok = filtered_rank (is_synchronous g.links) g.links.made (link_of from to) sound.order
        (λ e walk. new.straight (e, walk))

    pub made_sound : (after : Graph) (ports : List Node) (links : LinkState) (wires : List Wire) (lines : List LinkLine)
        → links ≡ record g.links { made = g.links.made ++ link_of from to ∷ [] } → ports ≡ formatted g.ports from to format
        → wires ≡ g.wires ++ wire_of buffers ∷ [] → lines ≡ g.lines ++ l ∷ []
        → after ≡ record g { ports = ports; links = links; wires = wires; lines = lines } → IsSoundGraph count after
    made_sound after ports links wires lines k p w n same =
        rebuilt_sound count count g after (formatted g.ports from to format) (record g.links { made = g.links.made ++ link_of from to ∷ [] })
        (g.wires ++ wire_of buffers ∷ []) g.nodes lines sound (record {
          sound = made.sound;
          kinds = kinds_ok;
          many = refl;
          made = record {
            within = sound.made.within;
            there = sound.made.there;
            wires_at = All-push (λ (x : Wire). (x.from.node < count) × (x.to.node < count)) g.wires (wire_of buffers) sound.made.wires_at
                (from_made, to_made);
            prior = sound.made.prior;
          };
          wires_sound = wires_ok;
          wired = map-append (λ (x : Wire). link_of x.from x.to) g.wires (wire_of buffers ∷ [])
              ∙ ap (λ (ls : List Link). ls ++ link_of from to ∷ []) sound.wired;
          marks = sound.marks;
          marked = sound.marked;
          order = order_ok;
          on = carries g.ports (formatted g.ports from to format) g.nodes made.stands;
          joins = subst (All (IsJoining g.kinds)) (sym n) (All-push (IsJoining g.kinds) g.lines l sound.lines joins_l);
        }) (same ∙ parts)
      where
        parts : record g { ports = ports; links = links; wires = wires; lines = lines }
            ≡ record g {
              ports = formatted g.ports from to format;
              links = record g.links { made = g.links.made ++ link_of from to ∷ [] };
              wires = g.wires ++ wire_of buffers ∷ [];
              lines = lines;
            }
        parts = ap (λ (x : List Node). record g { ports = x; links = links; wires = wires; lines = lines }) p
            ∙ (ap (λ (x : LinkState). record g { ports = formatted g.ports from to format; links = x; wires = wires; lines = lines }) k
            ∙ ap (λ (x : List Wire). record g {
              ports = formatted g.ports from to format;
              links = record g.links { made = g.links.made ++ link_of from to ∷ [] };
              wires = x;
              lines = lines;
            }) w)

  -- ANY LINK LINE that is done
  pub links_sound : (after : Graph) → LinksLine g from to T.Done after → IsSoundGraph count after
  links_sound after h = go h.linked h.outcome h.leaves h.noted where
    line : LineOutcome → LinkLine
    line outcome = record { from = from; to = to; outcome = outcome }

    alone : (outcome : LineOutcome) → (after.links ≡ g.links) × (after.ports ≡ g.ports) → NotesAlone g from to outcome T.Done after
        → IsSoundGraph count after
    alone outcome k n = noted_sound count g after after.ports after.links after.wires after.lines (line outcome) sound (out, in') k.1 k.0 n.1 n.2 h.same

    go : (linked : Linked) → IsLinkOutcome g.links g.ports from to linked → LeavesLink g.links g.ports from to linked after.links after.ports
        → IsRecorded g from to linked T.Done after → IsSoundGraph count after
    go (L.Made format buffers) o k n =
        made_sound format buffers
        (link_made g.ports from to format sound.ports from_is to_is o.0.other o.1.0) o.0
        (few_buffers g.ports from to buffers sound.ports from_is to_is o.1.1) o.1.2 (line _) (out, in')
        after after.ports after.links after.wires after.lines k.0 k.1 n.1 n.2.3 h.same
    go (L.NoFormat key) o k n = alone _ k n
    go L.NoBuffers o k n = alone _ k n
    go L.Twice o k n = alone _ k n
    go L.Loop o k n = alone _ k n
    go L.Many o k n = cc
