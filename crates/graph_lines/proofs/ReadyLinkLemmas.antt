-- A sound graph after a `link` line.
use Rattle.std.proofs.Common.{◌≡◌, ℕ, pos, List, [], ◌∷◌, ◌++◌, Option, Some, None, refl, sym, ap, subst, arith}
use Rattle.std.specs.Prelude.{All, IfSome, IsSome}
use Rattle.std.specs.Option.{option_map_or}
use Rattle.std.proofs.lemmas.List.Elements.{All-push, All-weaker}
use Rattle.pw_graph.specs.declared.ids.PortId.{PortId}
use Rattle.pw_graph.specs.declared.kind.Kind.{Kind}
use Rattle.pw_graph.specs.SoundShape.{IsBetween}
use Rattle.format_filter.specs.declared.choice.Choice.{Choice}
use Rattle.format_filter.specs.declared.choice.Choice.TheVariants.{Range}
use Rattle.format_filter.specs.declared.choice.Wide.TheVariants as wide
use Rattle.format_filter.specs.declared.format.Format.{Format}
use Rattle.format_filter.specs.Members.{IsMember, pick_of}
use Rattle.format_filter.specs.Intersection.{Meets}
use Rattle.port_model.specs.declared.port_state.PortState.{PortState}
use Rattle.port_model.specs.declared.port_state.Node.{Node}
use Rattle.port_model.specs.PortState.{IsPort, IsInput, IsOutput, AtPort, with_port, changed}
use Rattle.port_model.specs.Offers.{int_of}
use Rattle.port_model.specs.Forms.{buffers_of}
use Rattle.port_model.specs.SoundPorts.{AreSoundNodes, IsNumber}
use Rattle.port_model.proofs.NodeLemmas.{at_port, port_at, count_kept}
use Rattle.port_model.proofs.OfferLemmas.{between_number}
use Rattle.port_model.proofs.TakingLemmas.{nodes_taken}
use Rattle.link_negotiation.specs.declared.negotiation.Linked.{Linked}
use Rattle.link_negotiation.specs.declared.negotiation.Linked.TheVariants as L
use Rattle.link_negotiation.specs.declared.common_formats.Negotiated.TheVariants as negotiated
use Rattle.link_negotiation.specs.Links.{LinkState}
use Rattle.link_negotiation.specs.Negotiation.{Negotiates, IsCount, MeetsIn, SharesBuffers}
use Rattle.link_negotiation.specs.LinkOutcome.{given, formatted, MayBeGiven, IsLinkOutcome, LeavesLink}
use Rattle.link_negotiation.proofs.MayBeGivenLemmas.{IsThere, there, gives_own, gives_other, elsewhere, taken_given, kept_given}
use Rattle.graph_lines.specs.declared.graph.Graph.{Graph}
use Rattle.graph_lines.specs.declared.graph.Stepped.{Stepped}
use Rattle.graph_lines.specs.declared.wire.Wire.{Wire}
use Rattle.graph_lines.specs.Forms.{HasKinds}
use Rattle.graph_lines.specs.LinkLines.{IsRecorded}
use Rattle.graph_lines.specs.Ready.{IsReadyWire, HasReadyMarks, IsReady}
use Rattle.graph_lines.proofs.PortLemmas.{input_is_port, int_one}
use Rattle.graph_lines.proofs.ReadyWireLemmas.{kinds_kept, output_kept, input_kept, given_kept, given_there, wire_kept}
use Rattle.graph_lines.proofs.WireLemmas.{same_wires, links_wired}

-- THE NUMBER OF BUFFERS: what a port's count admits is 1 to 8
int_between : (n : ℕ) → IsNumber (IsBetween 1 8) (int_of n) → IsBetween 1 8 n
int_between n w = let same : w.0 ≡ n = int_one w.0 n (sym w.1) in subst (IsBetween 1 8) same w.2

admits_few : (s : PortState) (n : ℕ) → IfSome s.buffers (IsBetween 1 8) → IsMember (buffers_of s) (int_of n) → IsBetween 1 8 n
admits_few s n range member = go s.buffers range member where
  go : (o : Option ℕ) → IfSome o (IsBetween 1 8)
      → IsMember (option_map_or (λ k. Range wide.Int (pos k) (pos k) (pos k)) o (Range wide.Int (pos 2) (pos 1) (pos 8))) (int_of n)
      → IsBetween 1 8 n
  go None range m = int_between n (between_number 2 1 8 1 8 (int_of n) (omega arith) (omega arith) m)
  go (Some k) range m = int_between n (between_number k k k 1 8 (int_of n) range.0 range.1 m)

few_meet : (s : PortState) (other : Choice) (n : ℕ) → IfSome s.buffers (IsBetween 1 8) → MeetsIn (buffers_of s) other (Some n) → IsBetween 1 8 n
few_meet s other n range m = go m.0 m.1 m.2 where
  go : (c : Option Choice) → Meets (buffers_of s) other c → IsCount c (Some n) → IsBetween 1 8 n
  go None meets count = absurd count
  go (Some c) meets count = admits_few s n range
      (subst (IsMember (buffers_of s)) count (meets.only (pick_of c) meets.sound.pick).0)

few_shared : (nodes : List Node) (from to : PortId) (n : ℕ) → AreSoundNodes nodes → IsPort nodes from → IsPort nodes to
    → SharesBuffers nodes from to (Some n) → IsBetween 1 8 n
few_shared nodes from to n sound is other h =
    let s = there nodes from sound is in
    let t = there nodes to sound other in
    let outer = at_port (λ (node : Node) (u : PortState). AtPort nodes to (λ (m : Node) (v : PortState). MeetsIn (buffers_of u) (buffers_of v) (Some n)))
    nodes from s.node s.state s.node_is s.state_is h in
    let inner = at_port (λ (m : Node) (v : PortState). MeetsIn (buffers_of s.state) (buffers_of v) (Some n))
    nodes to t.node t.state t.node_is t.state_is outer in
    few_meet s.state (buffers_of t.state) n s.sound.buffers inner

-- THE PORTS stay sound where they take a format that they may
given_sound : (nodes : List Node) (port : PortId) (format : Format) → AreSoundNodes nodes → IsPort nodes port
    → AtPort nodes port (MayBeGiven format) → AreSoundNodes (with_port nodes port (given format))
given_sound nodes port format sound is may = go t.state.format refl where
  t : IsThere nodes port
  t = there nodes port sound is

  go : (o : Option Format) → t.state.format ≡ o → AreSoundNodes (with_port nodes port (given format))
  go (Some f) e = subst AreSoundNodes (kept_given nodes port format
      (port_at (λ node s. IsSome s.format) nodes port t.node t.state t.node_is t.state_is (subst IsSome (sym e) refl))) sound
  go None e =
      let free = port_at (λ (node : Node) (s : PortState). s.format ≡ None) nodes port t.node t.state t.node_is t.state_is e in
      subst AreSoundNodes (taken_given nodes port format free) (nodes_taken nodes port format sound (λ n s d f.
      at_port (MayBeGiven format) nodes port n s d f may (at_port (λ (node : Node) (u : PortState). u.format ≡ None) nodes port n s d f free)))

formatted_sound : (nodes : List Node) (from to : PortId) (format : Format) → AreSoundNodes nodes → IsPort nodes from → IsPort nodes to
    → (from.node ≡ to.node → ⊥) → Negotiates nodes from to (negotiated.Format format) → AreSoundNodes (formatted nodes from to format)
formatted_sound nodes from to format sound is other apart agreed =
    let middle = with_port nodes from (given format) in
    let count = count_kept nodes from (given format) to.node in
    given_sound middle to format (given_sound nodes from format sound is (gives_own nodes from to format sound is agreed))
    (omega (arith, other, count))
    (elsewhere (MayBeGiven format) nodes from to (given format) apart (gives_other nodes from to format sound other agreed))

formatted_kinds : (nodes : List Node) (kinds : List Kind) (from to : PortId) (format : Format) → HasKinds nodes kinds
    → HasKinds (formatted nodes from to format) kinds
formatted_kinds nodes kinds from to format h =
    kinds_kept (with_port nodes from (given format)) kinds to.node (λ n. record n { ports = changed n.ports to.port (given format) }) (λ n. refl)
    (kinds_kept nodes kinds from.node (λ n. record n { ports = changed n.ports from.port (given format) }) (λ n. refl) h)

-- the links with one more
made_wires : (nodes : List Node) (kinds : List Kind) (wires : List Wire) (from to : PortId) (format : Format) (n : ℕ) → HasKinds nodes kinds
    → IsOutput nodes from → IsInput nodes to → IsBetween 1 8 n → All (IsReadyWire nodes) wires
    → All (IsReadyWire (formatted nodes from to format)) (wires ++ record { from = from; to = to; buffers = n } ∷ [])
made_wires nodes kinds wires from to format n h out input few each =
    let middle = with_port nodes from (given format) in
    let after = formatted nodes from to format in
    let kinds_after = formatted_kinds nodes kinds from to format h in
    All-push (IsReadyWire after) wires (record { from = from; to = to; buffers = n })
    (All-weaker (IsReadyWire nodes) (IsReadyWire after) (λ w. wire_kept nodes after kinds w h kinds_after
    (λ has. given_kept middle to w.from format (given_kept nodes from w.from format has))
    (λ has. given_kept middle to w.to format (given_kept nodes from w.to format has))) wires each)
    (record {
      output = output_kept nodes after kinds from h kinds_after out;
      input = input_kept nodes after kinds to h kinds_after input;
      from = given_kept middle to from format (given_there nodes from format);
      to = given_there middle to format;
      buffers = few;
    })

-- A LINE that leaves links, ports and wires as they are
pub noted_sound : (g after : Graph) → after.ports ≡ g.ports → after.links ≡ g.links → after.wires ≡ g.wires
    → after ≡ record g { ports = after.ports; links = after.links; wires = after.wires; lines = after.lines } → IsReady g → IsReady after
noted_sound g after ports links wires same sound = subst IsReady (sym same) (record {
  nodes = record {
    many = sound.nodes.many;
    kinds = subst (λ (ns : List Node). HasKinds ns g.kinds) (sym ports) sound.nodes.kinds;
    ports = subst AreSoundNodes (sym ports) sound.nodes.ports;
  };
  wires = record {
    wired = same_wires g after wires (ap (λ (s : LinkState). s.made) links) sound.wires.wired;
    each = subst (λ (ns : List Node). All (IsReadyWire ns) after.wires) (sym ports)
        (subst (λ (ws : List Wire). All (IsReadyWire g.ports) ws) (sym wires) sound.wires.each);
  };
  marks = subst (λ (s : LinkState). HasReadyMarks g.nodes s) (sym links) sound.marks;
  counts = sound.counts;
})

module _ (g after : Graph) (from to : PortId) (out : IsOutput g.ports from) (input : IsInput g.ports to) (sound : IsReady g)
    (same : after ≡ record g { ports = after.ports; links = after.links; wires = after.wires; lines = after.lines }) where
  made_sound : (stepped : Stepped) (format : Format) (n : ℕ) → IsLinkOutcome g.links g.ports from to (L.Made format n)
      → LeavesLink g.links g.ports from to (L.Made format n) after.links after.ports
      → IsRecorded g from to (L.Made format n) stepped after → IsReady after
  made_sound stepped format n outcome leaves noted =
      let is = input_is_port g.ports to input in
      let few = few_shared g.ports from to n sound.nodes.ports out.1 is outcome.1.1 in
      subst IsReady (sym same) (record {
        nodes = record {
          many = sound.nodes.many;
          kinds = subst (λ (ns : List Node). HasKinds ns g.kinds) (sym leaves.1) (formatted_kinds g.ports g.kinds from to format sound.nodes.kinds);
          ports = subst AreSoundNodes (sym leaves.1)
              (formatted_sound g.ports from to format sound.nodes.ports out.1 is outcome.0.other outcome.1.0);
        };
        wires = record {
          wired = links_wired g after from to (L.Made format n) stepped leaves noted noted.0 sound.wires.wired;
          each = subst (λ (ns : List Node). All (IsReadyWire ns) after.wires) (sym leaves.1)
              (subst (λ (ws : List Wire). All (IsReadyWire (formatted g.ports from to format)) ws) (sym noted.1)
              (made_wires g.ports g.kinds g.wires from to format n sound.nodes.kinds out input few sound.wires.each));
        };
        marks = subst (λ (s : LinkState). HasReadyMarks g.nodes s) (sym leaves.0) (record { many = sound.marks.many; same = sound.marks.same });
        counts = sound.counts;
      })

  -- A LINK LINE
  pub link_sound : (stepped : Stepped) (linked : Linked) → IsLinkOutcome g.links g.ports from to linked
      → LeavesLink g.links g.ports from to linked after.links after.ports → IsRecorded g from to linked stepped after → IsReady after
  link_sound stepped (L.Made format n) outcome leaves noted = made_sound stepped format n outcome leaves noted
  link_sound stepped (L.NoFormat key) outcome leaves noted = noted_sound g after leaves.1 leaves.0 noted.1 same sound
  link_sound stepped L.NoBuffers outcome leaves noted = noted_sound g after leaves.1 leaves.0 noted.1 same sound
  link_sound stepped L.Twice outcome leaves noted = noted_sound g after leaves.1 leaves.0 noted.1 same sound
  link_sound stepped L.Loop outcome leaves noted = noted_sound g after leaves.1 leaves.0 noted.1 same sound
  link_sound stepped L.Many outcome leaves noted = noted_sound g after leaves.1 leaves.0 noted.1 same sound
