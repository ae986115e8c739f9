-- A sound graph after an `unlink` line.
use Rattle.std.proofs.Common.{◌≡◌, ℕ, ◌<◌, ◌≤◌, ◌==◌, ◌||◌, ◌&&◌, Bool, true, false, not, List, map, length, get_or, Option, refl, sym, ap, ◌∙◌, subst, eq-eqb}
use Rattle.std.specs.Prelude.{All, IfSome, IsSome, slice_get, if◌then◌else◌}
use Rattle.std.specs.Int.{bit_at}
use Rattle.std.proofs.Math.ListN.{length-set}
use Rattle.std.proofs.lemmas.List.Elements.{All-filter}
use Rattle.std.proofs.lemmas.List.Folds.{list_any_at}
use Rattle.pw_graph.specs.declared.ids.PortId.{PortId}
use Rattle.pw_graph.specs.declared.kind.Kind.{Kind}
use Rattle.port_model.specs.declared.port_state.Node.{Node}
use Rattle.port_model.specs.PortState.{released, with_released}
use Rattle.port_model.specs.SoundPorts.{AreSoundNodes}
use Rattle.port_model.proofs.ChangedLemmas.{changed_elsewhere}
use Rattle.port_model.proofs.ReleaseLemmas.{nodes_released}
use Rattle.link_negotiation.specs.declared.link.Link.{Link}
use Rattle.link_negotiation.specs.declared.unlinking.Unlinked.{Unlinked}
use Rattle.link_negotiation.specs.declared.unlinking.Unlinked.TheVariants as U
use Rattle.link_negotiation.specs.Links.{LinkState, joins, link_of, has_link, is_marked}
use Rattle.link_negotiation.specs.Unlinking.{without, is_released, releasing, HasUnlinked}
use Rattle.graph_lines.specs.declared.graph.Graph.{Graph}
use Rattle.graph_lines.specs.declared.standing.Standing.{Standing}
use Rattle.graph_lines.specs.declared.wire.Wire.{Wire}
use Rattle.graph_lines.specs.Activity.{standing}
use Rattle.graph_lines.specs.Forms.{HasKinds}
use Rattle.graph_lines.specs.UnlinkLines.{giving, wires_without, IsTakenAway}
use Rattle.graph_lines.specs.Ready.{HasFormat, IsReadyWire, IsReady, HasRan}
use Rattle.graph_lines.proofs.ReadyLinkLemmas.{noted_sound}
use Rattle.graph_lines.proofs.ReadyWireLemmas.{kinds_kept, wire_kept}
use Rattle.graph_lines.proofs.StandingLemmas.{set_standing}
use Rattle.graph_lines.proofs.WireLemmas.{any_wire, without_map, unlinks_wired}

-- a node that gives its formats up has no link, so a port of a node with a link keeps its own
link_tells : (made : List Link) (keep n : ℕ) → is_released made keep n ≡ true → has_link made n ≡ false
link_tells made keep n e = go (has_link made n) e where
  go : (b : Bool) → (not b && (bit_at keep n == 0)) ≡ true → b ≡ false
  go true d = cc
  go false d = refl

released_format : (made : List Link) (keep n : ℕ) (nodes : List Node) (port : PortId) → has_link made port.node ≡ true → HasFormat nodes port
    → HasFormat (releasing made keep n nodes) port
released_format made keep n nodes port linked h = go (is_released made keep n) refl where
  differ : false ≡ true → ⊥
  differ e = cc

  go : (b : Bool) → is_released made keep n ≡ b → HasFormat (if b then with_released nodes n else nodes) port
  go false e = h
  go true e = subst (λ (o : Option Node). IfSome o (λ node. IfSome (slice_get node.ports port.port) (λ s. IsSome s.format)))
      (sym (changed_elsewhere nodes n port.node (λ node. record node { ports = map released node.ports })
      (λ same. differ (sym (link_tells made keep n e) ∙ (ap (has_link made) (sym same) ∙ linked))))) h

released_sound : (made : List Link) (keep n : ℕ) (nodes : List Node) → AreSoundNodes nodes → AreSoundNodes (releasing made keep n nodes)
released_sound made keep n nodes sound = go (is_released made keep n) where
  go : (b : Bool) → AreSoundNodes (if b then with_released nodes n else nodes)
  go true = nodes_released nodes n sound
  go false = sound

released_kinds : (made : List Link) (keep n : ℕ) (nodes : List Node) (kinds : List Kind) → HasKinds nodes kinds
    → HasKinds (releasing made keep n nodes) kinds
released_kinds made keep n nodes kinds h = go (is_released made keep n) where
  go : (b : Bool) → HasKinds (if b then with_released nodes n else nodes) kinds
  go true = kinds_kept nodes kinds n (λ node. record node { ports = map released node.ports }) (λ node. refl) h
  go false = h

-- both nodes of each link have one
or_true : (b : Bool) → (b || true) ≡ true
or_true true = refl
or_true false = refl

abbrev links_of : List Wire → List Link
links_of wires = map (λ w. link_of w.from w.to) wires

from_linked : (wires : List Wire) (k : ℕ) (d : Wire) → k < length wires → has_link (links_of wires) (get_or wires k d).from.node ≡ true
from_linked wires k d l = let n = (get_or wires k d).from.node in
    sym (any_wire wires n) ∙ list_any_at (λ w. (w.from.node == n) || (w.to.node == n)) wires k d l
    (ap (λ (b : Bool). b || ((get_or wires k d).to.node == n)) (eq-eqb n n refl))

to_linked : (wires : List Wire) (k : ℕ) (d : Wire) → k < length wires → has_link (links_of wires) (get_or wires k d).to.node ≡ true
to_linked wires k d l = let n = (get_or wires k d).to.node in
    sym (any_wire wires n) ∙ list_any_at (λ w. (w.from.node == n) || (w.to.node == n)) wires k d l
    (ap (λ (b : Bool). ((get_or wires k d).from.node == n) || b) (eq-eqb n n refl) ∙ or_true ((get_or wires k d).from.node == n))

-- THE LINKS THAT ARE LEFT
left_sound : (nodes : List Node) (kinds : List Kind) (keep m n : ℕ) (wires : List Wire) → HasKinds nodes kinds → All (IsReadyWire nodes) wires
    → All (IsReadyWire (releasing (links_of wires) keep m (releasing (links_of wires) keep n nodes))) wires
left_sound nodes kinds keep m n wires h each k d l =
    let made = links_of wires in
    let middle = releasing made keep n nodes in
    let w = get_or wires k d in
    wire_kept nodes (releasing made keep m middle) kinds w h (released_kinds made keep m middle kinds (released_kinds made keep n nodes kinds h))
    (λ has. released_format made keep m middle w.from (from_linked wires k d l) (released_format made keep n nodes w.from (from_linked wires k d l) has))
    (λ has. released_format made keep m middle w.to (to_linked wires k d l) (released_format made keep n nodes w.to (to_linked wires k d l) has))
    (each k d l)

-- what is said of the nodes stays, but for what they gave up
giving_keeps : {X : Type 0} (φ : Standing → X) → ((s : Standing) (b : Bool) → φ (record s { gave_up = b }) ≡ φ s) → (set n m : ℕ)
    (nodes : List Standing) → φ (standing (giving set n nodes) m) ≡ φ (standing nodes m)
giving_keeps φ keeps set n m nodes =
    let s = standing nodes n in
    let b : Bool = s.gave_up || (bit_at set n == 1) in
    set_standing φ nodes n m (record s { gave_up = b }) (keeps s b)

both_keep : {X : Type 0} (φ : Standing → X) → ((s : Standing) (b : Bool) → φ (record s { gave_up = b }) ≡ φ s) → (set m n i : ℕ)
    (nodes : List Standing) → φ (standing (giving set m (giving set n nodes)) i) ≡ φ (standing nodes i)
both_keep φ keeps set m n i nodes = giving_keeps φ keeps set m i (giving set n nodes) ∙ giving_keeps φ keeps set n i nodes

giving_length : (set n : ℕ) (nodes : List Standing) → length (giving set n nodes) ≡ length nodes
giving_length set n nodes = length-set nodes n (record (standing nodes n) { gave_up = (standing nodes n).gave_up || (bit_at set n == 1) })

module _ (g after : Graph) (from to : PortId) (keep : ℕ) (sound : IsReady g)
    (same : after ≡ record g { ports = after.ports; links = after.links; wires = after.wires; nodes = after.nodes; lines = after.lines }) where
  gone_sound : (set : ℕ) → HasUnlinked g.links g.ports from to keep (U.Gone set) after.links after.ports
      → IsTakenAway g from to (U.Gone set) after → IsReady after
  gone_sound set h t =
      let left = wires_without from to g.wires in
      let made : without from to g.links.made ≡ links_of left =
      sym (without_map from to g.wires ∙ ap (without from to) sound.wires.wired) in
      let ports : after.ports ≡ releasing (links_of left) keep to.node (releasing (links_of left) keep from.node g.ports) =
      h.3 ∙ ap (λ (ls : List Link). releasing ls keep to.node (releasing ls keep from.node g.ports)) made in
      subst IsReady (sym same) (record {
        nodes = record {
          many = ap length t.1 ∙ (giving_length set to.node (giving set from.node g.nodes) ∙ (giving_length set from.node g.nodes
              ∙ sound.nodes.many));
          kinds = subst (λ (ns : List Node). HasKinds ns g.kinds) (sym ports)
              (released_kinds (links_of left) keep to.node (releasing (links_of left) keep from.node g.ports) g.kinds
              (released_kinds (links_of left) keep from.node g.ports g.kinds sound.nodes.kinds));
          ports = subst AreSoundNodes (sym ports)
              (released_sound (links_of left) keep to.node (releasing (links_of left) keep from.node g.ports)
              (released_sound (links_of left) keep from.node g.ports sound.nodes.ports));
        };
        wires = record {
          wired = unlinks_wired g after from to keep (U.Gone set) h t sound.wires.wired;
          each = subst (λ (ns : List Node). All (IsReadyWire ns) after.wires) (sym ports)
              (subst (λ (ws : List Wire). All (IsReadyWire (releasing (links_of left) keep to.node
              (releasing (links_of left) keep from.node g.ports))) ws) (sym t.0)
              (left_sound g.ports g.kinds keep to.node from.node left sound.nodes.kinds
              (All-filter (λ w. not (joins from to (link_of w.from w.to))) (IsReadyWire g.ports) g.wires sound.wires.each)));
        };
        marks = record {
          many = ap (λ (s : LinkState). length s.marks) h.1 ∙ sound.marks.many;
          same = λ m. ap (λ (ns : List Standing). (standing ns m).marked) t.1
              ∙ (both_keep (λ s. s.marked) (λ s b. refl) set to.node from.node m g.nodes
              ∙ (sound.marks.same m ∙ sym (ap (λ (s : LinkState). is_marked s m) h.1)));
        };
        counts = sound.counts;
      })

  pub unlink_sound : (unlinked : Unlinked) → HasUnlinked g.links g.ports from to keep unlinked after.links after.ports
      → IsTakenAway g from to unlinked after → IsReady after
  unlink_sound (U.Gone set) h t = gone_sound set h t
  unlink_sound U.NotThere h t = noted_sound g after h.2 h.1 t.0 (same ∙ kept) sound where
    kept : record g { ports = after.ports; links = after.links; wires = after.wires; nodes = after.nodes; lines = after.lines }
        ≡ record g { ports = after.ports; links = after.links; wires = after.wires; lines = after.lines }
    kept = λ i. record g { ports = after.ports; links = after.links; wires = after.wires; nodes = t.1 i; lines = after.lines }

-- no node ran by it
pub unlink_ran : (g after : Graph) (from to : PortId) (unlinked : Unlinked)
    → after ≡ record g { ports = after.ports; links = after.links; wires = after.wires; nodes = after.nodes; lines = after.lines }
    → IsTakenAway g from to unlinked after → HasRan g → HasRan after
unlink_ran g after from to (U.Gone set) same t ran = record {
  within = λ m. subst (λ (k : ℕ). (standing after.nodes m).ran ≤ k) (sym (ap (λ (x : Graph). x.first) same))
      (subst (λ (k : ℕ). k ≤ g.first) (sym (ap (λ (ns : List Standing). (standing ns m).ran) t.1
      ∙ both_keep (λ s. s.ran) (λ s b. refl) set to.node from.node m g.nodes)) (ran.within m));
}
unlink_ran g after from to U.NotThere same t ran = record {
  within = λ m. subst (λ (k : ℕ). (standing after.nodes m).ran ≤ k) (sym (ap (λ (x : Graph). x.first) same))
      (subst (λ (k : ℕ). k ≤ g.first) (sym (ap (λ (ns : List Standing). (standing ns m).ran) t.1)) (ran.within m));
}
