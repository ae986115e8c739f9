-- Forms that hold where one port of a node is changed, and where a node is released that is not
-- theirs.
use Rattle.std.proofs.Common.{◌≡◌, inl, inr, ℕ, List, Option, Some, None, refl, sym, ap, ◌∙◌, subst, arith}
use Rattle.std.specs.Prelude.{slice_get, IfSome, IsSome}
use Rattle.std.proofs.lemmas.Option.{same_Some}
use Rattle.std.proofs.lemmas.Bool.{cases_eq}
use Rattle.pw_graph.specs.declared.ids.PortId.{PortId}
use Rattle.pw_graph.specs.SoundShape.{IsBetween}
use Rattle.format_filter.specs.declared.format.Format.{Format}
use Rattle.port_model.specs.declared.port_state.PortState.{PortState}
use Rattle.port_model.specs.declared.port_state.Node.{Node}
use Rattle.port_model.specs.PortState.{IsPort, AtPort, changed, with_port, taking, buffered}
use Rattle.port_model.specs.SoundPorts.{IsSoundNode, AreSoundNodes, MayTake}
use Rattle.port_model.proofs.NodeLemmas.{at_place, at_port, port_at, count_kept}
use Rattle.port_model.proofs.ChangedLemmas.{changed_here, changed_origin}
use Rattle.port_model.proofs.ReleaseLemmas.{nodes_buffered}
use Rattle.port_model.proofs.TakingLemmas.{nodes_taken}
use Rattle.port_model.proofs.ValueLemmas.{some_is}
use Rattle.link_negotiation.specs.LinkOutcome.{given, MayBeGiven}
use Rattle.link_negotiation.proofs.MayBeGivenLemmas.{IsThere, there, elsewhere, taken_given, kept_given}
use Rattle.graph_lines.specs.Forms.{IsFormOfPort, FormIn}
use Rattle.graph_plan.specs.working.Remembering.{HasSomeFormat, Stands}
use Rattle.graph_plan.proofs.lists.ElementLemmas.{changed_keeps}
use Rattle.graph_plan.proofs.sound.FormLemmas.{IsFormattedNode}
use Rattle.graph_plan.proofs.sound.FormattedNodeLemmas.{formatted_node}
use Rattle.graph_plan.proofs.sound.ValueStaysLemmas.{value_stays, value_buffered}

-- what holds of the state of a port, and stays through a change
pub with_port_keeps : (P : PortState → Type 0) (nodes : List Node) (q port : PortId) (f : PortState → PortState) → ((s : PortState) → P s → P (f s))
    → AtPort nodes port (λ node s. P s) → AtPort (with_port nodes q f) port (λ node s. P s)
with_port_keeps P nodes q port f h w =
    changed_keeps (λ (node : Node). IfSome (slice_get node.ports port.port) P) nodes q.node port.node
    (λ node. record node { ports = changed node.ports q.port f })
    (λ node v. changed_keeps P node.ports q.port port.port f h v) w

pub port_stays : (nodes : List Node) (q port : PortId) (f : PortState → PortState) → IsPort nodes port → IsPort (with_port nodes q f) port
port_stays nodes q port f is = let same = count_kept nodes q f port.node in omega (arith, is, same)

-- a form after a change of one port of its node
abbrev pub KeepsForm : (PortState → PortState) → ℕ → Node → Type 0
KeepsForm f j node = (i : ℕ) (s later : PortState) (rate channels : ℕ) → slice_get node.ports i ≡ Some s
    → slice_get (changed node.ports j f) i ≡ Some later → IsFormattedNode node → IsFormOfPort rate channels node s
    → IsFormOfPort rate channels (record node { ports = changed node.ports j f }) later

module _ (nodes : List Node) (q : PortId) (f : PortState → PortState) (sound : AreSoundNodes nodes) (after : AreSoundNodes (with_port nodes q f))
    (some : (s : PortState) → IsSome s.format → IsSome (f s).format)
    (keeps : (node : Node) → slice_get nodes q.node ≡ Some node → KeepsForm f q.port node) where
  some_stays : (n : ℕ) → HasSomeFormat nodes n → HasSomeFormat (with_port nodes q f) n
  some_stays n h = record {
    port = h.port;
    there = port_stays nodes q (record { node = n; port = h.port }) f h.there;
    has = with_port_keeps (λ (s : PortState). IsSome s.format) nodes q (record { node = n; port = h.port }) f some h.has;
  }

  here : (port : PortId) (rate channels : ℕ) → port.node ≡ q.node → Stands nodes port rate channels → FormIn (with_port nodes q f) port rate channels
  here port rate channels e h =
      let t = there nodes port sound h.form.0 in
      let is = port_stays nodes q port f h.form.0 in
      let u = there (with_port nodes q f) port after is in
      let at_q : slice_get nodes q.node ≡ Some t.node = subst (λ (n : ℕ). slice_get nodes n ≡ Some t.node) e t.node_is in
      let whole : slice_get (with_port nodes q f) q.node ≡ Some (record t.node { ports = changed t.node.ports q.port f }) =
      changed_here nodes q.node (λ node. record node { ports = changed node.ports q.port f }) t.node at_q in
      let same : u.node ≡ record t.node { ports = changed t.node.ports q.port f } =
      same_Some u.node (record t.node { ports = changed t.node.ports q.port f })
      (sym u.node_is ∙ (ap (slice_get (with_port nodes q f)) e ∙ whole)) in
      let state = subst (λ (m : Node). slice_get m.ports port.port ≡ Some u.state) same u.state_is in
      let own = at_port (IsFormOfPort rate channels) nodes port t.node t.state t.node_is t.state_is h.form.1 in
      let form = keeps t.node at_q port.port t.state u.state rate channels t.state_is state
      (formatted_node nodes port.node sound h.some t.node t.node_is) own in (
        is,
        port_at (IsFormOfPort rate channels) (with_port nodes q f) port u.node u.state u.node_is u.state_is
            (subst (λ (m : Node). IsFormOfPort rate channels m u.state) (sym same) form),
      )

  pub with_port_stands : (port : PortId) (rate channels : ℕ) → Stands nodes port rate channels → Stands (with_port nodes q f) port rate channels
  with_port_stands port rate channels h = elim (cases_eq port.node q.node) [
    | inl e ↦ record { form = here port rate channels e h; some = some_stays port.node h.some }
    | inr ne ↦ record {
      form = (
        port_stays nodes q port f h.form.0,
        elsewhere (IsFormOfPort rate channels) nodes q port f (λ d. ne (sym d)) h.form.1,
      );
      some = some_stays port.node h.some;
    }
  ]

-- A COUNT OF BUFFERS
buffered_keeps : (j n : ℕ) (node : Node) → KeepsForm (buffered n) j node
buffered_keeps j n node i s later rate channels before now h form = (
  (
    value_buffered node j n i s later 65539 before now ∙ form.0.0,
    value_buffered node j n i s later 65540 before now ∙ form.0.1,
  ),
  λ end. elim (changed_origin node.ports j i (buffered n) later now) [
    | inl w ↦
        let is_s : w.1.0 ≡ s = same_Some w.1.0 s (sym w.1.1 ∙ (ap (slice_get node.ports) (sym w.0) ∙ before)) in
        let same : later.format ≡ s.format = ap (λ (x : PortState). x.format) w.1.2 ∙ ap (λ (x : PortState). x.format) is_s in
        subst (λ (o : Option Format). IsSome o) (sym same) (form.1 end)
    | inr w ↦
        let same : later ≡ s = same_Some later s (sym w.1 ∙ before) in
        subst (λ (x : PortState). IsSome x.format) (sym same) (form.1 end)
  ],
)

pub buffered_stands : (nodes : List Node) (q : PortId) (n : ℕ) → AreSoundNodes nodes → IsBetween 1 8 n → (port : PortId) (rate channels : ℕ)
    → Stands nodes port rate channels → Stands (with_port nodes q (buffered n)) port rate channels
buffered_stands nodes q n sound range = with_port_stands nodes q (buffered n) sound (nodes_buffered nodes q n sound range) (λ s h. h)
    (λ node e. buffered_keeps q.port n node)

-- A FORMAT THAT IS TAKEN
taken_keeps : (j : ℕ) (node : Node) (t : PortState) (format : Format) → IsSoundNode node
    → IsSoundNode (record node { ports = changed node.ports j (taking format) }) → slice_get node.ports j ≡ Some t → MayTake format node t
    → KeepsForm (taking format) j node
taken_keeps j node t format sound after there may i s later rate channels before now h form = (
  (
    value_stays node j t format i s later 65539 _ (inl refl) sound after there may h before now form.0.0,
    value_stays node j t format i s later 65540 _ (inr refl) sound after there may h before now form.0.1,
  ),
  λ end. elim (changed_origin node.ports j i (taking format) later now) [
    | inl w ↦ some_is later.format format (ap (λ (x : PortState). x.format) w.1.2)
    | inr w ↦
        let same : later ≡ s = same_Some later s (sym w.1 ∙ before) in
        subst (λ (x : PortState). IsSome x.format) (sym same) (form.1 end)
  ],
)

-- a port that is given a format, and every form that holds
pub record IsGiven (nodes after : List Node) : Type 0 where
  pub sound : AreSoundNodes after
  pub stands : (port : PortId) (rate channels : ℕ) → Stands nodes port rate channels → Stands after port rate channels

free_given : (nodes : List Node) (q : PortId) (format : Format) → AreSoundNodes nodes → (t : IsThere nodes q) → MayTake format t.node t.state
    → IsGiven nodes (with_port nodes q (taking format))
free_given nodes q format sound t may =
    let allowed : (node : Node) (s : PortState) → slice_get nodes q.node ≡ Some node → slice_get node.ports q.port ≡ Some s → MayTake format node s =
    λ node s e d.
    let same : t.node ≡ node = same_Some t.node node (sym t.node_is ∙ e) in
    let there = subst (λ (m : Node). slice_get m.ports q.port ≡ Some t.state) same t.state_is in
    let state : t.state ≡ s = same_Some t.state s (sym there ∙ d) in
    subst (λ (x : PortState). MayTake format node x) state (subst (λ (m : Node). MayTake format m t.state) same may) in
    let after = nodes_taken nodes q format sound allowed in
    record {
      sound = after;
      stands = with_port_stands nodes q (taking format) sound after (λ s h. refl) (λ node e.
          let same : t.node ≡ node = same_Some t.node node (sym t.node_is ∙ e) in
          let there = subst (λ (m : Node). slice_get m.ports q.port ≡ Some t.state) same t.state_is in
          taken_keeps q.port node t.state format (at_place IsSoundNode nodes q.node node sound.each e)
          (at_place IsSoundNode (with_port nodes q (taking format)) q.node (record node { ports = changed node.ports q.port (taking format) })
          after.each (changed_here nodes q.node (λ m. record m { ports = changed m.ports q.port (taking format) }) node e))
          there (allowed node t.state e there));
    }

pub port_given : (nodes : List Node) (q : PortId) (format : Format) → AreSoundNodes nodes → IsPort nodes q
    → AtPort nodes q (MayBeGiven format) → IsGiven nodes (with_port nodes q (given format))
port_given nodes q format sound is may = go t.state.format refl where
  t : IsThere nodes q
  t = there nodes q sound is

  go : (o : Option Format) → t.state.format ≡ o → IsGiven nodes (with_port nodes q (given format))
  go None e =
      let allowed = at_port (MayBeGiven format) nodes q t.node t.state t.node_is t.state_is may in
      let free = port_at (λ (node : Node) (s : PortState). s.format ≡ None) nodes q t.node t.state t.node_is t.state_is e in
      subst (IsGiven nodes) (taken_given nodes q format free) (free_given nodes q format sound t (allowed e))
  go (Some f) e =
      let has = port_at (λ (node : Node) (s : PortState). IsSome s.format) nodes q t.node t.state t.node_is t.state_is
      (some_is t.state.format f e) in
      subst (IsGiven nodes) (kept_given nodes q format has) (record { sound = sound; stands = λ port rate channels h. h })
