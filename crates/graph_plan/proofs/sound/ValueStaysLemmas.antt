-- A value that a port of a node with a format has stays, whatever format another of its ports, or it, takes.
use Rattle.std.proofs.Common.{◌≡◌, ◌≢◌, ◌⊎◌, inl, inr, ℕ, zero, suc, List, [], ◌∷◌, Option, Some, None, Bool, true, false, refl, sym, ap, ◌∙◌, subst}
use Rattle.std.specs.Prelude.{slice_get, option_and_then, if◌then◌else◌}
use Rattle.std.specs.Option.{option_map_or, option_or}
use Rattle.std.proofs.lemmas.Option.{same_Some, none-some}
use Rattle.pod_codec.specs.declared.pod.Pod.{Pod}
use Rattle.format_filter.specs.declared.format.Field.{Field}
use Rattle.format_filter.specs.declared.format.Format.{Format}
use Rattle.port_model.specs.declared.port_state.PortState.{PortState}
use Rattle.port_model.specs.declared.port_state.Node.{Node}
use Rattle.port_model.specs.PortState.{changed, taking, buffered}
use Rattle.port_model.specs.Offers.{is_shared_key}
use Rattle.port_model.specs.Forms.{only_of, value_at, first_format, shared_value, value_of}
use Rattle.port_model.specs.SoundPorts.{IsWithin, IsSoundNode, MayTake}
use Rattle.port_model.proofs.ChangedLemmas.{changed_elsewhere, changed_origin}
use Rattle.port_model.proofs.TakingLemmas.{shared_at}
use Rattle.port_model.proofs.ValueLemmas.{field_with, only_member, own_value, free_value}
use Rattle.graph_plan.proofs.sound.FormLemmas.{IsFormattedNode}
use Rattle.graph_plan.proofs.sound.FormattedNodeLemmas.{not_shared}

-- the node with a format at one more port
abbrev pub taken : Node → ℕ → Format → Node
taken node j format = record node { ports = changed node.ports j (taking format) }

-- THE SHARED VALUE stays
shared_stays : (node : Node) (j : ℕ) (t : PortState) (format : Format) (key : ℕ) → IsSoundNode node → IsSoundNode (taken node j format)
    → slice_get node.ports j ≡ Some t → t.format ≡ None → IsFormattedNode node → shared_value (taken node j format) key ≡ shared_value node key
shared_stays node j t format key sound after here free h = go (is_shared_key node.kind key) refl where
  apart : h.place ≢ j
  apart e =
      let same : t ≡ h.state = same_Some t h.state (sym here ∙ (ap (slice_get node.ports) (sym e) ∙ h.there)) in
      none-some h.format (sym free ∙ (ap (λ (s : PortState). s.format) same ∙ h.has))

  go : (b : Bool) → is_shared_key node.kind key ≡ b → shared_value (taken node j format) key ≡ shared_value node key
  go true e =
      shared_at (taken node j format) key h.place h.state h.format after e
      (changed_elsewhere node.ports j h.place (taking format) apart ∙ h.there) h.has
      ∙ sym (shared_at node key h.place h.state h.format sound e h.there h.has)
  go false e = not_shared (taken node j format) key e ∙ sym (not_shared node key e)

-- a value within an own offer that is one value
pub within_value : (own format : Format) (key : ℕ) (v : Pod) → IsWithin own format key → value_at own.fields key ≡ Some v
    → value_at format.fields key ≡ Some v
within_value own format key v w e =
    let has = field_with own.fields key v e in
    let same : has.field ≡ w.field = same_Some has.field w.field (sym has.at ∙ w.own_field) in
    let only = subst (λ (f : Field). only_of f.choice ≡ Some v) same has.only in
    w.format_value ∙ ap (λ (x : Pod). Some x) (only_member w.field.choice v w.value only w.member)

-- the port that takes the format has the value that it had
taken_value : (node : Node) (t : PortState) (format : Format) (key : ℕ) (v : Pod) → (key ≡ 65539) ⊎ (key ≡ 65540) → MayTake format node t
    → value_of node t key ≡ Some v → value_at format.fields key ≡ Some v
taken_value node t format key v k may e = go (shared_value node key) refl (sym (free_value node t key may.free) ∙ e) where
  own_is : value_at t.own.fields key ≡ Some v → value_at format.fields key ≡ Some v
  own_is d = elim k [
    | inl r ↦ ap (value_at format.fields) r ∙ within_value t.own format 65539 v may.taken.rate (ap (value_at t.own.fields) (sym r) ∙ d)
    | inr r ↦ ap (value_at format.fields) r ∙ within_value t.own format 65540 v may.taken.channels (ap (value_at t.own.fields) (sym r) ∙ d)
  ]

  go : (o : Option Pod) → shared_value node key ≡ o → option_or (shared_value node key) (value_at t.own.fields key) ≡ Some v
      → value_at format.fields key ≡ Some v
  go (Some w) d f = may.shared key v (d ∙ (sym (ap (λ (p : Option Pod). option_or p (value_at t.own.fields key)) d) ∙ f))
  go None d f = own_is (sym (ap (λ (p : Option Pod). option_or p (value_at t.own.fields key)) d) ∙ f)

-- THE VALUE of each port stays
pub value_stays : (node : Node) (j : ℕ) (t : PortState) (format : Format) (i : ℕ) (s later : PortState) (key : ℕ) (v : Pod)
    → (key ≡ 65539) ⊎ (key ≡ 65540) → IsSoundNode node → IsSoundNode (taken node j format) → slice_get node.ports j ≡ Some t
    → MayTake format node t → IsFormattedNode node
    → slice_get node.ports i ≡ Some s → slice_get (changed node.ports j (taking format)) i ≡ Some later
    → value_of node s key ≡ Some v → value_of (taken node j format) later key ≡ Some v
value_stays node j t format i s later key v k sound after here may h before now e =
    elim (changed_origin node.ports j i (taking format) later now) [
      | inl w ↦
          let is_t : w.1.0 ≡ t = same_Some w.1.0 t (sym w.1.1 ∙ here) in
          let is_s : s ≡ t = same_Some s t (sym before ∙ (ap (slice_get node.ports) w.0 ∙ here)) in
          own_value (taken node j format) later key format (ap (λ (x : PortState). x.format) w.1.2)
          ∙ taken_value node t format key v k may (subst (λ (x : PortState). value_of node x key ≡ Some v) is_s e)
      | inr w ↦
          let same : s ≡ later = same_Some s later (sym before ∙ w.1) in
          subst (λ (x : PortState). value_of (taken node j format) x key ≡ Some v) same (other s.format refl)
    ]
  where
    other : (o : Option Format) → s.format ≡ o → value_of (taken node j format) s key ≡ Some v
    other (Some f) d = own_value (taken node j format) s key f d ∙ (sym (own_value node s key f d) ∙ e)
    other None d =
        free_value (taken node j format) s key d
        ∙ (ap (λ (p : Option Pod). option_or p (value_at s.own.fields key)) (shared_stays node j t format key sound after here may.free h)
        ∙ (sym (free_value node s key d) ∙ e))

-- A COUNT OF BUFFERS changes no value
first_buffered : (ports : List PortState) (j n : ℕ) → first_format (changed ports j (buffered n)) ≡ first_format ports
first_buffered [] j n = refl
first_buffered (s ∷ ports) zero n = refl
first_buffered (s ∷ ports) (suc j) n = ap (option_or s.format) (first_buffered ports j n)

shared_buffered : (node : Node) (j n key : ℕ) → shared_value (record node { ports = changed node.ports j (buffered n) }) key ≡ shared_value node key
shared_buffered node j n key = ap (λ (o : Option Format). if is_shared_key node.kind key
    then option_and_then (λ (f : Format). value_at f.fields key) o else None) (first_buffered node.ports j n)

pub value_buffered : (node : Node) (j n i : ℕ) (s later : PortState) (key : ℕ) → slice_get node.ports i ≡ Some s
    → slice_get (changed node.ports j (buffered n)) i ≡ Some later
    → value_of (record node { ports = changed node.ports j (buffered n) }) later key ≡ value_of node s key
value_buffered node j n i s later key before now =
    ap (λ (o : Option Pod). option_map_or (λ (f : Format). value_at f.fields key) later.format (option_or o (value_at later.own.fields key)))
    (shared_buffered node j n key)
    ∙ elim (changed_origin node.ports j i (buffered n) later now) [
      | inl w ↦
          let is_s : w.1.0 ≡ s = same_Some w.1.0 s (sym w.1.1 ∙ (ap (slice_get node.ports) (sym w.0) ∙ before)) in
          ap (λ (x : PortState). value_of node x key) (w.1.2 ∙ ap (buffered n) is_s)
      | inr w ↦ ap (λ (x : PortState). value_of node x key) (same_Some later s (sym w.1 ∙ before))
    ]
