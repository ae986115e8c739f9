-- A narrowed offer has a rate and channels that the kind may have, and keeps each single value.
use Rattle.std.proofs.Common.{◌≡◌, ℕ, zero, suc, ◌<◌, List, [], ◌∷◌, length, get_or, Option, Some, None, refl, sym, ap, ◌∙◌}
use Rattle.std.proofs.Common.{subst, arith}
use Rattle.std.specs.List.{Contains}
use Rattle.std.specs.Prelude.{slice_get, IfSome, IsSome}
use Rattle.std.proofs.lemmas.Option.{same_Some}
use Rattle.pw_graph.specs.declared.ids.PortId.{PortId}
use Rattle.pw_graph.specs.declared.kind.Kind.{Kind}
use Rattle.pod_codec.specs.declared.pod.Pod.{Pod}
use Rattle.format_filter.specs.declared.choice.Choice.{Choice}
use Rattle.format_filter.specs.declared.choice.Choice.TheVariants.{Only, Enum, Range, Step}
use Rattle.format_filter.specs.declared.format.Field.{Field}
use Rattle.format_filter.specs.declared.format.Format.{Format}
use Rattle.format_filter.specs.declared.common.Filtered.TheVariants.{Common}
use Rattle.format_filter.specs.Members.{IsMember}
use Rattle.format_filter.specs.Intersection.{IsBefore, AreThoseOf, IsIntersection}
use Rattle.format_filter.specs.CommonFormat.{field_of, IsCommonField, IsCommonFormat, Filters}
use Rattle.port_model.specs.declared.port_state.PortState.{PortState}
use Rattle.port_model.specs.declared.port_state.Node.{Node}
use Rattle.port_model.specs.PortState.{with_port, offering}
use Rattle.port_model.specs.Forms.{only_of, value_at}
use Rattle.port_model.specs.Narrowing.{IsUnformatted}
use Rattle.port_model.specs.SoundPorts.{Admits, IsOwnOffer, IsTaken, AreSoundNodes}
use Rattle.port_model.proofs.NodeLemmas.{at_place, node_changed, nodes_changed}
use Rattle.port_model.proofs.ValueLemmas.{some_of, some_is, only_value, field_with, value_of_field}

-- the common format admits no more at a key
admits_common : (own file c : Format) (key : ℕ) (P : ℕ → Type 0) → Admits own.fields key P → IsCommonFormat own file c
    → Admits c.fields key P
admits_common own file c key P h common = go (field_of file.fields key) (field_of c.fields key) refl
    (subst (λ (o : Option Field). IsCommonField o (field_of file.fields key) (field_of c.fields key)) h.own (common.fields key)) where
      go : (g k : Option Field) → field_of c.fields key ≡ k → IsCommonField (Some h.field) g k → Admits c.fields key P
      go (Some g) (Some k) e w = record { field = k; own = e; numbers = λ x m. h.numbers x (w.2.only x m).0 }
      go (Some g) None e w = absurd w
      go None k e w = record { field = h.field; own = e ∙ w; numbers = h.numbers }

-- of one value, at most one is left
not_before : (xs : List Pod) (p : Pod) → IsBefore xs p p → ⊥
not_before xs p h = h.4 h.3

one_left : (v : Pod) (P : Pod → Type 0) (those : List Pod) → AreThoseOf (v ∷ []) P those → length those < 2
one_left v P [] h = omega arith
one_left v P (a ∷ []) h = omega arith
one_left v P (a ∷ b ∷ more) h =
    let first = is_it a (0, omega arith, refl) in
    let second = is_it b (1, omega arith, refl) in
    let before = h.order 0 1 a (omega arith) (omega arith) in
    absurd (not_before (v ∷ []) v (subst (λ (x : Pod). IsBefore (v ∷ []) x v) first
    (subst (λ (x : Pod). IsBefore (v ∷ []) a x) second before)))
  where
    at_front : (x : Pod) → Contains (v ∷ []) x → x ≡ v
    at_front x w = go w.0 w.1 w.2 where
      go : (k : ℕ) → k < length (v ∷ []) → get_or (v ∷ []) k x ≡ x → x ≡ v
      go zero l e = sym e
      go (suc k) l e = absurd (omega (arith, l))

    is_it : (x : Pod) → Contains (a ∷ b ∷ more) x → x ≡ v
    is_it x w = at_front x (h.only x w).0

-- what one value has in common with a choice is that value
only_meets : (v : Pod) (b c : Choice) → IsIntersection (Only v) b c → c ≡ Only v
only_meets v b (Only w) h = ap (λ (x : Pod). Only x) (h.only w refl).0
only_meets v b (Enum pick alts) h =
    let few = one_left v (IsMember b) h.form.0 h.form.1 in
    let many = h.form.2.0 in
    absurd (omega (arith, few, many))
only_meets v b (Range wide pick min max) h = absurd h.form.2
only_meets v b (Step wide pick min max step) h = absurd h.form.2

-- so the value of an own offer stays
pub value_common : (own file c : Format) (key : ℕ) (v : Pod) → value_at own.fields key ≡ Some v → IsCommonFormat own file c
    → value_at c.fields key ≡ Some v
value_common own file c key v h common =
    let has = field_with own.fields key v h in
    go has.field (only_value has.field.choice v has.only) (field_of file.fields key)
    (field_of c.fields key) refl
    (subst (λ (o : Option Field). IsCommonField o (field_of file.fields key) (field_of c.fields key)) has.at (common.fields key))
  where
    go : (f : Field) → f.choice ≡ Only v → (g k : Option Field) → field_of c.fields key ≡ k → IsCommonField (Some f) g k
        → value_at c.fields key ≡ Some v
    go f only (Some g) (Some k) e w = value_of_field c.fields key k v e (ap only_of (only_meets v g.choice k.choice
        (subst (λ (x : Choice). IsIntersection x g.choice k.choice) only w.2)))
    go f only (Some g) None e w = absurd w
    go f only None k e w = value_of_field c.fields key f v (e ∙ w) (ap only_of only)

single_common : (own file c : Format) (key : ℕ) → IsSome (value_at own.fields key) → IsCommonFormat own file c
    → IsSome (value_at c.fields key)
single_common own file c key h common =
    let w = some_of (value_at own.fields key) h in
    some_is (value_at c.fields key) w.0 (value_common own file c key w.0 w.1 common)

own_narrowed : (kind : Kind) (port : ℕ) (own file c : Format) → IsOwnOffer kind port own → Filters own file (Common c)
    → IsOwnOffer kind port c
own_narrowed kind port own file c sound filters = record {
  sound = filters.1.sound;
  object = filters.1.object ∙ sound.object;
  id = filters.1.id ∙ sound.id;
  rate = admits_common own file c 65539 _ sound.rate filters.1;
  channels = admits_common own file c 65540 _ sound.channels filters.1;
  single = λ fixed. single_common own file c 65540 (sound.single fixed) filters.1;
}

pub nodes_narrowed : (nodes : List Node) (port : PortId) (n : Node) (s : PortState) (file c : Format) → AreSoundNodes nodes
    → slice_get nodes port.node ≡ Some n → slice_get n.ports port.port ≡ Some s → IsUnformatted n
    → Filters s.own file (Common c) → AreSoundNodes (with_port nodes port (offering c))
nodes_narrowed nodes port n s file c sound at_node at_state free filters =
    nodes_changed nodes port (offering c) sound (λ node here whole.
    let same : node ≡ n = same_Some node n (sym here ∙ at_node) in
    node_changed node port.port (offering c) whole
    (λ t e.
    let state : slice_get node.ports port.port ≡ Some s = ap (λ (m : Node). slice_get m.ports port.port) same ∙ at_state in
    let equal : t ≡ s = same_Some t s (sym e ∙ state) in
    let old = whole.ports port.port t e in
    let none : t.format ≡ None = ap (λ (u : PortState). u.format) equal
    ∙ at_place (λ (u : PortState). u.format ≡ None) n.ports port.port s free at_state in
    let given : Filters t.own file (Common c) = subst (λ (u : PortState). Filters u.own file (Common c)) (sym equal) filters in (
      record {
        own = own_narrowed node.kind port.port t.own file c old.own given;
        format = subst (λ (o : Option Format). IfSome o (IsTaken c)) (sym none) tt;
        buffers = old.buffers;
      },
      whole.agree port.port port.port t t e e,
    ))
    (λ t u k e d. (whole.agree port.port k t u e d, whole.agree k port.port u t d e)))
