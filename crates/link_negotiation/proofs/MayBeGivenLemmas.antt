-- A port may take the fixed common format of what it offers and something else.
use Rattle.std.proofs.Common.{◌≡◌, inl, inr, ℕ, zero, suc, ◌<◌, length, arith, List, [], ◌∷◌, map, Option, Some, None, Bool, true, false}
use Rattle.std.proofs.Common.{refl, sym, ap, ◌∙◌, subst, ◌==◌}
use Rattle.std.specs.Prelude.{slice_get, IfSome, IsSome, IsTrue, ◌↔◌, Result, Ok, Err, IfOk, option_and_then, unwrap_or, if◌then◌else◌}
use Rattle.std.specs.Option.{option_map_or, option_or}
use Rattle.pw_lists.specs.declared.memory.Memory.{Memory}
use Rattle.std.proofs.lemmas.Option.{same_Some, none-some}
use Rattle.pod_codec.specs.declared.pod.Pod.{Pod}
use Rattle.pw_graph.specs.declared.kind.Kind.{Kind}
use Rattle.format_filter.specs.declared.choice.Choice.{Choice}
use Rattle.format_filter.specs.declared.choice.Choice.TheVariants.{Only}
use Rattle.format_filter.specs.declared.format.Field.{Field}
use Rattle.format_filter.specs.declared.format.Format.{Format}
use Rattle.format_filter.specs.Members.{IsMember, pick_of}
use Rattle.format_filter.specs.Soundness.{IsSound}
use Rattle.format_filter.specs.CommonFormat.{AreSoundFields, field_of, IsCommonField, IsCommonFormat}
use Rattle.format_filter.specs.Fixation.{fixed, fixated}
use Rattle.format_filter.proofs.FixationLemmas.{fixed_sound}
use Rattle.port_model.specs.declared.port_state.PortState.{PortState}
use Rattle.port_model.specs.declared.port_state.Node.{Node}
use Rattle.port_model.specs.declared.sharing.Offered.TheVariants.{Offer, Nothing}
use Rattle.port_model.specs.Forms.{only_of, value_at, shared_value, shared_field, offer_of, Offers, buffers_of}
use Rattle.port_model.specs.SoundPorts.{IsSoundPort}
use Rattle.port_model.proofs.TakingLemmas.{shared_key}
use Rattle.port_model.proofs.SharingLemmas.{field_place, shared_origin}
use Rattle.port_model.proofs.ValueLemmas.{only_member, field_with, value_of_field}
use Rattle.port_model.specs.PortState.{IsPort, AtPort, with_port, changed, taking}
use Rattle.port_model.specs.SoundPorts.{AreSoundNodes, IsSoundNode}
use Rattle.port_model.specs.declared.sharing.Offered.{Offered}
use Rattle.port_model.proofs.NodeLemmas.{has_place, at_place, at_port, port_at}
use Rattle.port_model.proofs.ChangedLemmas.{changed_elsewhere, changed_same}
use Rattle.pw_graph.specs.declared.ids.PortId.{PortId}
use Rattle.link_negotiation.specs.declared.common_formats.Negotiated.TheVariants as negotiated
use Rattle.link_negotiation.specs.Negotiation.{MeetsIn, SharesBuffers, OffersAt, Settles, SettlesFrom, Negotiates, Agrees}
use Rattle.link_negotiation.specs.LinkOutcome.{MayBeGiven, given}

-- one field more
field_step : (g : Field → Field) (key : ℕ) → ((f : Field) → (g f).key ≡ f.key) → (f : Field) (fs : List Field) (h : Field)
    → (field_of fs key ≡ Some h → field_of (map g fs) key ≡ Some (g h))
    → field_of (f ∷ fs) key ≡ Some h → (b : Bool) → (f.key == key) ≡ b → field_of (map g (f ∷ fs)) key ≡ Some (g h)
field_step g key same f fs h rest e true p =
    ap (λ (k : ℕ). if k == key then Some (g f) else field_of (map g fs) key) (same f)
    ∙ ap (λ (b : Bool). if b then Some (g f) else field_of (map g fs) key) p
    ∙ ap (λ (x : Field). Some (g x)) (same_Some f h (sym (ap (λ (b : Bool). if b then Some f else field_of fs key) p) ∙ e))
field_step g key same f fs h rest e false p =
    ap (λ (k : ℕ). if k == key then Some (g f) else field_of (map g fs) key) (same f)
    ∙ ap (λ (b : Bool). if b then Some (g f) else field_of (map g fs) key) p
    ∙ rest (sym (ap (λ (b : Bool). if b then Some f else field_of fs key) p) ∙ e)

-- the field of a key among fields that are changed, but for their keys
field_map : (g : Field → Field) (key : ℕ) → ((f : Field) → (g f).key ≡ f.key) → (fs : List Field) (h : Field) → field_of fs key ≡ Some h
    → field_of (map g fs) key ≡ Some (g h)
field_map g key same [] h e = absurd (none-some h e)
field_map g key same (f ∷ fs) h e = field_step g key same f fs h (field_map g key same fs h) e (f.key == key) refl

-- the fields of a common format admit no more than those of one side
pub record Keeps (f c : Format) : Type 0 where
  pub sound : AreSoundFields c.fields
  pub object : c.object ≡ f.object
  pub fields : (key : ℕ) (a : Field) → field_of f.fields key ≡ Some a → (h : Field) × (field_of c.fields key ≡ Some h)
      × ((x : Pod) → IsMember h.choice x → IsMember a.choice x)

pub keeps_own : (f g c : Format) → IsCommonFormat f g c → Keeps f c
keeps_own f g c common = record {
  sound = common.sound;
  object = common.object;
  fields = λ key a e. go key a (field_of g.fields key) (field_of c.fields key) refl
      (subst (λ (o : Option Field). IsCommonField o (field_of g.fields key) (field_of c.fields key)) e (common.fields key));
} where
  go : (key : ℕ) (a : Field) (o k : Option Field) → field_of c.fields key ≡ k → IsCommonField (Some a) o k → (h : Field)
      × (field_of c.fields key ≡ Some h) × ((x : Pod) → IsMember h.choice x → IsMember a.choice x)
  go key a (Some b) (Some h) e w = (h, e, λ x m. (w.2.only x m).0)
  go key a (Some b) None e w = absurd w
  go key a None k e w = (a, e ∙ w, λ x m. m)

pub keeps_other : (f g c : Format) → f.object ≡ g.object → IsCommonFormat f g c → Keeps g c
keeps_other f g c types common = record {
  sound = common.sound;
  object = common.object ∙ types;
  fields = λ key a e. go key a (field_of f.fields key) (field_of c.fields key) refl
      (subst (λ (o : Option Field). IsCommonField (field_of f.fields key) o (field_of c.fields key)) e (common.fields key));
} where
  go : (key : ℕ) (a : Field) (o k : Option Field) → field_of c.fields key ≡ k → IsCommonField o (Some a) k → (h : Field)
      × (field_of c.fields key ≡ Some h) × ((x : Pod) → IsMember h.choice x → IsMember a.choice x)
  go key a (Some b) (Some h) e w = (h, e, λ x m. (w.2.only x m).1)
  go key a (Some b) None e w = absurd w
  go key a None k e w = (a, e ∙ w, λ x m. m)

-- the value at a key: it is in the own offer, and the shared one where there is one
record HasGiven (node : Node) (s : PortState) (c : Format) (key : ℕ) (a : Field) : Type 0 where
  value : Pod
  has : value_at (fixated c).fields key ≡ Some value
  member : IsMember a.choice value
  shared : (v : Pod) → shared_value node key ≡ Some v → value ≡ v

given_at : (node : Node) (s : PortState) (c : Format) (key : ℕ) (a : Field) → s.format ≡ None → Offers node s (Offer (offer_of node s))
    → Keeps (record s.own { fields = map (shared_field node) s.own.fields }) c
    → field_of s.own.fields key ≡ Some a → HasGiven node s c key a
given_at node s c key a free offers keeps own =
    let key_is : a.key ≡ key = (field_place s.own.fields key a own).key_is in
    let kept = keeps.fields key (shared_field node a) (field_map (shared_field node) key (λ f. refl) s.own.fields a own) in
    let h = kept.0 in
    let at = field_place c.fields key h kept.1 in
    let sound : IsSound h.choice = subst (λ (f : Field). IsSound f.choice) (at.here h) (keeps.sound.choices at.place h at.within) in
    let pick = kept.2 (pick_of h.choice) sound.pick in
    go h (ap (option_and_then (λ (f : Field). only_of f.choice)) (field_map fixed key (λ f. refl) c.fields h kept.1))
    (shared_value node key) refl
    (subst (λ (k : ℕ). IsMember (option_map_or Only (shared_value node k) a.choice) (pick_of h.choice)) key_is pick)
  where
    go : (h : Field) → value_at (fixated c).fields key ≡ Some (pick_of h.choice) → (o : Option Pod) → shared_value node key ≡ o
        → IsMember (option_map_or Only (shared_value node key) a.choice) (pick_of h.choice) → HasGiven node s c key a
    go h has None e m = record {
      value = pick_of h.choice;
      has = has;
      member = subst (λ (o : Option Pod). IsMember (option_map_or Only o a.choice) (pick_of h.choice)) e m;
      shared = λ v d. absurd (none-some v (sym e ∙ d));
    }
    go h has (Some v) e m = (let same : pick_of h.choice ≡ v =
        subst (λ (o : Option Pod). IsMember (option_map_or Only o a.choice) (pick_of h.choice)) e m in
        record {
          value = pick_of h.choice;
          has = has;
          member = subst (IsMember a.choice) (sym same) (offers.1 key free a v own e);
          shared = λ u d. same ∙ same_Some v u (sym e ∙ d);
        })

pub may_be_given : (kind : Kind) (port : ℕ) (node : Node) (s : PortState) (f c : Format) → IsSoundPort kind port s → Offers node s (Offer f)
    → Keeps f c → MayBeGiven (fixated c) node s
may_be_given kind port node s f c sound offers keeps free =
    let own : Format = record s.own { fields = map (shared_field node) s.own.fields } in
    let is_own : f ≡ own = offers.0 ∙ ap (λ (o : Option Format). unwrap_or o
    (record s.own { fields = map (shared_field node) s.own.fields })) free in
    let kept : Keeps own c = subst (λ (g : Format). Keeps g c) is_own keeps in
    let all : Offers node s (Offer (offer_of node s)) = (refl, offers.1) in
    let rate = given_at node s c 65539 sound.own.rate.field free all kept sound.own.rate.own in
    let channels = given_at node s c 65540 sound.own.channels.field free all kept sound.own.channels.own in
    record {
      free = free;
      taken = record {
        sound = fixed_sound c.fields keeps.sound;
        object = kept.object ∙ sound.own.object;
        rate = record {
          field = sound.own.rate.field;
          own_field = sound.own.rate.own;
          value = rate.value;
          format_value = rate.has;
          member = rate.member;
        };
        channels = record {
          field = sound.own.channels.field;
          own_field = sound.own.channels.own;
          value = channels.value;
          format_value = channels.has;
          member = channels.member;
        };
      };
      shared = λ key value e. elim (shared_key node.kind key (shared_origin node key value e).3) [
        | inl k ↦ ap (value_at (fixated c).fields) k ∙ rate.has
            ∙ ap (λ (v : Pod). Some v) (rate.shared value (ap (shared_value node) (sym k) ∙ e))
        | inr k ↦ ap (value_at (fixated c).fields) k ∙ channels.has
            ∙ ap (λ (v : Pod). Some v) (channels.shared value (ap (shared_value node) (sym k) ∙ e))
      ];
    }

-- a list has something at each place
pub something : {X : Type 0} (xs : List X) (i : ℕ) → i < length xs → (x : X) × (slice_get xs i ≡ Some x)
something [] i l = absurd (omega arith)
something (x ∷ xs) zero l = (x, refl)
something (x ∷ xs) (suc i) l = something xs i (omega arith)

-- a port that is there
pub record IsThere (nodes : List Node) (port : PortId) : Type 0 where
  pub node : Node
  pub state : PortState
  pub node_is : slice_get nodes port.node ≡ Some node
  pub state_is : slice_get node.ports port.port ≡ Some state
  pub sound : IsSoundPort node.kind port.port state

pub there : (nodes : List Node) (port : PortId) → AreSoundNodes nodes → IsPort nodes port → IsThere nodes port
there nodes port sound port_is =
    let place = has_place nodes port sound port_is in
    let node = something nodes port.node place.0 in
    let state = something node.0.ports port.port (place.1 node.0 node.1) in
    let whole = at_place IsSoundNode nodes port.node node.0 sound.each node.1 in
    record { node = node.0; state = state.0; node_is = node.1; state_is = state.1; sound = whole.ports port.port state.0 state.1 }

pub below : (nodes : List Node) (port : PortId) → AreSoundNodes nodes → IsPort nodes port → port.node < 64
below nodes port sound port_is = let place = has_place nodes port sound port_is in omega (arith, place.0, sound.few)

-- what the two ports of a negotiation may be given
settles_own : (nodes : List Node) (from to : PortId) (format : Format) → AreSoundNodes nodes → IsPort nodes from → (o : Offered)
    → OffersAt nodes from o → SettlesFrom nodes to o (negotiated.Format format) → AtPort nodes from (MayBeGiven format)
settles_own nodes from to format sound port (Nothing key) offers settles = absurd settles
settles_own nodes from to format sound port (Offer f) offers settles = go settles.0 settles.2 where
  t : IsThere nodes from
  t = there nodes from sound port

  own : Offers t.node t.state (Offer f)
  own = at_port (λ node s. Offers node s (Offer f)) nodes from t.node t.state t.node_is t.state_is offers

  go : (p : Offered) → Settles f p (negotiated.Format format) → AtPort nodes from (MayBeGiven format)
  go (Nothing key) w = absurd w
  go (Offer g) w = port_at (MayBeGiven format) nodes from t.node t.state t.node_is t.state_is
      (subst (λ (x : Format). MayBeGiven x t.node t.state) (sym w.2)
      (may_be_given t.node.kind from.port t.node t.state f w.0 t.sound own (keeps_own f g w.0 w.1.1)))

pub gives_own : (nodes : List Node) (from to : PortId) (format : Format) → AreSoundNodes nodes → IsPort nodes from
    → Negotiates nodes from to (negotiated.Format format) → AtPort nodes from (MayBeGiven format)
gives_own nodes from to format sound port w = settles_own nodes from to format sound port w.0 w.1 w.2

settles_other : (nodes : List Node) (from to : PortId) (format : Format) → AreSoundNodes nodes → IsPort nodes to → (o : Offered)
    → SettlesFrom nodes to o (negotiated.Format format) → AtPort nodes to (MayBeGiven format)
settles_other nodes from to format sound port (Nothing key) settles = absurd settles
settles_other nodes from to format sound port (Offer f) settles = go settles.0 settles.1 settles.2 where
  t : IsThere nodes to
  t = there nodes to sound port

  go : (p : Offered) → OffersAt nodes to p → Settles f p (negotiated.Format format) → AtPort nodes to (MayBeGiven format)
  go (Nothing key) offers w = absurd w
  go (Offer g) offers w =
      let own = at_port (λ (node : Node) (s : PortState). Offers node s (Offer g)) nodes to t.node t.state t.node_is t.state_is offers in
      port_at (MayBeGiven format) nodes to t.node t.state t.node_is t.state_is
      (subst (λ (x : Format). MayBeGiven x t.node t.state) (sym w.2)
      (may_be_given t.node.kind to.port t.node t.state g w.0 t.sound own (keeps_other f g w.0 w.1.0.types w.1.1)))

pub gives_other : (nodes : List Node) (from to : PortId) (format : Format) → AreSoundNodes nodes → IsPort nodes to
    → Negotiates nodes from to (negotiated.Format format) → AtPort nodes to (MayBeGiven format)
gives_other nodes from to format sound port w = settles_other nodes from to format sound port w.0 w.2

-- what is kept of a format that has a value, fixed, has it too
kept_value : (own c : Format) (key : ℕ) (v : Pod) → Keeps own c → value_at own.fields key ≡ Some v → value_at (fixated c).fields key ≡ Some v
kept_value own c key v keeps e =
    let has = field_with own.fields key v e in
    let kept = keeps.fields key has.field has.at in
    let h = kept.0 in
    let at = field_place c.fields key h kept.1 in
    let sound : IsSound h.choice = subst (λ (f : Field). IsSound f.choice) (at.here h) (keeps.sound.choices at.place h at.within) in
    let same : pick_of h.choice ≡ v = only_member has.field.choice v (pick_of h.choice) has.only (kept.2 (pick_of h.choice) sound.pick) in
    value_of_field (fixated c).fields key (fixed h) v (field_map fixed key (λ f. refl) c.fields h kept.1) (ap (λ (x : Pod). Some x) same)

-- a port with a format offers only it, so it agrees with what is settled on
agrees_with : (node : Node) (s : PortState) (f c : Format) → Offers node s (Offer f) → Keeps f c → Agrees (fixated c) node s
agrees_with node s f c offers keeps own key v e has =
    let alone : f ≡ own = offers.0 ∙ ap (λ (o : Option Format). unwrap_or o
    (record s.own { fields = map (shared_field node) s.own.fields })) e in
    kept_value own c key v (subst (λ (x : Format). Keeps x c) alone keeps) has

-- both ports of a negotiation agree with the format
output_settles : (nodes : List Node) (from to : PortId) (format : Format) → AreSoundNodes nodes → IsPort nodes from → (o : Offered)
    → OffersAt nodes from o → SettlesFrom nodes to o (negotiated.Format format) → AtPort nodes from (Agrees format)
output_settles nodes from to format sound port (Nothing key) offers settles = absurd settles
output_settles nodes from to format sound port (Offer f) offers settles = go settles.0 settles.2 where
  t : IsThere nodes from
  t = there nodes from sound port

  own : Offers t.node t.state (Offer f)
  own = at_port (λ node s. Offers node s (Offer f)) nodes from t.node t.state t.node_is t.state_is offers

  go : (p : Offered) → Settles f p (negotiated.Format format) → AtPort nodes from (Agrees format)
  go (Nothing key) w = absurd w
  go (Offer g) w = port_at (Agrees format) nodes from t.node t.state t.node_is t.state_is
      (subst (λ (x : Format). Agrees x t.node t.state) (sym w.2)
      (agrees_with t.node t.state f w.0 own (keeps_own f g w.0 w.1.1)))

pub output_agrees : (nodes : List Node) (from to : PortId) (format : Format) → AreSoundNodes nodes → IsPort nodes from
    → Negotiates nodes from to (negotiated.Format format) → AtPort nodes from (Agrees format)
output_agrees nodes from to format sound port w = output_settles nodes from to format sound port w.0 w.1 w.2

input_settles : (nodes : List Node) (from to : PortId) (format : Format) → AreSoundNodes nodes → IsPort nodes to → (o : Offered)
    → SettlesFrom nodes to o (negotiated.Format format) → AtPort nodes to (Agrees format)
input_settles nodes from to format sound port (Nothing key) settles = absurd settles
input_settles nodes from to format sound port (Offer f) settles = go settles.0 settles.1 settles.2 where
  t : IsThere nodes to
  t = there nodes to sound port

  go : (p : Offered) → OffersAt nodes to p → Settles f p (negotiated.Format format) → AtPort nodes to (Agrees format)
  go (Nothing key) offers w = absurd w
  go (Offer g) offers w =
      let own = at_port (λ (node : Node) (s : PortState). Offers node s (Offer g)) nodes to t.node t.state t.node_is t.state_is offers in
      port_at (Agrees format) nodes to t.node t.state t.node_is t.state_is
      (subst (λ (x : Format). Agrees x t.node t.state) (sym w.2)
      (agrees_with t.node t.state g w.0 own (keeps_other f g w.0 w.1.0.types w.1.1)))

pub input_agrees : (nodes : List Node) (from to : PortId) (format : Format) → AreSoundNodes nodes → IsPort nodes to
    → Negotiates nodes from to (negotiated.Format format) → AtPort nodes to (Agrees format)
input_agrees nodes from to format sound port w = input_settles nodes from to format sound port w.0 w.2

-- a port of another node is as it was
pub elsewhere : (P : Node → PortState → Type 0) (nodes : List Node) (port other : PortId) (f : PortState → PortState)
    → (port.node ≡ other.node → ⊥) → AtPort nodes other P → AtPort (with_port nodes port f) other P
elsewhere P nodes port other f differ h =
    subst (λ (o : Option Node). IfSome o (λ node. IfSome (slice_get node.ports other.port) (P node)))
    (sym (changed_elsewhere nodes port.node other.node (λ node. record node { ports = changed node.ports port.port f })
    (λ e. differ (sym e)))) h

-- two changes that do the same to what is there
changed_alike : {X : Type 0} (xs : List X) (i : ℕ) (f g : X → X) → ((x : X) → slice_get xs i ≡ Some x → f x ≡ g x)
    → changed xs i f ≡ changed xs i g
changed_alike [] i f g h = refl
changed_alike (x ∷ xs) zero f g h = ap (λ y. y ∷ xs) (h x refl)
changed_alike (x ∷ xs) (suc i) f g h = ap (λ ys. x ∷ ys) (changed_alike xs i f g h)

-- a port that has no format takes it
pub taken_given : (nodes : List Node) (port : PortId) (format : Format) → AtPort nodes port (λ node s. s.format ≡ None)
    → with_port nodes port (taking format) ≡ with_port nodes port (given format)
taken_given nodes port format free =
    changed_alike nodes port.node (λ node. record node { ports = changed node.ports port.port (taking format) })
    (λ node. record node { ports = changed node.ports port.port (given format) })
    (λ node e. ap (λ (ps : List PortState). record node { ports = ps }) (changed_alike node.ports port.port (taking format) (given format)
    (λ s d. ap (λ (o : Option Format). record s { format = option_or o (Some format) })
    (sym (at_port (λ (node : Node) (t : PortState). t.format ≡ None) nodes port node s e d free)))))

-- a port that has one keeps it
some_kept : (o : Option Format) (format : Format) → IsSome o → option_or o (Some format) ≡ o
some_kept (Some f) format h = refl
some_kept None format h = absurd (cc (h))

pub kept_given : (nodes : List Node) (port : PortId) (format : Format) → AtPort nodes port (λ node s. IsSome s.format)
    → nodes ≡ with_port nodes port (given format)
kept_given nodes port format has =
    sym (changed_same nodes port.node (λ node. record node { ports = changed node.ports port.port (given format) })
    (λ node e. ap (λ (ps : List PortState). record node { ports = ps }) (changed_same node.ports port.port (given format)
    (λ s d. ap (λ (o : Option Format). record s { format = o })
    (some_kept s.format format (at_port (λ (node : Node) (t : PortState). IsSome t.format) nodes port node s e d has))))))

-- what has_format says
not_some : (o : Option Format) → (IsSome o → ⊥) → o ≡ None
not_some (Some f) h = absurd (h refl)
not_some None h = refl

pub lacks : (nodes : List Node) (port : PortId) (b : Bool) → b ≡ false → AtPort nodes port (λ node s. IsTrue b ↔ IsSome s.format)
    → IsThere nodes port → AtPort nodes port (λ node s. s.format ≡ None)
lacks nodes port b e h t =
    let told = at_port (λ (node : Node) (s : PortState). IsTrue b ↔ IsSome s.format) nodes port t.node t.state t.node_is t.state_is h in
    port_at (λ (node : Node) (s : PortState). s.format ≡ None) nodes port t.node t.state t.node_is t.state_is
    (not_some t.state.format (λ some. differ (sym e ∙ told.1 some)))
  where
    differ : false ≡ true → ⊥
    differ p = cc

pub has : (nodes : List Node) (port : PortId) (b : Bool) → b ≡ true → AtPort nodes port (λ node s. IsTrue b ↔ IsSome s.format)
    → IsThere nodes port → AtPort nodes port (λ node s. IsSome s.format)
has nodes port b e h t =
    let told = at_port (λ (node : Node) (s : PortState). IsTrue b ↔ IsSome s.format) nodes port t.node t.state t.node_is t.state_is h in
    port_at (λ (node : Node) (s : PortState). IsSome s.format) nodes port t.node t.state t.node_is t.state_is (told.0 e)

-- the counts of two ports
pub shares : (nodes : List Node) (from to : PortId) (own other : Choice) (r : Result (Option ℕ) Memory) → IfOk r (MeetsIn own other)
    → IsThere nodes from → IsThere nodes to
    → AtPort nodes from (λ node s. own ≡ buffers_of s) → AtPort nodes to (λ node s. other ≡ buffers_of s)
    → IfOk r (SharesBuffers nodes from to)
shares nodes from to own other (Ok count) meets s t p q =
    let mine = at_port (λ (node : Node) (u : PortState). own ≡ buffers_of u) nodes from s.node s.state s.node_is s.state_is p in
    let its = at_port (λ (node : Node) (u : PortState). other ≡ buffers_of u) nodes to t.node t.state t.node_is t.state_is q in
    port_at (λ (node : Node) (u : PortState). AtPort nodes to (λ (n : Node) (v : PortState). MeetsIn (buffers_of u) (buffers_of v) count))
    nodes from s.node s.state s.node_is s.state_is
    (port_at (λ (node : Node) (v : PortState). MeetsIn (buffers_of s.state) (buffers_of v) count)
    nodes to t.node t.state t.node_is t.state_is
    (subst (λ (c : Choice). MeetsIn c (buffers_of t.state) count) mine (subst (λ (c : Choice). MeetsIn own c count) its meets)))
shares nodes from to own other (Err e) meets s t p q = tt
