-- Fields beside the values that a node shares, and the offer that they make.
use Rattle.std.proofs.Common.{◌≡◌, inl, inr, ℕ, zero, suc, ◌+◌, ◌<◌, List, [], ◌∷◌, ◌++◌, length, get_or, take, map, Option, Some}
use Rattle.std.proofs.Common.{None, true, false, Bool, refl, sym, ap, ◌∙◌, subst, arith, pos}
use Rattle.std.specs.List.{All, AllPairs}
use Rattle.std.specs.Prelude.{IfSome, option_and_then, unwrap_or, if◌then◌else◌}
use Rattle.std.specs.Option.{option_map_or}
use Rattle.std.proofs.lemmas.Bool.Decides.{eqb_tells}
use Rattle.std.proofs.lemmas.Bool.{cases_order}
use Rattle.std.proofs.lemmas.Option.{same_Some, none-some}
use Rattle.std.proofs.lemmas.List.{get_or-map, length-map, take_more, map-append, get_or-take, length-take}
use Rattle.format_filter.proofs.FormatWritingLemmas.{first_found}
use Rattle.std.proofs.lemmas.List.Elements.{All-more, All-map, All-weaker}
use Rattle.pod_codec.specs.declared.pod.Pod.{Pod}
use Rattle.pod_codec.specs.SoundChoices.{IsOfType}
use Rattle.format_filter.specs.declared.choice.Choice.TheVariants.{Only}
use Rattle.format_filter.specs.declared.choice.Wide.TheVariants as wide
use Rattle.format_filter.specs.declared.format.Field.{Field}
use Rattle.format_filter.specs.declared.format.Format.{Format}
use Rattle.format_filter.specs.Members.{IsMember}
use Rattle.format_filter.specs.Soundness.{IsSound}
use Rattle.format_filter.specs.CommonFormat.{AreSoundFields, field_of}
use Rattle.format_filter.proofs.OverlapLemmas.{number_plain}
use Rattle.port_model.specs.declared.port_state.PortState.{PortState}
use Rattle.port_model.specs.declared.port_state.Node.{Node}
use Rattle.port_model.specs.declared.sharing.Offered.TheVariants.{Offer, Nothing}
use Rattle.port_model.specs.declared.sharing.Shared.TheVariants.{Fields, Outside}
use Rattle.port_model.specs.Offers.{is_shared_key}
use Rattle.port_model.specs.Forms.{value_at, first_format, shared_value, shared_field, offer_of, Offers, IsAtOdds, IsAtEase}
use Rattle.port_model.specs.Sharing.{SharesPlain, IsInside, Shares, SharesAll}
use Rattle.port_model.specs.SoundPorts.{IsNumber, Admits, IsWithin, IsTaken, IsSoundNode}
use Rattle.port_model.proofs.TakingLemmas.{shared_key, first_stands}

-- where the field of a key is
pub record IsFieldAt (fields : List Field) (key : ℕ) (f : Field) : Type 0 where
  pub place : ℕ
  pub within : place < length fields
  pub here : (d : Field) → get_or fields place d ≡ f
  pub key_is : f.key ≡ key

pub field_place : (fields : List Field) (key : ℕ) (f : Field) → field_of fields key ≡ Some f → IsFieldAt fields key f
field_place [] key f e = absurd (none-some f e)
field_place (g ∷ fields) key f e =
    elim (eqb_tells g.key key) [
      | inl w ↦ (let same : g ≡ f = same_Some g f (sym (ap (λ (b : Bool). if b then Some g else field_of fields key) w.0) ∙ e) in
          record { place = 0; within = omega arith; here = λ d. same; key_is = ap (λ (h : Field). h.key) (sym same) ∙ w.1 })
      | inr w ↦ (let r = field_place fields key f (sym (ap (λ (b : Bool). if b then Some g else field_of fields key) w.0) ∙ e) in
          record { place = suc r.place; within = (let l = r.within in omega arith); here = r.here; key_is = r.key_is })
    ]

-- the field at a place is the one of its key
pub field_here : (fields : List Field) (i : ℕ) (f : Field) → AllPairs (λ f g. f.key < g.key) fields → i < length fields
    → f ≡ get_or fields i f → field_of fields f.key ≡ Some f
field_here [] i f pairs l e = absurd (omega arith)
field_here (g ∷ fields) zero f pairs l e = ap (λ (h : Field). field_of (g ∷ fields) h.key) e ∙ first_found g fields
    ∙ ap (λ (h : Field). Some h) (sym e)
field_here (g ∷ fields) (suc i) f pairs l e =
    let order : g.key < (get_or fields i f).key = pairs 0 (suc i) f (omega arith) l in
    let key : (get_or fields i f).key ≡ f.key = ap (λ (h : Field). h.key) (sym e) in
    elim (eqb_tells g.key f.key) [
      | inl w ↦ (let same = w.1 in absurd (omega arith))
      | inr w ↦ ap (λ (b : Bool). if b then Some g else field_of fields f.key) w.0
          ∙ field_here fields i f (λ j k d a b. pairs (suc j) (suc k) d (omega arith) (omega arith)) (omega arith) e
    ]

-- one more field admits the shared value, and has only it
pub one_more : (node : Node) (fields shared more : List Field) (i : ℕ) (f g : Field) → i < length fields → f ≡ get_or fields i f
    → All (IsInside node) (take i fields) → shared ≡ map (shared_field node) (take i fields)
    → Shares node f (Some g) → more ≡ shared ++ g ∷ [] → All (IsInside node) (take (i + 1) fields)
    × (more ≡ map (shared_field node) (take (i + 1) fields))
one_more node fields shared more i f g l e inside same step pushed = (
  All-more (IsInside node) fields i f l inside (subst (IsInside node) e step.0),
  pushed ∙ ap (λ (xs : List Field). xs ++ g ∷ []) same
      ∙ ap (λ (h : Field). map (shared_field node) (take i fields) ++ h ∷ []) (step.1 ∙ ap (shared_field node) e)
      ∙ sym (ap (map (shared_field node)) (take_more fields i f l)
      ∙ map-append (shared_field node) (take i fields) (get_or fields i f ∷ [])),
)

-- the first field that does not
pub first_outside : (node : Node) (fields : List Field) (i : ℕ) (f : Field) → AreSoundFields fields → i < length fields
    → f ≡ get_or fields i f → All (IsInside node) (take i fields) → Shares node f None → SharesAll node fields (Outside f.key)
first_outside node fields i f sound l e inside step = (f, field_here fields i f sound.ascending l e, step, least) where
  least : (k : ℕ) (g : Field) → k < f.key → field_of fields k ≡ Some g → IsInside node g
  least k g low found =
      let at = field_place fields k g found in
      let order = λ (m : i < at.place). sound.ascending i at.place f m at.within in
      let key : (get_or fields at.place f).key ≡ k = ap (λ (h : Field). h.key) (at.here f) ∙ at.key_is in
      let own : (get_or fields i f).key ≡ f.key = ap (λ (h : Field). h.key) (sym e) in
      before at.place (at.here f) at.within key own
    where
      before : (j : ℕ) → get_or fields j f ≡ g → j < length fields → (get_or fields j f).key ≡ k → (get_or fields i f).key ≡ f.key
          → IsInside node g
      before j here within key own =
          elim (cases_order j i) [
            | inl same ↦ (let equal : (get_or fields j f).key ≡ (get_or fields i f).key = ap (λ (n : ℕ). (get_or fields n f).key) same in
                absurd (omega arith))
            | inr (inl less) ↦ subst (IsInside node) (get_or-take i fields j f less ∙ here)
                (inside j f (omega (arith, length-take i fields)))
            | inr (inr more) ↦ (let order = sound.ascending i j f more within in absurd (omega arith))
          ]

-- what is offered: the own offer with only the shared values
pub offers_fields : (node : Node) (s : PortState) (fields : List Field) → s.format ≡ None → SharesAll node s.own.fields (Fields fields)
    → Offers node s (Offer (record s.own { fields = fields }))
offers_fields node s fields free all = (same, ease) where
  own : Format
  own = record s.own { fields = map (shared_field node) s.own.fields }

  same : record s.own { fields = fields } ≡ offer_of node s
  same = ap (λ (fs : List Field). record s.own { fields = fs }) all.1
      ∙ sym (ap (λ (o : Option Format). unwrap_or o (record s.own { fields = map (shared_field node) s.own.fields })) free)

  ease : (key : ℕ) → IsAtEase node s key
  ease key none f v found shared =
      let at = field_place s.own.fields key f found in
      let inside : IsInside node f = subst (IsInside node) (at.here f) (all.0 at.place f at.within) in
      inside v (ap (shared_value node) at.key_is ∙ shared)

-- nothing is offered: the least key at odds
pub offers_nothing : (node : Node) (s : PortState) (key : ℕ) → s.format ≡ None → SharesAll node s.own.fields (Outside key)
    → Offers node s (Nothing key)
offers_nothing node s key free all = (odds, ease) where
  at : IsFieldAt s.own.fields key all.0
  at = field_place s.own.fields key all.0 all.1

  odds : IsAtOdds node s key
  odds = record {
    free = free;
    field = all.0;
    own = all.1;
    value = all.2.0;
    shared = ap (shared_value node) (sym at.key_is) ∙ all.2.1;
    outside = all.2.2;
  }

  ease : (k : ℕ) → k < key → IsAtEase node s k
  ease k low none f v found shared =
      let there = field_place s.own.fields k f found in
      all.3 k f low found v (ap (shared_value node) there.key_is ∙ shared)

-- fields with only the shared values are sound
one_sound : (node : Node) (f : Field) (o : Option Pod) → shared_value node f.key ≡ o → SharesPlain node → IsSound f.choice
    → IsSound (option_map_or Only o f.choice)
one_sound node f None e plain sound = sound
one_sound node f (Some v) e plain sound = record { parts = plain f.key v e; pick = refl }

pub shared_sound : (node : Node) (fields : List Field) → SharesPlain node → AreSoundFields fields
    → AreSoundFields (map (shared_field node) fields)
shared_sound node fields plain h = record {
  ascending = λ i j d a b.
      let within : j < length fields = omega (arith, b, length-map fields (shared_field node)) in
      let own : (get_or (map (shared_field node) fields) i d).key ≡ (get_or fields i d).key =
      ap (λ (f : Field). f.key) (get_or-map (shared_field node) fields i d d (omega arith)) in
      let other : (get_or (map (shared_field node) fields) j d).key ≡ (get_or fields j d).key =
      ap (λ (f : Field). f.key) (get_or-map (shared_field node) fields j d d within) in
      let order = h.ascending i j d a within in
      omega arith;
  choices = All-map (λ (f : Field). IsSound f.choice) (shared_field node) fields
      (All-weaker (λ (f : Field). IsSound f.choice) (λ (f : Field). IsSound (shared_field node f).choice)
      (λ f s. one_sound node f (shared_value node f.key) refl plain s) fields h.choices);
}

-- a shared value is in the first format
pub shared_origin : (node : Node) (key : ℕ) (v : Pod) → shared_value node key ≡ Some v → (h : Format) × (first_format node.ports ≡ Some h)
    × (value_at h.fields key ≡ Some v) × (is_shared_key node.kind key ≡ true)
shared_origin node key v e = go (is_shared_key node.kind key) refl (first_format node.ports) refl where
  go : (b : Bool) → is_shared_key node.kind key ≡ b → (o : Option Format) → first_format node.ports ≡ o → (h : Format)
      × (first_format node.ports ≡ Some h) × (value_at h.fields key ≡ Some v) × (is_shared_key node.kind key ≡ true)
  go true p (Some h) q = (
    h,
    q,
    sym (ap (λ (b : Bool). if b
        then option_and_then (λ (f : Format). value_at f.fields key) (first_format node.ports) else None) p
        ∙ ap (option_and_then (λ (f : Format). value_at f.fields key)) q) ∙ e,
    p,
  )
  go true p None q = absurd (none-some v (sym (ap (λ (b : Bool). if b
      then option_and_then (λ (f : Format). value_at f.fields key) (first_format node.ports) else None) p
      ∙ ap (option_and_then (λ (f : Format). value_at f.fields key)) q) ∙ e))
  go false p o q = absurd (none-some v (sym (ap (λ (b : Bool). if b
      then option_and_then (λ (f : Format). value_at f.fields key) (first_format node.ports) else None) p) ∙ e))

-- a value within an own offer is a number that it admits
pub within_number : (own format : Format) (key : ℕ) (P : ℕ → Type 0) (v : Pod) → IsWithin own format key → Admits own.fields key P
    → value_at format.fields key ≡ Some v → IsNumber P v
within_number own format key P v w a e =
    let value : w.value ≡ v = same_Some w.value v (sym w.format_value ∙ e) in
    let field : w.field ≡ a.field = same_Some w.field a.field (sym w.own_field ∙ a.own) in
    a.numbers v (subst (λ (f : Field). IsMember f.choice v) field (subst (IsMember w.field.choice) value w.member))

-- a number of any port
pub is_int : (P : ℕ → Type 0) (v : Pod) → IsNumber P v → IsOfType 19 v → ⊥
is_int P v w = subst (λ (x : Pod). IsOfType 19 x → ⊥) (sym w.1) (number_plain wide.Int (pos w.0))

pub shares_plain : (node : Node) → IsSoundNode node → SharesPlain node
shares_plain node sound key v e =
    let o = shared_origin node key v e in
    let first = first_stands node.ports o.0 o.1 in
    let port = sound.ports first.place first.state first.there in
    let taken : IsTaken first.state.own o.0 = subst (λ (f : Option Format). IfSome f (IsTaken first.state.own)) first.has port.format in
    elim (shared_key node.kind key o.3) [
      | inl k ↦ is_int _ v (within_number first.state.own o.0 65539 _ v taken.rate port.own.rate (ap (value_at o.0.fields) (sym k) ∙ o.2))
      | inr k ↦ is_int _ v (within_number first.state.own o.0 65540 _ v taken.channels port.own.channels
          (ap (value_at o.0.fields) (sym k) ∙ o.2))
    ]
