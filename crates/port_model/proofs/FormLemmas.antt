-- The form of a port is one that its kind may have.
use Rattle.std.proofs.Common.{◌≡◌, ℕ, List, Option, Some, None, true, refl, sym, ap, ◌∙◌, subst}
use Rattle.std.specs.Prelude.{IfSome, IsSome, option_and_then}
use Rattle.std.specs.Option.{option_map_or, option_or}
use Rattle.pod_codec.specs.declared.pod.Pod.{Pod}
use Rattle.pw_graph.specs.declared.kind.Kind.{Kind}
use Rattle.pw_graph.specs.declared.kind.Kind.TheVariants.{Source, Square, Gain, Mix2, Delay, Map, Split, Sink, Meter, Dummy}
use Rattle.pw_graph.specs.KindRanges.{MayHaveRate, MayHaveChannels}
use Rattle.format_filter.specs.declared.choice.Choice.{Choice}
use Rattle.format_filter.specs.declared.format.Field.{Field}
use Rattle.format_filter.specs.declared.format.Format.{Format}
use Rattle.format_filter.specs.Members.{IsMember}
use Rattle.port_model.specs.declared.port_state.PortState.{PortState}
use Rattle.port_model.specs.declared.port_state.Node.{Node}
use Rattle.port_model.specs.Offers.{int_of, is_shared_key}
use Rattle.port_model.specs.Forms.{only_of, value_at, shared_value, value_of, HasForm, IsForm}
use Rattle.port_model.specs.SoundPorts.{IsNumber, Admits, IsTaken, IsSoundPort, IsSoundNode}
use Rattle.port_model.proofs.TakingLemmas.{first_stands}
use Rattle.port_model.proofs.SharingLemmas.{shared_origin, within_number}
use Rattle.port_model.proofs.ValueLemmas.{some_of, only_value, own_value}

-- an Int of n is a number of only n
same_number : (P : ℕ → Type 0) (n : ℕ) → IsNumber P (int_of n) → P n
same_number P n w = let same : n ≡ w.0 = cc (w.1) in subst P (sym same) w.2

-- the one value of an own offer is a number that it admits
own_number : (fields : List Field) (key : ℕ) (P : ℕ → Type 0) (v : Pod) → Admits fields key P → value_at fields key ≡ Some v → IsNumber P v
own_number fields key P v a e =
    let only : only_of a.field.choice ≡ Some v = sym (ap (option_and_then (λ (f : Field). only_of f.choice)) a.own) ∙ e in
    a.numbers v (subst (λ (c : Choice). IsMember c v) (sym (only_value a.field.choice v only)) refl)

-- the value of a port, by what gives it
value_cases : (P : ℕ → Type 0) (node : Node) (s : PortState) (key n : ℕ) → value_of node s key ≡ Some (int_of n)
    → ((f : Format) → s.format ≡ Some f → value_at f.fields key ≡ Some (int_of n) → P n)
    → (shared_value node key ≡ Some (int_of n) → P n)
    → (value_at s.own.fields key ≡ Some (int_of n) → P n) → P n
value_cases P node s key n e format shared own = go s.format refl (shared_value node key) refl where
  go : (o : Option Format) → s.format ≡ o → (p : Option Pod) → shared_value node key ≡ p → P n
  go (Some f) q p r = format f q (sym (ap (λ (o : Option Format). option_map_or (λ (g : Format). value_at g.fields key) o
      (option_or (shared_value node key) (value_at s.own.fields key))) q) ∙ e)
  go None q (Some v) r = shared (r ∙ (sym (ap (λ (o : Option Format). option_map_or (λ (g : Format). value_at g.fields key) o
      (option_or (shared_value node key) (value_at s.own.fields key))) q
      ∙ ap (λ (p : Option Pod). option_or p (value_at s.own.fields key)) r) ∙ e))
  go None q None r = own (sym (ap (λ (o : Option Format). option_map_or (λ (g : Format). value_at g.fields key) o
      (option_or (shared_value node key) (value_at s.own.fields key))) q
      ∙ ap (λ (p : Option Pod). option_or p (value_at s.own.fields key)) r) ∙ e)

pub rate_in_range : (node : Node) (port : ℕ) (s : PortState) (n : ℕ) → IsSoundNode node → IsSoundPort node.kind port s
    → value_of node s 65539 ≡ Some (int_of n) → MayHaveRate node.kind n
rate_in_range node port s n whole sound e =
    value_cases (MayHaveRate node.kind) node s 65539 n e
    (λ f q v. same_number (MayHaveRate node.kind) n (within_number s.own f 65539 (MayHaveRate node.kind) (int_of n)
    (subst (λ (o : Option Format). IfSome o (IsTaken s.own)) q sound.format).rate sound.own.rate v))
    (λ v.
    let o = shared_origin node 65539 (int_of n) v in
    let first = first_stands node.ports o.0 o.1 in
    let other = whole.ports first.place first.state first.there in
    same_number (MayHaveRate node.kind) n (within_number first.state.own o.0 65539 (MayHaveRate node.kind) (int_of n)
    (subst (λ (f : Option Format). IfSome f (IsTaken first.state.own)) first.has other.format).rate other.own.rate o.2))
    (λ v. same_number (MayHaveRate node.kind) n (own_number s.own.fields 65539 (MayHaveRate node.kind) (int_of n) sound.own.rate v))

-- where channels are shared, all ports may have the same
any_port : (kind : Kind) (p q n : ℕ) → is_shared_key kind 65540 ≡ true → MayHaveChannels kind p n → MayHaveChannels kind q n
any_port (Gain g) p q n e h = h
any_port (Mix2 ga gb) p q n e h = h
any_port (Delay frames) p q n e h = h
any_port Source p q n e h = h
any_port (Square rate channels period amp) p q n e h = h
any_port (Map channels list) p q n e h = absurd (cc (e))
any_port Split p q n e h = absurd (cc (e))
any_port Sink p q n e h = h
any_port Meter p q n e h = h
any_port Dummy p q n e h = h

pub channels_in_range : (node : Node) (port : ℕ) (s : PortState) (n : ℕ) → IsSoundNode node → IsSoundPort node.kind port s
    → value_of node s 65540 ≡ Some (int_of n) → MayHaveChannels node.kind port n
channels_in_range node port s n whole sound e =
    value_cases (MayHaveChannels node.kind port) node s 65540 n e
    (λ f q v. same_number (MayHaveChannels node.kind port) n
    (within_number s.own f 65540 (MayHaveChannels node.kind port) (int_of n)
    (subst (λ (o : Option Format). IfSome o (IsTaken s.own)) q sound.format).channels sound.own.channels v))
    (λ v.
    let o = shared_origin node 65540 (int_of n) v in
    let first = first_stands node.ports o.0 o.1 in
    let other = whole.ports first.place first.state first.there in
    let P = MayHaveChannels node.kind first.place in
    any_port node.kind first.place port n o.3
    (same_number P n (within_number first.state.own o.0 65540 P (int_of n)
    (subst (λ (f : Option Format). IfSome f (IsTaken first.state.own)) first.has other.format).channels other.own.channels o.2)))
    (λ v. same_number (MayHaveChannels node.kind port) n
    (own_number s.own.fields 65540 (MayHaveChannels node.kind port) (int_of n) sound.own.channels v))

-- a port with its format has a form
pub has_form : (node : Node) (port : ℕ) (s : PortState) → IsSoundPort node.kind port s → IsSome s.format
    → (rate : ℕ) × (channels : ℕ) × HasForm node s rate channels
has_form node port s sound h =
    let f = some_of s.format h in
    let taken : IsTaken s.own f.0 = subst (λ (o : Option Format). IfSome o (IsTaken s.own)) f.1 sound.format in
    let rate = within_number s.own f.0 65539 (MayHaveRate node.kind) taken.rate.value taken.rate sound.own.rate taken.rate.format_value in
    let channels = within_number s.own f.0 65540 (MayHaveChannels node.kind port) taken.channels.value taken.channels sound.own.channels
    taken.channels.format_value in (
      rate.0,
      channels.0,
      (
        own_value node s 65539 f.0 f.1 ∙ taken.rate.format_value ∙ ap (λ (x : Pod). Some x) rate.1,
        own_value node s 65540 f.0 f.1 ∙ taken.channels.format_value ∙ ap (λ (x : Pod). Some x) channels.1,
      ),
    )

-- so what gives the form of a port with its format gives one
pub form_told : (node : Node) (port : ℕ) (s : PortState) (o : Option (ℕ × ℕ)) → IsSoundPort node.kind port s → IsForm node s o
    → IsSome s.format → IsSome o
form_told node port s (Some form) sound is h = refl
form_told node port s None sound is h = let w = has_form node port s sound h in absurd (is w.0 w.1 w.2)
