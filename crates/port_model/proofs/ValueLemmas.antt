-- Choices that are one value, the values of formats, and the value of a port by what gives it.
use Rattle.std.proofs.Common.{◌≡◌, ℕ, List, Option, Some, None, refl, sym, ap, ◌∙◌}
use Rattle.std.specs.Prelude.{IsSome, option_and_then}
use Rattle.std.specs.Option.{option_map_or, option_or}
use Rattle.std.proofs.lemmas.Option.{same_Some, none-some}
use Rattle.pod_codec.specs.declared.pod.Pod.{Pod}
use Rattle.format_filter.specs.declared.choice.Choice.{Choice}
use Rattle.format_filter.specs.declared.choice.Choice.TheVariants.{Only, Enum, Range, Step}
use Rattle.format_filter.specs.declared.format.Field.{Field}
use Rattle.format_filter.specs.declared.format.Format.{Format}
use Rattle.format_filter.specs.Members.{IsMember}
use Rattle.format_filter.specs.CommonFormat.{field_of}
use Rattle.port_model.specs.declared.port_state.PortState.{PortState}
use Rattle.port_model.specs.declared.port_state.Node.{Node}
use Rattle.port_model.specs.Forms.{only_of, value_at, shared_value, value_of}

-- what is there
pub some_of : {X : Type 0} (o : Option X) → IsSome o → (x : X) × (o ≡ Some x)
some_of (Some x) h = (x, refl)
some_of None h = absurd (cc (h))

pub some_is : {X : Type 0} (o : Option X) (x : X) → o ≡ Some x → IsSome o
some_is (Some y) x e = refl
some_is None x e = absurd (none-some x e)

-- a choice that is one value is an Only of it, and has no other member
pub only_value : (c : Choice) (v : Pod) → only_of c ≡ Some v → c ≡ Only v
only_value (Only w) v e = ap Only (same_Some w v e)
only_value (Enum pick alts) v e = absurd (none-some v e)
only_value (Range wide pick min max) v e = absurd (none-some v e)
only_value (Step wide pick min max step) v e = absurd (none-some v e)

pub only_member : (c : Choice) (v x : Pod) → only_of c ≡ Some v → IsMember c x → x ≡ v
only_member (Only w) v x e m = m ∙ same_Some w v e
only_member (Enum pick alts) v x e m = absurd (none-some v e)
only_member (Range wide pick min max) v x e m = absurd (none-some v e)
only_member (Step wide pick min max step) v x e m = absurd (none-some v e)

-- the field that has a value
pub record HasField (fields : List Field) (key : ℕ) (v : Pod) : Type 0 where
  pub field : Field
  pub at : field_of fields key ≡ Some field
  pub only : only_of field.choice ≡ Some v

pub field_with : (fields : List Field) (key : ℕ) (v : Pod) → value_at fields key ≡ Some v → HasField fields key v
field_with fields key v e = go (field_of fields key) refl where
  go : (o : Option Field) → field_of fields key ≡ o → HasField fields key v
  go None d = absurd (none-some v (sym (ap (option_and_then (λ (f : Field). only_of f.choice)) d) ∙ e))
  go (Some f) d = record {
    field = f;
    at = d;
    only = sym (ap (option_and_then (λ (f : Field). only_of f.choice)) d) ∙ e;
  }

-- the value of a field that is there
pub value_of_field : (fields : List Field) (key : ℕ) (f : Field) (v : Pod) → field_of fields key ≡ Some f → only_of f.choice ≡ Some v
    → value_at fields key ≡ Some v
value_of_field fields key f v e d = ap (option_and_then (λ (g : Field). only_of g.choice)) e ∙ d

-- the value of a port with a format, and of one without
pub own_value : (node : Node) (s : PortState) (key : ℕ) (f : Format) → s.format ≡ Some f → value_of node s key ≡ value_at f.fields key
own_value node s key f e = ap (λ (o : Option Format). option_map_or (λ (g : Format). value_at g.fields key) o
    (option_or (shared_value node key) (value_at s.own.fields key))) e

pub free_value : (node : Node) (s : PortState) (key : ℕ) → s.format ≡ None
    → value_of node s key ≡ option_or (shared_value node key) (value_at s.own.fields key)
free_value node s key e = ap (λ (o : Option Format). option_map_or (λ (g : Format). value_at g.fields key) o
    (option_or (shared_value node key) (value_at s.own.fields key))) e
