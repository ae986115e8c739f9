-- The fixation of a sound format is sound.
use Rattle.std.proofs.Common.{◌≡◌, ◌<◌, List, length, get_or, map, refl, sym, ap, ◌∙◌, arith}
use Rattle.std.proofs.lemmas.List.{get_or-map, length-map}
use Rattle.std.proofs.lemmas.List.Elements.{All-contains, All-map, All-weaker}
use Rattle.pod_codec.specs.SoundChoices.{IsOfType}
use Rattle.format_filter.specs.declared.choice.Choice.{Choice}
use Rattle.format_filter.specs.declared.choice.Choice.TheVariants.{Only, Enum, Range, Step}
use Rattle.format_filter.specs.declared.format.Field.{Field}
use Rattle.format_filter.specs.Members.{pick_of}
use Rattle.format_filter.specs.Soundness.{IsSound}
use Rattle.format_filter.specs.CommonFormat.{AreSoundFields}
use Rattle.format_filter.specs.Fixation.{fixed}
use Rattle.format_filter.proofs.ValueLemmas.{no_choice}
use Rattle.format_filter.proofs.OverlapLemmas.{number_plain}

-- a pick is no Choice
pick_plain : (choice : Choice) → IsSound choice → IsOfType 19 (pick_of choice) → ⊥
pick_plain (Only value) s = s.parts
pick_plain (Enum pick alts) s = λ e. no_choice s.parts.0 s.parts.1 (sym (All-contains (IsOfType s.parts.0) alts pick s.parts.2 s.pick) ∙ e)
pick_plain (Range wide pick min max) s = number_plain wide pick
pick_plain (Step wide pick min max step) s = number_plain wide pick

fixed_one : (f : Field) → IsSound f.choice → IsSound (fixed f).choice
fixed_one f s = record { parts = pick_plain f.choice s; pick = refl }

pub fixed_sound : (fields : List Field) → AreSoundFields fields → AreSoundFields (map fixed fields)
fixed_sound fields h = record {
  ascending = λ i j d a b.
      let within : j < length fields = omega (arith, b, length-map fields fixed) in
      let own : (get_or (map fixed fields) i d).key ≡ (get_or fields i d).key =
      ap (λ (f : Field). f.key) (get_or-map fixed fields i d d (omega arith)) in
      let other : (get_or (map fixed fields) j d).key ≡ (get_or fields j d).key =
      ap (λ (f : Field). f.key) (get_or-map fixed fields j d d within) in
      let order = h.ascending i j d a within in
      omega arith;
  choices = All-map (λ f. IsSound f.choice) fixed fields
      (All-weaker (λ f. IsSound f.choice) (λ f. IsSound (fixed f).choice) fixed_one fields h.choices);
}
