-- What kinds offer is sound, and of rates and channels that they may have.
use Rattle.std.proofs.Common.{◌≡◌, ℕ, zero, suc, ℤ, pos, negsuc, ◌<◌, ◌≤◌, ◌≤ℤ◌, List, [], ◌∷◌, ◌++◌, length, map, Some}
use Rattle.std.proofs.Common.{refl, sym, ap, ◌∙◌, subst, arith, rules, FitsSigned, w32}
use Rattle.std.specs.List.{All, AllPairs, range_with_len}
use Rattle.std.specs.Prelude.{slice_get, Result, Ok, Err, OnOk, OnErr, IsSome}
use Rattle.std.proofs.lemmas.Int.{ints}
use Rattle.std.proofs.lemmas.Option.{none-some, slice_get_within, get_or_from_slice_get}
use Rattle.std.proofs.lemmas.List.{length-append}
use Rattle.std.proofs.lemmas.List.FromFn.{get_or-map-range_with_len, length-map-range_with_len}
use Rattle.std.proofs.lemmas.List.Elements.{All-cons, All-nil, All-push}
use Rattle.std.proofs.lemmas.List.Kept.{AllPairs-cons}
use Rattle.pod_codec.specs.declared.pod.Pod.{Pod}
use Rattle.pod_codec.specs.declared.pod.Pod.TheVariants as pod
use Rattle.pod_codec.specs.declared.pod.Pod.TheFolds.{the_lemmas}
use Rattle.pod_codec.specs.SoundChoices.{IsOfType}
use Rattle.pw_graph.specs.declared.kind.Kind.{Kind}
use Rattle.pw_graph.specs.declared.kind.Kind.TheVariants.{Source, Square, Gain, Mix2, Delay, Map, Split, Sink, Meter, Dummy}
use Rattle.pw_graph.specs.KindPorts.{port_count}
use Rattle.pw_graph.specs.KindRanges.{IsInRange, MayHaveRate, MayHaveChannels}
use Rattle.pw_graph.specs.SoundShape.{IsBetween}
use Rattle.format_filter.specs.declared.choice.Choice.{Choice}
use Rattle.format_filter.specs.declared.choice.Choice.TheVariants.{Only, Range}
use Rattle.format_filter.specs.declared.choice.Wide.TheVariants as wide
use Rattle.format_filter.specs.declared.format.Field.{Field}
use Rattle.format_filter.specs.Members.{IsMember}
use Rattle.format_filter.specs.Soundness.{IsSound}
use Rattle.format_filter.specs.CommonFormat.{AreSoundFields}
use Rattle.format_filter.proofs.OverlapLemmas.{number_plain}
use Rattle.port_model.specs.declared.port_state.PortState.{PortState}
use Rattle.port_model.specs.declared.port_state.Node.{Node}
use Rattle.port_model.specs.Offers.{int_of, HasFileNumbers, rate_choice, channels_choice, plain_field, kind_offer, new_port, new_node}
use Rattle.port_model.specs.Offers.{FixesChannels}
use Rattle.port_model.specs.Forms.{only_of}
use Rattle.port_model.specs.SoundPorts.{IsNumber, IsOwnOffer, IsSoundPort, IsSoundNode, AreSoundNodes}

pub fits_int : (n : ℕ) → n ≤ 384000 → FitsSigned w32 (pos n)
fits_int n h = grind (arith, ints)

pub sound_int : (n : ℕ) → IsSound (Only (int_of n))
sound_int n = record { parts = number_plain wide.Int (pos n); pick = refl }

id_type : (n : ℕ) → IsOfType 3 (pod.Id n)
id_type n = search (rules, the_lemmas)

sound_id : (n : ℕ) → IsSound (Only (pod.Id n))
sound_id n = record { parts = λ e. (let three = id_type n in omega (arith, e, three)); pick = refl }

pub sound_range : (pick low high : ℕ) → low ≤ pick → pick ≤ high → high ≤ 384000 → IsSound (Range wide.Int (pos pick) (pos low) (pos high))
sound_range pick low high l h m = record {
  parts = (fits_int pick (omega arith), fits_int low (omega arith), fits_int high m);
  pick = (pos pick, refl, omega (arith, ints), omega (arith, ints));
}

-- a member of such a Range is a number from its least to its greatest
pub range_number : (pick low high : ℕ) (x : Pod) → IsMember (Range wide.Int (pos pick) (pos low) (pos high)) x
    → IsNumber (IsBetween low high) x
range_number pick low high x w = go w.0 w.1 w.2 w.3 where
  go : (n : ℤ) → x ≡ pod.Int n → pos low ≤ℤ n → n ≤ℤ pos high → IsNumber (IsBetween low high) x
  go (pos m) e l h = (m, e, (omega (arith, ints), omega (arith, ints)))
  go (negsuc m) e l h = absurd (omega (arith, ints))

rate_sound : (kind : Kind) (rate : ℕ) → IsSound (rate_choice kind rate)
rate_sound Source rate = sound_int rate
rate_sound (Square own channels period amp) rate = sound_int own
rate_sound (Gain g) rate = sound_range 48000 1 384000 (omega arith) (omega arith) (omega arith)
rate_sound (Mix2 ga gb) rate = sound_range 48000 1 384000 (omega arith) (omega arith) (omega arith)
rate_sound (Delay frames) rate = sound_range 48000 1 384000 (omega arith) (omega arith) (omega arith)
rate_sound (Map channels list) rate = sound_range 48000 1 384000 (omega arith) (omega arith) (omega arith)
rate_sound Split rate = sound_range 48000 1 384000 (omega arith) (omega arith) (omega arith)
rate_sound Sink rate = sound_range 48000 1 384000 (omega arith) (omega arith) (omega arith)
rate_sound Meter rate = sound_range 48000 1 384000 (omega arith) (omega arith) (omega arith)
rate_sound Dummy rate = sound_range 48000 1 384000 (omega arith) (omega arith) (omega arith)

rate_numbers : (kind : Kind) (rate channels : ℕ) → IsInRange kind → HasFileNumbers kind rate channels → (x : Pod)
    → IsMember (rate_choice kind rate) x → IsNumber (MayHaveRate kind) x
rate_numbers Source rate channels r f x w = (rate, w, f.0)
rate_numbers (Square own c period amp) rate channels r f x w = (own, w, refl)
rate_numbers (Gain g) rate channels r f x w = range_number 48000 1 384000 x w
rate_numbers (Mix2 ga gb) rate channels r f x w = range_number 48000 1 384000 x w
rate_numbers (Delay frames) rate channels r f x w = range_number 48000 1 384000 x w
rate_numbers (Map c list) rate channels r f x w = range_number 48000 1 384000 x w
rate_numbers Split rate channels r f x w = range_number 48000 1 384000 x w
rate_numbers Sink rate channels r f x w = range_number 48000 1 384000 x w
rate_numbers Meter rate channels r f x w = range_number 48000 1 384000 x w
rate_numbers Dummy rate channels r f x w = absurd r

channels_sound : (kind : Kind) (port channels : ℕ) → IsSound (channels_choice kind port channels)
channels_sound Source port channels = sound_int channels
channels_sound (Square rate own period amp) port channels = sound_int own
channels_sound (Gain g) port channels = sound_range 2 1 8 (omega arith) (omega arith) (omega arith)
channels_sound (Mix2 ga gb) port channels = sound_range 2 1 8 (omega arith) (omega arith) (omega arith)
channels_sound (Delay frames) port channels = sound_range 2 1 8 (omega arith) (omega arith) (omega arith)
channels_sound (Map own list) zero channels = sound_int own
channels_sound (Map own list) (suc port) channels = sound_int (length list)
channels_sound Split zero channels = sound_int 2
channels_sound Split (suc port) channels = sound_int 1
channels_sound Sink port channels = sound_range 2 1 8 (omega arith) (omega arith) (omega arith)
channels_sound Meter port channels = sound_range 2 1 8 (omega arith) (omega arith) (omega arith)
channels_sound Dummy port channels = sound_range 2 1 8 (omega arith) (omega arith) (omega arith)

channels_numbers : (kind : Kind) (port rate channels : ℕ) → IsInRange kind → HasFileNumbers kind rate channels → (x : Pod)
    → IsMember (channels_choice kind port channels) x → IsNumber (MayHaveChannels kind port) x
channels_numbers Source port rate channels r f x w = (channels, w, f.1)
channels_numbers (Square s own period amp) port rate channels r f x w = (own, w, refl)
channels_numbers (Gain g) port rate channels r f x w = range_number 2 1 8 x w
channels_numbers (Mix2 ga gb) port rate channels r f x w = range_number 2 1 8 x w
channels_numbers (Delay frames) port rate channels r f x w = range_number 2 1 8 x w
channels_numbers (Map own list) zero rate channels r f x w = (own, w, refl)
channels_numbers (Map own list) (suc port) rate channels r f x w = (length list, w, refl)
channels_numbers Split zero rate channels r f x w = (2, w, refl)
channels_numbers Split (suc port) rate channels r f x w = (1, w, refl)
channels_numbers Sink port rate channels r f x w = range_number 2 1 8 x w
channels_numbers Meter port rate channels r f x w = range_number 2 1 8 x w
channels_numbers Dummy port rate channels r f x w = absurd r

fixed_channels : (kind : Kind) (port channels : ℕ) → FixesChannels kind → IsSome (only_of (channels_choice kind port channels))
fixed_channels (Square rate own period amp) port channels f = refl
fixed_channels (Map own list) zero channels f = refl
fixed_channels (Map own list) (suc port) channels f = refl
fixed_channels Split zero channels f = refl
fixed_channels Split (suc port) channels f = refl
fixed_channels Source port channels f = absurd f
fixed_channels (Gain g) port channels f = absurd f
fixed_channels (Mix2 ga gb) port channels f = absurd f
fixed_channels (Delay frames) port channels f = absurd f
fixed_channels Sink port channels f = absurd f
fixed_channels Meter port channels f = absurd f
fixed_channels Dummy port channels f = absurd f

-- five fields of these keys ascend
five_sound : (a b c d e : Choice) → IsSound a → IsSound b → IsSound c → IsSound d → IsSound e
    → AreSoundFields (plain_field 1 a ∷ plain_field 2 b ∷ plain_field 65537 c ∷ plain_field 65539 d ∷ plain_field 65540 e ∷ [])
five_sound a b c d e p q r s t = record {
  ascending = before 1 a two (above 1 2 b three (omega arith)
      (above 1 65537 c four (omega arith) (above 1 65539 d five (omega arith) (above 1 65540 e [] (omega arith) (none 1)))))
      (before 2 b three (above 2 65537 c four (omega arith)
      (above 2 65539 d five (omega arith) (above 2 65540 e [] (omega arith) (none 2))))
      (before 65537 c four (above 65537 65539 d five (omega arith) (above 65537 65540 e [] (omega arith) (none 65537)))
      (before 65539 d five (above 65539 65540 e [] (omega arith) (none 65539))
      (before 65540 e [] (none 65540) (λ i j x l m. absurd (omega arith))))));
  choices = sound_more 1 a two p (sound_more 2 b three q
      (sound_more 65537 c four r (sound_more 65539 d five s (sound_more 65540 e [] t (All-nil (λ (g : Field). IsSound g.choice))))));
} where
  five : List Field
  five = plain_field 65540 e ∷ []

  four : List Field
  four = plain_field 65539 d ∷ plain_field 65540 e ∷ []

  three : List Field
  three = plain_field 65537 c ∷ plain_field 65539 d ∷ plain_field 65540 e ∷ []

  two : List Field
  two = plain_field 2 b ∷ plain_field 65537 c ∷ plain_field 65539 d ∷ plain_field 65540 e ∷ []

  none : (least : ℕ) → All (λ (g : Field). least < g.key) []
  none least = All-nil (λ (g : Field). least < g.key)

  sound_more : (key : ℕ) (choice : Choice) (fs : List Field) → IsSound choice → All (λ (g : Field). IsSound g.choice) fs
      → All (λ (g : Field). IsSound g.choice) (plain_field key choice ∷ fs)
  sound_more key choice fs h k = All-cons (λ (g : Field). IsSound g.choice) (plain_field key choice) fs h k

  above : (least key : ℕ) (choice : Choice) (fs : List Field) → least < key → All (λ (g : Field). least < g.key) fs
      → All (λ (g : Field). least < g.key) (plain_field key choice ∷ fs)
  above least key choice fs h k = All-cons (λ (g : Field). least < g.key) (plain_field key choice) fs h k

  before : (key : ℕ) (choice : Choice) (fs : List Field) → All (λ (g : Field). key < g.key) fs
      → AllPairs (λ (f g : Field). f.key < g.key) fs → AllPairs (λ (f g : Field). f.key < g.key) (plain_field key choice ∷ fs)
  before key choice fs h k = AllPairs-cons (λ (f g : Field). f.key < g.key) (plain_field key choice) fs h k

own_new : (kind : Kind) (rate channels port : ℕ) → IsInRange kind → HasFileNumbers kind rate channels
    → IsOwnOffer kind port (kind_offer kind rate channels port)
own_new kind rate channels port r f = record {
  sound = five_sound _ _ _ _ _ (sound_id 1) (sound_id 1) (sound_id 259) (rate_sound kind rate) (channels_sound kind port channels);
  object = refl;
  id = refl;
  rate = record { field = plain_field 65539 (rate_choice kind rate); own = refl; numbers = rate_numbers kind rate channels r f };
  channels = record {
    field = plain_field 65540 (channels_choice kind port channels);
    own = refl;
    numbers = channels_numbers kind port rate channels r f;
  };
  single = fixed_channels kind port channels;
}

-- the ports of a new node
new_state : (kind : Kind) (rate channels i : ℕ) (s : PortState) → slice_get (new_node kind rate channels).ports i ≡ Some s
    → s ≡ new_port kind rate channels i
new_state kind rate channels i s e =
    let f = new_port kind rate channels in
    let numbers = range_with_len 0 (port_count kind) in
    let within : i < port_count kind = omega (
      arith,
      slice_get_within (map f numbers) i s e,
      length-map-range_with_len f 0 (port_count kind),
    ) in
    sym (get_or_from_slice_get (map f numbers) i s s e) ∙ get_or-map-range_with_len f 0 (port_count kind) i i s within (omega arith)

node_new : (kind : Kind) (rate channels : ℕ) → IsInRange kind → HasFileNumbers kind rate channels
    → IsSoundNode (new_node kind rate channels)
node_new kind rate channels r f = record {
  kind = r;
  count = length-map-range_with_len (new_port kind rate channels) 0 (port_count kind);
  ports = λ i s e. subst (IsSoundPort kind i) (sym (new_state kind rate channels i s e))
      (record { own = own_new kind rate channels i r f; format = tt; buffers = tt });
  agree = λ i j s t e d g h key p q shared. absurd (none-some g
      (sym (ap (λ (u : PortState). u.format) (new_state kind rate channels i s e)) ∙ p));
}

pub nodes_added : (nodes : List Node) (kind : Kind) (rate channels : ℕ) → AreSoundNodes nodes → length nodes < 63 → IsInRange kind
    → HasFileNumbers kind rate channels → AreSoundNodes (nodes ++ new_node kind rate channels ∷ [])
nodes_added nodes kind rate channels sound room r f = record {
  few = omega (arith, length-append nodes (new_node kind rate channels ∷ []));
  each = All-push IsSoundNode nodes (new_node kind rate channels) sound.each (node_new kind rate channels r f);
}

-- what holds of a list before a push and of the longer one, holds after it
pub pushed : {X T E : Type 0} (P : List X → Type 0) (r : Result T E) (new old more : List X) → OnOk r (new ≡ more) → OnErr r (new ≡ old)
    → P old → P more → P new
pushed P (Ok v) new old more ok err p q = subst P (sym ok) q
pushed P (Err e) new old more ok err p q = subst P (sym err) p

-- and one of a Range within another is one of the other
pub between_number : (pick low high least most : ℕ) (x : Pod) → least ≤ low → high ≤ most
    → IsMember (Range wide.Int (pos pick) (pos low) (pos high)) x → IsNumber (IsBetween least most) x
between_number pick low high least most x l h w = let n = range_number pick low high x w in let b = n.2 in
    (n.0, n.1, (omega (arith, b.0), omega (arith, b.1)))
