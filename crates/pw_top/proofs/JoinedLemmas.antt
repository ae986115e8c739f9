-- Laws of `specs/Joined.antt`: what is found of a list, and of one without an item; one number more; one run more.
use Rattle.std.proofs.Common.{◌≡◌, ◌≢◌, ℕ, zero, suc, ◌+◌, ◌<◌, ◌≤◌, ◌==◌, Bool, true, false, cond, List, [], ◌∷◌, ◌++◌, length, get_or, refl, sym, ap, ◌∙◌, arith, rules}
use Rattle.std.proofs.Common.{append-nil, add-one, zero-add}
use Rattle.std.specs.Prelude.{Option, Some, None, find, filter_map, flat_map, slice_get, nat_lt}
use Rattle.std.specs.List.{range_with_len, cons_option, position, position_or_len, remove}
use Rattle.std.proofs.lemmas.Bool.{eqb-true, false_from_ne_true}
use Rattle.std.proofs.lemmas.Grind.{flat_map-append}
use Rattle.std.proofs.lemmas.List.Elements.{filter_map-append}
use Rattle.std.proofs.lemmas.List.Folds.{find_at}
use Rattle.std.proofs.lemmas.List.Quantifiers.{position-Some}
use Rattle.std.proofs.lemmas.Option.{none-some, slice_get-get_or, slice_get_past}
use Rattle.wav_files.specs.declared.outcome.Kept.{Kept}
use Rattle.wav_files.specs.declared.outcome.Outcome.{Outcome}
use Rattle.pw_top.specs.Joined.{all_of, kept_at}

-- a list without an item that does not pass
find_without : {X : Type 0} (p : X → Bool) (xs : List X) (i : ℕ) (d : X) → i < length xs → p (get_or xs i d) ≡ false
    → find p (remove xs i) ≡ find p xs
find_without p [] i d lt fails = absurd (omega (arith, lt))
find_without p (x ∷ xs) zero d lt fails = sym (ap (λ (b : Bool). cond b (Some x) (find p xs)) fails)
find_without {X} p (x ∷ xs) (suc i) d lt fails =
    ap (λ (r : Option X). cond (p x) (Some x) r) (find_without p xs i d (omega (arith, lt)) fails)

-- the item at the first place
place_is : {X : Type 0} (p : X → Bool) (xs : List X) (i : ℕ) → position p xs ≡ Some i → position_or_len p xs ≡ i
place_is p xs i e = go (nat_lt (position_or_len p xs) (length xs)) e where
  go : (b : Bool) → cond b (Some (position_or_len p xs)) None ≡ Some i → position_or_len p xs ≡ i
  go true h = cc
  go false h = cc

pub not_found : {X : Type 0} (p : X → Bool) (xs : List X) → position p xs ≡ None → find p xs ≡ None
not_found p xs e = find_at p xs ∙ slice_get_past xs (position_or_len p xs) (go (nat_lt (position_or_len p xs) (length xs)) refl e) where
  go : (b : Bool) → nat_lt (position_or_len p xs) (length xs) ≡ b → cond b (Some (position_or_len p xs)) None ≡ None → length xs ≤ position_or_len p xs
  go true t h = absurd (none-some (position_or_len p xs) (sym h))
  go false t h = search (rules, t)

pub found_at : {X : Type 0} (p : X → Bool) (xs : List X) (i : ℕ) (d : X) → position p xs ≡ Some i → find p xs ≡ Some (get_or xs i d)
found_at p xs i d e = find_at p xs ∙ (ap (slice_get xs) (place_is p xs i e) ∙ slice_get-get_or xs i d (position-Some p xs i d e).0)

pub taken_out : (sinks : List Kept) (n i : ℕ) (d : Kept) → position (λ k. k.node == n) sinks ≡ Some i
    → (m : ℕ) → m ≢ n → kept_at (remove sinks i) m ≡ kept_at sinks m
taken_out sinks n i d e m other =
    let at = position-Some (λ (k : Kept). k.node == n) sinks i d e in
    let node : (get_or sinks i d).node ≡ n = eqb-true _ n at.1 in
    find_without (λ (k : Kept). k.node == m) sinks i d at.0
    (false_from_ne_true _ (λ same. other (sym (eqb-true _ m same) ∙ node)))

-- one number more
range_more : (a n : ℕ) → range_with_len a (suc n) ≡ range_with_len a n ++ (a + n) ∷ []
range_more a zero = grind arith
range_more a (suc n) = ap (λ (xs : List ℕ). a ∷ xs) (range_more (a + 1) n) ∙ ap (λ (k : ℕ). a ∷ (range_with_len (a + 1) n ++ k ∷ [])) (grind arith)

given_more : {Y : Type 0} (h : ℕ → Option Y) (n : ℕ) → filter_map h (range_with_len 0 (n + 1)) ≡ filter_map h (range_with_len 0 n) ++ cons_option (h n) []
given_more h n = ap (filter_map h) (rw add-one (range_more 0 n ∙ ap (λ (k : ℕ). range_with_len 0 n ++ k ∷ []) (zero-add n)))
    ∙ filter_map-append h (range_with_len 0 n) (n ∷ [])

pub one_given : {Y : Type 0} (h : ℕ → Option Y) (n : ℕ) (y : Y) → h n ≡ Some y
    → filter_map h (range_with_len 0 (n + 1)) ≡ filter_map h (range_with_len 0 n) ++ y ∷ []
one_given {Y} h n y e = given_more h n ∙ ap (λ (o : Option Y). filter_map h (range_with_len 0 n) ++ cons_option o []) e

pub none_given : {Y : Type 0} (h : ℕ → Option Y) (n : ℕ) → h n ≡ None → filter_map h (range_with_len 0 (n + 1)) ≡ filter_map h (range_with_len 0 n)
none_given {Y} h n e = given_more h n ∙ (ap (λ (o : Option Y). filter_map h (range_with_len 0 n) ++ cons_option o []) e ∙ append-nil (filter_map h (range_with_len 0 n)))

-- one run more
more_of : {X : Type 0} (f : Outcome → List X) (os : List Outcome) (o : Outcome) → flat_map f (os ++ o ∷ []) ≡ flat_map f os ++ f o
more_of f os o = flat_map-append f os (o ∷ []) ∙ ap (λ l. flat_map f os ++ l) (append-nil (f o))

pub all_more : (os : List Outcome) (o all : Outcome) → all.history ≡ (all_of os).history ++ o.history → all.sinks ≡ (all_of os).sinks ++ o.sinks
    → all.peaks ≡ (all_of os).peaks ++ o.peaks → all ≡ all_of (os ++ o ∷ [])
all_more os o all h s p = λ i. record {
  history = (h ∙ sym (more_of (λ (x : Outcome). x.history) os o)) i;
  sinks = (s ∙ sym (more_of (λ (x : Outcome). x.sinks) os o)) i;
  peaks = (p ∙ sym (more_of (λ (x : Outcome). x.peaks) os o)) i;
}
