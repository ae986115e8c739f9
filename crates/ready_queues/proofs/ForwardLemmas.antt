-- What the driver's thread must see to, and how often it is unparked.
use Rattle.std.proofs.Common.{◌≡◌, ◌≢◌, ℕ, ◌<◌, ◌≤◌, ◌^◌, ◌+◌, ◌⊎◌, inl, inr, List, length, sym, ap, ◌∙◌, subst, ⊎_elim, refl, arith, true≢false, false, get_or, eq-eqb}
use Rattle.std.specs.Prelude.{Some, None, slice_get, slice_index}
use Rattle.std.specs.Int.{bit_at}
use Rattle.std.proofs.lemmas.Bool.{cases_lt}
use Rattle.std.proofs.lemmas.Option.{slice_get_cases, get_or_from_slice_get, slice_get_within, slice_get-get_or}
use Rattle.std.proofs.lemmas.Nat.Bits.{bit_at_above, bit_at-zero}
use mathlib.Core.Logic.{dite}
use native.Mathlib.Decide.{ℕ_discrete}
use Rattle.ready_queues.specs.declared.start_view.StartView.{StartView}
use Rattle.ready_queues.specs.declared.parking.Woken.{Woken}
use Rattle.ready_queues.specs.declared.end.End.{End}
use Rattle.ready_queues.specs.Ends.{sight_of, AreSameSights}
use Rattle.ready_queues.specs.ParkingRule.{given_on}
use Rattle.ready_queues.specs.Sending.{is_of, HaveSent}
use Rattle.ready_queues.specs.Watching.{IsDriversOwn, IsSeen, IsLater, IsLookedAt, AreLookedAt, AreLater}
use Rattle.ready_queues.specs.Forwarding.{HasUnseen, HasForDriver, IsUnparkedFor}
use Rattle.ready_queues.proofs.SightLemmas.{chained, seen_more, for_driver_more}

-- the nodes of the set were found to be seen that are not in its rest
module _ (owner : List ℕ) (loops woke : ℕ) where
  pub record AreFound (rest : ℕ) (ends : List End) : Type 0 where
    pub part : (x : ℕ) → x < 64 → bit_at rest x ≡ 1 → bit_at woke x ≡ 1
    pub found : (x : ℕ) → x < 64 → bit_at woke x ≡ 1 → (bit_at rest x ≡ 1) ⊎ IsSeen owner loops ends x

  pub all_left : (ends : List End) → AreFound woke ends
  all_left ends = record { part = λ x _ is. is; found = λ x _ is. inl is }

  pub one_found : (rest less n : ℕ) (ends new : List End) → length new ≡ length ends → AreLookedAt ends new → IsSeen owner loops new n → bit_at less n ≡ 0
      → ((x : ℕ) → x < 64 → x ≢ n → bit_at less x ≡ bit_at rest x) → AreFound rest ends → AreFound less new
  one_found rest less n ends new long looked seen gone others f = record {
    part = λ x low is. dite (ℕ_discrete x n)
        (λ (e : x ≡ n). let none = ap (bit_at less) e ∙ gone in absurd (omega arith))
        (λ ne. f.part x low (sym (others x low ne) ∙ is));
    found = λ x low is. dite (ℕ_discrete x n)
        (λ (e : x ≡ n). inr (subst (IsSeen owner loops new) (sym e) seen))
        (λ ne. ⊎_elim (λ left. inl (others x low ne ∙ left)) (λ s. inr (seen_more owner loops x ends ends new refl long looked s)) (f.found x low is));
  }

  pub all_found : (rest : ℕ) (ends : List End) → woke < 2 ^ 64 → AreFound rest ends → ((x : ℕ) → x < 64 → bit_at rest x ≡ 0) → (node : ℕ) → bit_at woke node ≡ 1 → IsSeen owner loops ends node
  all_found rest ends fits f empty node is = by (cases_lt node 64)
    where
      by : (node < 64) ⊎ (64 ≤ node) → IsSeen owner loops ends node
      by (inl low) = ⊎_elim (λ left. let zero = empty node low in absurd (omega arith)) (λ s. s) (f.found node low is)
      by (inr high) = let zero = bit_at_above woke 64 node fits high in absurd (omega arith)

  pub for_driver_same : (old mid new : List End) → length mid ≡ length old → AreSameSights old mid → HasForDriver owner loops woke mid new → HasForDriver owner loops woke old new
  for_driver_same old mid new long same h = (
    h.0,
    h.1,
    for_driver_more owner loops h.0 old mid new long (λ l a b was at. let is = ap (λ (v : StartView). v.misses) (same l a b was at) in omega arith) h.2,
  )

  -- it is unparked
  pub unparked : (number : ℕ) (old new : List End) → number ≢ loops → HasForDriver owner loops woke old new → IsUnparkedFor owner loops woke number old new 1
  unparked number old new other h = record {
    most = omega arith;
    itself = λ is. absurd (other is);
    nothing = λ none. let one = h.1 in let zero = ap (λ n. bit_at n h.0) none ∙ bit_at-zero h.0 in absurd (omega arith);
    needed = λ _ _. refl;
    sparing = λ _. h;
  }

  -- it is not unparked: the call is its own, or it has nothing to see to
  pub not_unparked : (number : ℕ) (old new : List End) → (number ≢ loops → HasUnseen owner loops woke new → ⊥) → IsUnparkedFor owner loops woke number old new 0
  not_unparked number old new none = record {
    most = omega arith;
    itself = λ _. refl;
    nothing = λ _. refl;
    needed = λ other h. absurd (none other h);
    sparing = λ one. absurd (omega arith);
  }

  pub none_unseen : (new : List End) → length new ≡ loops → ((node : ℕ) → bit_at woke node ≡ 1 → IsSeen owner loops new node) → HasUnseen owner loops woke new → ⊥
  none_unseen new count all h = let s = all h.0 h.1 in let low = s.1 in ⊎_elim
      (λ (t : (e : End) × (s.0 < length new) × (slice_get new s.0 ≡ Some e) × (get_or new s.0 e ≡ e)). true≢false (sym (s.3 t.0 t.2) ∙ h.2 s.0 t.0 s.1 s.2 t.2))
      (λ (t : (length new ≤ s.0) × (slice_get new s.0 ≡ None)). let high = t.0 in absurd (omega arith))
      (slice_get_cases new s.0).1

-- a node that no loop has
pub drivers_own : (owner : List ℕ) (loops node : ℕ) → get_or owner node 0 ≤ loops → ((l : ℕ) → l < loops → is_of owner l node ≡ false) → IsDriversOwn owner loops node
drivers_own owner loops node most none l is = by (cases_lt l loops)
  where
    same : get_or owner node 0 ≡ l
    same = get_or_from_slice_get owner node l 0 is

    by : (l < loops) ⊎ (loops ≤ l) → l ≡ loops
    by (inl less) = absurd (true≢false (sym (eq-eqb (slice_index owner node) l same) ∙ none l less))
    by (inr high) = let e = same in omega arith

-- no token
pub none_given : (w : Woken) → w ≡ given_on w 0
none_given w = ap (λ n. record { given = n; taken = w.taken }) plus
  where
    plus : w.given ≡ w.given + 0
    plus = omega arith

-- sent, and then looked
pub sent_looked : (owner : List ℕ) (spared woke full n : ℕ) (old mid new : List End) → length mid ≡ length old → HaveSent owner spared woke full n old mid → AreLookedAt mid new → HaveSent owner spared woke full n old new
sent_looked owner spared woke full n old mid new count sent looked l a c was is = let low = slice_get_within old l a was in let b : End = get_or mid l a in
    let at : slice_get mid l ≡ Some b = slice_get-get_or mid l a (omega arith) in let s = sent l a b was at in let k = looked l b c at is in record { hand = k.hand ∙ s.hand; wakes = k.wakes ∙ s.wakes }

pub later_looked : (old mid new : List End) → length mid ≡ length old → AreSameSights old mid → AreLookedAt mid new → AreLater old new
later_looked = chained (λ a b. sight_of b ≡ sight_of a) IsLookedAt (λ a b. IsLater (sight_of a) (sight_of b)) (λ a b c same looked. subst (λ v. IsLater v (sight_of c)) same looked.sight)
