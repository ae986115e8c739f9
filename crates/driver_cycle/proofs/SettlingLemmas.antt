-- Loops of the driver's thread, one after the other.
use Rattle.std.proofs.Common.{◌≡◌, ℕ, ◌+◌, ◌<◌, ◌≤◌, List, length, get_or, set, refl, sym, ap, ◌∙◌, subst, arith, ⊎_elim}
use Rattle.std.proofs.Common.{length-set, get_or-set_same, get_or-set_other}
use Rattle.std.proofs.lemmas.Bool.{cases_lt}
use Rattle.data_loop.specs.declared.loop_state.LoopState.{LoopState}
use Rattle.driver_cycle.specs.Settling.{AreEach, AreEachBelow}
pub use Rattle.data_loop.proofs.SettlingLemmas.{same_but_refl, same_but_on, no_turns, more_turns, same_driver, settled_after}

-- loops one after the other
module _ (R : LoopState → LoopState → Type 0) (old : List LoopState) where
  pub none_below : AreEachBelow R 0 old old
  none_below = record {
    count = refl;
    each = λ j d low. absurd (omega (arith, low));
    left = λ j d past. refl;
  }

  pub one_more : (k : ℕ) (now : List LoopState) (x : LoopState) → k < length now → AreEachBelow R k old now
      → ((d : LoopState) → R (get_or old k d) x) → AreEachBelow R (k + 1) old (set now k x)
  one_more k now x low h new = let count = h.count in record {
    count = length-set now k x ∙ count;
    each = λ j d below. ⊎_elim
        (λ (early : j < k). subst (R (get_or old j d)) (sym (get_or-set_other now k j x d (λ is. omega (arith, is, early)))) (h.each j d early))
        (λ (late : k ≤ j). let is : j ≡ k = omega (arith, below, late) in
        subst (λ (y : LoopState × LoopState). R y.0 y.1)
        (λ i. (get_or old (sym is i) d, sym (ap (λ m. get_or (set now k x) m d) is ∙ get_or-set_same now k x d low) i)) (new d))
        (cases_lt j k);
    left = λ j d past. get_or-set_other now k j x d (λ is. omega (arith, is, past)) ∙ h.left j d (omega (arith, past));
  }

  pub all_below : (k : ℕ) (now : List LoopState) → length now ≤ k → AreEachBelow R k old now → AreEach R old now
  all_below k now all h = let count = h.count in record {
    count = count;
    each = λ j d low. h.each j d (omega (arith, low, all, count));
  }
