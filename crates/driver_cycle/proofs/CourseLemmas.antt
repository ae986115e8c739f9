-- The rounds of the driver's thread, one after the other.
use Rattle.std.proofs.Common.{◌≡◌, ℕ, zero, suc, ◌+◌, ◌<◌, ◌≤◌, ◌⊎◌, inl, inr, Bool, true, false, List, length, get_or, set, refl, sym, subst, arith}
use Rattle.std.proofs.Common.{get_or-set_same, get_or-set_other}
use Rattle.board_rule.specs.Layout.{BoardLayout}
use Rattle.ready_queues.specs.declared.way.Way.{Way}
use Rattle.ready_queues.specs.declared.ways.Ways.{Ways}
use Rattle.data_loop.specs.declared.loop_state.LoopState.{LoopState}
use Rattle.driver_cycle.specs.Stands.{HaveTakenTurns}
use Rattle.driver_cycle.specs.Waking.{HasTakenTurn, HasRested}

module _ (p : BoardLayout) (ways : Ways) (old now : List LoopState) where
  -- a loop changes that took no turn yet
  taken_still : (x : LoopState) (k : ℕ) (a b : Way) (i : ℕ) → i ≤ k → HaveTakenTurns p ways old now a i b → HaveTakenTurns p ways old (set now k x) a i b
  taken_still x k a b zero low h = h
  taken_still x k a b (suc i) low h = (
    h.0,
    h.1,
    taken_still x k a h.1 i (omega arith) h.2,
    (λ d. subst (λ (y : LoopState). HasTakenTurn h.0 p ways (get_or old i d) h.1 y b) (sym (get_or-set_other now k i x d (λ e. omega arith))) (h.3 d)),
  )

  -- one more turn
  pub taken_on : (x : LoopState) (a b c : Way) (k : ℕ) (ran : Bool) → k < length now → HaveTakenTurns p ways old now a k b
      → ((d : LoopState) → HasTakenTurn ran p ways (get_or old k d) b x c) → HaveTakenTurns p ways old (set now k x) a (k + 1) c
  taken_on x a b c k ran low h new = subst (λ i. HaveTakenTurns p ways old (set now k x) a i c) (let e : suc k ≡ k + 1 = omega arith in e) (
    ran,
    b,
    taken_still x k a b k (omega arith) h,
    (λ d. subst (λ (y : LoopState). HasTakenTurn ran p ways (get_or old k d) b y c) (sym (get_or-set_same now k x d low)) (new d)),
  )

  pub taken_to : (a b : Way) (k n : ℕ) → k ≡ n → HaveTakenTurns p ways old now a k b → HaveTakenTurns p ways old now a n b
  taken_to a b k n e h = subst (λ i. HaveTakenTurns p ways old now a i b) e h

-- the way at the end of a round
pub ends_way : (n loops : ℕ) (a b : Way) (done : Bool) → (done ≡ false → n < loops → HasRested a b) → (done ≡ true → b ≡ a) → (loops ≤ n → b ≡ a)
    → (n < loops) ⊎ (loops ≤ n) → (b ≡ a) ⊎ HasRested a b
ends_way n loops a b true rests done alone few = inl (done refl)
ends_way n loops a b false rests done alone (inl few) = inr (rests refl few)
ends_way n loops a b false rests done alone (inr all) = inl (alone all)
