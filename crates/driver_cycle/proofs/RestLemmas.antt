-- A round's work, and the rest at its end.
use Rattle.std.proofs.Common.{◌≡◌, ℕ, ◌+◌, ◌<◌, ◌≤◌, ◌||◌, Bool, true, false, true≢false, List, length, get_or, set, refl, sym, ap, ◌∙◌, subst, arith, inl, inr}
use Rattle.std.proofs.Common.{get_or-set_same, get_or-set_other}
use Rattle.crossbeam_utils.specs.Token.{parker_view}
use Rattle.board_rule.specs.Layout.{BoardLayout}
use Rattle.ready_queues.specs.declared.way.Way.{Way}
use Rattle.ready_queues.specs.declared.ways.Ways.{Ways}
use Rattle.data_loop.specs.declared.loop_state.LoopState.{LoopState}
use Rattle.driver_cycle.specs.Settling.{AreEach}
use Rattle.driver_cycle.specs.Waking.{HasTakenTurn, HasTurnedIdle, HasRested}
use Rattle.driver_cycle.specs.working.Resting.{HasNotRested, HasTurnedRan, HasOneRan, EndsRound}

-- after a turn
module _ (p : BoardLayout) (ways : Ways) (s : LoopState) (a : Way) (t : LoopState) (b : Way) where
  pub turn_still : (ran : Bool) → HasTakenTurn ran p ways s a t b → HasNotRested a b
  turn_still true took = took.3.1.own
  turn_still false took = ap (λ (w : Way). parker_view w.own) took.2

  pub turn_ran : (ran : Bool) → ran ≡ true → HasTakenTurn ran p ways s a t b → HasTurnedRan p s t
  turn_ran true e took = (took.0, took.1)
  turn_ran false e took = absurd (true≢false (sym e))

-- of two, one is true
pub either : (a b : Bool) (P : Type 0) → (a || b) ≡ true → (a ≡ true → P) → (b ≡ true → P) → P
either true b P e one two = one refl
either false b P e one two = two e

-- among the loops before k one ran
pub record HasOneRanBelow (p : BoardLayout) (k : ℕ) (old new : List LoopState) : Type 0 where
  pub index : ℕ
  pub below : index < k
  pub inside : index < length old
  pub ran : (d : LoopState) → HasTurnedRan p (get_or old index d) (get_or new index d)

module _ (p : BoardLayout) (k : ℕ) (old now : List LoopState) (x : LoopState) where
  pub kept_ran : HasOneRanBelow p k old now → HasOneRanBelow p (k + 1) old (set now k x)
  kept_ran h = let low = h.below in record {
    index = h.index;
    below = omega (arith, low);
    inside = h.inside;
    ran = λ d. subst (HasTurnedRan p (get_or old h.index d)) (sym (get_or-set_other now k h.index x d (λ is. omega (arith, is, low)))) (h.ran d);
  }

  pub new_ran : k < length now → k < length old → ((d : LoopState) → HasTurnedRan p (get_or old k d) x) → HasOneRanBelow p (k + 1) old (set now k x)
  new_ran low was ran = record {
    index = k;
    below = omega arith;
    inside = was;
    ran = λ d. subst (HasTurnedRan p (get_or old k d)) (sym (get_or-set_same now k x d low)) (ran d);
  }

pub one_ran : (p : BoardLayout) (k : ℕ) (old now : List LoopState) → HasOneRanBelow p k old now → HasOneRan p old now
one_ran p k old now h = record {
  index = h.index;
  inside = h.inside;
  ran = h.ran;
}

-- the end of a round, by what its own turn, those of the adopted loops, and its claim answered
module _ (p : BoardLayout) (ways : Ways) (own turned : LoopState) (adopted after : List LoopState) (a w x b : Way) where
  pub ends_round : (own_ran other_ran ended : Bool) → HasTakenTurn own_ran p ways own a turned w
      → (other_ran ≡ true → HasOneRan p adopted after) → (other_ran ≡ false → AreEach (HasTurnedIdle p) adopted after)
      → (other_ran ≡ false → x ≡ w) → HasNotRested w x
      → (((own_ran || other_ran) || ended) ≡ false → length after < ways.loops → HasRested x b)
      → (((own_ran || other_ran) || ended) ≡ true → b ≡ x) → (ways.loops ≤ length after → b ≡ x)
      → EndsRound ended p ways.loops own adopted after a b
  ends_round true other ended took ran idle quiet still rests done alone = record {
    turned = turned;
    rest = inl (
      inr (inl (took.0, took.1)),
      ap (λ (v : Way). parker_view v.own) (done refl) ∙ (still ∙ turn_still p ways own a turned w true took),
    );
  }
  ends_round false true ended took ran idle quiet still rests done alone = record {
    turned = turned;
    rest = inl (
      inr (inr (ran refl)),
      ap (λ (v : Way). parker_view v.own) (done refl) ∙ (still ∙ turn_still p ways own a turned w false took),
    );
  }
  ends_round false false true took ran idle quiet still rests done alone = record {
    turned = turned;
    rest = inl (
      inl refl,
      ap (λ (v : Way). parker_view v.own) (done refl) ∙ (still ∙ turn_still p ways own a turned w false took),
    );
  }
  ends_round false false false took ran idle quiet still rests done alone = let same : x ≡ a = quiet refl ∙ took.2 in record {
    turned = turned;
    rest = inr (
      record {
        goes_on = refl;
        own_idle = took.0;
        adopted_idle = idle refl;
      },
      record {
        rested = λ few. subst (λ (v : Way). HasRested v b) same (rests refl few);
        alone = λ all. alone all ∙ same;
      },
    );
  }
