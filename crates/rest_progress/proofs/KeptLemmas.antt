-- Each step of a run keeps what is said of rests.
use Rattle.std.proofs.Common.{ℕ, inl, inr, ⊎_elim, true, false, true≢false, Option}
use Rattle.std.proofs.Common.{refl, sym, ap, ◌∙◌, subst}
use mathlib.Core.Logic.{dite}
use native.Mathlib.Decide.{ℕ_discrete}
use Rattle.board_rule.specs.Layout.{BoardLayout}
use Rattle.board_rule.specs.View.{put}
use Rattle.board_rule.specs.BoardRule.{Holds}
use Rattle.board_rule.proofs.start.SeatLemmas.{put_here, put_else}
use Rattle.rest_progress.specs.Sleepers.{Crew, Sleeper, RunState, IsAwake, IsUp}
use Rattle.rest_progress.specs.Rests.{IsAtRest}
use Rattle.rest_progress.specs.AfterSteps.{after_trigger, after_try, after_gift, after_rest, after_take, after_all, with_move, given, laid}
use Rattle.rest_progress.specs.RestSteps.{triggered_by, tried_by}
use Rattle.rest_progress.specs.RestSteps.{RestSteps}
use Rattle.rest_progress.specs.RestSteps.RestSteps.{advances, tries, gives, lies_down, takes, leaves}
use Rattle.rest_progress.specs.working.Kept.{IsKept}
use Rattle.rest_progress.proofs.FrameLemmas.{advance_frame, vain_frame}
use Rattle.rest_progress.proofs.NodeEndLemmas.{not_both}
use Rattle.rest_progress.proofs.SleeperLemmas.{asleep_or, owes_still, tried_was, trigger_awake, try_awake}
use Rattle.rest_progress.proofs.StillLemmas.{views_still, rests_after, ended_after, owed_after, up_after, rests_on}
use Rattle.rest_progress.proofs.CalledLemmas.{advance_called, try_called, vain_early, plain_called, gift_owed}

module _ (p : BoardLayout) (crew : Crew) (s : RunState) (h : Holds p s.board) (k : IsKept p crew s) where
  pub kept : (t : RunState) → RestSteps p crew s t → IsKept p crew t
  kept t (advances a i v x y up may at e) = let q : Option ℕ = triggered_by p s.board.words v x y in let z : Sleeper = after_trigger p crew.home a q (s.sleepers a) in
      let awake : IsAwake z = trigger_awake p crew.home a q (s.sleepers a) up.1 in subst (IsKept p crew) (sym e) record {
        rests = rests_after p crew s (with_move s i x).board s.tokens a z (λ w. absurd (true≢false (sym w ∙ awake.0)))
            (λ b o. views_still p crew.home s a i b v x.view o may at) k.rests;
        called = advance_called p crew s h k a i x q (λ n inside. advance_frame p h.seated.sound s.board.words h.seated.wide n inside v x y);
        owed = owed_after p crew s (with_move s i x).board s.tokens a z (λ c w. (up.0, awake)) k.owed;
        left = ended_after p crew s (with_move s i x).board s.tokens a z (λ w. absurd (true≢false (sym w ∙ awake.1)))
            (λ b o. views_still p crew.home s a i b v x.view o may at) k.left;
        manned = λ n inside none some_left. (a, up_after p crew s (with_move s i x).board s.tokens a z a (λ w. awake) up);
      }
  kept t (tries a i v x back y up may at e) = let q : Option ℕ = tried_by p s.board.words v x back y in let z : Sleeper = after_try q (s.sleepers a) in
      let awake : IsAwake z = try_awake q (s.sleepers a) up.1 in subst (IsKept p crew) (sym e) record {
        rests = rests_after p crew s (with_move s i x).board s.tokens a z (λ w. absurd (true≢false (sym w ∙ awake.0)))
            (λ b o. views_still p crew.home s a i b v x.view o may at) k.rests;
        called = try_called p crew s h k a i x q
            (λ n inside w. inl (vain_frame p h.seated.sound s.board.words h.seated.wide n inside v x back y w)) (vain_early p crew s h k i v at x back y);
        owed = owed_after p crew s (with_move s i x).board s.tokens a z (λ c w. (up.0, awake)) k.owed;
        left = ended_after p crew s (with_move s i x).board s.tokens a z (λ w. absurd (true≢false (sym w ∙ awake.1)))
            (λ b o. views_still p crew.home s a i b v x.view o may at) k.left;
        manned = λ n inside none some_left. (a, up_after p crew s (with_move s i x).board s.tokens a z a (λ w. awake) up);
      }
  kept t (gives a b low high e) = let z : Sleeper = after_gift b (s.sleepers a) in subst (IsKept p crew) (sym e) record {
    rests = rests_after p crew s s.board (put s.tokens b true) a z
        (λ w. rests_on p crew.home s (given s a b) a (λ n r. ap (λ (x : Sleeper). x.tried n) (put_here s.sleepers a z) ∙ r) (λ id u there mine. there) (k.rests a w))
        (λ c o id u there mine. there) k.rests;
    called = λ n c inside at tried w. dite (ℕ_discrete c b) (λ y. inl (ap (put s.tokens b true) y ∙ put_here s.tokens b true))
        (λ o. ⊎_elim (λ token. inl (put_else s.tokens b c true o ∙ token)) (λ d. inr d)
        (plain_called p crew s h k a n c z inside at (λ y. y) (λ y. put_else (s.sleepers a).owes b c false o ∙ y) tried w));
    owed = owed_after p crew s s.board (put s.tokens b true) a z (λ c w. k.owed a c (gift_owed p crew s h k (s.sleepers a).owes b c w)) k.owed;
    left = ended_after p crew s s.board (put s.tokens b true) a z (λ w n inside at. k.left n a inside at w) (λ c o id u there mine. there) k.left;
    manned = λ n inside none some_left. let d = k.manned n inside none some_left in
        (d.0, up_after p crew s s.board (put s.tokens b true) a z d.0 (λ y. subst (λ j. IsAwake (s.sleepers j)) y d.1.1) d.1);
  }
  kept t (lies_down a up may e) = let z : Sleeper = after_rest (s.sleepers a) in subst (IsKept p crew) (sym e) record {
    rests = rests_after p crew s s.board s.tokens a z
        (λ w. rests_on p crew.home s (laid s a) a (λ n r. ap (λ (x : Sleeper). x.tried n) (put_here s.sleepers a z) ∙ r) (λ id u there mine. there) may.rests)
        (λ c o id u there mine. there) k.rests;
    called = λ n c inside at tried w. plain_called p crew s h k a n c z inside at (λ y. y) (λ y. y) tried w;
    owed = owed_after p crew s s.board s.tokens a z (λ c w. absurd (true≢false (sym w ∙ may.clear c))) k.owed;
    left = ended_after p crew s s.board s.tokens a z (λ w. absurd (true≢false (sym w ∙ up.1.1))) (λ c o id u there mine. there) k.left;
    manned = λ n inside none some_left. let d = may.company n inside none some_left in
        let never : IsAtRest p crew.home s d.0 → ⊥ = (λ r. d.3 r.some_left.0 r.some_left.1 r.some_left.2) in
        let awake : IsUp crew s d.0 = (d.1, (⊎_elim (λ y. absurd (never (k.rests d.0 y))) (λ y. y) (asleep_or (s.sleepers d.0).asleep), d.2)) in
        (d.0, up_after p crew s s.board s.tokens a z d.0 (λ y. absurd (never (subst (IsAtRest p crew.home s) (sym y) may.rests))) awake);
  }
  kept t (takes a low token e) = let z : Sleeper = after_take (s.sleepers a) in subst (IsKept p crew) (sym e) record {
    rests = rests_after p crew s s.board (put s.tokens a false) a z (λ w. absurd (true≢false (sym w))) (λ c o id u there mine. there) k.rests;
    called = λ n c inside at tried w. ⊎_elim (λ y. absurd (true≢false (sym y.1)))
        (λ y. ⊎_elim (λ has. inl (put_else s.tokens a c false y.0 ∙ has)) (λ d. inr (d.0, d.1, owes_still s.sleepers a z d.0 c (λ x. x) d.2))
        (k.called n c inside at y.1 w)) (tried_was s.sleepers a z c n tried);
    owed = owed_after p crew s s.board (put s.tokens a false) a z (λ c w. let d = k.owed a c w in (low, (refl, d.1.1))) k.owed;
    left = ended_after p crew s s.board (put s.tokens a false) a z (λ w n inside at. k.left n a inside at w) (λ c o id u there mine. there) k.left;
    manned = λ n inside none some_left. let d = k.manned n inside none some_left in
        (d.0, up_after p crew s s.board (put s.tokens a false) a z d.0 (λ y. (refl, ap (λ j. (s.sleepers j).gone) (sym y) ∙ d.1.1.1)) d.1);
  }
  kept t (leaves a up may e) = let z : Sleeper = after_all (s.sleepers a) in subst (IsKept p crew) (sym e) record {
    rests = rests_after p crew s s.board s.tokens a z (λ w. absurd (true≢false (sym w ∙ up.1.0))) (λ c o id u there mine. there) k.rests;
    called = λ n c inside at tried w. plain_called p crew s h k a n c z inside at (λ y. y) (λ y. y) tried w;
    owed = owed_after p crew s s.board s.tokens a z (λ c w. absurd (true≢false (sym w ∙ may.clear c))) k.owed;
    left = ended_after p crew s s.board s.tokens a z (λ w n inside at. may.ended n inside (inl at)) (λ c o id u there mine. there) k.left;
    manned = λ n inside none some_left. absurd (not_both p s.board h n inside some_left (may.ended n inside (inr none)));
  }
