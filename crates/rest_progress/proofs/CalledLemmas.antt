-- Of a node that was tried and is TRIGGERED the home is called, after each step as before it.
use Rattle.std.proofs.Common.{◌≡◌, ℕ, ◌<◌, ◌⊎◌, inl, inr, ⊎_elim, Bool, true, false, true≢false, Option, Some, None}
use Rattle.std.proofs.Common.{sym, ap, ◌∙◌, subst}
use Rattle.std.proofs.lemmas.Option.{none-some, same_Some}
use mathlib.Core.Logic.{dite}
use mathlib.Core.Option.{some}
use native.Mathlib.Decide.{ℕ_discrete}
use lib.ListN.{get_elem?}
use Rattle.board_rule.specs.declared.view.View.{View}
use Rattle.board_rule.specs.Layout.{BoardLayout, nodes}
use Rattle.board_rule.specs.View.{put}
use Rattle.board_rule.specs.BoardRule.{Holds}
use Rattle.board_rule.proofs.start.SeatLemmas.{put_here, put_else}
use Rattle.board_progress.specs.Moves.{Move}
use Rattle.board_progress.specs.VainSteps.{VainSteps}
use Rattle.board_progress.specs.VainSteps.VainSteps.{claims_early, loads_again}
use Rattle.rest_progress.specs.Sleepers.{Crew, Sleeper, RunState, HasTried, seat_at, IsTriggered}
use Rattle.rest_progress.specs.AfterSteps.{after_trigger, after_try, with_sleeper, with_move}
use Rattle.rest_progress.specs.RestSteps.{tried_by}
use Rattle.rest_progress.specs.Heard.{IsCalled}
use Rattle.rest_progress.specs.working.Kept.{IsKept}
use Rattle.rest_progress.proofs.RowLemmas.{early_not}
use Rattle.rest_progress.proofs.SleeperLemmas.{owes_still, tried_was, try_owes, try_tried, indebted_still, indebted_there}

module _ (p : BoardLayout) (crew : Crew) (s : RunState) (h : Holds p s.board) (k : IsKept p crew s) where
  abbrev Frame : RunState → Option ℕ → Type 0
  Frame u q = (n : ℕ) → n < nodes p → IsTriggered p u.board.words n → IsTriggered p s.board.words n ⊎ (q ≡ Some n)

  -- AN ADVANCE of the thread a, which triggers q
  pub advance_called : (a i : ℕ) (x : Move) (q : Option ℕ) → Frame (with_move s i x) q → (n c : ℕ) → n < nodes p → crew.home (seat_at p n) ≡ Some c
      → (put s.sleepers a (after_trigger p crew.home a q (s.sleepers a)) c).tried n ≡ true → IsTriggered p (with_move s i x).board.words n
      → IsCalled (with_sleeper (with_move s i x) a (after_trigger p crew.home a q (s.sleepers a))) c
  advance_called a i x None frame n c inside at tried t =
      let was : HasTried s c n = ⊎_elim (λ z. ap (λ j. (s.sleepers j).tried n) z.0 ∙ z.1) (λ z. z.1)
      (tried_was s.sleepers a (s.sleepers a) c n tried) in
      ⊎_elim (λ z. ⊎_elim (λ token. inl token)
      (λ d. inr (d.0, d.1, owes_still s.sleepers a (s.sleepers a) d.0 c (λ o. o) d.2)) (k.called n c inside at was z))
      (λ z. absurd (none-some n z)) (frame n inside t)
  advance_called a i x (Some m) frame n c inside at tried t = ⊎_elim (λ z. absurd (true≢false (sym z.1)))
      (λ z. ⊎_elim (λ still. ⊎_elim (λ token. inl token)
      (λ d. inr (
        d.0,
        d.1,
        owes_still s.sleepers a (after_trigger p crew.home a (Some m) (s.sleepers a)) d.0 c
            (λ o. indebted_still a (crew.home (seat_at p m)) (s.sleepers a).owes c o) d.2,
      )) (k.called n c inside at z.1 still))
      (λ e. inr (
        a,
        (λ y. z.0 (sym y)),
        ap (λ (y : Sleeper). y.owes c) (put_here s.sleepers a (after_trigger p crew.home a (Some m) (s.sleepers a)))
            ∙ indebted_there a (crew.home (seat_at p m)) (s.sleepers a).owes c (ap (λ j. crew.home (seat_at p j)) (same_Some m n e) ∙ at) z.0,
      )) (frame n inside t))
      (tried_was s.sleepers a (after_trigger p crew.home a (Some m) (s.sleepers a)) c n tried)

  -- A TRY of the thread a, which finds q not TRIGGERED
  pub try_called : (a i : ℕ) (x : Move) (q : Option ℕ) → Frame (with_move s i x) None → ((m : ℕ) → q ≡ Some m → IsTriggered p s.board.words m → ⊥)
      → (n c : ℕ) → n < nodes p → crew.home (seat_at p n) ≡ Some c → (put s.sleepers a (after_try q (s.sleepers a)) c).tried n ≡ true
      → IsTriggered p (with_move s i x).board.words n → IsCalled (with_sleeper (with_move s i x) a (after_try q (s.sleepers a))) c
  try_called a i x q frame early n c inside at tried t = ⊎_elim
      (λ z. let was : HasTried s c n = ⊎_elim (λ y. ⊎_elim (λ w. ap (λ j. (s.sleepers j).tried n) y.0 ∙ w) (λ w. absurd (early n w z))
      (try_tried q (s.sleepers a) n y.1)) (λ y. y.1) (tried_was s.sleepers a (after_try q (s.sleepers a)) c n tried) in
      ⊎_elim (λ token. inl token) (λ d. inr (d.0, d.1, owes_still s.sleepers a (after_try q (s.sleepers a)) d.0 c (try_owes q (s.sleepers a) c) d.2))
      (k.called n c inside at was z))
      (λ z. absurd (none-some n z)) (frame n inside t)

  pub vain_early : (id : ℕ) (v : View) → get_elem? s.board.views id ≡ some v → (x : Move) (back : ℕ) (y : VainSteps p s.board.words v x back)
      → (m : ℕ) → tried_by p s.board.words v x back y ≡ Some m → IsTriggered p s.board.words m → ⊥
  vain_early id v at x back (claims_early b j found may is late none e) m q t =
      let same : IsTriggered p s.board.words j = subst (IsTriggered p s.board.words) (sym (same_Some j m q)) t in
      early_not p s.board h id v at b j may (λ z. late (is ∙ z)) same
  vain_early id v at x back (loads_again b l j i found may again is more e) m q t = none-some m q

  -- A STEP THAT LEAVES THE BOARD, and whose thread a owes as before: who was called is called
  pub plain_called : (a n c : ℕ) (y : Sleeper) → n < nodes p → crew.home (seat_at p n) ≡ Some c → (y.tried n ≡ true → (s.sleepers a).tried n ≡ true)
      → ((s.sleepers a).owes c ≡ true → y.owes c ≡ true) → (put s.sleepers a y c).tried n ≡ true → IsTriggered p s.board.words n → IsCalled (with_sleeper s a y) c
  plain_called a n c y inside at tries_still owes tried z = ⊎_elim (λ token. inl token)
      (λ d. inr (d.0, d.1, owes_still s.sleepers a y d.0 c owes d.2))
      (k.called n c inside at (⊎_elim (λ w. ap (λ j. (s.sleepers j).tried n) w.0 ∙ tries_still w.1) (λ w. w.1) (tried_was s.sleepers a y c n tried)) z)

  -- a gift makes no debt
  pub gift_owed : (owes : ℕ → Bool) (b c : ℕ) → put owes b false c ≡ true → owes c ≡ true
  gift_owed owes b c w = dite (ℕ_discrete c b) (λ y. absurd (true≢false (sym w ∙ ap (put owes b false) y ∙ put_here owes b false)))
      (λ o. sym (put_else owes b c false o) ∙ w)
