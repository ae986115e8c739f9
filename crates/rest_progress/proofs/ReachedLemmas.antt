-- In each state of a run the board meets its rule, all its seats are there, and what is said of rests is kept.
use Rattle.std.proofs.Common.{◌≡◌, ℕ, zero, suc, ◌<◌, true≢false, Option, sym, ap, ◌∙◌, subst}
use Rattle.atomic_table.specs.Table.{State}
use Rattle.board_rule.specs.declared.board_shape.BoardShape.{BoardShape}
use Rattle.board_rule.specs.declared.view.View.{View}
use Rattle.board_rule.specs.Layout.{BoardLayout, layout_of, nodes}
use Rattle.board_rule.specs.BoardRule.{Holds}
use Rattle.board_progress.specs.Progress.{IsStaffed}
use Rattle.board_progress.specs.Ends.{AreWords}
use Rattle.board_progress.proofs.GoesOnLemmas.{further, as_far}
use Rattle.board_progress.proofs.WordLemmas.{few_required}
use Rattle.rest_progress.specs.Sleepers.{Crew, RunState}
use Rattle.rest_progress.specs.RestSteps.{RestSteps}
use Rattle.rest_progress.specs.RestSteps.RestSteps.{advances, tries, gives, lies_down, takes, leaves}
use Rattle.rest_progress.specs.RestRuns.{RestRuns, IsFresh}
use Rattle.rest_progress.specs.Heard.{IsHeard}
use Rattle.rest_progress.specs.working.Kept.{IsReached}
use Rattle.rest_progress.proofs.KeptLemmas.{kept}
use Rattle.rest_progress.proofs.HeardLemmas.{heard}

module _ (p : BoardLayout) where
  module _ (crew : Crew) (few : (n : ℕ) → n < nodes p → p.required n < 4294967296) (s : RunState) (r : IsReached p crew s) where
    pub reached : (t : RunState) → RestSteps p crew s t → IsReached p crew t
    reached t y = record { rule = (board t y).0; words = (board t y).1; staffed = (board t y).2; kept = kept p crew s r.rule r.kept t y }
      where
        same : (t : RunState) → t.board ≡ s.board → Holds p t.board × AreWords t.board × IsStaffed p t.board.views
        same t e = subst (λ (b : State (Option ℕ) View). Holds p b × AreWords b × IsStaffed p b.views) (sym e) (r.rule, r.words, r.staffed)

        board : (t : RunState) → RestSteps p crew s t → Holds p t.board × AreWords t.board × IsStaffed p t.board.views
        board t (advances a i v x y up may at e) = let f = further p few s.board r.rule r.words r.staffed i v x at y in
            subst (λ (u : RunState). Holds p u.board × AreWords u.board × IsStaffed p u.board.views) (sym e) (f.rule, f.words, f.staffed)
        board t (tries a i v x back y up may at e) = let f = as_far p few s.board r.rule r.words r.staffed i v x back at y in
            subst (λ (u : RunState). Holds p u.board × AreWords u.board × IsStaffed p u.board.views) (sym e) (f.rule, f.words, f.staffed)
        board t (gives a b low high e) = same t (ap (λ (u : RunState). u.board) e)
        board t (lies_down a up may e) = same t (ap (λ (u : RunState). u.board) e)
        board t (takes a low token e) = same t (ap (λ (u : RunState). u.board) e)
        board t (leaves a up may e) = same t (ap (λ (u : RunState). u.board) e)

  pub fresh_reached : (crew : Crew) (s : RunState) → IsFresh p crew s → IsReached p crew s
  fresh_reached crew s fresh = record {
    rule = fresh.rule;
    words = fresh.words;
    staffed = fresh.staffed;
    kept = record {
      rests = λ a sleeps. absurd (true≢false (sym sleeps ∙ fresh.awake a));
      called = λ n a inside at tried t. absurd (true≢false (sym tried ∙ fresh.untried a n));
      owed = λ b a owes. absurd (true≢false (sym owes ∙ fresh.clear b a));
      left = λ n a inside at gone. absurd (true≢false (sym gone ∙ fresh.manned.homes n a inside at));
      manned = λ n inside none some_left. let d = fresh.manned.someone in (d.0, (d.1, (fresh.awake d.0, d.2)));
    };
  }

  runs_reach : (crew : Crew) → ((n : ℕ) → n < nodes p → p.required n < 4294967296) → (k : ℕ) (s t : RunState) → IsReached p crew s
      → RestRuns p crew k s t → IsReached p crew t
  runs_reach crew few zero s t r e = subst (IsReached p crew) e r
  runs_reach crew few (suc k) s t r y = runs_reach crew few k y.0 t (reached crew few s r y.0 y.1) y.2

pub run_reaches : (board_shape : BoardShape) (crew : Crew) (k : ℕ) (s t : RunState) → IsFresh (layout_of board_shape) crew s
    → RestRuns (layout_of board_shape) crew k s t → IsReached (layout_of board_shape) crew t
run_reaches board_shape crew k s t fresh y = runs_reach (layout_of board_shape) crew (few_required board_shape fresh.rule.seated.pooled.sound) k s t
    (fresh_reached (layout_of board_shape) crew s fresh) y

-- NO WAKE IS LOST
pub none_lost : (board_shape : BoardShape) (crew : Crew) (k : ℕ) (s t : RunState) → IsFresh (layout_of board_shape) crew s
    → RestRuns (layout_of board_shape) crew k s t → IsHeard (layout_of board_shape) crew t
none_lost board_shape crew k s t fresh y = let r = run_reaches board_shape crew k s t fresh y in heard (layout_of board_shape) crew t r.rule r.kept
