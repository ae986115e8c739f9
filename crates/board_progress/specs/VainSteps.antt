-- The steps that are no advance: a claim that is too early, and a load of a sample word that was
-- loaded before. `b` is true for the driver's seat.
-- Source: PipeWire's documentation, "Graph Scheduling" and "SPA Buffers"; the kinds are this
-- project's.
use Rattle.std.specs.Prelude.{◌≡◌, ◌≢◌, ℕ, ◌+◌, ◌-◌, ◌<◌, Bool, List, slice_index}
use Rattle.pw_graph.specs.Layout.{status_place, sample_place}
use Rattle.pw_graph.specs.Words.{triggered_word}
use Rattle.board_rule.specs.declared.view.View.{View}
use Rattle.board_rule.specs.Layout.{BoardLayout}
use Rattle.board_rule.specs.Steps.{cycle_of, Claims, tried}
use Rattle.board_rule.specs.buffers.EndViews.{pool_of}
use Rattle.board_rule.specs.buffers.ReaderSteps.{words_read_of, LoadsSample, sample_loaded}
use Rattle.board_progress.specs.Moves.{Move}

-- A STEP IN VAIN that the view v allows. A claim finds its node not TRIGGERED. A reader loads a
-- word of its block again, and then has `back` more to load than before
pub data VainSteps (p : BoardLayout) (words : List ℕ) (v : View) (x : Move)
    (back : ℕ) : Type 0 where
  claims_early : (b : Bool) (m found : ℕ) → Claims b p v m
      → found ≡ slice_index words (status_place p.shape m)
      → found ≢ triggered_word (cycle_of b v m) → back ≡ 0 → x ≡ record {
        place = status_place p.shape m;
        word = found;
        view = tried p v m found;
      } → VainSteps p words v x back
  loads_again : (b : Bool) (l id i found : ℕ) → LoadsSample b p v l id i
      → i < words_read_of v l → found ≡ slice_index words (sample_place p.shape (pool_of p l) id i)
      → back ≡ words_read_of v l - (i + 1) → x ≡ record {
        place = sample_place p.shape (pool_of p l) id i;
        word = found;
        view = sample_loaded b p v l i;
      } → VainSteps p words v x back
