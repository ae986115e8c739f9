-- The loops of a plan: their nodes are places that ascend, and they are made one after the other.
use Rattle.std.proofs.Common.{◌≡◌, ℕ, ◌<◌, ◌≤◌, ◌==◌, List, [], ◌∷◌, ◌++◌, length, sym, ◌∙◌, subst, arith, ⊎_elim, length-append}
use Rattle.std.specs.Prelude.{All, AllPairs}
use Rattle.std.specs.List.{range_with_len}
use Rattle.std.proofs.lemmas.Bool.{cases_lt}
use Rattle.std.proofs.lemmas.List.{get_or_append_left, get_or_push}
use Rattle.std.proofs.lemmas.List.FromFn.{length-range_with_len, get_or-range_with_len}
use Rattle.std.proofs.lemmas.List.Elements.{All-filter}
use Rattle.std.proofs.lemmas.List.Kept.{AllPairs-filter}
use Rattle.pw_graph.specs.declared.plan.Plan.{Plan}
use Rattle.wav_files.specs.declared.wav.WavIn.{WavIn}
use Rattle.board_rule.specs.Known.{Known}
use Rattle.data_loop.specs.declared.loop_state.LoopState.{LoopState}
use Rattle.data_loop.specs.LoopStart.{IsLoopOf}
use Rattle.graph_run.specs.Seating.{nodes_of_loop}
use Rattle.graph_run.specs.Loops.{AreLoopsOf}

-- numbers that ascend
ascending : (n : ℕ) → AllPairs (λ a b. a < b) (range_with_len 0 n)
ascending n i j d less high = let long = length-range_with_len 0 n in
    let a = get_or-range_with_len 0 n i d (omega (arith, less, high, long)) in
    let b = get_or-range_with_len 0 n j d (omega (arith, high, long)) in omega (arith, a, b, less)

pub below : (n : ℕ) → All (λ k. k < n) (range_with_len 0 n)
below n i d low = let long = length-range_with_len 0 n in
    let a = get_or-range_with_len 0 n i d (omega (arith, low, long)) in omega (arith, a, low, long)

module _ (f : ℕ → ℕ) (plan : Plan) (which : ℕ) where
  pub nodes_ascend : AllPairs (λ m n. m < n) (nodes_of_loop f plan which)
  nodes_ascend = AllPairs-filter (λ m n. m < n) (λ n. f n == which) (range_with_len 0 (length plan.nodes)) (ascending (length plan.nodes))

  pub nodes_places : All (λ n. n < length plan.nodes) (nodes_of_loop f plan which)
  nodes_places = All-filter (λ n. f n == which) (λ n. n < length plan.nodes) (range_with_len 0 (length plan.nodes)) (below (length plan.nodes))

-- one loop more
pub one_loop : (plan : Plan) (waves : List WavIn) (f : ℕ → ℕ) (rows : List (List Known)) (states : List LoopState) (row : List Known) (state : LoopState)
    → AreLoopsOf plan waves f rows states → IsLoopOf plan waves (nodes_of_loop f plan (length rows)) row state
    → AreLoopsOf plan waves f (rows ++ row ∷ []) (states ++ state ∷ [])
one_loop plan waves f rows states row state are is =
    let a = length-append rows (row ∷ []) in let b = length-append states (state ∷ []) in let n = are.count in record {
      count = omega (arith, a, b, n);
      each = λ k d low. ⊎_elim
          (λ (early : k < length rows).
          subst (λ (x : List Known × LoopState). IsLoopOf plan waves (nodes_of_loop f plan k) x.0 x.1)
          (λ i. (sym (get_or_append_left rows (row ∷ []) [] k early) i, sym (get_or_append_left states (state ∷ []) d k (omega (arith, early, n))) i))
          (are.each k d early))
          (λ (last : length rows ≤ k). let at : k ≡ length rows = omega (arith, last, low, a) in
          subst (λ (x : List Known × LoopState). IsLoopOf plan waves (nodes_of_loop f plan k) x.0 x.1)
          (λ i. (sym (get_or_push rows row [] k (sym at)) i, sym (get_or_push states state d k (n ∙ sym at)) i))
          (subst (λ j. IsLoopOf plan waves (nodes_of_loop f plan j) row state) (sym at) is))
          (cases_lt k (length rows));
    }
