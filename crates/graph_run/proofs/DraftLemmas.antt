-- The loops of a plan while their epochs are added.
use Rattle.std.proofs.Common.{◌≡◌, ℕ, zero, suc, ◌+◌, ◌<◌, ◌≤◌, List, [], ◌∷◌, ◌++◌, length, get_or, set, sym, ap, ◌∙◌, subst, arith, ⊎_elim, length-append, length-set, get_or-set_other, get_or-set_same}
use Rattle.std.specs.Prelude.{All, AllPairs}
use Rattle.std.specs.List.{AllZip}
use Rattle.std.proofs.lemmas.Bool.{cases_lt}
use Rattle.std.proofs.lemmas.List.{get_or_append_left, get_or_push, get_or_default}
use Rattle.std.proofs.lemmas.Slice.Zip.{AllZip-long}
use Rattle.pw_lists.specs.Limits.{nodes_limit}
use Rattle.pw_graph.specs.declared.plan.Plan.{Plan}
use Rattle.wav_files.specs.declared.wav.WavIn.{WavIn}
use Rattle.board_rule.specs.Known.{Known}
use Rattle.data_loop.specs.declared.draft.LoopDraft.{LoopDraft}
use Rattle.data_loop.specs.declared.loop_state.LoopState.{LoopState}
use Rattle.data_loop.specs.Drafts.{HasFirst, HasAll, LacksEpochs, used}
use Rattle.data_loop.specs.EpochStateParts.{AreFirstEpochStates}
use Rattle.data_loop.specs.LoopStart.{IsLoopOf}
use Rattle.data_loop.proofs.StartLemmas.{few_numbers}
use Rattle.graph_run.specs.Loops.{AreLoopsOf}
use Rattle.graph_run.specs.Seating.{nodes_of_loop}
use Rattle.graph_run.specs.working.Drafts.{AreDrafts, IsGrown, AreGrown, IsLoopFrom}
use Rattle.graph_run.proofs.LoopLemmas.{nodes_ascend, nodes_places}

-- the relation at a place
zip_at : {A B : Type 0} (R : A → B → Type 0) (xs : List A) (ys : List B) (k : ℕ) (d : A) (e : B) → AllZip R xs ys → k < length xs
    → R (get_or xs k d) (get_or ys k e)
zip_at R [] ys k d e t low = absurd (omega (arith, low))
zip_at R (x ∷ xs) [] k d e t low = absurd t
zip_at R (x ∷ xs) (y ∷ ys) zero d e t low = t.0
zip_at R (x ∷ xs) (y ∷ ys) (suc k) d e t low = zip_at R xs ys k d e t.1 (omega (arith, low))

-- one loop more
pub one_draft : (plan : Plan) (f : ℕ → ℕ) (n : ℕ) (rows : List (List Known)) (drafts : List LoopDraft) (row : List Known) (draft : LoopDraft)
    → AreDrafts plan f rows n drafts → HasFirst plan (nodes_of_loop f plan (length rows)) row n draft
    → AreDrafts plan f (rows ++ row ∷ []) n (drafts ++ draft ∷ [])
one_draft plan f n rows drafts row draft are is =
    let a = length-append rows (row ∷ []) in let b = length-append drafts (draft ∷ []) in let long = are.count in record {
      count = omega (arith, a, b, long);
      each = λ k d low. ⊎_elim
          (λ (early : k < length rows).
          subst (λ (x : List Known × LoopDraft). HasFirst plan (nodes_of_loop f plan k) x.0 n x.1)
          (λ i. (sym (get_or_append_left rows (row ∷ []) [] k early) i, sym (get_or_append_left drafts (draft ∷ []) d k (omega (arith, early, long))) i))
          (are.each k d early))
          (λ (last : length rows ≤ k). let at : k ≡ length rows = omega (arith, last, low, a) in
          subst (λ (x : List Known × LoopDraft). HasFirst plan (nodes_of_loop f plan k) x.0 n x.1)
          (λ i. (sym (get_or_push rows row [] k (sym at)) i, sym (get_or_push drafts draft d k (long ∙ sym at)) i))
          (subst (λ j. HasFirst plan (nodes_of_loop f plan j) row n draft) (sym at) is))
          (cases_lt k (length rows));
    }

-- one loop more has one epoch more
pub one_grown : (plan : Plan) (i : ℕ) (olds news : List LoopDraft) (x e : LoopDraft) → AreGrown plan i olds news → i < length olds
    → IsGrown plan (get_or news i x) e → AreGrown plan (i + 1) olds (set news i e)
one_grown plan i olds news x e are low is = let long = are.count in let inside : i < length news = omega (arith, low, long) in record {
  count = length-set news i e ∙ long;
  grown = λ k d below. ⊎_elim
      (λ (early : k < i). subst (IsGrown plan (get_or olds k d))
      (sym (get_or-set_other news i k e d (λ same. omega (arith, early, same)))) (are.grown k d early))
      (λ (last : i ≤ k). let at : k ≡ i = omega (arith, last, below) in
      subst (λ (y : LoopDraft × LoopDraft). IsGrown plan y.0 y.1)
      (λ j. (
        (get_or_default news i x d inside ∙ (are.same i d (omega arith) ∙ ap (λ m. get_or olds m d) (sym at))) j,
        (sym (get_or-set_same news i e d inside) ∙ ap (λ m. get_or (set news i e) m d) (sym at)) j,
      )) is)
      (cases_lt k i);
  same = λ k d past. get_or-set_other news i k e d (λ same. omega (arith, past, same)) ∙ are.same k d (omega (arith, past));
}

module _ (plan : Plan) (f : ℕ → ℕ) (rows : List (List Known)) (n : ℕ) (drafts : List LoopDraft) (are : AreDrafts plan f rows n drafts) where
  -- all have one epoch more
  pub drafts_next : (news : List LoopDraft) → AreGrown plan (length drafts) drafts news → AreDrafts plan f rows (n + 1) news
  drafts_next news more = let long = are.count in record {
    count = more.count ∙ long;
    each = λ k d low. more.grown k d (omega (arith, low, long)) (nodes_of_loop f plan k) (get_or rows k []) n (are.each k d low);
  }

  pub all_next : All (λ (d : LoopDraft). length d.epoch_states ≡ n) drafts
  all_next = λ k d low. let same = are.count in (are.each k d (omega (arith, low, same))).count

  module _ (long : All (λ (row : List Known). length row ≡ length plan.epochs) rows) where
    pub all_lack : length plan.nodes ≤ nodes_limit → n < length plan.epochs → All (LacksEpochs plan) drafts
    all_lack few less = λ k d low. let same = are.count in let here : k < length rows = omega (arith, low, same) in
        let h = are.each k d here in let count = h.count in let list = ap (λ (l : List ℕ). length l) h.nodes_are in
        let most = few_numbers (nodes_of_loop f plan k) (length plan.nodes) (nodes_ascend f plan k) (nodes_places f plan k) in record {
          few = omega (arith, few, most, list);
          seats = ap (λ (l : List Known). length l) h.seats_are ∙ long k [] here;
          less = omega (arith, count, less);
        }

    pub all_have : n ≡ length plan.epochs → All (HasAll plan) drafts
    all_have all = λ k d low. let same = are.count in let here : k < length rows = omega (arith, low, same) in
        let h = are.each k d here in let x : LoopDraft = get_or drafts k d in record {
          ascend = subst (λ (l : List ℕ). AllPairs (λ a b. a < b) l) (sym h.nodes_are) (nodes_ascend f plan k);
          places = subst (λ (l : List ℕ). All (λ m. m < length plan.nodes) l) (sym h.nodes_are) (nodes_places f plan k);
          seats = ap (λ (l : List Known). length l) h.seats_are ∙ long k [] here;
          count = h.count ∙ all;
          made = subst (λ (l : List ℕ). AreFirstEpochStates plan l (used x) x.epoch_states) (sym h.nodes_are) h.made;
        }

  -- the loops of the drafts
  draft_at : (xs : List LoopDraft) (k : ℕ) → k < length xs → LoopDraft
  draft_at [] k low = absurd (omega (arith, low))
  draft_at (x ∷ xs) zero low = x
  draft_at (x ∷ xs) (suc k) low = draft_at xs k (omega (arith, low))

  pub all_loops : (waves : List WavIn) (states : List LoopState) → AllZip (IsLoopFrom plan waves) drafts states → AreLoopsOf plan waves f rows states
  all_loops waves states from = let same = are.count in record {
    count = AllZip-long (IsLoopFrom plan waves) drafts states from ∙ same;
    each = λ k d low. let inside : k < length drafts = omega (arith, low, same) in let x : LoopDraft = draft_at drafts k inside in
        let h = are.each k x low in
        subst (λ (y : List ℕ × List Known). IsLoopOf plan waves y.0 y.1 (get_or states k d))
        (λ i. (h.nodes_are i, h.seats_are i))
        (zip_at (IsLoopFrom plan waves) drafts states k x d from inside);
  }
