-- After the run all cells and the driver's own loop are done, and each node of the plan is one of theirs.
use Rattle.std.proofs.Common.{◌≡◌, ℕ, ◌+◌, ◌<◌, ◌≤◌, List, [], ◌∷◌, ◌++◌, length, get_or, refl, sym, ap, ◌∙◌, subst, arith, ⊎_elim, length-append}
use Rattle.std.specs.Prelude.{All, Contains}
use Rattle.std.proofs.lemmas.Bool.{cases_lt}
use Rattle.std.proofs.lemmas.List.{get_or_append_left, get_or_push}
use Rattle.std.proofs.lemmas.List.Elements.{All-push}
use Rattle.std.proofs.lemmas.Option.{get_or_from_slice_get}
use Rattle.pw_lists.specs.Listed.{Listed}
use Rattle.pw_graph.specs.declared.plan.Plan.{Plan}
use Rattle.wav_files.specs.declared.wav.WavIn.{WavIn}
use Rattle.node_progress.specs.declared.run_model.RunModel.{RunModel}
use Rattle.data_loop.specs.declared.loop_state.LoopState.{LoopState}
use Rattle.data_loop.specs.Loops.{plan_of}
use Rattle.graph_run.specs.Outcomes.{IsDoneOf, HasNodeAt, AreDone}
use Rattle.graph_run.specs.Threads.{HasRun}
use Rattle.steal_shelf.specs.Seats.{cells_of}
use Rattle.steal_loops.specs.declared.preparing.Prepared.{Prepared}
use Rattle.steal_loops.specs.declared.shared.Shared.{Shared}
use Rattle.steal_loops.specs.working.Cells.{AreCells, IsFinished, AreCollected}
use Rattle.steal_loops.specs.working.Crews.{HasNode, IsPrepared}
use Rattle.steal_loops.specs.working.CrewRun.{CanStart, CanLead}

-- nothing is collected; and one cell more
pub none_collected : (shared : Shared) (list : List LoopState) → list ≡ [] → AreCollected shared 0 list
none_collected shared list none = record {
  count = ap (λ (l : List LoopState). length l) none;
  each = λ i d low. absurd (omega (arith, low));
}

pub one_collected : (shared : Shared) (n : ℕ) (old new : List LoopState) (s : LoopState) → AreCollected shared n old → new ≡ old ++ s ∷ []
    → IsFinished shared n s → AreCollected shared (n + 1) new
one_collected shared n old new s h is end = let m = h.count in let long = ap (λ (l : List LoopState). length l) is in
    let more = length-append old (s ∷ []) in record {
      count = omega (arith, m, long, more);
      each = λ i d low. subst (λ (l : List LoopState). IsFinished shared i (get_or l i d)) (sym is) (⊎_elim
          (λ (early : i < n). subst (IsFinished shared i) (sym (get_or_append_left old (s ∷ []) d i (omega (arith, early, m)))) (h.each i d early))
          (λ (late : n ≤ i). let at : i ≡ n = omega (arith, low, late) in
          subst (λ (x : ℕ × LoopState). IsFinished shared x.0 x.1) (λ j. (sym at j, sym (get_or_push old s d i (m ∙ sym at)) j)) end)
          (cases_lt i n));
    }

-- ALL in the end
module _ (shared : Shared) (cells : AreCells shared) (own end : LoopState) (plan_is : plan_of own ≡ shared.run_model.plan.value)
    (waves_are : own.run_model.waves.value ≡ shared.run_model.waves.value) (ran : HasRun own end) (xs : List LoopState)
    (got : AreCollected shared (length (cells_of shared.shelf)) xs) where
  abbrev plan : Plan
  plan = shared.run_model.plan.value

  abbrev waves : List WavIn
  waves = shared.run_model.waves.value

  one_done : (i : ℕ) (s : LoopState) → IsFinished shared i s → IsDoneOf plan waves s
  one_done i s f = let c = cells.each i f.cell f.there in record {
    done = f.done;
    plan_is = ap (λ (x : RunModel). x.plan.value) f.same.run_model ∙ c.plan_is;
    waves_are = ap (λ (x : RunModel). x.waves.value) f.same.run_model ∙ c.waves_are;
  }

  all_done : All (IsDoneOf plan waves) (xs ++ end ∷ [])
  all_done = All-push (IsDoneOf plan waves) xs end
      (λ i d low. let n = got.count in one_done i (get_or xs i d) (got.each i d (omega (arith, low, n))))
      record {
        done = ran.done;
        plan_is = ap (λ (x : RunModel). x.plan.value) ran.same.run_model ∙ plan_is;
        waves_are = ap (λ (x : RunModel). x.waves.value) ran.same.run_model ∙ waves_are;
      }

  has_node : (n : ℕ) → HasNode own (cells_of shared.shelf) n → (i : ℕ) × HasNodeAt (xs ++ end ∷ []) n i
  has_node n has = let long = length-append xs (end ∷ []) in let m = got.count in ⊎_elim
      (λ mine. (
        length xs,
        (
          omega (arith, long),
          λ d. subst (λ (s : LoopState). Contains s.nodes n) (sym (get_or_push xs end d (length xs) refl))
              (subst (λ (l : List ℕ). Contains l n) (sym ran.same.nodes) mine),
        ),
      ))
      (λ other. let i = other.0 in let low = other.1 in (
        i,
        (
          omega (arith, low, m, long),
          λ d. let f : IsFinished shared i (get_or xs i d) = got.each i d low in
              subst (λ (s : LoopState). Contains s.nodes n) (sym (get_or_append_left xs (end ∷ []) d i (omega (arith, low, m))))
              (subst (λ (l : List ℕ). Contains l n) (sym f.same.nodes)
              (subst (λ (s : LoopState). Contains s.nodes n)
              (get_or_from_slice_get (cells_of shared.shelf) i f.cell f.cell f.there) (other.2 f.cell))),
        ),
      ))
      has

  pub are_done : (done : List LoopState) → done ≡ xs ++ end ∷ [] → ((n : ℕ) → n < length plan.nodes → HasNode own (cells_of shared.shelf) n)
      → AreDone plan waves done
  are_done done is covers = subst (AreDone plan waves) (sym is) record {
    each = all_done;
    nodes = λ n low. has_node n (covers n low);
  }

-- what the threads begin with, and all in the end, from what was prepared
module _ (plan : Plan) (waves : List WavIn) (loops : ℕ) (p : Prepared) (is : IsPrepared plan waves loops p) where
  pub can_start : All (CanStart p.shared) p.workers
  can_start i d low = record { cells = is.cells; worker = is.workers i d low }

  pub can_lead : (done : Listed LoopState) → done.list ≡ [] → p.shared.seating.loops + 1 ≤ done.spare
      → CanLead p.shared (record { driving = p.driving; done = done })
  can_lead done empty spare = record {
    cells = is.cells;
    can_drive = is.can_drive;
    nodes = λ n low. is.nodes n (subst (λ (x : Plan). n < length x.nodes) is.plan_is low);
    bare = empty;
    room = (let n = is.cells.count in omega (arith, n, spare));
  }

  pub done_of : (done : List LoopState) → AreDone p.shared.run_model.plan.value p.shared.run_model.waves.value done → AreDone plan waves done
  done_of done h = subst (λ (x : Plan × List WavIn). AreDone x.0 x.1 done) (λ j. (is.plan_is j, is.waves_are j)) h
