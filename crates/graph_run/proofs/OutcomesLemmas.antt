-- What the loops of a run keep of a plan's nodes.
use Rattle.std.proofs.Common.{◌≡◌, ℕ, ℤ, suc, ◌+◌, ◌<◌, ◌≤◌, true, List, Some, length, get_or, set, refl, sym, ap, ◌∙◌, subst, arith, ⊎_elim}
use Rattle.std.proofs.Common.{length-set, get_or-set_same, get_or-set_other, nat_lt, cond, None, ◌&&◌}
use Rattle.std.specs.Prelude.{Contains}
use Rattle.std.proofs.lemmas.Bool.{cases_lt, cases_eq, lt-ltb}
use Rattle.std.proofs.lemmas.List.{get_or_default}
use Rattle.std.proofs.lemmas.List.Elements.{All-set}
use Rattle.pw_graph.specs.declared.plan.Plan.{Plan}
use Rattle.pw_graph.specs.declared.plan.PlanNode.{PlanNode}
use Rattle.pw_graph.specs.PlanSums.{is_sink}
use Rattle.wav_files.specs.declared.outcome.Kept.{Kept}
use Rattle.wav_files.specs.declared.wav.WavIn.{WavIn}
use Rattle.cycle_model.specs.Rendering.{end_stream, kept_of}
use Rattle.data_loop.specs.declared.loop_state.LoopState.{LoopState}
use Rattle.data_loop.specs.Loops.{IsLoop, plan_of}
use Rattle.data_loop.specs.LoopKept.{IsDoneWith, HasTaken}
use Rattle.data_loop.proofs.KeptLemmas.{all_done}
use Rattle.graph_run.specs.Outcomes.{HasNodeAt, HaveAll, AreDone, AreLeftFrom}

-- no loop up to one more has the node
pub none_more : (loops : List LoopState) (n i : ℕ) (x : LoopState) → x ≡ get_or loops i x → i < length loops
    → ((j : ℕ) (d : LoopState) → j < i → ¬ (Contains (get_or loops j d).nodes n)) → ¬ (Contains x.nodes n)
    → (j : ℕ) (d : LoopState) → j < i + 1 → ¬ (Contains (get_or loops j d).nodes n)
none_more loops n i x is inside before not j d less has = ⊎_elim
    (λ (early : j < i). before j d early has)
    (λ (late : i ≤ j). let at : j ≡ i = omega (arith, late, less) in
    not (subst (λ (s : LoopState). Contains s.nodes n) (ap (λ k. get_or loops k d) at ∙ (get_or_default loops i d x inside ∙ sym is)) has))
    (cases_lt j i)

-- loops that are done have all nodes, and nothing was moved out of them
pub all_in : (plan : Plan) (waves : List WavIn) (loops : List LoopState) → AreDone plan waves loops → HaveAll plan loops
all_in plan waves loops h = record {
  each = λ k d low. ((h.each k d low).done.0.loop, (h.each k d low).plan_is);
  nodes = h.nodes;
}

pub left_whole : (plan : Plan) (waves : List WavIn) (loops : List LoopState) → AreDone plan waves loops → AreLeftFrom 0 waves loops
left_whole plan waves loops h = record {
  waves_are = λ k d low. (h.each k d low).waves_are;
  done = λ m less k d low. all_done (get_or loops k d) m (h.each k d low).done;
}

-- a node of which nothing is moved out is passed
pub left_on : (n : ℕ) (waves : List WavIn) (loops : List LoopState) → AreLeftFrom n waves loops → AreLeftFrom (suc n) waves loops
left_on n waves loops h = record { waves_are = h.waves_are; done = λ m less. h.done m (omega (arith, less)) }

-- the stream of node n was moved out of the loop x at i, which is y then
module _ (plan : Plan) (n i : ℕ) (loops : List LoopState) (x y : LoopState) (stream : List ℤ) (is : x ≡ get_or loops i x)
    (inside : i < length loops) (t : HasTaken x n stream y) where
  pub all_still : HaveAll plan loops → IsLoop y → HaveAll plan (set loops i y)
  all_still h whole = record {
    each = All-set (λ s. IsLoop s × (plan_of s ≡ plan)) loops i y
        (whole, ap (λ s. s.plan.value) t.same.run_model ∙ (subst (λ (s : LoopState). plan_of s ≡ plan) (sym is) (h.each i x inside).1)) h.each;
    nodes = λ m less. let w = h.nodes m less in (w.0, still m w.0 w.1);
  }
    where
      still : (m j : ℕ) → HasNodeAt loops m j → HasNodeAt (set loops i y) m j
      still m j has = let low = has.0 in (
        omega (arith, low, length-set loops i y),
        λ d. ⊎_elim
            (λ (at : j ≡ i).
            subst (λ (s : LoopState). Contains s.nodes m) (sym (ap (λ k. get_or (set loops i y) k d) at ∙ get_or-set_same loops i y d inside))
            (subst (λ (l : List ℕ). Contains l m) (sym t.same.nodes)
            (subst (λ (s : LoopState). Contains s.nodes m) (ap (λ k. get_or loops k x) at ∙ sym is) (has.1 x))))
            (λ other. subst (λ (s : LoopState). Contains s.nodes m) (sym (get_or-set_other loops i j y d other)) (has.1 d))
            (cases_eq j i),
      )

  pub left_taken : (waves : List WavIn) → AreLeftFrom n waves loops → AreLeftFrom (suc n) waves (set loops i y)
  left_taken waves h = record {
    waves_are = All-set (λ s. s.run_model.waves.value ≡ waves) loops i y
        (ap (λ s. s.waves.value) t.same.run_model ∙ (subst (λ (s : LoopState). s.run_model.waves.value ≡ waves) (sym is) (h.waves_are i x inside)))
        h.waves_are;
    done = λ m less. All-set (λ s. IsDoneWith s m) loops i y
        (t.others m (λ same. omega (arith, same, less))
        (subst (λ (s : LoopState). IsDoneWith s m) (sym is) (h.done m (omega (arith, less)) i x inside)))
        (h.done m (omega (arith, less)));
  }

  pub stream_taken : (waves : List WavIn) → HaveAll plan loops → AreLeftFrom n waves loops → stream ≡ end_stream plan waves n
  stream_taken waves all h = t.end (subst (λ (s : LoopState). IsDoneWith s n) (sym is) (h.done n (omega arith) i x inside))
      ∙ subst (λ (y : Plan × List WavIn). end_stream (plan_of x) x.run_model.waves.value n ≡ end_stream y.0 y.1 n)
      (λ j. (
        (subst (λ (s : LoopState). plan_of s ≡ plan) (sym is) (all.each i x inside).1) j,
        (subst (λ (s : LoopState). s.run_model.waves.value ≡ waves) (sym is) (h.waves_are i x inside)) j,
      )) refl

-- the entry of a sink with a format
pub kept_is : (plan : Plan) (waves : List WavIn) (n : ℕ) (node : PlanNode) (stream : List ℤ) → is_sink node.kind ≡ true → 0 < node.rate
    → stream ≡ end_stream plan waves n
    → Some (let k : Kept = record { node = n; wav = record { rate = node.rate; channels = node.channels; samples = stream } } in k)
    ≡ kept_of plan waves (n, node)
kept_is plan waves n node stream sink some is = ap (λ l. Some (let k : Kept = record { node = n; wav = record { rate = node.rate; channels = node.channels; samples = l } } in k)) is
    ∙ sym (ap (λ b. cond (b && nat_lt 0 node.rate) (Some (let k : Kept = record { node = n; wav = record { rate = node.rate; channels = node.channels; samples = end_stream plan waves n } } in k)) None) sink
    ∙ ap (λ b. cond b (Some (let k : Kept = record { node = n; wav = record { rate = node.rate; channels = node.channels; samples = end_stream plan waves n } } in k)) None) (lt-ltb 0 node.rate some))
