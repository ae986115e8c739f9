use Rattle.std.proofs.Common.{◌<◌, ◌∙◌, true≢false, length, refl, sym, subst, arith}
use Rattle.std.specs.Prelude.{Contains}
use Rattle.std.proofs.lemmas.List.{get_or_default}
use Rattle.data_loop.specs.declared.loop_state.LoopState.{LoopState}
use Rattle.graph_run.proofs.EpochLemmas.{there}
use Rattle.graph_run.proofs.OutcomesLemmas.{none_more}
use Rattle.graph_run.proofs.outcomes.loop_with_node.Goals as goal

pub returns-then-has_node : goal.returns-then-has_node
returns-then-has_node c = let i = c.loop-index.index in let x : LoopState = c.index-loops-index.result in let low : i < length c.args.loops.now = c.loop-index-test.true in record {
  has = (
    low,
    λ d. subst (λ (s : LoopState). Contains s.nodes c.args.node)
        (c.index-loops-index.is ∙ get_or_default c.args.loops.now i x d low) (c.has_node.ensures.0 c.if-has_node.true),
  );
}

pub loop-index-preserved : goal.loop-index-preserved
loop-index-preserved c = let i = c.loop-index.index in let x : LoopState = c.index-loops-index.result in let low : i < length c.args.loops.now = c.loop-index-test.true in record {
  end = refl;
  none = none_more c.args.loops.now c.args.node i x c.index-loops-index.is low c.loop-index.invariant.none
      (λ has. true≢false (sym (c.has_node.ensures.1 has) ∙ c.if-has_node.false));
}

pub returns : goal.returns
returns c = let w = c.requires.there in let low = w.1.0 in let x = there c.args.loops.now w.0 low in
    absurd (c.loop-index.invariant.none w.0 x.0 (let past = c.loop-index-test.false in let end = c.loop-index.invariant.end in omega (arith, low, past, end)) (w.1.1 x.0))
