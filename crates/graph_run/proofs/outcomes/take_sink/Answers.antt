use Rattle.std.proofs.Common.{◌≡◌, ◌<◌, ◌∙◌, ℕ, get_or, sym, arith}
use Rattle.std.proofs.lemmas.List.{get_or_default}
use Rattle.std.proofs.lemmas.Option.{slice_get_within}
use Rattle.data_loop.specs.declared.loop_state.LoopState.{LoopState}
use Rattle.graph_run.proofs.OutcomesLemmas.{left_on, all_still, left_taken, stream_taken, kept_is}
use Rattle.graph_run.proofs.outcomes.take_sink.Goals as goal

pub returns-then-not-is_sink-clause-left : goal.returns-then-not-is_sink-clause-left
returns-then-not-is_sink-clause-left c = λ waves h. left_on c.args.place waves c.args.loops.now h

pub loop_with_node-requires : goal.loop_with_node-requires
loop_with_node-requires c = record { there = c.requires.all.nodes c.args.place (slice_get_within c.args.plan.now.nodes c.args.place c.args.node.now c.requires.node) }

pub returns-clause-all : goal.returns-clause-all
returns-clause-all c = let i = c.loop_with_node.result in let r : LoopState = c.index-loops-loop_with_node.result in
    let x : LoopState = get_or c.args.loops.now i r in
    all_still c.args.plan.now c.args.place c.loop_with_node.result c.args.loops.now x c.take_kept-samples.new.self c.take_kept-samples.result
    (get_or_default c.args.loops.now i r x c.loop_with_node.ensures.has.0) c.loop_with_node.ensures.has.0 c.take_kept-samples.ensures.taken c.requires.all c.take_kept-samples.ensures.whole

pub returns-clause-left : goal.returns-clause-left
returns-clause-left c = λ waves h. let i = c.loop_with_node.result in let r : LoopState = c.index-loops-loop_with_node.result in
    let x : LoopState = get_or c.args.loops.now i r in
    left_taken c.args.plan.now c.args.place c.loop_with_node.result c.args.loops.now x c.take_kept-samples.new.self c.take_kept-samples.result
    (get_or_default c.args.loops.now i r x c.loop_with_node.ensures.has.0) c.loop_with_node.ensures.has.0 c.take_kept-samples.ensures.taken waves h

pub returns-clause-kept : goal.returns-clause-kept
returns-clause-kept c = λ waves h. let i = c.loop_with_node.result in let r : LoopState = c.index-loops-loop_with_node.result in
    let x : LoopState = get_or c.args.loops.now i r in
    kept_is c.args.plan.now waves c.args.place c.args.node.now c.take_kept-samples.result (sym c.is_sink.ensures ∙ c.if-not-is_sink.false)
    (let some = c.if-node-eq0.false in more c.args.node.now.rate some)
    (stream_taken c.args.plan.now c.args.place i c.args.loops.now x c.take_kept-samples.new.self c.take_kept-samples.result
    (get_or_default c.args.loops.now i r x c.loop_with_node.ensures.has.0) c.loop_with_node.ensures.has.0 c.take_kept-samples.ensures.taken waves
    c.requires.all h)
  where
    more : (n : ℕ) → (n ≡ 0 → ⊥) → 0 < n
    more n some = omega (arith, some)
