use Rattle.std.proofs.Common.{ℕ, List, length, ap, ◌∙◌, subst, arith}
use Rattle.board_rule.specs.Known.{Known}
use Rattle.data_loop.specs.Drafts.{HasFirst}
use Rattle.data_loop.proofs.StartLemmas.{few_numbers}
use Rattle.data_loop.proofs.loop_state.LoopState.with_pools.Goals as goal

pub loop-epoch-init : goal.loop-epoch-init
loop-epoch-init c = subst (λ (l : List ℕ). HasFirst c.args.plan.now l c.args.seats 0 c.in_ok-draft.draft) c.in_ok-copy.ensures
    (c.in_ok-draft.ensures c.args.plan.now)

pub add_epoch-requires-clause-lacks : goal.add_epoch-requires-clause-lacks
add_epoch-requires-clause-lacks c = let v = c.loop-epoch.invariant in
    let few = few_numbers c.args.nodes.now (length c.args.plan.now.nodes) c.requires.nodes c.requires.places in
    let places = c.requires.sound.few in let list = ap (λ (l : List ℕ). length l) v.nodes_are in
    let count = v.count in let before = c.loop-epoch-test.true in let end = c.len-epoch-end.ensures in record {
      few = omega (arith, few, places, list);
      seats = ap (λ (l : List Known). length l) v.seats_are ∙ c.requires.seats;
      less = omega (arith, count, before, end);
    }
