use Rattle.std.proofs.Common.{ℕ, List, refl, subst}
use Rattle.data_loop.specs.EpochStateParts.{IsFirstEpochState}
use Rattle.data_loop.proofs.DraftLemmas.{one_more}
use Rattle.data_loop.proofs.draft.LoopDraft.add_epoch.Goals as goal

pub returns-in_ok-push : goal.returns-in_ok-push
returns-in_ok-push c = λ nodes seats n has. one_more c.args.plan.now nodes seats n c.args.self.now
    (record { nodes = c.args.self.now.nodes; epoch_states = c.push.new.self; seats = c.next.new.self })
    c.in-Some.seat c.in_ok-state.state refl c.in_ok-push.ensures.ok c.in-Some.ensures.cases.0
    (subst (λ (x : List ℕ × ℕ). IsFirstEpochState c.args.plan.now x.0 x.1 c.in-Some.seat c.in_ok-state.state)
    (λ i. (c.as_slice-nodes.ensures i, c.len-epoch.ensures i)) c.in_ok-state.ensures) has
