use Rattle.std.proofs.Common.{◌∙◌, sym, ap, subst}
use Rattle.pw_graph.specs.declared.plan.Plan.{Plan}
use Rattle.pw_graph.specs.SoundPlan.{IsSoundPlan}
use Rattle.node_progress.specs.Restarts.{restart_of}
use Rattle.node_progress.proofs.PrepareLemmas.{begun_none, begun_anew, first_allowed, first_room}
use Rattle.node_progress.proofs.preparing.begin_run.Goals as goal

pub restart-requires-clause-allowed : goal.restart-requires-clause-allowed
restart-requires-clause-allowed c = let r = c.requires in
    first_allowed _ (subst IsSoundPlan (sym r.plan_is) r.sound) _ _ r.state c.in-Some.channels
    (ap (λ (p : Plan). restart_of p 0 c.args.node) r.plan_is ∙ sym c.restart_in.ensures ∙ c.in-Some.is)

pub restart-requires-clause-room : goal.restart-requires-clause-room
restart-requires-clause-room c = let r = c.requires in
    first_room _ (subst IsSoundPlan (sym r.plan_is) r.sound) _ _ r.state c.in-Some.channels
    (ap (λ (p : Plan). restart_of p 0 c.args.node) r.plan_is ∙ sym c.restart_in.ensures ∙ c.in-Some.is)

pub returns-in-Some : goal.returns-in-Some
returns-in-Some c = let r = c.requires in let e = c.restart.ensures in
    begun_anew _ (subst IsSoundPlan (sym r.plan_is) r.sound) _ _ r.state c.in-Some.channels
    (ap (λ (p : Plan). restart_of p 0 c.args.node) r.plan_is ∙ sym c.restart_in.ensures ∙ c.in-Some.is)
    c.restart.new.self e.stands e.channels e.same

pub returns-in_default : goal.returns-in_default
returns-in_default c = let r = c.requires in
    begun_none _ (subst IsSoundPlan (sym r.plan_is) r.sound) _ _ r.state
    (ap (λ (p : Plan). restart_of p 0 c.args.node) r.plan_is ∙ sym c.restart_in.ensures ∙ c.in_default.is)
