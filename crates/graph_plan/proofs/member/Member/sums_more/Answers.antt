use Rattle.std.proofs.Common.{◌∙◌, List, Option, sym, ap}
use Rattle.pw_graph.specs.declared.kind.Kind.{Kind}
use Rattle.pw_graph.specs.declared.plan.Epoch.{Epoch}
use Rattle.graph_lines.specs.Sums.{sums_with, capped_sums}
use Rattle.graph_plan.specs.working.Ahead.{both_sums}
use Rattle.graph_plan.specs.Moving.{own_sums}
use Rattle.graph_plan.proofs.linked_parts.AheadLemmas.{more_with}
use Rattle.graph_plan.proofs.member.Member.sums_more.Goals as goal

pub returns-in-Some : goal.returns-in-Some
returns-in-Some c = let m = c.args.self.now in let before = c.sums_of-before.result in c.with.ensures
    ∙ (ap (λ (ks : List Kind). capped_sums (sums_with ks before c.in-Some.epoch)) c.as_slice.ensures
    ∙ (more_with c.args.sums before m c.in-Some.epoch c.sums_of-before.ensures
    ∙ sym (ap (λ (e : Option Epoch). capped_sums (both_sums c.args.sums (own_sums m e))) c.in-Some.is)))
