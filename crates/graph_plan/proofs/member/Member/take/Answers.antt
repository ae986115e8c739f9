-- The sums of a part that passes no limit are exact.
use Rattle.std.proofs.Common.{◌∙◌, List, ap}
use Rattle.pw_graph.specs.declared.kind.Kind.{Kind}
use Rattle.graph_lines.specs.Sums.{sums_with, capped_sums, passed}
use Rattle.graph_lines.proofs.SumLemmas.{capped_same}
use Rattle.graph_plan.proofs.member.Member.take.Goals as goal

pub take-requires-clause-sums : goal.take-requires-clause-sums
take-requires-clause-sums c = let g = c.args.self.now.graph in c.with-sums.ensures
    ∙ (ap (λ (ks : List Kind). capped_sums (sums_with ks g.sums c.args.epoch)) c.as_slice.ensures
    ∙ capped_same (sums_with g.kinds g.sums c.args.epoch) c.requires.within)

pub take-requires-clause-limits : goal.take-requires-clause-limits
take-requires-clause-limits c = let g = c.args.self.now.graph in ap passed (c.with-sums.ensures
    ∙ (ap (λ (ks : List Kind). capped_sums (sums_with ks g.sums c.args.epoch)) c.as_slice.ensures
    ∙ capped_same (sums_with g.kinds g.sums c.args.epoch) c.requires.within)) ∙ c.requires.within
