-- A line may be rehearsed, and be done in each part; the next may follow.
use Rattle.std.proofs.Common.{refl, subst}
use Rattle.graph_lines.specs.declared.graph.Stepped.{Stepped}
use Rattle.graph_lines.specs.Rehearsal.{Rehearses}
use Rattle.graph_plan.proofs.linked_parts.TogetherLemmas.{may_here, ready_parts, ready_after}
use Rattle.graph_plan.proofs.together.Together.step.Goals as goal

pub rehearse-requires-clause-line : goal.rehearse-requires-clause-line
rehearse-requires-clause-line c = may_here c.args.self.now.whole c.args.self.now.whole.kinds c.args.line.now c.requires.ready.whole refl c.requires.line

pub go_on-requires-clause-ready : goal.go_on-requires-clause-ready
go_on-requires-clause-ready c = ready_parts c.args.self.now c.args.line.now c.requires.ready c.requires.line

pub returns-in-Ok-Done-clause-ready : goal.returns-in-Ok-Done-clause-ready
returns-in-Ok-Done-clause-ready c = ready_after c.args.waves.now c.args.line.now c.args.self.now c.go_on.new.self c.rehearse.new.self
    (subst (λ (s : Stepped). Rehearses c.args.waves.now c.args.self.now.whole c.args.line.now.command s c.rehearse.new.self) c.in-Ok-Done.field-0-is
    c.in-Ok-Done.ensures.line) c.go_on.result c.requires.ready c.in-Ok-Done.ensures.sound c.go_on.ensures.whole c.go_on.ensures.parts
