-- What is found after the line is what it adds, and the next line may follow.
use Rattle.std.proofs.Common.{ℕ, refl, subst}
use Rattle.graph_plan.proofs.linked_parts.RehearsalLemmas.{rehearsal_kinds}
use Rattle.refused_links.specs.working.Finding.{Finds}
use Rattle.refused_links.proofs.RefusedLemmas.{line_adds}
use Rattle.refused_links.proofs.finding.refused_by.Goals as goal

pub rehearse-requires-clause-line : goal.rehearse-requires-clause-line
rehearse-requires-clause-line c = c.requires.line c.args.graph.now c.requires.ready refl

pub find-requires : goal.find-requires
find-requires c = c.requires.line c.rehearse.new.self c.in_ok-rehearse.ensures.sound
    (rehearsal_kinds c.args.waves.now c.args.graph.now c.rehearse.new.self c.args.line.now.command c.in_ok-rehearse.field-0 c.in_ok-rehearse.ensures.line)

pub returns-clause-added : goal.returns-clause-added
returns-clause-added c = (
  c.in_ok-rehearse.field-0,
  c.in_ok-rehearse.ensures.line,
  line_adds c.args.waves.now c.args.graph.now c.rehearse.new.self c.in_ok-rehearse.field-0 c.args.line.now.line c.in_ok-found.found c.requires.ready
      c.args.line.now.command (c.requires.line c.args.graph.now c.requires.ready refl) c.in_ok-rehearse.ensures.line
      (subst (λ (n : ℕ). Finds c.rehearse.new.self c.args.line.now.line n c.args.line.now.command c.in_ok-found.found) c.len-place.ensures
      c.in_ok-found.ensures),
)

pub returns-clause-kinds : goal.returns-clause-kinds
returns-clause-kinds c = rehearsal_kinds c.args.waves.now c.args.graph.now c.rehearse.new.self c.args.line.now.command c.in_ok-rehearse.field-0
    c.in_ok-rehearse.ensures.line
