-- The lines are those of the script, for its kinds and names.
use Rattle.std.proofs.Common.{◌∙◌, List, length, sym, ap, subst}
use Rattle.pw_graph.specs.declared.kind.Kind.{Kind}
use Rattle.graph_plan.specs.Conditions.{AreLinesOf}
use Rattle.graph_plan.proofs.PlannedLemmas.{lines_are, named_are, channels_are}
use Rattle.graph_plan.proofs.parting.whole_parts.Goals as goal

pub parts_from-requires-clause-lines : goal.parts_from-requires-clause-lines
parts_from-requires-clause-lines c = subst (λ (ks : List Kind). AreLinesOf ks c.args.script.now.lines) (sym c.in-Ok.ensures.kinds)
    (lines_are c.args.script.now c.requires.script c.requires.kinds)

pub parts_from-requires-clause-named : goal.parts_from-requires-clause-named
parts_from-requires-clause-named c = named_are c.args.script.now c.requires.script c.requires.kinds ∙ sym (ap (λ (ks : List Kind). length ks) c.in-Ok.ensures.kinds)

pub parts_from-requires-clause-channels : goal.parts_from-requires-clause-channels
parts_from-requires-clause-channels c = channels_are c.args.script.now c.requires.script c.requires.kinds c.args.ports c.args.waves.now
    c.requires.ports c.requires.waves
