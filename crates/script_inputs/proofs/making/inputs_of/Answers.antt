-- A script that was read has its own lines, of at most 63 nodes.
use Rattle.std.proofs.Common.{◌≤◌, List, length, sym, subst, arith}
use Rattle.graph_script.specs.declared.script.Line.{Line}
use Rattle.graph_lines.specs.Start.{kinds_of}
use Rattle.graph_plan.specs.Conditions.{AreLinesOf}
use Rattle.graph_plan.proofs.PlannedLemmas.{lines_are, named_are}
use Rattle.script_inputs.proofs.making.inputs_of.Goals as goal

pub make_all-requires-clause-lines : goal.make_all-requires-clause-lines
make_all-requires-clause-lines c = subst (λ (ls : List Line). AreLinesOf (kinds_of ls) ls) (sym c.as_slice.ensures)
    (lines_are c.args.script.now c.requires.ranges c.requires.kinds)

pub make_all-requires-clause-few : goal.make_all-requires-clause-few
make_all-requires-clause-few c =
    let named = named_are c.args.script.now c.requires.ranges c.requires.kinds in
    let count = c.requires.ranges.count in
    let few : length (kinds_of c.args.script.now.lines) ≤ 63 = omega (arith, named, count) in
    subst (λ (ls : List Line). length (kinds_of ls) ≤ 63) (sym c.as_slice.ensures) few
