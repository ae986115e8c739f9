-- A line may be rehearsed, and one line more makes its link.
use Rattle.std.proofs.Common.{◌≡◌, ◌++◌, ℕ, List, length, drop, refl, sym, ap, ◌∙◌, subst}
use Rattle.std.specs.Prelude.{All}
use Rattle.std.proofs.lemmas.List.Elements.{All-nil}
use Rattle.graph_lines.specs.declared.wire.Wire.{Wire}
use Rattle.graph_lines.specs.Searching.{IsWithin}
use Rattle.graph_plan.proofs.FollowingLemmas.{may_step}
use Rattle.graph_plan.proofs.linked_parts.RehearsalLemmas.{rehearsal_kinds, made_begins, made_more, made_ends, within_more}
use Rattle.graph_plan.proofs.partition.links_made.Goals as goal

pub rehearse-requires-clause-line : goal.rehearse-requires-clause-line
rehearse-requires-clause-line c = may_step c.loop-line.graph c.args.graph.kinds c.args.lines.now c.loop-line.line-index c.line-item.result
    c.loop-line.invariant.ready c.loop-line.invariant.kinds c.requires.lines c.loop-line-test.true c.line-item.is

pub loop-line-preserved : goal.loop-line-preserved
loop-line-preserved c =
    let g = c.loop-line.graph in let next = c.rehearse.new.self in
    let e : c.append_from.new.made ≡ c.loop-line.made ++ drop (length g.wires) next.wires = c.in_ok-append_from.ensures
    ∙ (ap (λ (n : ℕ). c.loop-line.made ++ drop n c.as_slice.result.now) c.len-before.ensures
    ∙ ap (λ (ws : List Wire). c.loop-line.made ++ drop (length g.wires) ws) c.as_slice.ensures) in
    record {
      ready = c.in_ok-rehearse.ensures.sound;
      kinds = rehearsal_kinds c.args.waves.now g next c.line-item.result.command c.in_ok-rehearse.field-0 c.in_ok-rehearse.ensures.line
          ∙ c.loop-line.invariant.kinds;
      made = made_more c.args.waves.now c.args.graph g next c.args.lines.now c.loop-line.line-index c.line-item.result c.in_ok-rehearse.field-0
          c.loop-line.made c.append_from.new.made c.loop-line-test.true c.line-item.is c.loop-line.invariant.made c.in_ok-rehearse.ensures.line e;
      within = within_more next c.loop-line.made c.append_from.new.made (length g.wires) c.in_ok-rehearse.ensures.sound c.loop-line.invariant.within e;
    }

pub loop-line-init : goal.loop-line-init
loop-line-init c = record {
  ready = c.requires.ready;
  kinds = refl;
  made = made_begins c.args.waves.now c.args.graph c.args.lines.now c.new-made.result c.new-made.ensures;
  within = subst (All IsWithin) (sym c.new-made.ensures) (All-nil IsWithin);
}

pub returns-clause-made : goal.returns-clause-made
returns-clause-made c = made_ends c.args.waves.now c.args.graph c.loop-line.graph c.args.lines.now c.loop-line.line-index c.loop-line.made
    c.loop-line-test.false c.loop-line.invariant.made
