use Rattle.std.proofs.Common.{ap, ◌∙◌, false, length}
use Rattle.std.proofs.lemmas.List.{length-replicate}
use Rattle.graph_lines.specs.Searching.{is_linked}
use Rattle.graph_lines.proofs.RowLemmas.{none_linked, linked_more}
use Rattle.graph_lines.proofs.shaping.linked.linked_rows.Goals as goal

pub loop-link-init : goal.loop-link-init
loop-link-init c = record {
  long = ap length c.no_rows-rows.ensures ∙ length-replicate 4096 false;
  rows = λ m n. ap (λ rows. is_linked rows m n) c.no_rows-rows.ensures ∙ none_linked 4096 m n;
}

pub loop-link-preserved : goal.loop-link-preserved
loop-link-preserved c = record {
  long = c.put_link.auto.rows ∙ c.loop-link.invariant.long;
  rows = linked_more c.args.links.now c.loop-link.rows c.loop-link.link-index _ c.loop-link-test.true c.loop-link.invariant.long
      (c.requires c.loop-link.link-index _ c.loop-link-test.true) c.loop-link.invariant.rows c.put_link.new.rows c.put_link.ensures;
}
