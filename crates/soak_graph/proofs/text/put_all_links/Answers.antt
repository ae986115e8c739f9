-- The links of one chain more.
use Rattle.soak_graph.specs.SoakText.{link_lines}
use Rattle.soak_graph.proofs.LineLemmas.{text_more}
use Rattle.soak_graph.proofs.text.put_all_links.Goals as goal

pub loop-i-preserved : goal.loop-i-preserved
loop-i-preserved c = text_more link_lines c.loop-i.i c.args.text.now c.loop-i.text c.put_links.new.text c.loop-i.invariant c.in_ok-put_links.ensures
