-- The lines of one chain more.
use Rattle.std.proofs.Common.{◌++◌, ap, ◌∙◌, rules, SFits, w32}
use Rattle.std.proofs.lemmas.Int.{to_z-of_z}
use Rattle.soak_graph.specs.working.Drawing.{chain_in}
use Rattle.soak_graph.specs.SoakText.{text_of_lines, chain_lines}
use Rattle.soak_graph.proofs.LineLemmas.{text_more}
use Rattle.soak_graph.proofs.text.put_chains.Goals as goal

pub loop-i-preserved : goal.loop-i-preserved
loop-i-preserved c =
    let at = chain_in c.args.chains.now in
    let i = c.loop-i.i in
    let fit : SFits w32 (at i).gain = search rules in
    text_more (λ j. chain_lines j (at j).gain (at j).delay) i c.args.text.now c.loop-i.text c.put_chain.new.text c.loop-i.invariant
    (c.in_ok-put_chain.ensures ∙ ap (λ z. c.loop-i.text ++ text_of_lines (chain_lines i z (at i).delay)) (to_z-of_z w32 (at i).gain fit))
