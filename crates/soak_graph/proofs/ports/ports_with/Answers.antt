-- The nodes of one chain more; there is room for them, and their numbers are in range.
use Rattle.std.proofs.Common.{◌≡◌, ◌++◌, length, sym, subst, ap, ◌∙◌, arith}
use Rattle.std.proofs.lemmas.Int.{ints}
use Rattle.pw_lists.specs.Samples.{IsGain}
use Rattle.soak_graph.specs.declared.drawing.Chain.{Chain}
use Rattle.soak_graph.specs.working.Drawing.{chain, chain_in}
use Rattle.soak_graph.specs.SoakChains.{gain, delay}
use Rattle.soak_graph.specs.SoakPorts.{chain_nodes}
use Rattle.soak_graph.proofs.DrawnLemmas.{chain_is, gain_range}
use Rattle.soak_graph.proofs.LineLemmas.{flat_more}
use Rattle.soak_graph.proofs.PortLemmas.{chains_count}
use Rattle.soak_graph.proofs.ports.ports_with.Goals as goal

pub add_chain-requires-clause-room : goal.add_chain-requires-clause-room
add_chain-requires-clause-room c =
    let count = ap length c.loop-i.invariant ∙ chains_count c.args.drawn.now.number c.loop-i.i in
    omega arith

pub add_chain-requires-clause-gain : goal.add_chain-requires-clause-gain
add_chain-requires-clause-gain c =
    let x = c.args.drawn.now.number in
    let i = c.loop-i.i in
    let list = c.as_slice-chains.result.now in
    let here : chain_in list i ≡ chain x i = chain_is x i list (c.as_slice-chains.ensures ∙ c.requires.chains) (omega arith) in
    let r = gain_range x i in
    let in_range : IsGain (gain x i) = (omega (arith, ints, r.0), omega (arith, ints, r.1)) in
    subst (λ (q : Chain). IsGain q.gain) (sym here) in_range

pub loop-i-preserved : goal.loop-i-preserved
loop-i-preserved c =
    let x = c.args.drawn.now.number in
    let i = c.loop-i.i in
    let list = c.as_slice-chains.result.now in
    let here : chain_in list i ≡ chain x i = chain_is x i list (c.as_slice-chains.ensures ∙ c.requires.chains) (omega arith) in
    c.in_ok-add_chain.ensures ∙ (λ k. c.loop-i.invariant k ++ chain_nodes (here k).gain (here k).delay)
    ∙ sym (flat_more (λ j. chain_nodes (gain x j) (delay x j)) i)
