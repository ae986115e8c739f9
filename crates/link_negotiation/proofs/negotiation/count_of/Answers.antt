-- The counts are those of the two ports.
use Rattle.link_negotiation.proofs.MayBeGivenLemmas.{shares, there}
use Rattle.link_negotiation.proofs.negotiation.count_of.Goals as goal

pub returns-clause-count : goal.returns-clause-count
returns-clause-count c =
    let nodes = c.args.ports.now in
    let sound = c.buffers.ensures.nodes in
    shares nodes c.args.from c.args.to c.buffers.result c.buffers-2.result c.common_count.result c.common_count.ensures.count
    (there nodes c.args.from sound c.requires.from) (there nodes c.args.to sound c.requires.to)
    c.buffers.ensures.count c.buffers-2.ensures.count
