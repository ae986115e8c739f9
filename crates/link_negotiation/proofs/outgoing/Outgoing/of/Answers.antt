-- No link leaves nothing.
use Rattle.link_negotiation.proofs.outgoing.Outgoing.of.Goals as goal

pub loop-at-init : goal.loop-at-init
loop-at-init c = c.none-outgoing.ensures c.args.links.now
