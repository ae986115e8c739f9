-- A port that has a format keeps it, and one without a format takes it.
use Rattle.std.proofs.Common.{◌∙◌}
use Rattle.link_negotiation.proofs.MayBeGivenLemmas.{there, lacks, has, taken_given, kept_given}
use Rattle.link_negotiation.proofs.negotiation.give.Goals as goal

pub returns-then-not-has_format-clause-given : goal.returns-then-not-has_format-clause-given
returns-then-not-has_format-clause-given c =
    let nodes = c.args.ports.now in
    c.set_format.ensures
    ∙ taken_given nodes c.args.port c.args.format
    (lacks nodes c.args.port c.has_format.result c.if-not-has_format.true c.has_format.ensures.format
    (there nodes c.args.port c.has_format.ensures.nodes c.requires.port))

pub returns-else-not-has_format-clause-given : goal.returns-else-not-has_format-clause-given
returns-else-not-has_format-clause-given c =
    let nodes = c.args.ports.now in
    kept_given nodes c.args.port c.args.format
    (has nodes c.args.port c.has_format.result c.if-not-has_format.false c.has_format.ensures.format
    (there nodes c.args.port c.has_format.ensures.nodes c.requires.port))
