use Rattle.std.proofs.Common.{ap, sym, ◌∙◌}
use Rattle.std.specs.List.{list_any}
use Rattle.pw_graph.specs.Pools.{is_same_port}
use Rattle.pw_graph.proofs.PortOrder.{port_stays}
use Rattle.pw_graph.proofs.pooling.with_port.Goals as goal

pub returns-then-is_among-clause-is : goal.returns-then-is_among-clause-is
returns-then-is_among-clause-is c = sym (port_stays c.args.ports c.args.p c.requires
    (ap (list_any (λ q. is_same_port q c.args.p)) (sym c.as_slice.ensures) ∙ sym c.is_among.ensures ∙ c.if-is_among.true))
