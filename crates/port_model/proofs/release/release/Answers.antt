-- One more port has no format.
use Rattle.std.proofs.Common.{ap, sym, ◌∙◌, arith}
use Rattle.std.proofs.lemmas.List.Edits.{map_over_more}
use Rattle.std.proofs.Math.ListN.{set}
use Rattle.port_model.specs.declared.port_state.PortState.{PortState}
use Rattle.port_model.specs.PortState.{released}
use Rattle.port_model.proofs.release.release.Goals as goal

pub loop-state-preserved : goal.loop-state-preserved
loop-state-preserved c = ap (λ (s : PortState). set c.loop-state.ports c.loop-state.state-index (released s)) (sym c.state-item.is)
    ∙ map_over_more released c.args.ports.now c.loop-state.ports c.loop-state.state-index c.state-item.result
    (omega arith) c.loop-state.invariant c.state-item.is
