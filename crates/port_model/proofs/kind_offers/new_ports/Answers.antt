-- One more port.
use Rattle.std.proofs.Common.{ap, sym, ◌∙◌, ◌∷◌, ◌++◌, [], List, None, map, arith}
use Rattle.std.specs.List.{range_with_len}
use Rattle.format_filter.specs.declared.format.Format.{Format}
use Rattle.port_model.specs.declared.port_state.PortState.{PortState}
use Rattle.std.proofs.lemmas.List.FromFn.{map-range_with_len_more}
use Rattle.port_model.specs.Offers.{new_port}
use Rattle.port_model.proofs.kind_offers.new_ports.Goals as goal

pub loop-port-preserved : goal.loop-port-preserved
loop-port-preserved c =
    let more = map-range_with_len_more (new_port c.args.kind.now c.args.rate c.args.channels) 0 c.loop-port.port c.loop-port.port
    (omega arith) in
    c.in_ok-push.ensures.ok ∙ ap (λ (ps : List PortState). ps ++ record { own = c.in_ok-offer_of.field-0; format = None; buffers = None } ∷
    []) c.loop-port.invariant
    ∙ ap (λ (own : Format). map (new_port c.args.kind.now c.args.rate c.args.channels) (range_with_len 0 c.loop-port.port) ++ record
    { own = own; format = None; buffers = None } ∷ []) c.in_ok-offer_of.ensures ∙ sym more
