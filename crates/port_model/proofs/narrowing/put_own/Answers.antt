use Rattle.port_model.specs.PortState.{offering}
use Rattle.port_model.proofs.NodeLemmas.{port_written}
use Rattle.port_model.proofs.narrowing.put_own.Goals as goal

pub returns : goal.returns
returns c = port_written c.args.nodes.now c.as_mut_slice.result.now c.as_mut_slice-2.result.now c.args.port c.index-as_mut_slice-port.result
    c.index-as_mut_slice-port-2.result (offering c.args.own) c.requires c.as_mut_slice.ensures.value c.as_mut_slice-2.ensures.value
