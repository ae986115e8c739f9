-- The write through both slices leaves the node without its formats.
use Rattle.std.proofs.Common.{ap, ◌∙◌, List, map}
use Rattle.port_model.specs.declared.port_state.PortState.{PortState}
use Rattle.port_model.specs.PortState.{released}
use Rattle.port_model.proofs.ReleaseLemmas.{release_written}
use Rattle.port_model.proofs.release.release_node.Goals as goal

pub returns : goal.returns
returns c = release_written c.args.nodes.now c.as_mut_slice.result.now c.args.node c.index-as_mut_slice-node.result c.release.new.ports
    c.as_mut_slice.ensures.value c.requires
    (c.release.ensures ∙ ap (λ (ps : List PortState). map released ps) c.as_mut_slice-2.ensures.value)
