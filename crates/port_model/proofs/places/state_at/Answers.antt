-- A port of a sound node is sound.
use Rattle.std.proofs.Common.{◌≡◌, ap, sym, ◌∙◌, List, Some, arith, length, refl, ◌<◌}
use Rattle.std.specs.Prelude.{slice_get}
use Rattle.std.proofs.lemmas.Option.{slice_get_read}
use Rattle.port_model.specs.declared.port_state.PortState.{PortState}
use Rattle.port_model.proofs.places.state_at.Goals as goal

pub returns-clause-sound : goal.returns-clause-sound
returns-clause-sound c =
    let ports = c.as_slice.result.now in
    let state = c.index-as_slice-port.result in
    let there : c.args.port < length ports = omega (arith, ap length c.as_slice.ensures) in
    let here : slice_get c.args.node.now.ports c.args.port ≡ Some state =
    ap (λ (ps : List PortState). slice_get ps c.args.port) (sym c.as_slice.ensures)
    ∙ slice_get_read ports (length ports) c.args.port state refl there c.index-as_slice-port.is in
    c.requires.sound.ports c.args.port state here
