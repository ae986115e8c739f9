-- The ports and waves are those of the script.
use Rattle.std.proofs.Common.{◌≡◌, List, ap, sym, subst}
use Rattle.graph_script.specs.declared.script.Line.{Line}
use Rattle.graph_script.specs.declared.script.Script.{Script}
use Rattle.port_model.specs.declared.port_state.Node.{Node}
use Rattle.graph_plan.specs.Conditions.{AreScriptPorts, HaveWaves}
use Rattle.soak_graph.specs.SoakPorts.{soak_ports}
use Rattle.soak_graph.specs.SoakScript.{soak_lines}
use Rattle.soak_graph.proofs.PortLemmas.{script_ports, have_waves}
use Rattle.soak_graph.proofs.generated.generate.Goals as goal

pub returns-clause-taken : goal.returns-clause-taken
returns-clause-taken c =
    let x = c.in_ok-drawn.drawn.number in
    let lines : c.in_ok-script.script.lines ≡ soak_lines x = ap (λ (s : Script). s.lines) c.in_ok-script.ensures.script in
    subst (λ (ls : List Line). AreScriptPorts ls c.in_ok-ports.ports) (sym lines)
    (subst (AreScriptPorts (soak_lines x)) (sym c.in_ok-ports.ensures) (script_ports x))

pub returns-clause-given : goal.returns-clause-given
returns-clause-given c =
    let x = c.in_ok-drawn.drawn.number in
    subst (λ (ns : List Node). HaveWaves ns c.in_ok-drawn.drawn.waves) (sym c.in_ok-ports.ensures)
    (subst (HaveWaves (soak_ports x)) (sym c.in_ok-drawn.ensures.drawn.waves) (have_waves x))
