use Rattle.std.proofs.Common.{◌+◌, List, refl, sym, ◌∙◌, subst, arith}
use Rattle.pw_graph.specs.declared.plan.PortForm.{PortForm}
use Rattle.graph_lines.specs.Gathering.{HasFormsBefore}
use Rattle.graph_lines.proofs.GatheringLemmas.{node_skipped, forms_end}
use Rattle.graph_lines.proofs.PortLemmas.{as_many}
use Rattle.graph_lines.proofs.graph.Graph.forms_of.Goals as goal
use Rattle.graph_lines.proofs.graph.Graph.forms_of.Goals.{then-is_in+in_ok-add_forms, else-is_in}

pub loop-node-preserved : goal.loop-node-preserved
loop-node-preserved c = let ports = c.args.self.now.ports in let here = c.args.here.now in let node = c.loop-node.node in
    elim c.if-is_in.branch [
      | then-is_in+in_ok-add_forms w ↦ subst (λ (fs : List PortForm). HasFormsBefore ports here (record { node = node + 1; port = 0 }) fs)
          (sym w.forms-is) w.in_ok-add_forms.ensures
      | else-is_in w ↦ subst (λ (fs : List PortForm). HasFormsBefore ports here (record { node = node + 1; port = 0 }) fs) (sym w.forms-is)
          (node_skipped ports here c.requires.ports (record { node = node; port = 0 }) c.loop-node.forms c.loop-node.invariant
          (sym c.is_in.ensures ∙ w.if-is_in.false) refl)
    ]

pub returns : goal.returns
returns c =
    let many = as_many c.args.self.now.nodes c.args.self.now.kinds c.args.self.now.ports c.requires in
    let count = c.node_count-node-end.ensures.count in let all = c.loop-node-test.false in
    forms_end c.args.self.now.ports c.args.here.now c.loop-node.node c.loop-node.forms c.requires.ports (omega (arith, many, count, all))
    c.loop-node.invariant
