-- A line that makes no epoch keeps a sound graph sound, where its nodes carry on.
use Rattle.std.proofs.Common.{◌≡◌, ℕ, ◌<◌, List, length, map, sym, ◌∙◌, subst}
use Rattle.std.specs.List.{All}
use Rattle.pw_graph.specs.declared.plan.LinkLine.{LinkLine}
use Rattle.pw_graph.specs.declared.plan.Plan.{Plan}
use Rattle.port_model.specs.declared.port_state.Node.{Node}
use Rattle.port_model.specs.SoundPorts.{AreSoundNodes}
use Rattle.link_negotiation.specs.Links.{LinkState, link_of, is_marked}
use Rattle.graph_lines.specs.declared.graph.Graph.{Graph}
use Rattle.graph_lines.specs.declared.standing.Standing.{Standing}
use Rattle.graph_lines.specs.declared.wire.Wire.{Wire}
use Rattle.graph_lines.specs.Activity.{standing}
use Rattle.graph_lines.specs.Forms.{HasKinds}
use Rattle.graph_plan.specs.working.Reaching.{IsOrdered}
use Rattle.graph_plan.specs.working.SoundWires.{AreSoundWires}
use Rattle.graph_plan.specs.working.Remembering.{IsLastNaming, Remembers, RemembersSinks, CarriesOn}
use Rattle.graph_plan.specs.working.SoundGraph.{AreMade, IsPast, IsJoining, IsSoundGraph}

module _ (nodes : List Node) (said : List Standing) (nodes' : List Node) (said' : List Standing)
    (on : (n : ℕ) → CarriesOn nodes said nodes' said' n) (plan : Plan) where
  carried : Remembers plan nodes said → Remembers plan nodes' said'
  carried h = record {
    kept = λ i e port rate channels at has none quiet.
        let c = on port.node in
        c.stands quiet port.port rate channels (h.kept i e port rate channels at has none (c.quiet quiet));
    last = λ n some.
        let same = (on n).told in
        subst (IsLastNaming plan n) (sym same) (h.last n (subst (λ (k : ℕ). 0 < k) same some));
    forms = h.forms;
    told = h.told;
  }

  carried_sinks : RemembersSinks plan nodes said → RemembersSinks plan nodes' said'
  carried_sinks h = record {
    forms = λ i e port rate channels at kind has.
        let was = h.forms i e port rate channels at kind has in
        let c = on port.node in
        let quiet = c.held was.kept was.quiet in
        record {
          there = c.there was.there;
          kept = c.kept was.kept;
          quiet = quiet;
          told = c.told ∙ was.told;
          form = c.stands quiet port.port rate channels was.form;
        };
    sinks = h.sinks;
  }

  pub past_carried : IsPast plan nodes said → IsPast plan nodes' said'
  past_carried h = record { forms = carried h.forms; sinks = carried_sinks h.sinks }

-- what a line changes, and what it has to keep
pub record IsRebuilt (count : ℕ) (g : Graph) (ports : List Node) (links : LinkState) (wires : List Wire) (said : List Standing)
    (lines : List LinkLine) : Type 0 where
  pub sound : AreSoundNodes ports
  pub kinds : HasKinds ports g.kinds
  pub many : length said ≡ length g.nodes
  pub made : AreMade count said wires
  pub wires_sound : AreSoundWires g.kinds ports wires
  pub wired : map (λ w. link_of w.from w.to) wires ≡ links.made
  pub marks : length links.marks ≡ 64
  pub marked : (n : ℕ) → is_marked links n ≡ (standing said n).marked
  pub order : IsOrdered links
  pub on : (n : ℕ) → CarriesOn g.ports g.nodes ports said n
  pub joins : All (IsJoining g.kinds) lines

pub rebuilt_sound : (count more : ℕ) (g after : Graph) (ports : List Node) (links : LinkState) (wires : List Wire) (said : List Standing)
    (lines : List LinkLine) → IsSoundGraph count g → IsRebuilt more g ports links wires said lines
    → after ≡ record g { ports = ports; links = links; wires = wires; nodes = said; lines = lines } → IsSoundGraph more after
rebuilt_sound count more g after ports links wires said lines old h same = subst (IsSoundGraph more) (sym same) (record {
  quantum = old.quantum;
  ports = h.sound;
  kinds = h.kinds;
  nodes = h.many ∙ old.nodes;
  made = h.made;
  wires = h.wires_sound;
  wired = h.wired;
  marks = h.marks;
  marked = h.marked;
  order = h.order;
  sums = old.sums;
  parts = old.parts;
  past = λ plan like epochs. past_carried g.ports g.nodes ports said h.on plan (old.past plan like epochs);
  lines = h.joins;
})
