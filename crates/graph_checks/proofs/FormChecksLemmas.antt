-- Laws of `specs/working/FormChecks.antt`: what holds of nodes and forms one by one is what the whole epoch says.
use Rattle.std.proofs.Common.{◌≡◌, ℕ, ◌<◌, length, get_or}
use Rattle.std.specs.Prelude.{All, Contains, ◌↔◌}
use Rattle.std.proofs.lemmas.List.{get_or_default}
use Rattle.std.proofs.lemmas.List.Elements.{All-map, All-contains}
use Rattle.pw_graph.specs.declared.ids.PortId.{PortId}
use Rattle.pw_graph.specs.declared.plan.Epoch.{Epoch}
use Rattle.pw_graph.specs.declared.plan.Plan.{Plan}
use Rattle.pw_graph.specs.declared.plan.PortForm.{PortForm}
use Rattle.pw_graph.specs.KindPorts.{port_count}
use Rattle.pw_graph.specs.Dependencies.{nodes_of}
use Rattle.pw_graph.specs.PlanForms.{kind_at}
use Rattle.pw_graph.specs.SoundPlan.{EndsWith}
use Rattle.pw_graph.proofs.ShapeLemmas.{contains_mapped}
use Rattle.graph_checks.specs.working.FormChecks.{HasSomeForm, HasAllForms, IsWhole, IsPlace, IsEnded}

-- every follower has forms for all its ports, node by node and port by port
pub whole_by_ports : (plan : Plan) (epoch : Epoch) → All (IsWhole plan epoch) epoch.shape.nodes
    ↔ ((port : PortId) → Contains (nodes_of epoch.shape) port.node → ¬ (port.node ≡ epoch.shape.driver)
    → port.port < port_count (kind_at plan port.node) → HasSomeForm epoch port)
whole_by_ports plan epoch = (
  λ all port here ne lt.
      let each = All-map (λ n. ¬ (n ≡ epoch.shape.driver) → HasAllForms plan epoch n) (λ n. n.node) epoch.shape.nodes
      (λ k d lt. (all k d lt).follower) in
      let at = All-contains (λ n. ¬ (n ≡ epoch.shape.driver) → HasAllForms plan epoch n) (nodes_of epoch.shape) port.node each here in
      (at ne).ports port.port lt,
  λ h k d lt. record {
    follower = λ ne. record {
      ports =
          λ port lt'. h (record { node = (get_or epoch.shape.nodes k d).node; port = port })
          (contains_mapped (λ n. n.node) epoch.shape.nodes k d lt) ne lt';
    };
  },
)

-- the places of nodes, node by node and by their numbers
pub places_by_number : (plan : Plan) (epoch : Epoch)
    → All (IsPlace plan) epoch.shape.nodes ↔ ((n : ℕ) → Contains (nodes_of epoch.shape) n → ¬ (n ≡ 63) → n < length plan.nodes)
places_by_number plan epoch = (
  λ all n here.
      let each = All-map (λ m. ¬ (m ≡ 63) → m < length plan.nodes) (λ m. m.node) epoch.shape.nodes (λ k d lt. (all k d lt).place) in
      All-contains (λ m. ¬ (m ≡ 63) → m < length plan.nodes) (nodes_of epoch.shape) n each here,
  λ h k d lt. record { place = λ ne. h (get_or epoch.shape.nodes k d).node (contains_mapped (λ n. n.node) epoch.shape.nodes k d lt) ne },
)

-- the forms of sinks, form by form
pub ended_by_form : (plan : Plan) (epoch : Epoch) → All (IsEnded plan) epoch.forms ↔ EndsWith plan epoch
ended_by_form plan epoch = (
  λ all port rate channels node has at sink. (All-contains (IsEnded plan) epoch.forms
      (record { port = port; rate = rate; channels = channels }) all has).ends node at sink,
  λ h k d lt. record {
    ends = λ node at sink.
        let a : PortForm = get_or epoch.forms k d in h a.port a.rate a.channels node (k, lt, get_or_default epoch.forms k a d lt) at sink;
  },
)
