-- Forms in a plan: the rate and channels of each port of an active node, and the two forms of a
-- link.
-- Source: PipeWire's documentation, "SPA POD" (a port's Format); the sharing of rates and channels
-- is this project's.
use Rattle.std.specs.Prelude.{◌≡◌, ℕ, ◌<◌, ◌≤◌, option_map, unwrap_or, All, AllPairs, Contains, IsTrue, slice_get}
use Rattle.pw_graph.specs.declared.ids.PortId.{PortId}
use Rattle.pw_graph.specs.declared.kind.Kind.{Kind}
use Rattle.pw_graph.specs.declared.kind.Kind.TheVariants.{Dummy}
use Rattle.pw_graph.specs.declared.shape.ShapeLink.{ShapeLink}
use Rattle.pw_graph.specs.declared.plan.Epoch.{Epoch}
use Rattle.pw_graph.specs.declared.plan.PortForm.{PortForm}
use Rattle.pw_graph.specs.declared.plan.Plan.{Plan}
use Rattle.pw_graph.specs.KindPorts.{input_count, port_count}
use Rattle.pw_graph.specs.KindRanges.{MayHaveRate, MayHaveChannels, SharesChannels}
use Rattle.pw_graph.specs.Dependencies.{nodes_of}
use Rattle.pw_graph.specs.Pools.{is_before}

-- the kind of a node; that of a number that is no place is the dummy's
abbrev pub kind_at : Plan → ℕ → Kind
kind_at plan node = unwrap_or (option_map (λ n. n.kind) (slice_get plan.nodes node)) Dummy

-- the epoch has this form of the port
abbrev pub HasForm : Epoch → PortId → ℕ → ℕ → Type 0
HasForm epoch port rate channels = Contains epoch.forms
    (record { port = port; rate = rate; channels = channels })

-- a form belongs to a port of an active node, with a rate and channels that the kind may have there
pub record IsSoundForm (plan : Plan) (epoch : Epoch) (form : PortForm) : Type 0 where
  pub active : Contains (nodes_of epoch.shape) form.port.node
  pub port : form.port.port < port_count (kind_at plan form.port.node)
  pub rate : MayHaveRate (kind_at plan form.port.node) form.rate
  pub channels : MayHaveChannels (kind_at plan form.port.node) form.port.port form.channels

-- the ports of a node share their rate, and those of some kinds their channels
abbrev pub AreShared : Plan → PortForm → PortForm → Type 0
AreShared plan f g = f.port.node ≡ g.port.node → (f.rate ≡ g.rate)
    × (SharesChannels (kind_at plan f.port.node) → f.channels ≡ g.channels)

-- a link goes from an output to an input, and both have forms of one rate and of the link's
-- channels
pub record IsFormed (plan : Plan) (epoch : Epoch) (link : ShapeLink) : Type 0 where
  pub output : (input_count (kind_at plan link.from.node) ≤ link.from.port)
      × (link.from.port < port_count (kind_at plan link.from.node))
  pub input : link.to.port < input_count (kind_at plan link.to.node)
  pub rate : ℕ
  pub from : HasForm epoch link.from rate link.channels
  pub to : HasForm epoch link.to rate link.channels

-- forms of ports once each, ascending; every follower has forms for all its ports
pub record HasSoundForms (plan : Plan) (epoch : Epoch) : Type 0 where
  pub ascend : AllPairs (λ f g. IsTrue (is_before f.port g.port)) epoch.forms
  pub each : All (IsSoundForm plan epoch) epoch.forms
  pub shared : AllPairs (AreShared plan) epoch.forms
  pub whole : (port : PortId) → Contains (nodes_of epoch.shape) port.node
      → ¬ (port.node ≡ epoch.shape.driver)
      → port.port < port_count (kind_at plan port.node)
      → (rate : ℕ) × (channels : ℕ) × HasForm epoch port rate channels
  pub links : All (IsFormed plan epoch) epoch.shape.links
