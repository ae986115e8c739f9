-- What the calls on one node ask of the view of their seat, and the view after it. Nodes are
-- indexes; `is_driver` is true for the driver's seat.
-- Source: PipeWire's documentation, "Graph Scheduling"; the calls are this project's.
use Rattle.std.specs.Prelude.{◌≡◌, ◌≢◌, ℕ, ◌+◌, ◌<◌, Bool, true, false, map, reverse}
use Rattle.board_rule.specs.declared.view.Phase.TheVariants.{Idle, Awake, Running, Telling}
use Rattle.board_rule.specs.declared.view.DriverPhase.TheVariants as drives
use Rattle.board_rule.specs.declared.view.View.{View}
use Rattle.pw_graph.specs.Words.{triggered_word}
use Rattle.pw_graph.specs.Layout.{event_count}
use Rattle.board_rule.specs.Layout.{BoardLayout}
use Rattle.board_rule.specs.View.{node_of, view_node, view_lead}
use Rattle.board_rule.specs.Steps.{cycle_of, woken, tried, untold}
use Rattle.activation_words.specs.declared.answer.Claim.{Claim}
use Rattle.activation_words.specs.declared.answer.Claim.TheVariants as claims

-- CLAIM: awake where the exchange found TRIGGERED of the node's cycle; else the word that it found,
-- which the seat remembers
abbrev pub IsClaim : Bool → BoardLayout → View → ℕ → Claim → View → Type 0
IsClaim is_driver p v m (claims.Awake cycle) w = (cycle ≡ cycle_of is_driver v m)
    × (w ≡ woken is_driver v m)
IsClaim is_driver p v m (claims.NotYet found) w =
    (found ≢ triggered_word (cycle_of is_driver v m)) × (w ≡ tried p v m found)

-- START: the node is awake; then it works
abbrev pub IsAwake : Bool → View → ℕ → Type 0
IsAwake true v m = v.lead.drive ≡ drives.Awake
IsAwake false v m = (node_of v m).phase ≡ Awake

abbrev pub started : Bool → View → ℕ → ℕ → View
started true v m ticket = view_lead v
    (record v.lead { drive = drives.Running; start = ticket }) v.trail
started false v m ticket = view_node v m
    (record (node_of v m) { phase = Running; start = ticket }) v.trail

abbrev pub HasStarted : Bool → BoardLayout → View → ℕ → View → Type 0
HasStarted is_driver p v m w = (ticket : ℕ) × (ticket < event_count p.shape)
    × (w ≡ started is_driver v m ticket)

-- FINISH: the driver's node has its Finish stored; a follower has also told all its targets, and
-- waits for its next cycle
abbrev pub worked : Bool → View → ℕ → ℕ → View
worked true v m ticket = view_lead v
    (record v.lead { drive = drives.FinishStored; finish = ticket }) (untold v.trail)
worked false v m ticket = view_node v m
    (record (node_of v m) { phase = Telling 0 false; finish = ticket })
    (untold v.trail)

pub record HasRested (p : BoardLayout) (v : View) (m : ℕ) (w : View) : Type 0 where
  pub ticket : ℕ
  pub drawn : ticket < event_count p.shape
  pub told : map (λ f. f.node) w.trail.told ≡ reverse (map p.number (p.targets m))
  pub is : w ≡ view_node v m
      (record (node_of v m) { next = (node_of v m).next + 1; phase = Idle; finish = ticket })
      (record v.trail { told = w.trail.told })

abbrev pub HasFinished : Bool → BoardLayout → View → ℕ → View → Type 0
HasFinished true p v m w = (ticket : ℕ) × (ticket < event_count p.shape)
    × (w ≡ worked true v m ticket)
HasFinished false p v m w = HasRested p v m w
