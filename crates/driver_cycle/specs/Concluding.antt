-- One claim of the driver's node, and what follows it: its turn and the end of the cycle, or a look
-- at who is late.
-- Source: PipeWire's documentation, "Graph Scheduling"; that a check is made when a ticker says so,
-- and at most once a cycle, is this project's own.
use Rattle.std.specs.Prelude.{◌≡◌, ◌≢◌, ℕ, Bool, true, false, Option}
use Rattle.pw_graph.specs.Words.{triggered_word}
use Rattle.board_rule.specs.declared.view.View.{View}
use Rattle.board_rule.specs.Layout.{BoardLayout}
use Rattle.board_rule.specs.activation.WorkSteps.{woken, tried}
use Rattle.activation_words.specs.CycleCalls.{HasEnded}
use Rattle.data_loop.specs.Driving.{HasDriven}
use Rattle.driver_cycle.specs.Rounds.{IsLook}

-- THE CONCLUSION of the cycle in which the driver's node is awake: its turn, and then the End
pub record HasConcluded (p : BoardLayout) (v w : View) : Type 0 where
  pub driven : View
  pub turn : HasDriven p v v.lead.cycle driven
  pub end : HasEnded p driven w

-- a look, unless the cycle has had its check
abbrev pub LooksOnce : Bool → BoardLayout → View → ℕ → ℕ → View → Type 0
LooksOnce true p v m n w = (n ≡ m) × (w ≡ v)
LooksOnce false p v m n w = (late : Option ℕ) × IsLook p v m n late w

-- a claim that found another word than TRIGGERED of the cycle
pub record WasEarly (p : BoardLayout) (v : View) (m n : ℕ) (w : View) : Type 0 where
  pub found : ℕ
  pub other : found ≢ triggered_word v.lead.cycle
  pub look : LooksOnce v.lead.checked p (tried p v p.driver found) m n w

-- ONE CLAIM: from the view v to the view w, where the ticker's count went from m to n; the answer
-- is whether the node was awake
abbrev pub IsClaimed : Bool → BoardLayout → View → ℕ → ℕ → View → Type 0
IsClaimed true p v m n w = (n ≡ m) × HasConcluded p (woken true v p.driver) w
IsClaimed false p v m n w = WasEarly p v m n w
