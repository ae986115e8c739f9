-- The activation rule: between any two steps, the pending and status words of all nodes agree with
-- the phases of all seats.
-- Source: PipeWire's documentation, "Graph Scheduling"; spa/graph/graph.h, spa_graph_state; the
-- statuses' numbers are this project's.
use Rattle.std.specs.Prelude.{◌≡◌, ◌≢◌, ℕ, suc, ◌-◌, ◌<◌, ◌≤◌, true, false, cond, eqb, List, length, slice_index}
use Rattle.board_rule.specs.declared.view.Phase.TheVariants.{Idle}
use Rattle.board_rule.specs.declared.view.DriverPhase.{DriverPhase}
use Rattle.board_rule.specs.declared.view.DriverPhase.TheVariants.{Between, BeginDrawn, Reset, Half, Kick}
use Rattle.board_rule.specs.declared.view.NodeView.{NodeView}
use Rattle.pw_graph.specs.Words.{finished_word, not_triggered_word}
use Rattle.pw_graph.specs.Layout.{pending_place, status_place}
use Rattle.board_rule.specs.Layout.{BoardLayout, nodes, first, last}
use Rattle.board_rule.specs.activation.Phases.{PhaseOk, IsLowered, is_resetting, is_between}
use Rattle.board_rule.specs.View.{Whole}
pub use Rattle.board_rule.specs.activation.NodeRow.{Progress, NodeOk}
pub use Rattle.board_rule.specs.activation.ActivationReadings.{progress, left, debts}

module _ (p : BoardLayout) where
  pub record Runs (c : ℕ) (s : Progress) (words : List ℕ) : Type 0 where
    pub node : (n : ℕ) → n < nodes p → NodeOk c (slice_index words (pending_place p.shape n))
        (slice_index words (status_place p.shape n)) (s.stage n) (left p s n) (debts p s n)

  -- the status word before the reset for the cycle c: FINISHED of the cycle before, at first
  -- NOT_TRIGGERED
  abbrev pub old_status : ℕ → ℕ
  old_status c = cond (eqb c (first p)) (not_triggered_word c) (finished_word (c - 1))

  -- the first i pending words and the first k status words are reset for the cycle c
  pub record Resets (c i k : ℕ) (words : List ℕ) : Type 0 where
    pub pending_new : (n : ℕ) → n < nodes p → n < i
        → slice_index words (pending_place p.shape n) ≡ p.required n
    pub pending_old : (n : ℕ) → n < nodes p → i ≤ n
        → slice_index words (pending_place p.shape n) ≡ 0
    pub status_new : (n : ℕ) → n < nodes p → n < k
        → slice_index words (status_place p.shape n) ≡ not_triggered_word c
    pub status_old : (n : ℕ) → n < nodes p → k ≤ n
        → slice_index words (status_place p.shape n) ≡ old_status c

  -- the activation words in the cycle c, by the driver's phase
  abbrev pub Words : ℕ → Progress → DriverPhase → List ℕ → Type 0
  Words c s Between words = Resets c 0 0 words
  Words c s BeginDrawn words = Resets c 0 0 words
  Words c s (Reset i) words = Resets c i i words
  Words c s (Half i) words = Resets c (suc i) i words
  Words c s _ words = Runs c s words

  -- the driver's phase names nodes and targets that there are
  abbrev pub DriverPhaseOk : DriverPhase → Type 0
  DriverPhaseOk (Reset i) = i < nodes p
  DriverPhaseOk (Half i) = i < nodes p
  DriverPhaseOk (Kick i owes) = IsLowered (length (p.targets p.driver)) i owes
  DriverPhaseOk _ = Unit {0}

  abbrev pub IsIdle : ℕ → NodeView → Type 0
  IsIdle c x = (x.next ≡ c) × (x.phase ≡ Idle)

  -- ACTIVATION RULE
  pub record Activations (g : Whole) (words : List ℕ) : Type 0 where
    pub later : first p ≤ g.lead.cycle
    pub early : g.lead.cycle ≤ last p
    pub within : is_between g.lead.drive ≡ false → g.lead.cycle < last p
    pub drive : DriverPhaseOk g.lead.drive
    pub followers : (n : ℕ) → n < nodes p → n ≢ p.driver
        → PhaseOk (length (p.targets n)) g.lead.cycle (g.nodes n).next (g.nodes n).phase
    pub resting : is_resetting g.lead.drive ≡ true → (n : ℕ) → n < nodes p
        → n ≢ p.driver → IsIdle g.lead.cycle (g.nodes n)
    pub laid : Words g.lead.cycle (progress p g) g.lead.drive words
