-- What the activation rule reads of the phases, and the row of one node: its words, its phase, and
-- who owes it.
-- Source: PipeWire's documentation, "Graph Scheduling"; spa/graph/graph.h, spa_graph_state; the
-- statuses' numbers are this project's.
use Rattle.std.specs.Prelude.{◌≡◌, ℕ, ◌<◌, List}
use Rattle.pw_graph.specs.Words.{status_word_of}

-- all that the rule reads of the phases: of each index m the targets that m has yet to lower in the
-- driver's cycle, the one
-- that it owes (at most one, the one that it lowered last), and how far it is
pub record Progress : Type 0 where
  pub rest : ℕ → List ℕ
  pub owing : ℕ → List ℕ
  pub stage : ℕ → ℕ

-- a node outside the reset. Its status word is that of `kind` in the cycle c; `left` dependencies
-- have yet to lower it, and `debts` phases owe it
pub record NodeOk (c pending status stage left debts : ℕ) : Type 0 where
  pub kind : ℕ
  pub status_is : status ≡ status_word_of kind c
  pub kinds : kind < 4
  pub counts : pending ≡ left
  -- pending above 0: NOT_TRIGGERED, and nobody owes it. Else NOT_TRIGGERED and one phase owes it,
  -- or nobody does
  pub waits : 0 < pending → (kind ≡ 0) × (debts ≡ 0)
  pub owed : pending ≡ 0 → kind ≡ 0 → debts ≡ 1
  pub paid : 0 < kind → debts ≡ 0
  -- not awake before AWAKE is stored, awake with it, and past its work with FINISHED
  pub asleep : kind < 2 → stage ≡ 0
  pub awake : kind ≡ 2 → stage ≡ 1
  pub done : kind ≡ 3 → stage ≡ 2
