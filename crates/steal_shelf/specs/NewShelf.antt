-- What a shelf is made of.
-- Source: this project's own.
use Rattle.std.specs.Prelude.{◌≡◌, List, All, length}
use Rattle.data_loop.specs.declared.loop_state.LoopState.{LoopState}
use Rattle.data_loop.specs.Loops.{IsBetweenEpochs}

-- A CELL as it is given: the loop of one node, before its first epoch
pub record IsFirstCell (c : LoopState) : Type 0 where
  pub between : IsBetweenEpochs c
  pub first : c.epoch ≡ 0
  pub one : length c.nodes ≡ 1

-- all of one run: the same plan and the same waves
abbrev pub AreOfOneRun : List LoopState → Type 0
AreOfOneRun cells = All (λ c. All (λ d. (c.run_model.plan.value ≡ d.run_model.plan.value)
    × (c.run_model.waves.value ≡ d.run_model.waves.value)) cells) cells
