-- What an `offer` line leaves of what was loaded, by what its narrowing did.
-- Source: this project's own grammar, docs/FORMATS.md.
use Rattle.std.specs.Prelude.{ℕ, List, Result, Ok, Err}
use Rattle.port_model.specs.declared.narrowing.Narrowed.{Narrowed}
use Rattle.port_model.specs.declared.narrowing.Narrowed.TheVariants as N
use Rattle.port_model.specs.declared.port_state.Node.{Node}
use Rattle.run_results.specs.declared.status.Status.{Status}
use Rattle.run_results.specs.declared.status.Status.TheVariants as S
use Rattle.run_results.specs.declared.status.PodWhy.TheVariants as P
use Rattle.pw_top.specs.declared.inputs.PlanInputs.{PlanInputs}

-- the ports with the narrowed offer; or a refusal at the place of the object
abbrev pub narrowed_outcome : ℕ → PlanInputs → Narrowed → List Node
    → Result PlanInputs Status
narrowed_outcome place inputs N.Done later = Ok (record inputs { ports = later })
narrowed_outcome place inputs N.NotFormat later = Err (S.Pod place P.NotFormat)
narrowed_outcome place inputs (N.Clash key) later = Err (S.Pod place (P.Clash key))
