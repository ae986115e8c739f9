use Rattle.std.proofs.Common.{rules}
use Rattle.crew_run.proofs.scope.run_scoped.Goals as goal

-- what the run asks, its closure asks whatever scope it is given
pub scoped-requires : goal.scoped-requires
scoped-requires g c = record { at = λ a. (c.requires, (search rules, search rules, search rules, search rules, search rules)) }
