-- The text of a run can be printed.
use Rattle.pw_top.proofs.PrintableLemmas.{run_prints}
use Rattle.std.proofs.Common.{subst, sym}
use Rattle.cycle_trace.specs.Printable.{IsPrintable}
use Rattle.pw_top.proofs.plan_work.plan_work.Goals as goal

pub run_text-requires : goal.run_text-requires
run_text-requires c = subst (IsPrintable c.args.planned.plan) (sym c.if_traced.ensures)
    (run_prints c.args.planned.plan c.requires.planned.sound c.requires.planned.joins c.args.trace c.args.history.now c.requires.legal)
