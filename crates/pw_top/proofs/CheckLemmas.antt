-- Laws of `specs/Check.antt`: a script's names are such as lines can name, and one answer of
-- `check` is allowed.
use Rattle.std.proofs.Common.{ℕ, List, [], map, sym, ap, ◌∙◌}
use Rattle.std.specs.Prelude.{Ok}
use Rattle.pw_graph.specs.declared.shape.Shape.{Shape}
use Rattle.pw_outside.specs.Files.{Names}
use Rattle.cycle_trace.specs.TraceReading.{AreNames}
use Rattle.graph_script.specs.declared.script.Script.{Script}
use Rattle.graph_script.specs.Order.{HasOrder}
use Rattle.graph_script.specs.Ranges.{HasRanges}
use Rattle.graph_script.proofs.NameLemmas.{name_whole}
use Rattle.trace_check.specs.declared.trace.Finding.{Finding}
use Rattle.trace_check.proofs.FindingLemmas.{finding_one}
use Rattle.pw_top.specs.declared.planned.Planned.{Planned}
use Rattle.pw_top.specs.Check.{check_work, FindsTrace, ChecksTrace, ChecksPlan, IsCheckAnswer}
use Rattle.pw_top.specs.ScriptFile.{PlansFile}
use Rattle.pw_top.proofs.OnePartLemmas.{HasOne, OneOutcome, part_one, binds_given, binds_one, load_one}
use Rattle.pw_top.proofs.OneRunLemmas.{IsWhole, file_one, planned_whole}

-- the names of a script
pub script_names : (script : Script) → HasRanges script → HasOrder script → AreNames script.names
script_names script ranges order = record {
  few = ranges.count;
  each = λ k d lt. record { whole = name_whole _ (ranges.names k d lt); other = order.other k d lt };
  distinct = order.distinct;
}

-- ONE ANSWER
finds_one : (names : List (List ℕ)) → AreNames names → (shapes : List Shape) (bytes : List ℕ) → OneOutcome (FindsTrace names shapes bytes)
finds_one names known shapes bytes x y h k =
    h.2 ∙ ap (λ (f : Finding). Ok (check_work f)) (finding_one names known shapes bytes h.0 k.0 h.1 k.1) ∙ sym k.2

plan_one : (names : Names) (trace : List ℕ) (p : Planned) → IsWhole p.script → HasOne (ChecksPlan names trace p)
plan_one names trace p known = binds_one _ (ChecksTrace p.script.names p.plan) (load_one names _ trace _ _)
    (λ bytes. part_one [] (FindsTrace p.script.names (map (λ e. e.shape) p.plan.epochs) bytes)
    (finds_one p.script.names (script_names p.script known.ranges known.order) (map (λ e. e.shape) p.plan.epochs) bytes))

pub check_one : (names : Names) (script trace : List ℕ) → HasOne (IsCheckAnswer names script trace)
check_one names script trace = binds_given (PlansFile names script) (ChecksPlan names trace) (file_one names script)
    (λ e p allowed is. plan_one names trace p (planned_whole names script e p allowed is))
