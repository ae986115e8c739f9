-- The expected answer of `check SCRIPT TRACE`: what `run` loads and plans, then the trace.
-- Source: this project's.
use Rattle.std.specs.Prelude.{◌≡◌, ℕ, List, [], ◌∷◌, map, codes, decimal, Result, Ok}
use Rattle.pw_outside.specs.Files.{Names}
use Rattle.pw_lists.specs.declared.limit.Which.TheVariants as W
use Rattle.pw_graph.specs.declared.plan.Plan.{Plan}
use Rattle.pw_graph.specs.declared.shape.Shape.{Shape}
use Rattle.cycle_trace.specs.Words.{line}
use Rattle.trace_check.specs.declared.checking.Verdict.TheVariants.{Legal, Illegal}
use Rattle.trace_check.specs.declared.trace.Finding.{Finding}
use Rattle.trace_check.specs.declared.trace.Finding.TheVariants.{Line, Events}
use Rattle.trace_check.specs.Finding.{IsFindingOn}
use Rattle.run_results.specs.Places.{trace_place}
use Rattle.pw_top.specs.declared.planned.Planned.{Planned}
use Rattle.run_results.specs.declared.status.Status.{Status}
use Rattle.command_frame.specs.declared.work.Work.{Work}
use Rattle.pw_top.specs.Answer.{Answer}
use Rattle.pw_top.specs.Allowed.{Binds, Reads, IsLoad}
use Rattle.pw_top.specs.ScriptFile.{PlansFile}

-- the bytes of a trace, which are more than any run prints
abbrev pub trace_bytes_limit : ℕ
trace_bytes_limit = 268435456

-- one line says it: a line that is of no event, or whether the events are legal, and where not
abbrev pub finding_text : Finding → List ℕ
finding_text (Line number) = line (codes "line") (decimal number ∷ [])
finding_text (Events Legal) = line (codes "legal") []
finding_text (Events (Illegal at)) = line (codes "illegal") (decimal at ∷ [])

-- nothing is stored
abbrev pub check_work : Finding → Work
check_work found = record { stores = []; text = finding_text found }

-- what is found of a trace, by the names of nodes and the shapes of epochs
abbrev pub FindsTrace : List (List ℕ) → List Shape → List ℕ → Result Work Status
    → Type 0
FindsTrace names shapes bytes outcome = (found : Finding) × IsFindingOn names shapes bytes found
    × (outcome ≡ Ok (check_work found))

abbrev pub ChecksTrace : List (List ℕ) → Plan → List ℕ → Answer → Type 0
ChecksTrace names plan bytes = Reads (FindsTrace names (map (λ e. e.shape) plan.epochs) bytes)

-- a plan is there: the trace is loaded
abbrev pub ChecksPlan : Names → List ℕ → Planned → Answer → Type 0
ChecksPlan names trace p = Binds
    (IsLoad names trace_place trace trace_bytes_limit W.TraceBytes)
    (ChecksTrace p.script.names p.plan)

-- THE ANSWER: the plan of the script, as of `run`, then the trace
abbrev pub IsCheckAnswer : Names → List ℕ → List ℕ → Answer → Type 0
IsCheckAnswer names script trace = Binds (PlansFile names script) (ChecksPlan names trace)
