use Rattle.std.proofs.Common.{IsSome, drop}
use Rattle.std.specs.Prelude.{Result}
use Rattle.pw_outside.specs.Files.{names_in}
use Rattle.graph_lines.specs.Start.{kinds_of}
use Rattle.run_results.specs.declared.status.Status.{Status}
use Rattle.command_frame.specs.Preparing.{LoadsOnly}
use Rattle.pw_top.specs.declared.inputs.PlanInputs.{PlanInputs}
use Rattle.pw_top.specs.working.Ending.{Ends}
use Rattle.pw_top.specs.Loads.{LoadsAll}
use Rattle.pw_top.specs.PlanInputs.{nothing_loaded, AreSoundInputs}
use Rattle.script_inputs.proofs.LineLemmas.{IsUnderWay}
use Rattle.pw_top.proofs.script_loads.load_lines.Given as goal

-- whatever the lines that are left load next, all lines load; what is held stays
abbrev pub invariant-loop-line : goal.invariant-loop-line
invariant-loop-line g l = record {
  files : LoadsOnly (g.F.Files.held l.initial.files) (g.F.Files.held l.files) (g.F.Files.load_faults l.initial.files)
      (g.F.Files.load_faults l.files) (g.F.Files.store_faults l.initial.files) (g.F.Files.store_faults l.files);
  sound : AreSoundInputs l.inputs;
  way : IsUnderWay (kinds_of l.lines) (drop l.line-index l.lines) l.inputs.ports;
  rest : IsSome (g.F.Files.held l.initial.files) → (r : Result PlanInputs Status)
      → Ends (LoadsAll (names_in (g.F.Files.held l.initial.files)) (drop l.line-index l.lines) l.inputs) r
      → Ends (LoadsAll (names_in (g.F.Files.held l.initial.files)) l.lines nothing_loaded) r;
}
