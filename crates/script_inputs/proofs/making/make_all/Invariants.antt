use Rattle.std.proofs.Common.{◌≤◌, drop}
use Rattle.std.specs.Prelude.{All, Result}
use Rattle.graph_lines.specs.Start.{kinds_of}
use Rattle.script_inputs.specs.declared.fault.InputFault.{InputFault}
use Rattle.script_inputs.specs.declared.inputs.Inputs.{Inputs}
use Rattle.script_inputs.specs.Inputs.{HasForm, nothing_made}
use Rattle.script_inputs.specs.ScriptInputs.{MakesAll}
use Rattle.script_inputs.specs.working.SoundInputs.{AreSoundInputs}
use Rattle.script_inputs.proofs.LineLemmas.{IsUnderWay}
use Rattle.script_inputs.proofs.making.make_all.Given as goal

-- whatever the lines that are left make next, all lines make
abbrev pub invariant-loop-line : goal.invariant-loop-line
invariant-loop-line l = record {
  sound : AreSoundInputs l.inputs;
  way : IsUnderWay (kinds_of l.lines) (drop l.line-index l.lines) l.inputs.ports;
  forms : All HasForm l.left.rest.items;
  used : l.used ≤ l.line-index;
  rest : (r : Result Inputs InputFault) → MakesAll (drop l.line-index l.lines) l.left.rest.items (drop l.used l.formats) l.inputs r
      → MakesAll l.lines l.fn.waves l.formats nothing_made r;
}
