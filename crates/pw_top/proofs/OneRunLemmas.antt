-- ONE RUN: two answers of a script that are allowed, neither out of memory, are the same. What its lines load is one, and
-- it has one plan of that.
use Rattle.std.proofs.Common.{◌≡◌, ℕ, ◌<◌, ◌≤◌, Bool, List, [], length, refl, sym, ap, subst, ◌∙◌, arith}
use Rattle.std.specs.Prelude.{Result, Ok, Err}
use Rattle.std.proofs.lemmas.List.Elements.{All-nil}
use Rattle.pw_lists.specs.declared.limit.Which.{Which}
use Rattle.pw_graph.specs.declared.plan.Plan.{Plan}
use Rattle.pw_outside.specs.Files.{Names}
use Rattle.wav_files.specs.declared.wav.WavIn.{WavIn}
use Rattle.graph_script.specs.declared.script.Script.{Script}
use Rattle.graph_script.specs.declared.fault.ScriptFault.{ScriptFault}
use Rattle.graph_script.specs.declared.fault.ScriptFault.TheVariants as G
use Rattle.graph_script.specs.Grammar.{script_of, start}
use Rattle.graph_script.specs.Lexical.{lines_of}
use Rattle.graph_script.specs.Kinds.{HasKinds}
use Rattle.graph_script.specs.Making.{NamesMade}
use Rattle.graph_script.specs.Order.{HasOrder}
use Rattle.graph_script.specs.Ranges.{HasRanges}
use Rattle.graph_script.proofs.ItsTextLemmas.{has_run, good_final}
use Rattle.graph_script.proofs.SoundLemmas.{start-sound, sound-kinds}
use Rattle.port_model.specs.declared.port_state.Node.{Node}
use Rattle.graph_lines.specs.Start.{kinds_of}
use Rattle.graph_plan.specs.declared.fault.PlanFault.TheVariants as F
use Rattle.graph_plan.specs.Conditions.{AreScriptPorts}
use Rattle.graph_plan.proofs.one.OnePlanLemmas.{planned_one}
use Rattle.graph_plan.proofs.PlannedLemmas.{lines_are, named_are}
use Rattle.pw_top.specs.declared.commands.run.Running.{Running}
use Rattle.pw_top.specs.declared.planned.Planned.{Planned}
use Rattle.pw_top.specs.declared.playing.Crew.{Crew}
use Rattle.run_results.specs.declared.status.Status.{Status}
use Rattle.run_results.specs.declared.status.Status.TheVariants as S
use Rattle.pw_top.specs.declared.inputs.PlanInputs.{PlanInputs}
use Rattle.pw_top.specs.declared.loaded_script.LoadedScript.{LoadedScript}
use Rattle.pw_top.specs.Answer.{Expected}
use Rattle.pw_top.specs.Allowed.{Reads}
use Rattle.pw_top.specs.Playing.{Happened}
use Rattle.pw_top.specs.Refusals.{script_outcome}
use Rattle.pw_top.specs.Loads.{LoadsAll}
use Rattle.pw_top.specs.PlannedWork.{PlansTo, KeepsPlan, PlansInputs, PlaysTo, PlaysPlan}
use Rattle.pw_top.specs.Run.{IsRunAnswer}
use Rattle.pw_top.specs.ScriptFile.{KeepsInputs, LoadsInputs, ReadsScript, LoadsScript, PlansFile}
use Rattle.pw_top.specs.PlanInputs.{nothing_loaded}
use Rattle.script_inputs.proofs.LineLemmas.{IsUnderWay}
use Rattle.pw_top.proofs.LoadsLemmas.{sound_start, way_start, inputs_of}
use Rattle.pw_top.proofs.OnePartLemmas.{HasOne, OneOutcome, part_one, outcomes_equal, ok_is, binds_given, binds_one, part_gave, went, load_one}
use Rattle.pw_top.proofs.OneLineLemmas.{IsFresh}
use Rattle.pw_top.proofs.OneLoadsLemmas.{all_one, all_after}

-- what holds of a script that was read
pub record IsWhole (script : Script) : Type 0 where
  pub ranges : HasRanges script
  pub kinds : HasKinds script
  pub made : NamesMade 0 script.lines
  pub order : HasOrder script

pub whole : (bytes : List ℕ) (script : Script) → script_of bytes ≡ Ok script → IsWhole script
unfolding script_of
whole bytes script e =
    let run = has_run 1 start (lines_of bytes) script e in
    let sound = good_final 1 start (lines_of bytes) run.final
    (record { one = omega arith; before = All-nil (λ l. l.line < 1); sound = start-sound }) run.ran in
    subst IsWhole run.is (record { ranges = sound.script; kinds = sound-kinds run.final sound; made = sound.order.made; order = sound.order })

-- its plan of what its lines load
module _ (script : Script) (known : IsWhole script) where
  pub planned_same : (ports : List Node) → AreScriptPorts script.lines ports → (waves : List WavIn) → OneOutcome (PlansTo script ports waves)
  planned_same ports fit waves (Ok p) (Ok q) h k =
      let same = planned_one script known.ranges known.kinds known.made ports fit waves (Ok p) (Ok q) tt tt h k in
      let plans : p ≡ q = cc in
      ap (λ (x : Plan). Ok x) plans
  planned_same ports fit waves (Ok p) (Err (S.Limit line which)) h k =
      let same = planned_one script known.ranges known.kinds known.made ports fit waves (Ok p) (Err (F.Limit line which)) tt tt h k in cc
  planned_same ports fit waves (Err (S.Limit line which)) (Ok q) h k =
      let same = planned_one script known.ranges known.kinds known.made ports fit waves (Err (F.Limit line which)) (Ok q) tt tt h k in cc
  planned_same ports fit waves (Err (S.Limit l v)) (Err (S.Limit m w)) h k =
      let same = planned_one script known.ranges known.kinds known.made ports fit waves (Err (F.Limit l v)) (Err (F.Limit m w)) tt tt h k in
      let lines : l ≡ m = cc in
      let limits : v ≡ w = cc in
      ap (λ (n : ℕ). Err (S.Limit n v)) lines ∙ ap (λ (x : Which). Err (S.Limit m x)) limits
  planned_same ports fit waves (Ok p) (Err status) h k = absurd k
  planned_same ports fit waves (Err (S.Limit line which)) (Err status) h k = absurd k
  planned_same ports fit waves (Err status) y h k = absurd h

  pub plans_one : (inputs : PlanInputs) → AreScriptPorts script.lines inputs.ports → HasOne (PlansInputs script inputs)
  plans_one inputs fit = binds_one (Reads (PlansTo script inputs.ports inputs.waves)) (KeepsPlan script inputs.ports inputs.waves)
      (part_one [] (PlansTo script inputs.ports inputs.waves) (planned_same inputs.ports fit inputs.waves))
      (λ plan. part_one [] _ (outcomes_equal _))

  pub few : length (kinds_of script.lines) ≤ 63
  few = let count = known.ranges.count in let same = named_are script known.ranges known.kinds in omega (arith, count, same)

  pub fresh_start : IsFresh nothing_loaded.ports
  fresh_start = ([], sound_start nothing_loaded refl)

  pub under_way : IsUnderWay (kinds_of script.lines) script.lines nothing_loaded.ports
  under_way = way_start script.lines nothing_loaded (lines_are script known.ranges known.kinds) known.made refl

  inputs_one : (names : Names) → HasOne (LoadsInputs names script)
  inputs_one names = binds_one (LoadsAll names script.lines nothing_loaded) (KeepsInputs script)
      (all_one names (kinds_of script.lines) few script.lines nothing_loaded fresh_start under_way)
      (λ inputs. part_one [] _ (outcomes_equal _))

  input_ports : (names : Names) (e : Expected PlanInputs) (inputs : PlanInputs) → LoadsAll names script.lines nothing_loaded e → e.outcome ≡ Ok inputs
      → AreScriptPorts script.lines inputs.ports
  input_ports names e inputs p is =
      let a = all_after names (kinds_of script.lines) few script.lines nothing_loaded fresh_start under_way e inputs p is in
      (inputs_of script.lines [] (record { ports = inputs.ports; waves = a.0.0; used = 0 }) a.0.1 a.1 refl).ports

-- THE RUN of a script's file
script_is : (r : Result Script ScriptFault) (script : Script) → Ok script ≡ script_outcome r → r ≡ Ok script
script_is (Ok s) script e = cc
script_is (Err (G.At line why)) script e = cc
script_is (Err G.Memory) script e = cc

read_one : (names : Names) (bytes : List ℕ) → HasOne (ReadsScript names bytes)
read_one names bytes = binds_given (Reads (λ outcome. outcome ≡ script_outcome (script_of bytes))) (LoadsInputs names)
    (part_one [] (λ outcome. outcome ≡ script_outcome (script_of bytes)) (outcomes_equal (script_outcome (script_of bytes))))
    (λ e script p is. inputs_one script (whole bytes script (script_is (script_of bytes) script
    (part_gave [] (λ outcome. outcome ≡ script_outcome (script_of bytes)) e script p is))) names)

pub loaded_one : (names : Names) (word : List ℕ) → HasOne (LoadsScript names word)
loaded_one names word = binds_one _ (ReadsScript names) (load_one names 0 word _ _) (read_one names)

-- what holds of a script whose lines were loaded
pub record IsReady (s : LoadedScript) : Type 0 where
  pub whole : IsWhole s.script
  pub ports : AreScriptPorts s.script.lines s.inputs.ports

pub loaded_ready : (names : Names) (word : List ℕ) (e : Expected LoadedScript) (s : LoadedScript) → LoadsScript names word e → e.outcome ≡ Ok s → IsReady s
loaded_ready names word e s p is =
    let w = went _ (ReadsScript names) e s p is in
    let bytes = w.given in
    let P : Result Script Status → Type 0 = λ outcome. outcome ≡ script_outcome (script_of bytes) in
    let v = went (Reads P) (LoadsInputs names) w.rest s w.after w.gives in
    let script = v.given in
    let known = whole bytes script (script_is (script_of bytes) script (part_gave [] P v.first script v.allowed v.gave)) in
    let u = went (LoadsAll names script.lines nothing_loaded) (KeepsInputs script) v.rest s v.after v.gives in
    let loaded_script : LoadedScript = record { script = script; inputs = u.given } in
    let same : Ok s ≡ Ok loaded_script = part_gave [] (λ outcome. outcome ≡ Ok loaded_script) u.rest s u.after u.gives in
    subst IsReady (sym (ok_is s loaded_script (Ok s) refl same))
    (record { whole = known; ports = input_ports script known names u.first u.given u.allowed u.gave })

pub file_one : (names : Names) (word : List ℕ) → HasOne (PlansFile names word)
file_one names word = binds_given (LoadsScript names word) (λ s. PlansInputs s.script s.inputs) (loaded_one names word)
    (λ e s p is. let ready = loaded_ready names word e s p is in plans_one s.script ready.whole s.inputs ready.ports)

-- the script of a plan, and its ports
pub planned_ready : (names : Names) (word : List ℕ) (e : Expected Planned) (x : Planned) → PlansFile names word e → e.outcome ≡ Ok x
    → IsWhole x.script × AreScriptPorts x.script.lines x.ports
planned_ready names word e x p is =
    let w = went (LoadsScript names word) (λ s. PlansInputs s.script s.inputs) e x p is in
    let s = w.given in
    let v = went (Reads (PlansTo s.script s.inputs.ports s.inputs.waves)) (KeepsPlan s.script s.inputs.ports s.inputs.waves) w.rest x w.after w.gives in
    let planned : Planned = record { script = s.script; ports = s.inputs.ports; waves = s.inputs.waves; plan = v.given } in
    let same : Ok x ≡ Ok planned = part_gave [] (λ outcome. outcome ≡ Ok planned) v.rest x v.after v.gives in
    let ready = loaded_ready names word w.first s w.allowed w.gave in
    subst (λ (y : Planned). IsWhole y.script × AreScriptPorts y.script.lines y.ports) (sym (ok_is x planned (Ok x) refl same))
    (ready.whole, ready.ports)

pub planned_whole : (names : Names) (word : List ℕ) (e : Expected Planned) (x : Planned) → PlansFile names word e → e.outcome ≡ Ok x → IsWhole x.script
planned_whole names word e x p is = (planned_ready names word e x p is).0

plays_one : (crew : Crew) (trace : Bool) (h : Happened) (p : Planned) → OneOutcome (PlaysTo crew trace h p)
plays_one crew trace h p x y a b = a.1 ∙ sym b.1

pub run_one : (c : Running) (h : Happened) (names : Names) → HasOne (IsRunAnswer c h names)
run_one c h names = binds_one (PlansFile names c.script) (PlaysPlan c.crew c.trace h) (file_one names c.script)
    (λ p. part_one [] (PlaysTo c.crew c.trace h p) (plays_one c.crew c.trace h p))
