-- ONE ANSWER of `groups`: two answers of a script that are allowed, neither out of memory, are the same: its parts are one.
use Rattle.std.proofs.Common.{◌≡◌, ℕ, List, [], sym, ap, ◌∙◌}
use Rattle.std.specs.Prelude.{Ok, Err}
use Rattle.pw_lists.specs.declared.limit.Which.{Which}
use Rattle.pw_graph.specs.declared.parts.Parts.{Parts}
use Rattle.pw_outside.specs.Files.{Names}
use Rattle.wav_files.specs.declared.wav.WavIn.{WavIn}
use Rattle.graph_script.specs.declared.script.Script.{Script}
use Rattle.port_model.specs.declared.port_state.Node.{Node}
use Rattle.graph_plan.specs.declared.fault.PlanFault.TheVariants as F
use Rattle.graph_plan.specs.Conditions.{AreScriptPorts}
use Rattle.graph_plan.proofs.one.OnePartsLemmas.{parted_one}
use Rattle.pw_top.specs.declared.commands.groups.Grouping.{Grouping}
use Rattle.pw_top.specs.declared.parted.Parted.{Parted}
use Rattle.run_results.specs.declared.status.Status.TheVariants as S
use Rattle.pw_top.specs.declared.inputs.PlanInputs.{PlanInputs}
use Rattle.pw_top.specs.Allowed.{Reads}
use Rattle.pw_top.specs.Groups.{PartsTo, KeepsParts, PartsInputs, PartsFile}
use Rattle.pw_top.specs.GroupsWork.{GroupsTo, GroupsPlan, IsGroupsAnswer}
use Rattle.pw_top.specs.Playing.{Happened}
use Rattle.pw_top.specs.ScriptFile.{LoadsScript}
use Rattle.pw_top.proofs.OnePartLemmas.{HasOne, OneOutcome, part_one, outcomes_equal, binds_given, binds_one}
use Rattle.pw_top.proofs.OneRunLemmas.{IsWhole, loaded_one, loaded_ready}

module _ (script : Script) (known : IsWhole script) where
  parted_same : (ports : List Node) → AreScriptPorts script.lines ports → (waves : List WavIn) → OneOutcome (PartsTo script ports waves)
  parted_same ports fit waves (Ok p) (Ok q) h k =
      let same = parted_one script known.ranges known.kinds known.made ports fit waves (Ok p) (Ok q) tt tt h k in
      let parts : p ≡ q = cc in
      ap (λ (x : Parts). Ok x) parts
  parted_same ports fit waves (Ok p) (Err (S.Limit line which)) h k =
      let same = parted_one script known.ranges known.kinds known.made ports fit waves (Ok p) (Err (F.Limit line which)) tt tt h k in cc
  parted_same ports fit waves (Err (S.Limit line which)) (Ok q) h k =
      let same = parted_one script known.ranges known.kinds known.made ports fit waves (Err (F.Limit line which)) (Ok q) tt tt h k in cc
  parted_same ports fit waves (Err (S.Limit l v)) (Err (S.Limit m w)) h k =
      let same = parted_one script known.ranges known.kinds known.made ports fit waves (Err (F.Limit l v)) (Err (F.Limit m w)) tt tt h k in
      let lines : l ≡ m = cc in
      let limits : v ≡ w = cc in
      ap (λ (n : ℕ). Err (S.Limit n v)) lines ∙ ap (λ (x : Which). Err (S.Limit m x)) limits
  parted_same ports fit waves (Ok p) (Err status) h k = absurd k
  parted_same ports fit waves (Err (S.Limit line which)) (Err status) h k = absurd k
  parted_same ports fit waves (Err status) y h k = absurd h

  inputs_one : (inputs : PlanInputs) → AreScriptPorts script.lines inputs.ports → HasOne (PartsInputs script inputs)
  inputs_one inputs fit = binds_one (Reads (PartsTo script inputs.ports inputs.waves)) (KeepsParts script inputs.waves)
      (part_one [] (PartsTo script inputs.ports inputs.waves) (parted_same inputs.ports fit inputs.waves))
      (λ parts. part_one [] _ (outcomes_equal _))

pub parts_one : (names : Names) (word : List ℕ) → HasOne (PartsFile names word)
parts_one names word = binds_given (LoadsScript names word) (λ s. PartsInputs s.script s.inputs) (loaded_one names word)
    (λ e s p is. let ready = loaded_ready names word e s p is in inputs_one s.script ready.whole s.inputs ready.ports)

groups_to_one : (h : Happened) (p : Parted) → OneOutcome (GroupsTo h p)
groups_to_one h p x y a b = a.1 ∙ sym b.1

pub groups_one : (c : Grouping) (h : Happened) (names : Names) → HasOne (IsGroupsAnswer c h names)
groups_one c h names = binds_one (PartsFile names c.script) (GroupsPlan h) (parts_one names c.script)
    (λ p. part_one [] (GroupsTo h p) (groups_to_one h p))
