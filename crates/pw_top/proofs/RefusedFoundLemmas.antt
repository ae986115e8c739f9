-- ONE FINDING of `run`: a plan has one list of refused links, so of a script and files just one thing is found.
use Rattle.std.proofs.Common.{◌≡◌, ℕ, Bool, true, false, List, sym, ap, subst, ◌∙◌}
use Rattle.pw_outside.specs.Files.{Names}
use Rattle.wav_files.specs.declared.wav.WavIn.{WavIn}
use Rattle.graph_script.specs.declared.script.Script.{Script}
use Rattle.port_model.specs.declared.port_state.Node.{Node}
use Rattle.graph_plan.specs.Conditions.{AreScriptPorts}
use Rattle.refused_links.specs.declared.refused_link.RefusedLink.{RefusedLink}
use Rattle.refused_links.proofs.OneAnswerLemmas.{refused_one}
use Rattle.run_results.specs.declared.found.What.{What}
use Rattle.pw_top.specs.declared.planned.Planned.{Planned}
use Rattle.pw_top.specs.RefusedFound.{any_refused, AreRefusedIf}
use Rattle.pw_top.specs.RunFound.{plan_found, IsFoundOfPlan, IsFoundByRun}
use Rattle.pw_top.specs.ScriptFile.{PlansFile}
use Rattle.pw_top.proofs.OnePartLemmas.{gave_one}
use Rattle.pw_top.proofs.OneRunLemmas.{IsWhole, file_one, planned_ready}

refused_if_one : (script : Script) → IsWhole script → (ports : List Node) → AreScriptPorts script.lines ports → (waves : List WavIn) (b : Bool)
    (x y : List RefusedLink) → AreRefusedIf b script.lines waves ports x → AreRefusedIf b script.lines waves ports y → x ≡ y
refused_if_one script known ports fit waves true x y h k =
    refused_one script known.ranges known.kinds known.made ports fit waves x y h k
refused_if_one script known ports fit waves false x y h k = h ∙ sym k

-- OF A PLAN whose script was read and whose ports its lines loaded
pub plan_found_one : (p : Planned) → IsWhole p.script → AreScriptPorts p.script.lines p.ports → (x y : What) → IsFoundOfPlan p x → IsFoundOfPlan p y
    → x ≡ y
plan_found_one p known fit x y h k =
    let links = refused_if_one p.script known p.ports fit p.waves (any_refused p.plan.lines) h.refused k.refused h.links k.links in
    h.found ∙ (ap (plan_found p) links ∙ sym k.found)

-- OF `run`
pub run_found_one : (names : Names) (word : List ℕ) (x y : What) → IsFoundByRun names word x → IsFoundByRun names word y → x ≡ y
run_found_one names word x y h k =
    let same = gave_one (PlansFile names word) (file_one names word) h.planned k.planned h.plan k.plan in
    let ready = planned_ready names word k.plan.part k.planned k.plan.allowed k.plan.gives in
    plan_found_one k.planned ready.0 ready.1 x y (subst (λ (p : Planned). IsFoundOfPlan p x) same h.found) k.found
