-- What the parts of a script mean: each has the plan of its own lines, so that it is sound.
use Rattle.std.proofs.Common.{◌≡◌, ℕ, List, [], ◌∷◌, length, map, refl, sym, ap, ◌∙◌, subst}
use Rattle.std.specs.Prelude.{Result, Ok, Err, IfOk, All}
use Rattle.std.specs.List.{AllZip}
use Rattle.std.proofs.lemmas.List.Elements.{All-nil, All-cons, All-weaker}
use Rattle.pw_graph.specs.declared.parts.Part.{Part}
use Rattle.pw_graph.specs.declared.parts.Parts.{Parts}
use Rattle.pw_graph.specs.declared.plan.LinkLine.{LinkLine}
use Rattle.pw_graph.specs.SoundPlan.{IsSoundPlan}
use Rattle.wav_files.specs.declared.wav.WavIn.{WavIn}
use Rattle.cycle_model.specs.WavesFit.{WavesFit}
use Rattle.graph_script.specs.declared.script.Line.{Line}
use Rattle.graph_script.specs.declared.script.Script.{Script}
use Rattle.graph_script.specs.Kinds.{HasKinds}
use Rattle.graph_script.specs.Making.{NamesMade}
use Rattle.graph_script.specs.Ranges.{HasRanges}
use Rattle.port_model.specs.declared.port_state.Node.{Node}
use Rattle.graph_lines.specs.declared.graph.Graph.{Graph}
use Rattle.graph_lines.specs.Start.{IsStart}
use Rattle.graph_plan.specs.declared.fault.PlanFault.{PlanFault}
use Rattle.graph_plan.specs.declared.fault.PlanFault.TheVariants as F
use Rattle.graph_plan.specs.declared.member.Member.{Member}
use Rattle.graph_plan.specs.declared.together.Together.{Together}
use Rattle.graph_plan.specs.Conditions.{AreScriptPorts, HaveWaves}
use Rattle.graph_plan.specs.Joining.{JoinsKinds}
use Rattle.graph_plan.specs.working.Members.{IsFirst, IsMemberOf, AreReady, IsLastMember}
use Rattle.graph_plan.specs.PartLines.{part_lines, part_script}
use Rattle.graph_plan.specs.Parted.{begun, AreBegun, IsBegun, IsPartOfMember, IsPartsAnswer, IsParted}
use Rattle.graph_plan.specs.Parts.{IsPartition}
use Rattle.graph_plan.specs.Planned.{IsPlanned}
use Rattle.graph_plan.proofs.linked_parts.PartLinesLemmas.{ranges_kept, kinds_kept, names_kept, ports_kept, start_same}
use Rattle.graph_plan.proofs.one.OnePlanLemmas.{start_one}
use Rattle.graph_plan.proofs.PlannedLemmas.{planned_sound, planned_fit, planned_joined}
use Rattle.graph_plan.proofs.linked_parts.TogetherLemmas.{IsAlone, each_alone}

-- BEFORE THE FIRST LINE all parts have the same graph
module _ (lines : List Line) (ports : List Node) (start : Graph) (is : IsStart lines ports start) where
  firsts_same : (parts : List (List ℕ)) (ms : List Member) → AllZip (IsFirst lines ports) parts ms
      → ms ≡ map (λ (nodes : List ℕ). record { nodes = nodes; graph = start }) parts
  firsts_same [] [] t = refl
  firsts_same [] (m ∷ ms) t = absurd t
  firsts_same (p ∷ ps) [] t = absurd t
  firsts_same (p ∷ ps) (m ∷ ms) t = ap (λ (x : Member). x ∷ ms) (one m p t.0)
      ∙ ap (λ (xs : List Member). record { nodes = p; graph = start } ∷ xs) (firsts_same ps ms t.1) where
        one : (x : Member) (nodes : List ℕ) → IsFirst lines ports nodes x → x ≡ record { nodes = nodes; graph = start }
        one x nodes h = ap (λ (ns : List ℕ). record x { nodes = ns }) h.nodes_are
            ∙ ap (λ (g : Graph). record { nodes = nodes; graph = g }) (start_one lines ports x.graph start h.start is)

  firsts_ready : (parts : List (List ℕ)) (ms : List Member) → AllZip (IsFirst lines ports) parts ms → All (IsMemberOf start.kinds) ms
  firsts_ready [] [] t = All-nil (IsMemberOf start.kinds)
  firsts_ready [] (m ∷ ms) t = absurd t
  firsts_ready (p ∷ ps) [] t = absurd t
  firsts_ready (p ∷ ps) (m ∷ ms) t = All-cons (IsMemberOf start.kinds) m ms (record {
    stands = t.0.stands;
    kinds_are = ap (λ (g : Graph). g.kinds) (start_one lines ports m.graph start t.0.start is);
  }) (firsts_ready ps ms t.1)

  pub begun_is : (parts : List (List ℕ)) (t : Together) → AllZip (IsFirst lines ports) parts t.members → t.whole ≡ start → t.lines ≡ []
      → AreBegun lines ports parts t
  begun_is parts t h whole none = (start, is, same) where
    same : t ≡ begun start parts
    same = ap (λ (g : Graph). record t { whole = g }) whole
        ∙ (ap (λ (ms : List Member). record t { whole = start; members = ms }) (firsts_same parts t.members h)
        ∙ ap (λ (ls : List LinkLine). record (begun start parts) { lines = ls }) none)

  pub members_ready : (parts : List (List ℕ)) (ms : List Member) → AllZip (IsFirst lines ports) parts ms → All (IsMemberOf start.kinds) ms
  members_ready parts ms h = firsts_ready parts ms h

pub begun_nodes : (start : Graph) (parts : List (List ℕ))
    → map (λ (m : Member). m.nodes) (map (λ (nodes : List ℕ). record { nodes = nodes; graph = start }) parts) ≡ parts
begun_nodes start [] = refl
begun_nodes start (p ∷ ps) = ap (λ (xs : List (List ℕ)). p ∷ xs) (begun_nodes start ps)

-- AT THE END
pub last_members : (count : ℕ) (t : Together) → AreReady t → count ≡ length t.whole.kinds → All (IsLastMember count) t.members
last_members count t ready named = All-weaker (IsMemberOf t.whole.kinds) (IsLastMember count) (λ m is. record {
  stands = is.stands;
  named = named ∙ sym (ap length is.kinds_are);
}) t.members ready.members

-- from there on
pub parted_from : (lines : List Line) (names : List (List ℕ)) (waves : List WavIn) (ports : List Node) (t : Together) (r : Result Parts PlanFault)
    → IsBegun lines (length names) waves ports t → IsPartsAnswer names waves t lines r → IsParted lines names waves ports r
parted_from lines names waves ports t (Ok p) begins h = (t, begins, h)
parted_from lines names waves ports t (Err (F.Limit line which)) begins h = (t, begins, h)
parted_from lines names waves ports t (Err F.Memory) begins h = tt

module _ (script : Script) (ranges : HasRanges script) (has : HasKinds script) (made : NamesMade 0 script.lines) (ports : List Node)
    (script_ports : AreScriptPorts script.lines ports) (waves : List WavIn) where
  -- a part with the plan of its own lines
  abbrev IsOwnPlan : Part → Type 0
  IsOwnPlan part = IsPlanned (part_lines part.nodes script.lines) script.names waves ports (Ok part.plan)

  own_plan : (start : Graph) → IsStart script.lines ports start → (m end : Member) (part : Part) → m.graph ≡ start → IsAlone waves script.lines m end
      → IsPartOfMember script.names end part → IsOwnPlan part
  own_plan start is m end part same alone of =
      let nodes : part.nodes ≡ m.nodes = of.nodes ∙ alone.nodes_are in
      subst (λ (ns : List ℕ). IsPlanned (part_lines ns script.lines) script.names waves ports (Ok part.plan)) (sym nodes) (
        m.graph,
        subst (IsStart (part_lines m.nodes script.lines) ports) (sym same) (start_same m.nodes script.lines ports start made is),
        (end.graph, alone.follows, of.plan),
      )

  own_plans : (start : Graph) → IsStart script.lines ports start → (nodes : List (List ℕ)) (ends : List Member) (parts : List Part)
      → AllZip (IsAlone waves script.lines) (map (λ (ns : List ℕ). record { nodes = ns; graph = start }) nodes) ends
      → AllZip (IsPartOfMember script.names) ends parts → All IsOwnPlan parts
  own_plans start is [] [] [] a p = All-nil IsOwnPlan
  own_plans start is [] [] (x ∷ xs) a p = absurd p
  own_plans start is [] (e ∷ es) ps a p = absurd a
  own_plans start is (n ∷ ns) [] ps a p = absurd a
  own_plans start is (n ∷ ns) (e ∷ es) [] a p = absurd p
  own_plans start is (n ∷ ns) (e ∷ es) (x ∷ xs) a p = All-cons IsOwnPlan x xs
      (own_plan start is (record { nodes = n; graph = start }) e x refl a.0 p.0) (own_plans start is ns es xs a.1 p.1)

  -- EACH PART
  pub parted_each : (r : Result Parts PlanFault) → IsParted script.lines script.names waves ports r → IfOk r (λ p. All IsOwnPlan p.parts)
  parted_each (Ok p) h =
      let begins : IsBegun script.lines (length script.names) waves ports h.0 = h.1 in
      let nodes : List (List ℕ) = begins.0 in
      let starts : AreBegun script.lines ports nodes h.0 = begins.2 in
      let answer : IsPartsAnswer script.names waves h.0 script.lines (Ok p) = h.2 in
      let alone = each_alone waves script.lines h.0 answer.0 answer.1 in
      own_plans starts.0 starts.1 nodes answer.0.members p.parts
      (subst (λ (t : Together). AllZip (IsAlone waves script.lines) t.members answer.0.members) starts.2 alone) answer.2.parts
  parted_each (Err (F.Limit line which)) h = tt
  parted_each (Err F.Memory) h = tt

  -- ITS NODES are those of the partition
  alone_nodes : (ms ends : List Member) → AllZip (IsAlone waves script.lines) ms ends → map (λ (m : Member). m.nodes) ends ≡ map (λ (m : Member). m.nodes) ms
  alone_nodes [] [] t = refl
  alone_nodes [] (e ∷ es) t = absurd t
  alone_nodes (m ∷ ms) [] t = absurd t
  alone_nodes (m ∷ ms) (e ∷ es) t = ap (λ (ns : List ℕ). ns ∷ map (λ (x : Member). x.nodes) es) t.0.nodes_are
      ∙ ap (λ (nss : List (List ℕ)). m.nodes ∷ nss) (alone_nodes ms es t.1)

  part_nodes_are : (ends : List Member) (parts : List Part) → AllZip (IsPartOfMember script.names) ends parts
      → map (λ (p : Part). p.nodes) parts ≡ map (λ (m : Member). m.nodes) ends
  part_nodes_are [] [] t = refl
  part_nodes_are [] (p ∷ ps) t = absurd t
  part_nodes_are (e ∷ es) [] t = absurd t
  part_nodes_are (e ∷ es) (p ∷ ps) t = ap (λ (ns : List ℕ). ns ∷ map (λ (x : Part). x.nodes) ps) t.0.nodes
      ∙ ap (λ (nss : List (List ℕ)). e.nodes ∷ nss) (part_nodes_are es ps t.1)

  pub parted_nodes : (r : Result Parts PlanFault) → IsParted script.lines script.names waves ports r
      → IfOk r (λ p. IsPartition script.lines (length script.names) waves ports (map (λ part. part.nodes) p.parts))
  parted_nodes (Ok p) h =
      let begins : IsBegun script.lines (length script.names) waves ports h.0 = h.1 in
      let starts : AreBegun script.lines ports begins.0 h.0 = begins.2 in
      let answer : IsPartsAnswer script.names waves h.0 script.lines (Ok p) = h.2 in
      subst (IsPartition script.lines (length script.names) waves ports) (sym (part_nodes_are answer.0.members p.parts answer.2.parts
      ∙ (alone_nodes h.0.members answer.0.members (each_alone waves script.lines h.0 answer.0 answer.1)
      ∙ (ap (λ (t : Together). map (λ (m : Member). m.nodes) t.members) starts.2 ∙ begun_nodes starts.0 begins.0)))) begins.1
  parted_nodes (Err (F.Limit line which)) h = tt
  parted_nodes (Err F.Memory) h = tt

  own_sound : (part : Part) → IsOwnPlan part → IsSoundPlan part.plan
  own_sound part h = planned_sound (part_script part.nodes script) (ranges_kept part.nodes script ranges) (kinds_kept part.nodes script has)
      (names_kept part.nodes script.lines 0 made) ports (ports_kept part.nodes script.lines ports script_ports) waves (Ok part.plan) h

  own_joined : (part : Part) → IsOwnPlan part → All (JoinsKinds part.plan) part.plan.lines
  own_joined part h = planned_joined (part_script part.nodes script) (ranges_kept part.nodes script ranges) (kinds_kept part.nodes script has)
      (names_kept part.nodes script.lines 0 made) ports (ports_kept part.nodes script.lines ports script_ports) waves (Ok part.plan) h

  own_fit : HaveWaves ports waves → (part : Part) → IsOwnPlan part → WavesFit part.plan waves
  own_fit w part h = planned_fit (part_script part.nodes script) (ranges_kept part.nodes script ranges) (kinds_kept part.nodes script has)
      (names_kept part.nodes script.lines 0 made) ports (ports_kept part.nodes script.lines ports script_ports) waves w (Ok part.plan) h

  all_parts : (P : Part → Type 0) → ((part : Part) → IsOwnPlan part → P part) → (r : Result Parts PlanFault)
      → IsParted script.lines script.names waves ports r → IfOk r (λ p. All P p.parts)
  all_parts P f (Ok p) h = All-weaker IsOwnPlan P f p.parts (parted_each (Ok p) h)
  all_parts P f (Err fault) h = tt

  pub parted_sound : (r : Result Parts PlanFault) → IsParted script.lines script.names waves ports r → IfOk r (λ p. All (λ part. IsSoundPlan part.plan) p.parts)
  parted_sound r h = all_parts (λ part. IsSoundPlan part.plan) own_sound r h

  pub parted_joined : (r : Result Parts PlanFault) → IsParted script.lines script.names waves ports r
      → IfOk r (λ p. All (λ part. All (JoinsKinds part.plan) part.plan.lines) p.parts)
  parted_joined r h = all_parts (λ part. All (JoinsKinds part.plan) part.plan.lines) own_joined r h

  pub parted_fit : HaveWaves ports waves → (r : Result Parts PlanFault) → IsParted script.lines script.names waves ports r
      → IfOk r (λ p. All (λ part. WavesFit part.plan waves) p.parts)
  parted_fit w r h = all_parts (λ part. WavesFit part.plan waves) (own_fit w) r h
