-- One plan is read off a graph, so two answers to a script from one graph are the same.
use Rattle.std.proofs.Common.{◌≡◌, inl, inr, ℕ, List, refl, sym, ap, ◌∙◌, subst, arith}
use Rattle.std.specs.Prelude.{Result, Ok, Err}
use Rattle.pw_graph.specs.declared.kind.Kind.{Kind}
use Rattle.pw_lists.specs.declared.limit.Which.{Which}
use Rattle.pw_graph.specs.declared.plan.Epoch.{Epoch}
use Rattle.pw_graph.specs.declared.plan.LinkLine.{LinkLine}
use Rattle.pw_graph.specs.declared.plan.Plan.{Plan}
use Rattle.pw_graph.specs.declared.plan.PlanNode.{PlanNode}
use Rattle.wav_files.specs.declared.wav.WavIn.{WavIn}
use Rattle.graph_script.specs.declared.script.Line.{Line}
use Rattle.std.specs.Global.{Global}
use Rattle.port_model.specs.declared.port_state.Node.{Node}
use Rattle.link_negotiation.specs.Links.{LinkState}
use Rattle.graph_lines.specs.declared.limits.Sums.{Sums}
use Rattle.graph_lines.specs.declared.standing.Standing.{Standing}
use Rattle.graph_lines.specs.declared.wire.Wire.{Wire}
use Rattle.graph_script.specs.declared.script.Script.{Script}
use Rattle.graph_script.specs.Kinds.{HasKinds}
use Rattle.graph_script.specs.Ranges.{HasRanges}
use Rattle.graph_lines.specs.Start.{kinds_of, IsStart}
use Rattle.graph_lines.specs.declared.graph.Graph.{Graph}
use Rattle.graph_plan.specs.declared.fault.PlanFault.{PlanFault}
use Rattle.graph_plan.specs.declared.fault.PlanFault.TheVariants as F
use Rattle.graph_script.specs.Making.{NamesMade}
use Rattle.graph_plan.specs.Conditions.{AreScriptPorts}
use Rattle.graph_plan.specs.Following.{Follows}
use Rattle.graph_plan.proofs.PlannedLemmas.{lines_are}
use Rattle.graph_plan.proofs.sound.StartLemmas.{first_sound}
use Rattle.graph_plan.specs.PlanOf.{IsEndOf, IsNodeOf, IsPlanOf}
use Rattle.graph_plan.specs.Planned.{IsAnswer, IsPlanned}
use Rattle.graph_plan.specs.working.SoundGraph.{IsSoundGraph}
use Rattle.graph_plan.proofs.sound.FormLemmas.{one_form}
use Rattle.graph_plan.proofs.lists.SameListLemmas.{same_places}
use Rattle.graph_plan.proofs.sound.StepLemmas.{AreGoodLines, follows_sound}
use Rattle.graph_plan.proofs.one.OneStepLemmas.{follows_one}

module _ (count : ℕ) (g : Graph) (sound : IsSoundGraph count g) (names : List (List ℕ)) where
  ends_one : (n : ℕ) (kind : Kind) (r c r' c' : ℕ) → IsEndOf g n kind r c → IsEndOf g n kind r' c' → (r ≡ r') × (c ≡ c')
  ends_one n kind r c r' c' (inl h) (inl k) = one_form g.ports sound.ports (record { node = n; port = 0 }) r c r' c' h.1 k.1
  ends_one n kind r c r' c' (inl h) (inr k) = absurd (k.2 r c h)
  ends_one n kind r c r' c' (inr h) (inl k) = absurd (h.2 r' c' k)
  ends_one n kind r c r' c' (inr h) (inr k) = (h.0 ∙ sym k.0, h.1 ∙ sym k.1)

  node_one : (n : ℕ) (x y : PlanNode) → IsNodeOf names g n x → IsNodeOf names g n y → x ≡ y
  node_one n x y h k =
      let kinds : x.kind ≡ y.kind = h.kind ∙ sym k.kind in
      let e = ends_one n x.kind x.rate x.channels y.rate y.channels h.ends
      (subst (λ (d : Kind). IsEndOf g n d y.rate y.channels) (sym kinds) k.ends) in
      ap (λ (m : List ℕ). record x { name = m }) (h.name ∙ sym k.name)
      ∙ (ap (λ (d : Kind). record x { name = y.name; kind = d }) kinds
      ∙ (ap (λ (m : ℕ). record x { name = y.name; kind = y.kind; k = m }) (h.k ∙ sym k.k)
      ∙ (ap (λ (m : ℕ). record y { rate = m; channels = x.channels }) e.0
      ∙ ap (λ (m : ℕ). record y { channels = m }) e.1)))

  -- ONE PLAN
  pub plan_one : (p q : Plan) → IsPlanOf names g p → IsPlanOf names g q → p ≡ q
  plan_one p q h k =
      let nodes = same_places (IsNodeOf names g) node_one 0 p.nodes q.nodes (h.count ∙ sym k.count)
      (λ i x e. subst (λ (m : ℕ). IsNodeOf names g m x) (omega arith) (h.nodes i x e))
      (λ i x e. subst (λ (m : ℕ). IsNodeOf names g m x) (omega arith) (k.nodes i x e)) in
      ap (λ (m : ℕ). record p { quantum = m }) (h.quantum ∙ sym k.quantum)
      ∙ (ap (λ (ns : List PlanNode). record p { quantum = q.quantum; nodes = ns }) nodes
      ∙ (ap (λ (es : List Epoch). record q { epochs = es; lines = p.lines }) (h.epochs ∙ sym k.epochs)
      ∙ ap (λ (ls : List LinkLine). record q { lines = ls }) (h.lines ∙ sym k.lines)))

-- an answer that is not out of memory
abbrev pub IsAnswered : Result Plan PlanFault → Type 0
IsAnswered (Err F.Memory) = ⊥
IsAnswered other = Unit {0}

end_one : (a b : Graph) → ◌≡◌ {A = Result Graph (ℕ × Which)} (Ok a) (Ok b) → a ≡ b
end_one a b e = cc

no_limit : (a : Graph) (line : ℕ) (which : Which) → ◌≡◌ {A = Result Graph (ℕ × Which)} (Ok a) (Err (line, which)) → ⊥
no_limit a line which e = cc

one_limit : (l m : ℕ) (v w : Which) → ◌≡◌ {A = Result Graph (ℕ × Which)} (Err (l, v)) (Err (m, w)) → (l ≡ m) × (v ≡ w)
one_limit l m v w e = let pair : (l, v) ≡ (m, w) = cc in (ap (λ (p : ℕ × Which). p.0) pair, ap (λ (p : ℕ × Which). p.1) pair)

-- ONE ANSWER
module _ (names : List (List ℕ)) (waves : List WavIn) (kinds : List Kind) (lines : List Line) (count : ℕ) (g : Graph) (sound : IsSoundGraph count g)
    (same : g.kinds ≡ kinds) (good : AreGoodLines count kinds lines) where
  one : (x y : Result Graph (ℕ × Which)) → Follows waves g lines x → Follows waves g lines y → x ≡ y
  one = follows_one waves kinds lines count g sound same good

  pub answer_one : (r s : Result Plan PlanFault) → IsAnswered r → IsAnswered s → IsAnswer names waves g lines r → IsAnswer names waves g lines s → r ≡ s
  answer_one (Ok p) (Ok q) a b h k =
      let ends = end_one k.0 h.0 (one (Ok k.0) (Ok h.0) k.1 h.1) in
      let last = follows_sound waves kinds lines count g h.0 sound same good h.1 in
      ap (λ (x : Plan). Ok x) (plan_one last.count h.0 last.sound names p q h.2 (subst (λ (x : Graph). IsPlanOf names x q) ends k.2))
  answer_one (Ok p) (Err (F.Limit line which)) a b h k = absurd (no_limit h.0 line which (one (Ok h.0) (Err (line, which)) h.1 k))
  answer_one (Ok p) (Err F.Memory) a b h k = absurd b
  answer_one (Err (F.Limit line which)) (Ok q) a b h k = absurd (no_limit k.0 line which (one (Ok k.0) (Err (line, which)) k.1 h))
  answer_one (Err (F.Limit l v)) (Err (F.Limit m w)) a b h k =
      let e = one_limit l m v w (one (Err (l, v)) (Err (m, w)) h k) in
      ap (λ (n : ℕ). Err (F.Limit n v)) e.0 ∙ ap (λ (x : Which). Err (F.Limit m x)) e.1
  answer_one (Err (F.Limit l v)) (Err F.Memory) a b h k = absurd b
  answer_one (Err F.Memory) s a b h k = absurd a

-- ONE START: an allocator has no parts that differ
one_alloc : (a b : Global) → a ≡ b
one_alloc a b = refl

pub start_one : (lines : List Line) (ports : List Node) (a b : Graph) → IsStart lines ports a → IsStart lines ports b → a ≡ b
start_one lines ports a b h k =
    ap (λ (x : Global). record a { alloc = x }) (one_alloc a.alloc b.alloc)
    ∙ (ap (λ (x : ℕ). record a { alloc = b.alloc; quantum = x }) (h.quantum ∙ sym k.quantum)
    ∙ (ap (λ (x : List Kind). record a { alloc = b.alloc; quantum = b.quantum; kinds = x }) (h.kinds ∙ sym k.kinds)
    ∙ (ap (λ (x : List Node). record a { alloc = b.alloc; quantum = b.quantum; kinds = b.kinds; ports = x }) (h.ports ∙ sym k.ports)
    ∙ (ap (λ (x : LinkState). record b { links = x; wires = a.wires; nodes = a.nodes; lines = a.lines; epochs = a.epochs; first = a.first; sums = a.sums })
    (h.links ∙ sym k.links)
    ∙ (ap (λ (x : List Wire). record b { wires = x; nodes = a.nodes; lines = a.lines; epochs = a.epochs; first = a.first; sums = a.sums })
    (h.wires ∙ sym k.wires)
    ∙ (ap (λ (x : List Standing). record b { nodes = x; lines = a.lines; epochs = a.epochs; first = a.first; sums = a.sums }) (h.nodes ∙ sym k.nodes)
    ∙ (ap (λ (x : List LinkLine). record b { lines = x; epochs = a.epochs; first = a.first; sums = a.sums }) (h.lines ∙ sym k.lines)
    ∙ (ap (λ (x : List Epoch). record b { epochs = x; first = a.first; sums = a.sums }) (h.epochs ∙ sym k.epochs)
    ∙ (ap (λ (x : ℕ). record b { first = x; sums = a.sums }) (h.first ∙ sym k.first)
    ∙ ap (λ (x : Sums). record b { sums = x }) (h.sums ∙ sym k.sums))))))))))

-- what is planned from a start, if it is given
from_start : (lines : List Line) (names : List (List ℕ)) (waves : List WavIn) (ports : List Node) (r : Result Plan PlanFault) → IsAnswered r
    → IsPlanned lines names waves ports r → (start : Graph) × IsStart lines ports start × IsAnswer names waves start lines r
from_start lines names waves ports (Ok plan) a h = h
from_start lines names waves ports (Err (F.Limit line which)) a h = h
from_start lines names waves ports (Err F.Memory) a h = absurd a

-- A SCRIPT HAS ONE PLAN
pub planned_one : (script : Script) → HasRanges script → HasKinds script → NamesMade 0 script.lines → (ports : List Node)
    → AreScriptPorts script.lines ports → (waves : List WavIn) (r s : Result Plan PlanFault) → IsAnswered r → IsAnswered s
    → IsPlanned script.lines script.names waves ports r → IsPlanned script.lines script.names waves ports s → r ≡ s
planned_one script ranges has made ports script_ports waves r s a b h k =
    let p = from_start script.lines script.names waves ports r a h in
    let q = from_start script.lines script.names waves ports s b k in
    let same = start_one script.lines ports q.0 p.0 q.1 p.1 in
    answer_one script.names waves (kinds_of script.lines) script.lines 0 p.0
    (first_sound script.lines ports p.0 ranges.ranges script_ports p.1) p.1.kinds
    (record { named = made; lines_of = lines_are script ranges has }) r s a b p.2
    (subst (λ (g : Graph). IsAnswer script.names waves g script.lines s) same q.2)
