-- Laws of `specs/Groups.antt`: the text of all parts can be printed, and what their sinks keep be stored.
use Rattle.std.proofs.Common.{◌≡◌, ℕ, zero, suc, ◌+◌, ◌<◌, ◌≤◌, ◌==◌, Bool, true, false, cond, List, [], ◌∷◌, ◌++◌, length, get_or, map, take, refl, sym, ap, subst, ◌∙◌, arith}
use Rattle.std.proofs.Common.{Option, Some, None}
use Rattle.std.specs.Prelude.{All, Contains, Ok, find, filter_map, slice_get}
use Rattle.std.specs.List.{range_with_len}
use Rattle.std.proofs.lemmas.Bool.{true≢false}
use Rattle.std.proofs.lemmas.List.{length-map, map-append, take_all, take_more}
use Rattle.std.proofs.lemmas.List.Elements.{All-nil, All-head, All-tail, All-append, All-weaker, All-map}
use Rattle.std.proofs.lemmas.Option.{slice_get-get_or}
use Rattle.pw_graph.specs.declared.kind.Kind.{Kind}
use Rattle.pw_graph.specs.declared.kind.Kind.TheVariants as K
use Rattle.pw_graph.specs.declared.parts.Part.{Part}
use Rattle.pw_graph.specs.declared.parts.Parts.{Parts}
use Rattle.pw_graph.specs.declared.plan.LinkLine.{LinkLine}
use Rattle.pw_graph.specs.declared.plan.PlanNode.{PlanNode}
use Rattle.pw_graph.specs.KindPorts.{port_count}
use Rattle.pw_graph.specs.SoundPlan.{IsSoundPlan}
use Rattle.wav_files.specs.declared.outcome.Kept.{Kept}
use Rattle.wav_files.specs.declared.outcome.Outcome.{Outcome}
use Rattle.wav_files.specs.declared.wav.WavIn.{WavIn}
use Rattle.wav_files.specs.WavWriting.{IsWave}
use Rattle.graph_script.specs.declared.script.Line.{Line}
use Rattle.graph_script.specs.declared.script.Script.{Script}
use Rattle.graph_script.specs.Kinds.{made_by, HasKinds}
use Rattle.graph_script.specs.Making.{NamesMade}
use Rattle.graph_script.specs.Ranges.{HasRanges}
use Rattle.port_model.specs.declared.port_state.Node.{Node}
use Rattle.graph_lines.specs.Start.{kinds_of}
use Rattle.graph_plan.specs.Conditions.{AreScriptPorts}
use Rattle.graph_plan.specs.Parted.{IsParted}
use Rattle.graph_plan.specs.PartLines.{is_line_of, part_lines, part_script}
use Rattle.graph_plan.specs.Parts.{is_among, IsPartition}
use Rattle.graph_plan.specs.Planned.{IsPlanned}
use Rattle.graph_plan.specs.working.SoundGraph.{IsJoining}
use Rattle.graph_plan.proofs.linked_parts.JoiningLemmas.{parted_lines}
use Rattle.graph_plan.proofs.linked_parts.PartLinesLemmas.{kinds_same, names_kept, ranges_kept, kinds_kept, ports_kept}
use Rattle.graph_plan.proofs.linked_parts.PartitionLemmas.{has_among}
use Rattle.graph_plan.proofs.PlannedLemmas.{named_are}
use Rattle.cycle_model.specs.Rendering.{rendered_sinks}
use Rattle.cycle_model.specs.WavesFit.{WavesFit}
use Rattle.cycle_model.proofs.KeptLemmas.{kept_is_wave}
use Rattle.cycle_trace.specs.Printable.{JoinsPorts}
use Rattle.board_rule.specs.declared.closed.Closed.{Closed}
use Rattle.driver_groups.specs.GroupRun.{AreRunsOf}
use Rattle.run_results.proofs.StatusLemmas.{write_placed}
use Rattle.pw_top.specs.working.Ending.{IsStorable}
use Rattle.pw_top.specs.Joined.{node_of, node_in, all_of, kept_at}
use Rattle.pw_top.specs.PlannedWork.{rendered}
use Rattle.pw_top.specs.SinkStores.{makes_sink, sink_line_of, place_of, sink_store}
use Rattle.pw_top.proofs.JoinedLemmas.{one_given}
use Rattle.pw_top.proofs.PlanWorkLemmas.{all_some, all_placed, planned_count, planned_kind}

-- THE LINES of a part have the line of each sink
place_more : (nodes : List ℕ) (n : ℕ) (lines : List Line) → All (λ l. 1 ≤ l.line) lines → 0 < place_of (sink_line_of (part_lines nodes lines) n)
    → 0 < place_of (sink_line_of lines n)
place_more nodes n [] low h = h
place_more nodes n (l ∷ ls) low h = go (makes_sink n (made_by l.command)) (is_line_of nodes l) refl
    (place_more nodes n ls (All-tail (λ (x : Line). 1 ≤ x.line) l ls low)) h where
      go : (b kept : Bool) → makes_sink n (made_by l.command) ≡ b
          → (0 < place_of (sink_line_of (part_lines nodes ls) n) → 0 < place_of (sink_line_of ls n))
          → 0 < place_of (sink_line_of (cond kept (l ∷ part_lines nodes ls) (part_lines nodes ls)) n)
          → 0 < place_of (cond b (Some l) (sink_line_of ls n))
      go true kept t rest h = All-head (λ (x : Line). 1 ≤ x.line) l ls low
      go false true t rest h = rest (subst (λ (c : Bool). 0 < place_of (cond c (Some l) (sink_line_of (part_lines nodes ls) n))) t h)
      go false false t rest h = rest h

-- what is found is one of them
found_meets : {X : Type 0} (P : X → Type 0) (test : X → Bool) (xs : List X) (y : X) → All P xs → find test xs ≡ Some y → P y
found_meets P test [] y h e = absurd (let no : None ≡ Some y = e in cc)
found_meets {X} P test (x ∷ xs) y h e = go (test x) (found_meets P test xs y (All-tail P x xs h)) e where
  go : (b : Bool) → (find test xs ≡ Some y → P y) → cond b (Some x) (find test xs) ≡ Some y → P y
  go true rest s = let same : x ≡ y = cc in subst P same (All-head P x xs h)
  go false rest s = rest s

all_found : {Y : Type 0} (P : Y → Type 0) (h : ℕ → Option Y) (ns : List ℕ) → ((n : ℕ) (y : Y) → h n ≡ Some y → P y) → All P (filter_map h ns)
all_found P h [] each = All-nil P
all_found P h (n ∷ ns) each = all_some P (h n) (filter_map h ns) (λ y e. each n y e) (all_found P h ns each)

-- WHAT ALL SINKS KEEP
module _ (waves : List WavIn) (P : Kept → Type 0) where
  all_sinks : (parts : List Part) → All (λ part. All P (rendered_sinks part.plan waves)) parts
      → All P (all_of (map (λ (part : Part). rendered part.plan waves) parts)).sinks
  all_sinks [] h = All-nil P
  all_sinks (p ∷ ps) h = All-append P (rendered_sinks p.plan waves) (all_of (map (λ (part : Part). rendered part.plan waves) ps)).sinks
      (All-head (λ (part : Part). All P (rendered_sinks part.plan waves)) p ps h)
      (all_sinks ps (All-tail (λ (part : Part). All P (rendered_sinks part.plan waves)) p ps h))

  pub in_order_meets : (count : ℕ) (parts : List Part) → All (λ part. All P (rendered_sinks part.plan waves)) parts
      → All P (filter_map (kept_at (all_of (map (λ (part : Part). rendered part.plan waves) parts)).sinks) (range_with_len 0 count))
  in_order_meets count parts h = let sinks = (all_of (map (λ (part : Part). rendered part.plan waves) parts)).sinks in
      all_found P (kept_at sinks) (range_with_len 0 count) (λ n y e. found_meets P (λ (k : Kept). k.node == n) sinks y (all_sinks parts h) e)

-- THE RUNS have left what the cycle function says
pub runs_sinks : (waves : List WavIn) (parts : List Part) (os : List Outcome) (closed : List Closed) → AreRunsOf waves parts os closed
    → (all_of os).sinks ≡ (all_of (map (λ (part : Part). rendered part.plan waves) parts)).sinks
runs_sinks waves [] [] closed h = refl
runs_sinks waves [] (o ∷ os) closed h = absurd h
runs_sinks waves (p ∷ ps) [] closed h = absurd h
runs_sinks waves (p ∷ ps) (o ∷ os) closed h = λ i. h.3.sinks i ++ runs_sinks waves ps os h.1 h.4 i

pub runs_peaks : (waves : List WavIn) (parts : List Part) (os : List Outcome) (closed : List Closed) → AreRunsOf waves parts os closed
    → (all_of os).peaks ≡ (all_of (map (λ (part : Part). rendered part.plan waves) parts)).peaks
runs_peaks waves [] [] closed h = refl
runs_peaks waves [] (o ∷ os) closed h = absurd h
runs_peaks waves (p ∷ ps) [] closed h = absurd h
runs_peaks waves (p ∷ ps) (o ∷ os) closed h = λ i. h.3.peaks i ++ runs_peaks waves ps os h.1 h.4 i

pub waves_kept : (waves : List WavIn) (parts : List Part) → All (λ part. IsSoundPlan part.plan) parts → All (λ part. WavesFit part.plan waves) parts
    → All (λ part. All (λ (kept : Kept). IsWave kept.wav) (rendered_sinks part.plan waves)) parts
waves_kept waves parts sound fit = λ i d lt. kept_is_wave (get_or parts i d).plan waves (sound i d lt) (fit i d lt)

pub stores_made : (lines : List Line) (sinks : List Kept) → All (λ kept. 0 < place_of (sink_line_of lines kept.node)) sinks
    → All (λ (kept : Kept). IsWave kept.wav) sinks → All IsStorable (map (sink_store lines) sinks)
stores_made lines sinks placed wave = All-map IsStorable (sink_store lines) sinks (λ i d l. record { placed = write_placed _ (placed i d l); content = wave i d l })

-- THE NODES of all parts have the kinds of the script
kinds_so_far : (ks : List Kind) (h : ℕ → Option PlanNode)
    → ((n : ℕ) → n < length ks → (node : PlanNode) × (h n ≡ Some node) × (node.kind ≡ get_or ks n K.Dummy))
    → (n : ℕ) → n ≤ length ks → map (λ (m : PlanNode). m.kind) (filter_map h (range_with_len 0 n)) ≡ take n ks
kinds_so_far ks h each zero low = refl
kinds_so_far ks h each (suc n) low =
    let x = each n (omega (arith, low)) in
    let before = kinds_so_far ks h each n (omega (arith, low)) in
    let next : n + 1 ≡ suc n = omega arith in
    subst (λ (k : ℕ). map (λ (m : PlanNode). m.kind) (filter_map h (range_with_len 0 k)) ≡ take k ks) next
    (ap (map (λ (m : PlanNode). m.kind)) (one_given h n x.0 x.1)
    ∙ (map-append (λ (m : PlanNode). m.kind) (filter_map h (range_with_len 0 n)) (x.0 ∷ [])
    ∙ ((λ i. before i ++ x.2 i ∷ []) ∙ sym (take_more ks n K.Dummy (omega (arith, low))))))

port_there : (ks : List Kind) (n port : ℕ) → port < port_count (get_or ks n K.Dummy) → n < length ks
port_there [] n port h = absurd (let none : port < port_count K.Dummy = h in omega (arith, none))
port_there (k ∷ ks) zero port h = omega arith
port_there (k ∷ ks) (suc n) port h = let l = port_there ks n port h in omega (arith, l)

joins_ports : (nodes : List PlanNode) (l : LinkLine) → IsJoining (map (λ (m : PlanNode). m.kind) nodes) l → JoinsPorts nodes l
joins_ports nodes l h =
    let ks = map (λ (m : PlanNode). m.kind) nodes in
    let to : l.to.port < port_count (get_or ks l.to.node K.Dummy) = let t = h.1 in omega (arith, t) in
    let long : length ks ≡ length nodes = length-map nodes (λ (m : PlanNode). m.kind) in
    let here = port_there ks l.from.node l.from.port h.0.1 in
    let there = port_there ks l.to.node l.to.port to in
    record {
      from = record { node = omega (arith, here, long); port = h.0.1 };
      to = record { node = omega (arith, there, long); port = to };
    }

-- a part with a node
with_node : (P : Part → Type 0) (n : ℕ) (parts : List Part) → All P parts → (q : List ℕ) → Contains (map (λ (part : Part). part.nodes) parts) q
    → Contains q n → (part : Part) × P part × (find (λ (x : Part). is_among x.nodes n) parts ≡ Some part)
with_node P n [] h q there has = absurd (let l = there.1 in omega (arith, l))
with_node P n (p ∷ ps) h q there has = go (is_among p.nodes n) refl (λ c. with_node P n ps (All-tail P p ps h) q c has) where
  later : (k : ℕ) → k < length (map (λ (part : Part). part.nodes) (p ∷ ps)) → get_or (map (λ (part : Part). part.nodes) (p ∷ ps)) k q ≡ q
      → is_among p.nodes n ≡ false → Contains (map (λ (part : Part). part.nodes) ps) q
  later zero lt e t = absurd (true≢false (sym (has_among p.nodes n (subst (λ (ns : List ℕ). Contains ns n) (sym e) has)) ∙ t))
  later (suc k) lt e t = (k, omega (arith, lt), e)

  go : (b : Bool) → is_among p.nodes n ≡ b
      → (Contains (map (λ (part : Part). part.nodes) ps) q
      → (part : Part) × P part × (find (λ (x : Part). is_among x.nodes n) ps ≡ Some part))
      → (part : Part) × P part × (cond b (Some p) (find (λ (x : Part). is_among x.nodes n) ps) ≡ Some part)
  go true t rest = (p, All-head P p ps h, refl)
  go false t rest = rest (later there.0 there.1 there.2 t)

module _ (script : Script) (ranges : HasRanges script) (has : HasKinds script) (named : NamesMade 0 script.lines) (ports : List Node)
    (script_ports : AreScriptPorts script.lines ports) (waves : List WavIn) where
  abbrev IsOwn : Part → Type 0
  IsOwn part = IsPlanned (part_lines part.nodes script.lines) script.names waves ports (Ok part.plan)

  abbrev kinds : List Kind
  kinds = kinds_of script.lines

  -- EACH KEPT WAVE HAS ITS LINE
  pub parts_placed : (parts : List Part) → All IsOwn parts
      → All (λ part. All (λ kept. 0 < place_of (sink_line_of script.lines kept.node)) (rendered_sinks part.plan waves)) parts
  parts_placed parts own = All-weaker IsOwn (λ part. All (λ kept. 0 < place_of (sink_line_of script.lines kept.node)) (rendered_sinks part.plan waves))
      (λ part planned. All-weaker (λ (kept : Kept). 0 < place_of (sink_line_of (part_lines part.nodes script.lines) kept.node))
      (λ (kept : Kept). 0 < place_of (sink_line_of script.lines kept.node)) (λ kept h. place_more part.nodes kept.node script.lines ranges.numbered h)
      (rendered_sinks part.plan waves)
      (all_placed (part_script part.nodes script) (ranges_kept part.nodes script ranges) (kinds_kept part.nodes script has)
      (names_kept part.nodes script.lines 0 named) ports (ports_kept part.nodes script.lines ports script_ports) waves part.plan planned))
      parts own

  node_is : (n : ℕ) (parts : List Part) → All IsOwn parts → (q : List ℕ) → Contains (map (λ (part : Part). part.nodes) parts) q → Contains q n
      → n < length kinds → (node : PlanNode) × (node_in parts n ≡ Some node) × (node.kind ≡ get_or kinds n K.Dummy)
  node_is n parts own q there here low =
      let x = with_node IsOwn n parts own q there here in
      let part = x.0 in
      let own_script = part_script part.nodes script in
      let own_ranges = ranges_kept part.nodes script ranges in
      let own_kinds = kinds_kept part.nodes script has in
      let own_made = names_kept part.nodes script.lines 0 named in
      let own_ports = ports_kept part.nodes script.lines ports script_ports in
      let same = kinds_same part.nodes script.lines in
      let long = planned_count own_script own_ranges own_kinds own_made ports own_ports waves part.plan x.1 ∙ ap (λ (ks : List Kind). length ks) same in
      let node : PlanNode = get_or part.plan.nodes n (record { name = []; kind = K.Dummy; k = 0; rate = 0; channels = 0 }) in
      let at : slice_get part.plan.nodes n ≡ Some node = slice_get-get_or part.plan.nodes n _ (omega (arith, low, long)) in (
        node,
        ap (node_of n) x.2 ∙ at,
        planned_kind own_script own_ranges own_kinds own_made ports own_ports waves part.plan x.1 n node at ∙ ap (λ (ks : List Kind). get_or ks n K.Dummy) same,
      )

  -- THE LINES can be printed
  pub parts_joined : (p : Parts) → IsParted script.lines script.names waves ports (Ok p) → All IsOwn p.parts
      → IsPartition script.lines (length script.names) waves ports (map (λ part. part.nodes) p.parts)
      → All (JoinsPorts (filter_map (node_in p.parts) (range_with_len 0 (length script.names)))) p.lines
  parts_joined p parted own partition =
      let count = named_are script ranges has in
      let nodes = filter_map (node_in p.parts) (range_with_len 0 (length script.names)) in
      let all : map (λ (m : PlanNode). m.kind) nodes ≡ kinds = kinds_so_far kinds (node_in p.parts)
      (λ n low. let part = partition.2.2.all n (omega (arith, low, count)) in node_is n p.parts own part.0 part.1 part.2 low)
      (length script.names) (omega (arith, count)) ∙ take_all (length script.names) kinds (omega (arith, count)) in
      All-weaker (IsJoining kinds) (JoinsPorts nodes) (λ l h. joins_ports nodes l (subst (λ (ks : List Kind). IsJoining ks l) (sym all) h)) p.lines
      (parted_lines script ranges has named ports script_ports waves p parted)
