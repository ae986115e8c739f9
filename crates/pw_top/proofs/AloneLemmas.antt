-- Laws of `specs/PartsAlone.antt`: what all parts keep of a node is what its own part keeps of it, as no other part has it.
use Rattle.std.proofs.Common.{◌≡◌, ◌≢◌, inl, inr, ℕ, zero, suc, ◌+◌, ◌<◌, ◌≤◌, ◌==◌, Bool, true, false, cond, ◌&&◌, List, [], ◌∷◌, ◌++◌, length, get_or, map, refl, sym, ap, subst, ◌∙◌, arith}
use Rattle.std.proofs.Common.{Option, Some, None}
use Rattle.std.specs.Prelude.{All, Contains, Ok, find, filter_map, flat_map, slice_get, option_map, nat_lt}
use Rattle.std.specs.List.{range_with_len, enumerate_from, cons_option}
use Rattle.std.specs.Option.{option_or}
use Rattle.std.proofs.lemmas.Bool.{and_parts, cases_eq, eq-eqb, ne_eqb, eqb-true, false_from_ne_true}
use Rattle.std.proofs.lemmas.List.Elements.{All-nil, All-head, All-tail}
use Rattle.std.proofs.lemmas.List.Folds.{find-append}
use Rattle.std.proofs.lemmas.Option.{same_Some, none-some, slice_get-get_or}
use Rattle.pw_graph.specs.declared.parts.Part.{Part}
use Rattle.pw_graph.specs.declared.parts.Parts.{Parts}
use Rattle.pw_graph.specs.declared.plan.Plan.{Plan}
use Rattle.pw_graph.specs.declared.plan.PlanNode.{PlanNode}
use Rattle.pw_outside.specs.Files.{Names}
use Rattle.pw_graph.specs.PlanSums.{is_sink}
use Rattle.wav_files.specs.declared.outcome.Kept.{Kept}
use Rattle.wav_files.specs.declared.outcome.Outcome.{Outcome}
use Rattle.wav_files.specs.declared.outcome.Peak.{Peak}
use Rattle.wav_files.specs.declared.wav.WavIn.{WavIn}
use Rattle.graph_script.specs.declared.script.Line.{Line}
use Rattle.graph_script.specs.declared.script.Script.{Script}
use Rattle.graph_script.specs.Kinds.{made_by, HasKinds}
use Rattle.graph_script.specs.Making.{NamesMade}
use Rattle.graph_script.specs.Ranges.{HasRanges}
use Rattle.port_model.specs.declared.port_state.Node.{Node}
use Rattle.graph_plan.specs.Conditions.{AreScriptPorts}
use Rattle.graph_plan.specs.Parted.{IsParted}
use Rattle.graph_plan.specs.PartLines.{is_line_of, part_lines}
use Rattle.graph_plan.specs.Parts.{is_among, IsPartition}
use Rattle.graph_plan.specs.Planned.{IsPlanned}
use Rattle.graph_plan.proofs.linked_parts.ApartLemmas.{parts_apart}
use Rattle.graph_plan.proofs.linked_parts.OutsideLemmas.{outside_ends}
use Rattle.graph_plan.proofs.linked_parts.PartedLemmas.{parted_nodes, parted_each}
use Rattle.graph_plan.proofs.linked_parts.PartLinesLemmas.{makes_none_of}
use Rattle.graph_plan.proofs.linked_parts.PartitionLemmas.{among_has}
use Rattle.cycle_model.specs.Rendering.{rendered_sinks, rendered_peaks, kept_of, end_stream, is_meter}
use Rattle.cycle_model.specs.Rendering.{peak_at as peak_of_node}
use Rattle.pw_lists.specs.Samples.{peak_of}
use Rattle.pw_top.specs.declared.parted.Parted.{Parted}
use Rattle.pw_top.specs.declared.loaded_script.LoadedScript.{LoadedScript}
use Rattle.command_frame.specs.declared.work.Content.TheVariants.{Wave}
use Rattle.command_frame.specs.declared.work.Store.{Store}
use Rattle.pw_top.specs.Allowed.{Reads}
use Rattle.pw_top.specs.Answer.{Expected}
use Rattle.pw_top.specs.Groups.{PartsTo, KeepsParts, PartsInputs}
use Rattle.pw_top.specs.Joined.{kept_at, peak_at, all_of}
use Rattle.pw_top.specs.PartsAlone.{StoresAlone}
use Rattle.pw_top.specs.PlannedWork.{rendered}
use Rattle.pw_top.specs.ScriptFile.{LoadsScript}
use Rattle.pw_top.specs.SinkStores.{makes_sink, sink_line_of, place_of, name_of, sink_store}
use Rattle.pw_top.proofs.OnePartLemmas.{ok_is, part_gave, went}
use Rattle.pw_top.proofs.OneRunLemmas.{loaded_ready}
use Rattle.pw_top.proofs.PlanWorkLemmas.{all_some}

-- none is found where none passes; what is found passes
none_found : {Y : Type 0} (p : Y → Bool) (ys : List Y) → All (λ y. p y ≡ false) ys → find p ys ≡ None
none_found p [] h = refl
none_found {Y} p (y ∷ ys) h = ap (λ (b : Bool). cond b (Some y) (find p ys)) (All-head (λ (x : Y). p x ≡ false) y ys h)
    ∙ none_found p ys (All-tail (λ (x : Y). p x ≡ false) y ys h)

found_passes : {Y : Type 0} (p : Y → Bool) (ys : List Y) (y : Y) → find p ys ≡ Some y → p y ≡ true
found_passes p [] y e = absurd (none-some y e)
found_passes p (x ∷ xs) y e = go (p x) refl (found_passes p xs y) e where
  go : (b : Bool) → p x ≡ b → (find p xs ≡ Some y → p y ≡ true) → cond b (Some x) (find p xs) ≡ Some y → p y ≡ true
  go true t rest s = ap p (sym (same_Some x y s)) ∙ t
  go false t rest s = rest s

-- the line of a sink is among those of each part
same_line : (nodes : List ℕ) (n : ℕ) (lines : List Line) → sink_line_of (part_lines nodes lines) n ≡ sink_line_of lines n
same_line nodes n [] = refl
same_line nodes n (l ∷ ls) = go (is_line_of nodes l) refl (same_line nodes n ls) where
  go : (kept : Bool) → is_line_of nodes l ≡ kept → sink_line_of (part_lines nodes ls) n ≡ sink_line_of ls n
      → sink_line_of (cond kept (l ∷ part_lines nodes ls) (part_lines nodes ls)) n ≡ sink_line_of (l ∷ ls) n
  go true t rest = ap (λ (o : Option Line). cond (makes_sink n (made_by l.command)) (Some l) o) rest
  go false t rest = rest ∙ sym (ap (λ o. cond (makes_sink n o) (Some l) (sink_line_of ls n)) (makes_none_of nodes l t))

same_store : (nodes : List ℕ) (lines : List Line) (kept : Kept) → sink_store (part_lines nodes lines) kept ≡ sink_store lines kept
same_store nodes lines kept = ap store_by (same_line nodes kept.node lines) where
  store_by : Option Line → Store
  store_by o = record { place = place_of o; name = name_of o; content = Wave kept.wav }

-- IN ORDER: what is found at a number is what stands for it
module _ {Y : Type 0} (node : Y → ℕ) (h : ℕ → Option Y) (own : (m : ℕ) (y : Y) → h m ≡ Some y → node y ≡ m) (n : ℕ) where
  abbrev is_it : Y → Bool
  is_it y = node y == n

  abbrev from : ℕ → ℕ → List Y
  from a len = filter_map h (range_with_len a len)

  none_later : (a len : ℕ) → n < a → find is_it (from a len) ≡ None
  none_later a zero low = refl
  none_later a (suc len) low = go (h a) refl (none_later (a + 1) len (omega (arith, low))) where
    go : (o : Option Y) → h a ≡ o → find is_it (from (a + 1) len) ≡ None → find is_it (cons_option o (from (a + 1) len)) ≡ None
    go None e rest = rest
    go (Some y) e rest = let is = own a y e in
        ap (λ (b : Bool). cond b (Some y) (find is_it (from (a + 1) len))) (ne_eqb (node y) n (λ same. omega (arith, is, same, low))) ∙ rest

  one_given_at : (a len : ℕ) → a ≤ n → n < a + len → find is_it (from a len) ≡ h n
  one_given_at a zero low high = absurd (omega (arith, low, high))
  one_given_at a (suc len) low high = elim (cases_eq a n) [
    | inl same ↦ here (h a) refl same (none_later (a + 1) len (omega (arith, same)))
    | inr other ↦ later (h a) refl other (one_given_at (a + 1) len (omega (arith, low, other)) (omega (arith, high)))
  ] where
    here : (o : Option Y) → h a ≡ o → a ≡ n → find is_it (from (a + 1) len) ≡ None → find is_it (cons_option o (from (a + 1) len)) ≡ h n
    here None e same none = none ∙ sym (ap h (sym same) ∙ e)
    here (Some y) e same none = ap (λ (b : Bool). cond b (Some y) (find is_it (from (a + 1) len))) (eq-eqb (node y) n (own a y e ∙ same))
        ∙ sym (ap h (sym same) ∙ e)

    later : (o : Option Y) → h a ≡ o → a ≢ n → find is_it (from (a + 1) len) ≡ h n → find is_it (cons_option o (from (a + 1) len)) ≡ h n
    later None e other found = found
    later (Some y) e other found = ap (λ (b : Bool). cond b (Some y) (find is_it (from (a + 1) len)))
        (ne_eqb (node y) n (λ same. other (sym (own a y e) ∙ same))) ∙ found

-- a node is in one part at most
abbrev IsInOne : ℕ → List Part → Type 0
IsInOne n xs = (i j : ℕ) (x y : Part) → i < j → slice_get xs i ≡ Some x → slice_get xs j ≡ Some y → Contains x.nodes n → Contains y.nodes n → ⊥

-- ONE OF SEVERAL: what is found of all parts, where only one part may have it
module _ {Y : Type 0} (give : Part → List Y) (p : Y → Bool) (n : ℕ) where
  abbrev GivesNone : Part → Type 0
  GivesNone x = is_among x.nodes n ≡ false → find p (give x) ≡ None

  without_first : (x : Part) (xs : List Part) → GivesNone x → (Contains x.nodes n → ⊥) → find p (flat_map give (x ∷ xs)) ≡ find p (flat_map give xs)
  without_first x xs none out = find-append p (give x) (flat_map give xs)
      ∙ ap (λ (o : Option Y). option_or o (find p (flat_map give xs)))
      (none (false_from_ne_true (is_among x.nodes n) (λ inside. out (among_has x.nodes n inside))))

  none_of_all : (xs : List Part) → All GivesNone xs → ((k : ℕ) (x : Part) → slice_get xs k ≡ Some x → Contains x.nodes n → ⊥)
      → find p (flat_map give xs) ≡ None
  none_of_all [] none out = refl
  none_of_all (x ∷ xs) none out = without_first x xs (All-head GivesNone x xs none) (out 0 x refl)
      ∙ none_of_all xs (All-tail GivesNone x xs none) (λ k y at. out (suc k) y at)

  or_none : (o : Option Y) → option_or o None ≡ o
  or_none None = refl
  or_none (Some y) = refl

  one_of_all : (xs : List Part) → All GivesNone xs → IsInOne n xs → (k : ℕ) (q : Part) → slice_get xs k ≡ Some q → Contains q.nodes n
      → find p (flat_map give xs) ≡ find p (give q)
  one_of_all [] none one k q at has = absurd (none-some q at)
  one_of_all (x ∷ xs) none one zero q at has =
      let same : x ≡ q = same_Some x q at in
      find-append p (give x) (flat_map give xs)
      ∙ (ap (λ (o : Option Y). option_or (find p (give x)) o) (none_of_all xs (All-tail GivesNone x xs none)
      (λ k y later. one 0 (suc k) x y (omega arith) refl later (subst (λ (z : Part). Contains z.nodes n) (sym same) has)))
      ∙ (or_none (find p (give x)) ∙ ap (λ (z : Part). find p (give z)) same))
  one_of_all (x ∷ xs) none one (suc k) q at has =
      without_first x xs (All-head GivesNone x xs none) (λ here. one 0 (suc k) x q (omega arith) refl at here has)
      ∙ one_of_all xs (All-tail GivesNone x xs none) (λ i j y z less. one (suc i) (suc j) y z (omega (arith, less))) k q at has

-- WHAT A PLAN KEEPS of a node that ends without a rate: nothing
all_kept : {X Y : Type 0} (P : Y → Type 0) (h : ℕ × X → Option Y) (a : ℕ) (xs : List X)
    → ((i : ℕ) (x : X) (y : Y) → slice_get xs i ≡ Some x → h (a + i, x) ≡ Some y → P y) → All P (filter_map h (enumerate_from a xs))
all_kept P h a [] each = All-nil P
all_kept {X} {Y} P h a (x ∷ xs) each =
    let first : a + 0 ≡ a = omega arith in
    all_some P (h (a, x)) (filter_map h (enumerate_from (a + 1) xs))
    (λ y e. each 0 x y refl (ap (λ k. h (k, x)) first ∙ e))
    (all_kept P h (a + 1) xs (λ i z y at e.
    let next : a + suc i ≡ (a + 1) + i = omega arith in
    each (suc i) z y at (ap (λ k. h (k, z)) next ∙ e)))

module _ (plan : Plan) (waves : List WavIn) (n : ℕ) (ends : (node : PlanNode) → slice_get plan.nodes n ≡ Some node → node.rate ≡ 0) where
  -- a thing of a node with a rate is not one of this node
  other_node : (i : ℕ) (node : PlanNode) → slice_get plan.nodes i ≡ Some node → nat_lt 0 node.rate ≡ true → (i == n) ≡ false
  other_node i node at some = ne_eqb i n (λ same.
      let none : node.rate ≡ 0 = ends node (ap (slice_get plan.nodes) (sym same) ∙ at) in
      let no : nat_lt 0 0 ≡ true = ap (nat_lt 0) (sym none) ∙ some in
      absurd (let differ : false ≡ true = no in cc))

  kept_other : (i : ℕ) (node : PlanNode) (kept : Kept) → slice_get plan.nodes i ≡ Some node → kept_of plan waves (i, node) ≡ Some kept
      → (kept.node == n) ≡ false
  kept_other i node kept at e = go (is_sink node.kind && nat_lt 0 node.rate) refl where
    kept_by : Bool → Option Kept
    kept_by b = cond b (Some (record { node = i; wav = record { rate = node.rate; channels = node.channels; samples = end_stream plan waves i } })) None

    go : (b : Bool) → (is_sink node.kind && nat_lt 0 node.rate) ≡ b → (kept.node == n) ≡ false
    go true t =
        let same = same_Some _ kept (sym (ap kept_by t) ∙ e) in
        ap (λ (k : Kept). k.node == n) (sym same) ∙ other_node i node at (and_parts (is_sink node.kind) (nat_lt 0 node.rate) t).1
    go false t = absurd (none-some kept (sym (ap kept_by t) ∙ e))

  peak_other : (i : ℕ) (node : PlanNode) (peak : Peak) → slice_get plan.nodes i ≡ Some node → peak_of_node plan waves (i, node) ≡ Some peak
      → (peak.node == n) ≡ false
  peak_other i node peak at e = go (is_meter node.kind && nat_lt 0 node.rate) refl where
    peak_by : Bool → Option Peak
    peak_by b = cond b (Some (record { node = i; value = peak_of (end_stream plan waves i) })) None

    go : (b : Bool) → (is_meter node.kind && nat_lt 0 node.rate) ≡ b → (peak.node == n) ≡ false
    go true t =
        let same = same_Some _ peak (sym (ap peak_by t) ∙ e) in
        ap (λ (k : Peak). k.node == n) (sym same) ∙ other_node i node at (and_parts (is_meter node.kind) (nat_lt 0 node.rate) t).1
    go false t = absurd (none-some peak (sym (ap peak_by t) ∙ e))

  no_sink : kept_at (rendered_sinks plan waves) n ≡ None
  unfolding rendered_sinks
  no_sink = none_found (λ (k : Kept). k.node == n) (filter_map (kept_of plan waves) (enumerate_from 0 plan.nodes))
      (all_kept (λ (k : Kept). (k.node == n) ≡ false) (kept_of plan waves) 0 plan.nodes (λ i node kept at e.
      let first : 0 + i ≡ i = omega arith in
      kept_other i node kept at (sym (ap (λ (k : ℕ). kept_of plan waves (k, node)) first) ∙ e)))

  no_peak : peak_at (rendered_peaks plan waves) n ≡ None
  unfolding rendered_peaks
  no_peak = none_found (λ (k : Peak). k.node == n) (filter_map (peak_of_node plan waves) (enumerate_from 0 plan.nodes))
      (all_kept (λ (k : Peak). (k.node == n) ≡ false) (peak_of_node plan waves) 0 plan.nodes (λ i node peak at e.
      let first : 0 + i ≡ i = omega arith in
      peak_other i node peak at (sym (ap (λ (k : ℕ). peak_of_node plan waves (k, node)) first) ∙ e)))

-- all runs, one after the other
module _ (waves : List WavIn) where
  abbrev runs : List Part → Outcome
  runs parts = all_of (map (λ (part : Part). rendered part.plan waves) parts)

  all_sinks : (parts : List Part) → (runs parts).sinks ≡ flat_map (λ (part : Part). rendered_sinks part.plan waves) parts
  all_sinks [] = refl
  all_sinks (x ∷ xs) = ap (λ (ks : List Kept). rendered_sinks x.plan waves ++ ks) (all_sinks xs)

  all_peaks : (parts : List Part) → (runs parts).peaks ≡ flat_map (λ (part : Part). rendered_peaks part.plan waves) parts
  all_peaks [] = refl
  all_peaks (x ∷ xs) = ap (λ (ks : List Peak). rendered_peaks x.plan waves ++ ks) (all_peaks xs)

-- a part at its place
nodes_at : (parts : List Part) (i : ℕ) (x : Part) → slice_get parts i ≡ Some x → get_or (map (λ (part : Part). part.nodes) parts) i [] ≡ x.nodes
nodes_at [] i x e = absurd (none-some x e)
nodes_at (y ∷ ys) zero x e = ap (λ (part : Part). part.nodes) (same_Some y x e)
nodes_at (y ∷ ys) (suc i) x e = nodes_at ys i x e

place_within : (parts : List Part) (i : ℕ) (x : Part) → slice_get parts i ≡ Some x → i < length (map (λ (part : Part). part.nodes) parts)
place_within [] i x e = absurd (none-some x e)
place_within (y ∷ ys) zero x e = omega arith
place_within (y ∷ ys) (suc i) x e = let l = place_within ys i x e in omega (arith, l)

module _ (script : Script) (ranges : HasRanges script) (has : HasKinds script) (named : NamesMade 0 script.lines) (ports : List Node)
    (script_ports : AreScriptPorts script.lines ports) (waves : List WavIn) (p : Parts)
    (parted : IsParted script.lines script.names waves ports (Ok p)) where
  abbrev IsOwn : Part → Type 0
  IsOwn part = IsPlanned (part_lines part.nodes script.lines) script.names waves ports (Ok part.plan)

  abbrev all_nodes : List (List ℕ)
  all_nodes = map (λ (part : Part). part.nodes) p.parts

  partition : IsPartition script.lines (length script.names) waves ports all_nodes
  partition = parted_nodes script ranges has named ports script_ports waves (Ok p) parted

  own : All IsOwn p.parts
  own = parted_each script ranges has named ports script_ports waves (Ok p) parted

  there : (i : ℕ) (x : Part) → slice_get p.parts i ≡ Some x → (n : ℕ) → Contains x.nodes n → Contains (get_or all_nodes i []) n
  there i x at n c = subst (λ (ns : List ℕ). Contains ns n) (sym (nodes_at p.parts i x at)) c

  -- no node is in two parts, and its number is below their count
  in_one : (n : ℕ) → IsInOne n p.parts
  in_one n i j x y less at_i at_j a b = parts_apart (length script.names) partition.2.0 all_nodes partition.2.2 i j [] less
      (place_within p.parts j y at_j) n (there i x at_i n a) (there j y at_j n b)

  below : (i : ℕ) (x : Part) → slice_get p.parts i ≡ Some x → (n : ℕ) → Contains x.nodes n → n < length script.names
  below i x at n c = (((partition.2.2.each i [] (place_within p.parts i x at)).joined n).0 (there i x at n c)).0

  -- a part ends other nodes without a rate
  silent : (part : Part) → IsOwn part → (n : ℕ) → is_among part.nodes n ≡ false
      → (node : PlanNode) → slice_get part.plan.nodes n ≡ Some node → node.rate ≡ 0
  silent part planned n out node at =
      (outside_ends part.nodes n out script ranges has named ports script_ports waves part.plan planned node at).0

  -- WHAT IS KEPT of a node, and its peak, is what its own part does
  module _ (k : ℕ) (q : Part) (at : slice_get p.parts k ≡ Some q) (n : ℕ) (has_node : Contains q.nodes n) where
    low : n < 0 + length script.names
    low = let l = below k q at n has_node in omega (arith, l)

    kept_alone : kept_at (filter_map (kept_at (runs waves p.parts).sinks) (range_with_len 0 (length script.names))) n
        ≡ kept_at (rendered_sinks q.plan waves) n
    kept_alone = one_given_at (λ (y : Kept). y.node) (kept_at (runs waves p.parts).sinks)
        (λ m y e. eqb-true y.node m (found_passes (λ (x : Kept). x.node == m) (runs waves p.parts).sinks y e)) n 0 (length script.names) (omega arith) low
        ∙ (ap (λ (ks : List Kept). kept_at ks n) (all_sinks waves p.parts)
        ∙ one_of_all (λ (part : Part). rendered_sinks part.plan waves) (λ (x : Kept). x.node == n) n p.parts
        (λ i d l out. no_sink (get_or p.parts i d).plan waves n (silent (get_or p.parts i d) (own i d l) n out)) (in_one n) k q at has_node)

    peak_alone : peak_at (filter_map (peak_at (runs waves p.parts).peaks) (range_with_len 0 (length script.names))) n
        ≡ peak_at (rendered_peaks q.plan waves) n
    peak_alone = one_given_at (λ (y : Peak). y.node) (peak_at (runs waves p.parts).peaks)
        (λ m y e. eqb-true y.node m (found_passes (λ (x : Peak). x.node == m) (runs waves p.parts).peaks y e)) n 0 (length script.names) (omega arith) low
        ∙ (ap (λ (ks : List Peak). peak_at ks n) (all_peaks waves p.parts)
        ∙ one_of_all (λ (part : Part). rendered_peaks part.plan waves) (λ (x : Peak). x.node == n) n p.parts
        (λ i d l out. no_peak (get_or p.parts i d).plan waves n (silent (get_or p.parts i d) (own i d l) n out)) (in_one n) k q at has_node)

  stores_same : (nodes : List ℕ) (o : Option Kept) → option_map (sink_store script.lines) o ≡ option_map (sink_store (part_lines nodes script.lines)) o
  stores_same nodes None = refl
  stores_same nodes (Some kept) = ap (λ (x : Store). Some x) (sym (same_store nodes script.lines kept))

  -- EACH PART
  each_alone : All (StoresAlone (record { script = script; waves = waves; parts = p }) ports) p.parts
  each_alone i d l =
      let q = get_or p.parts i d in
      let at : slice_get p.parts i ≡ Some q = slice_get-get_or p.parts i d l in
      record {
        planned = own i d l;
        stores = λ n c. ap (option_map (sink_store script.lines)) (kept_alone i q at n c) ∙ stores_same q.nodes (kept_at (rendered_sinks q.plan waves) n);
        peaks = λ n c. peak_alone i q at n c;
        others = λ n out.
            let without = false_from_ne_true (is_among q.nodes n) (λ inside. out (among_has q.nodes n inside)) in
            (no_sink q.plan waves n (silent q (own i d l) n without), no_peak q.plan waves n (silent q (own i d l) n without));
      }

-- THE PARTS of the script of a file
pub all_alone : (word : List ℕ) (names : Names) (loaded : Expected LoadedScript) (s : LoadedScript) (e : Expected Parted) (p : Parted)
    → LoadsScript names word loaded → loaded.outcome ≡ Ok s → PartsInputs s.script s.inputs e → e.outcome ≡ Ok p
    → All (StoresAlone p s.inputs.ports) p.parts.parts
all_alone word names loaded s e p l is q so =
    let ready = loaded_ready names word loaded s l is in
    let v = went (Reads (PartsTo s.script s.inputs.ports s.inputs.waves)) (KeepsParts s.script s.inputs.waves) e p q so in
    let made : Parted = record { script = s.script; waves = s.inputs.waves; parts = v.given } in
    let same : Ok p ≡ Ok made = part_gave [] (λ outcome. outcome ≡ Ok made) v.rest p v.after v.gives in
    let parted : IsParted s.script.lines s.script.names s.inputs.waves s.inputs.ports (Ok v.given) =
    part_gave [] (PartsTo s.script s.inputs.ports s.inputs.waves) v.first v.given v.allowed v.gave in
    subst (λ (y : Parted). All (StoresAlone y s.inputs.ports) y.parts.parts) (sym (ok_is p made (Ok p) refl same))
    (each_alone s.script ready.whole.ranges ready.whole.kinds ready.whole.made s.inputs.ports ready.ports s.inputs.waves v.given parted)
