-- Laws of `specs/SinkStores.antt`: each kept wave has the line of its sink, its stores can be made, and the text printed.
use Rattle.std.proofs.Common.{◌≡◌, inl, inr, ◌⊎◌, ℕ, zero, suc, ◌+◌, ◌<◌, ◌≤◌, ◌==◌, Bool, true, false, cond, ◌&&◌, List, [], ◌∷◌, length, get_or, map}
use Rattle.std.proofs.Common.{Option, Some, None, refl, sym, ap, ◌∙◌, subst, arith, rules}
use Rattle.std.specs.Prelude.{slice_get, find, filter_map, option_map, unwrap_or, nat_lt, Ok}
use Rattle.std.specs.List.{All, cons_option, enumerate_from}
use Rattle.std.proofs.lemmas.Option.{same_Some, none-some, slice_get_within}
use Rattle.std.proofs.lemmas.List.Elements.{All-nil, All-cons, All-head, All-tail, All-map, All-weaker}
use Rattle.pw_graph.specs.declared.kind.Kind.{Kind}
use Rattle.pw_graph.specs.declared.kind.Kind.TheVariants as K
use Rattle.pw_graph.specs.declared.plan.LinkLine.{LinkLine}
use Rattle.pw_graph.specs.declared.plan.PlanNode.{PlanNode}
use Rattle.pw_graph.specs.declared.plan.Plan.{Plan}
use Rattle.pw_graph.specs.KindPorts.{port_count}
use Rattle.pw_graph.specs.PlanForms.{kind_at}
use Rattle.pw_graph.specs.PlanSums.{is_sink}
use Rattle.pw_graph.specs.SoundPlan.{IsSoundPlan}
use Rattle.wav_files.specs.declared.wav.WavIn.{WavIn}
use Rattle.wav_files.specs.declared.outcome.Kept.{Kept}
use Rattle.graph_script.specs.declared.script.Line.{Line}
use Rattle.graph_script.specs.declared.script.Script.{Script}
use Rattle.graph_script.specs.Kinds.{made_by, made_of, HasKinds}
use Rattle.graph_script.specs.Making.{NamesMade}
use Rattle.graph_script.specs.Ranges.{HasRanges}
use Rattle.port_model.specs.declared.port_state.Node.{Node}
use Rattle.graph_lines.specs.Start.{kinds_of}
use Rattle.graph_plan.specs.Conditions.{AreScriptPorts}
use Rattle.graph_plan.specs.Joining.{JoinsKinds}
use Rattle.graph_plan.specs.Planned.{IsPlanned}
use Rattle.graph_plan.proofs.PlannedLemmas.{kinds_are, lines_are}
use Rattle.graph_plan.proofs.SoundPlanLemmas.{like}
use Rattle.graph_plan.proofs.sound.StartLemmas.{first_sound}
use Rattle.graph_plan.proofs.sound.StepLemmas.{EndsSound, follows_sound}
use Rattle.cycle_model.specs.Rendering.{rendered_sinks, kept_of, end_stream}
use Rattle.cycle_model.specs.WavesFit.{WavesFit}
use Rattle.cycle_model.proofs.KeptLemmas.{kept_is_wave}
use Rattle.cycle_trace.specs.Printable.{JoinsPorts}
use Rattle.run_results.proofs.StatusLemmas.{write_placed}
use Rattle.pw_top.specs.working.Ending.{IsStorable}
use Rattle.pw_top.specs.SinkStores.{makes_sink, sink_line_of, place_of, sink_store, AllPlaced}

-- THE LINES of links can be printed
same_kinds : (nodes : List PlanNode) (n : ℕ)
    → get_or (map (λ (m : PlanNode). m.kind) nodes) n K.Dummy ≡ unwrap_or (option_map (λ (m : PlanNode). m.kind) (slice_get nodes n)) K.Dummy
same_kinds [] n = refl
same_kinds (m ∷ nodes) zero = refl
same_kinds (m ∷ nodes) (suc n) = same_kinds nodes n

-- a node with a port is there
node_there : (plan : Plan) (n port : ℕ) → port < port_count (kind_at plan n) → n < length plan.nodes
node_there plan n port h = go (slice_get plan.nodes n) refl where
  go : (o : Option PlanNode) → slice_get plan.nodes n ≡ o → n < length plan.nodes
  go (Some m) e = slice_get_within plan.nodes n m e
  go None e =
      let kind : kind_at plan n ≡ K.Dummy = ap (λ (o : Option PlanNode). unwrap_or (option_map (λ (m : PlanNode). m.kind) o) K.Dummy) e in
      let none : port < port_count K.Dummy = subst (λ (k : Kind). port < port_count k) kind h in
      absurd (omega (arith, none))

joined : (plan : Plan) (l : LinkLine) → JoinsKinds plan l → JoinsPorts plan.nodes l
joined plan l h =
    let to : l.to.port < port_count (kind_at plan l.to.node) = let t = h.to in omega (arith, t) in
    record {
      from = record {
        node = node_there plan l.from.node l.from.port h.from;
        port = subst (λ (k : Kind). l.from.port < port_count k) (sym (same_kinds plan.nodes l.from.node)) h.from;
      };
      to = record {
        node = node_there plan l.to.node l.to.port to;
        port = subst (λ (k : Kind). l.to.port < port_count k) (sym (same_kinds plan.nodes l.to.node)) to;
      };
    }

pub lines_print : (plan : Plan) → All (JoinsKinds plan) plan.lines → All (JoinsPorts plan.nodes) plan.lines
lines_print plan h = All-weaker (JoinsKinds plan) (JoinsPorts plan.nodes) (joined plan) plan.lines h

-- THE STORES can be made
pub stores_made : (lines : List Line) (plan : Plan) (waves : List WavIn) → IsSoundPlan plan → WavesFit plan waves → AllPlaced lines plan waves
    → All IsStorable (map (sink_store lines) (rendered_sinks plan waves))
stores_made lines plan waves sound fit placed = All-map IsStorable (sink_store lines) (rendered_sinks plan waves)
    (λ i d l. record { placed = write_placed _ (placed i d l); content = kept_is_wave plan waves sound fit i d l })

-- a list of nodes that were made has a sink of this number
abbrev HasSink : List (ℕ × Kind) → ℕ → Type 0
HasSink [] n = ⊥
HasSink (m ∷ made) n = (m ≡ (n, K.Sink)) ⊎ HasSink made n

numbered_sink : (kinds : List Kind) (a n : ℕ) → get_or kinds n K.Dummy ≡ K.Sink → HasSink (enumerate_from a kinds) (a + n)
numbered_sink [] a n e = absurd (let d : K.Dummy ≡ K.Sink = e in cc)
numbered_sink (k ∷ kinds) a zero e = inl (let i : a ≡ a + 0 = omega arith in ap (λ (x : ℕ). (x, k)) i ∙ ap (λ (x : Kind). (a + 0, x)) e)
numbered_sink (k ∷ kinds) a (suc n) e =
    let i : (a + 1) + n ≡ a + suc n = omega arith in
    inr (subst (HasSink (enumerate_from (a + 1) kinds)) i (numbered_sink kinds (a + 1) n e))

abbrev tests : ℕ → Line → Bool
tests n l = makes_sink n (made_by l.command)

here_or_later : (n : ℕ) (l : Line) (ls : List Line) (b : Bool) → tests n l ≡ b → 1 ≤ l.line → (b ≡ false → 0 < place_of (sink_line_of ls n))
    → 0 < place_of (sink_line_of (l ∷ ls) n)
here_or_later n l ls true t low later = subst (λ (c : Bool). 0 < place_of (cond c (Some l) (find (tests n) ls))) (sym t) low
here_or_later n l ls false t low later = subst (λ (c : Bool). 0 < place_of (cond c (Some l) (find (tests n) ls))) (sym t) (later refl)

same_number : (n : ℕ) → (n == n) ≡ true
same_number n = search rules

placed_sink : (lines : List Line) (n : ℕ) → All (λ l. 1 ≤ l.line) lines → HasSink (made_of lines) n → 0 < place_of (sink_line_of lines n)
placed_sink [] n low h = absurd h
placed_sink (l ∷ ls) n low h = here_or_later n l ls (tests n l) refl (All-head (λ (x : Line). 1 ≤ x.line) l ls low)
    (λ not. placed_sink ls n (All-tail (λ (x : Line). 1 ≤ x.line) l ls low) (go (made_by l.command) refl h not))
  where
    go : (o : Option (ℕ × Kind)) → made_by l.command ≡ o → HasSink (cons_option o (made_of ls)) n → tests n l ≡ false → HasSink (made_of ls) n
    go None e g not = g
    go (Some m) e (inr g) not = g
    go (Some m) e (inl same) not =
        let yes : tests n l ≡ true = ap (makes_sink n) (e ∙ ap (λ (x : ℕ × Kind). Some x) same) ∙ same_number n in
        absurd (let no : true ≡ false = sym yes ∙ not in cc)

-- what is kept is that of a sink
pub all_some : {Y : Type 0} (P : Y → Type 0) (o : Option Y) (ys : List Y) → ((y : Y) → o ≡ Some y → P y) → All P ys → All P (cons_option o ys)
all_some P None ys h all = all
all_some P (Some y) ys h all = All-cons P y ys (h y refl) all

all_kept : {X Y : Type 0} (P : Y → Type 0) (h : ℕ × X → Option Y) (a : ℕ) (xs : List X)
    → ((i : ℕ) (x : X) (y : Y) → slice_get xs i ≡ Some x → h (a + i, x) ≡ Some y → P y) → All P (filter_map h (enumerate_from a xs))
all_kept P h a [] each = All-nil P
all_kept {X} {Y} P h a (x ∷ xs) each =
    let first : a + 0 ≡ a = omega arith in
    all_some P (h (a, x)) (filter_map h (enumerate_from (a + 1) xs))
    (λ y e. each 0 x y refl (ap (λ k. h (k, x)) first ∙ e))
    (all_kept P h (a + 1) xs (λ i z y at e.
    let next : a + suc i ≡ (a + 1) + i = omega arith in
    each (suc i) z y at (ap (λ k. h (k, z)) next ∙ e)))

sink_is : (k : Kind) → is_sink k ≡ true → k ≡ K.Sink
sink_is K.Sink h = refl
sink_is K.Source h = cc
sink_is (K.Square rate channels period amp) h = cc
sink_is (K.Gain g) h = cc
sink_is (K.Mix2 ga gb) h = cc
sink_is (K.Delay frames) h = cc
sink_is (K.Map channels list) h = cc
sink_is K.Split h = cc
sink_is K.Meter h = cc
sink_is K.Dummy h = cc

left_true : (a b : Bool) → (a && b) ≡ true → a ≡ true
left_true true b h = refl
left_true false b h = h

kept_from : (plan : Plan) (waves : List WavIn) (i : ℕ) (node : PlanNode) (kept : Kept) → kept_of plan waves (i, node) ≡ Some kept
    → (kept.node ≡ i) × (node.kind ≡ K.Sink)
kept_from plan waves i node kept e = go (is_sink node.kind && nat_lt 0 node.rate) refl where
  kept_by : Bool → Option Kept
  kept_by b = cond b (Some (record { node = i; wav = record { rate = node.rate; channels = node.channels; samples = end_stream plan waves i } })) None

  go : (b : Bool) → (is_sink node.kind && nat_lt 0 node.rate) ≡ b → (kept.node ≡ i) × (node.kind ≡ K.Sink)
  go true t =
      let same = same_Some _ kept (sym (ap kept_by t) ∙ e) in
      (sym (ap (λ (k : Kept). k.node) same), sink_is node.kind (left_true (is_sink node.kind) (nat_lt 0 node.rate) t))
  go false t = absurd (none-some kept (sym (ap kept_by t) ∙ e))

-- EACH KEPT WAVE HAS ITS LINE
module _ (script : Script) (ranges : HasRanges script) (has : HasKinds script) (made : NamesMade 0 script.lines) (ports : List Node)
    (script_ports : AreScriptPorts script.lines ports) (waves : List WavIn) (plan : Plan)
    (planned : IsPlanned script.lines script.names waves ports (Ok plan)) where
  ends : EndsSound (kinds_of script.lines) planned.2.0
  ends = follows_sound waves (kinds_of script.lines) script.lines 0 planned.0 planned.2.0
      (first_sound script.lines ports planned.0 ranges.ranges script_ports planned.1) planned.1.kinds
      (record { named = made; lines_of = lines_are script ranges has }) planned.2.1

  -- its nodes are those of the script's kinds
  pub planned_count : length plan.nodes ≡ length (kinds_of script.lines)
  planned_count = planned.2.2.count ∙ ap (λ (ks : List Kind). length ks) ends.kinds_are

  pub planned_kind : (n : ℕ) (node : PlanNode) → slice_get plan.nodes n ≡ Some node → node.kind ≡ get_or (kinds_of script.lines) n K.Dummy
  planned_kind n node at = (planned.2.2.nodes n node at).kind ∙ ap (λ (ks : List Kind). get_or ks n K.Dummy) ends.kinds_are

  kind_is : (n : ℕ) → kind_at plan n ≡ get_or has.kinds n K.Dummy
  kind_is n = (like ends.count planned.2.0 ends.sound script.names plan planned.2.2).kind n
      ∙ ap (λ (ks : List Kind). get_or ks n K.Dummy) (ends.kinds_are ∙ kinds_are script ranges has)

  pub all_placed : AllPlaced script.lines plan waves
  unfolding rendered_sinks
  all_placed = all_kept (λ (kept : Kept). 0 < place_of (sink_line_of script.lines kept.node)) (kept_of plan waves) 0 plan.nodes
      (λ i node kept at e.
      let zero_first : 0 + i ≡ i = omega arith in
      let from = kept_from plan waves i node kept (sym (ap (λ (k : ℕ). kept_of plan waves (k, node)) zero_first) ∙ e) in
      let kind : get_or has.kinds i K.Dummy ≡ K.Sink = sym (kind_is i)
      ∙ ap (λ (o : Option PlanNode). unwrap_or (option_map (λ (m : PlanNode). m.kind) o) K.Dummy) at ∙ from.1 in
      let sink : HasSink (made_of script.lines) i = subst (λ (ms : List (ℕ × Kind)). HasSink ms i) (sym has.made)
      (subst (HasSink (enumerate_from 0 has.kinds)) zero_first (numbered_sink has.kinds 0 i kind)) in
      subst (λ (n : ℕ). 0 < place_of (sink_line_of script.lines n)) (sym from.0) (placed_sink script.lines i ranges.numbered sink))
