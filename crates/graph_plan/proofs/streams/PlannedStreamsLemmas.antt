-- The streams of a plan are those of its script, for every plan of a script.
use Rattle.std.proofs.Common.{◌≡◌, inl, inr, ℕ, zero, suc, ◌+◌, ◌-◌, ◌*◌, ◌<◌, ◌≤◌, ◌==◌, nat_le, nat_lt, Bool, true, false, cond, List, [], ◌∷◌, ◌++◌}
use Rattle.std.proofs.Common.{length, get_or, map, find, filter, Option, Some, None, refl, sym, ap, ap₂, ◌∙◌, subst, arith, sum_by, ℤ}
use Rattle.std.specs.Prelude.{Contains, All, slice_get, Result, Ok, Err, IfOk, option_map, unwrap_or, fold, flat_map}
use Rattle.std.specs.List.{range_with_len}
use Rattle.std.proofs.lemmas.Bool.{cases_eq, cases_lt, and_parts, eqb-true, leb-true, ltb-true, false_from_ne_true}
use Rattle.std.proofs.lemmas.Grind.{flat_map-append}
use Rattle.std.proofs.lemmas.Option.{slice_get-get_or, none-some}
use Rattle.std.proofs.lemmas.List.Elements.{filter-append}
use Rattle.pw_graph.specs.declared.ids.PortId.{PortId}
use Rattle.pw_graph.specs.declared.kind.Kind.{Kind}
use Rattle.pw_graph.specs.declared.kind.Kind.TheVariants.{Source, Square, Gain, Mix2, Delay, Map, Split, Sink, Meter, Dummy}
use Rattle.pw_graph.specs.declared.plan.Epoch.{Epoch}
use Rattle.pw_graph.specs.declared.plan.Plan.{Plan}
use Rattle.pw_graph.specs.declared.plan.PortForm.{PortForm}
use Rattle.pw_graph.specs.declared.shape.ShapeLink.{ShapeLink}
use Rattle.pw_graph.specs.Dependencies.{nodes_of}
use Rattle.pw_graph.specs.KindPorts.{input_count, port_count}
use Rattle.pw_graph.specs.KindRanges.{IsSinkOrMeter}
use Rattle.pw_graph.specs.PlanForms.{kind_at, HasForm, IsSoundForm}
use Rattle.pw_graph.specs.Pools.{is_same_port}
use Rattle.pw_lists.specs.Samples.{clamped, silence, summed}
use Rattle.pw_graph.specs.SoundPlan.{IsSoundEpoch, IsSoundPlan}
use Rattle.wav_files.specs.declared.wav.WavIn.{WavIn}
use Rattle.cycle_model.specs.Cycle.{Outputs, brought, input_of, stream_of}
use Rattle.cycle_model.specs.Epochs.{is_within, epoch_at, listed, links_into, channels_of, channels_at, is_active, stream_start, all_cycles}
use Rattle.cycle_model.proofs.EpochLemmas.{found}
use Rattle.cycle_model.proofs.KeptLemmas.{range_split}
use Rattle.cycle_model.proofs.ProgressLemmas.{start_le}
use Rattle.graph_script.specs.declared.script.Script.{Script}
use Rattle.graph_script.specs.Kinds.{HasKinds}
use Rattle.graph_script.specs.Making.{NamesMade}
use Rattle.graph_script.specs.Ranges.{HasRanges}
use Rattle.port_model.specs.declared.port_state.Node.{Node}
use Rattle.graph_lines.specs.declared.graph.Graph.{Graph}
use Rattle.graph_lines.specs.declared.standing.Standing.{Standing}
use Rattle.graph_lines.specs.Activity.{standing}
use Rattle.graph_lines.specs.Start.{kinds_of, IsStart}
use Rattle.graph_plan.specs.declared.fault.PlanFault.{PlanFault}
use Rattle.graph_plan.specs.Conditions.{AreScriptPorts}
use Rattle.graph_plan.specs.Following.{Follows}
use Rattle.graph_plan.specs.PlanOf.{IsPlanOf}
use Rattle.graph_plan.specs.Planned.{IsPlanned}
use Rattle.graph_plan.specs.ScriptStreams.{stream_from, IsOfScript, HasScriptStreams}
use Rattle.graph_plan.proofs.lists.ElementLemmas.{contains_at}
use Rattle.graph_plan.proofs.PlannedLemmas.{first, good, ends, is_sound, kind_is}
use Rattle.graph_plan.proofs.streams.ScriptStreamsLemmas.{start_in, Settles, KnowsOf, EndsKnown, follows_leads, follows_known, epoch_total}
use Rattle.graph_plan.proofs.sound.StartLemmas.{first_is}
use Rattle.graph_plan.proofs.sound.StepLemmas.{EndsSound}

-- a list without what passes
none_kept : {X : Type 0} (p : X → Bool) (xs : List X) → All (λ x. p x ≡ false) xs → filter p xs ≡ []
none_kept p [] h = refl
none_kept {X} p (x ∷ xs) h =
    let here : p x ≡ false = h 0 x (omega arith) in
    let rest = none_kept p xs (λ i d l. h (suc i) d (omega (arith, l))) in
    ap (λ (b : Bool). cond b (x ∷ filter p xs) (filter p xs)) here ∙ rest

none_found : {X : Type 0} (p : X → Bool) (xs : List X) → All (λ x. p x ≡ false) xs → find p xs ≡ None
none_found p [] h = refl
none_found {X} p (x ∷ xs) h =
    let here : p x ≡ false = h 0 x (omega arith) in
    let rest = none_found p xs (λ i d l. h (suc i) d (omega (arith, l))) in
    ap (λ (b : Bool). cond b (Some x) (find p xs)) here ∙ rest

same_port : (a b : PortId) → is_same_port a b ≡ true → a ≡ b
same_port a b h =
    let both = and_parts (a.node == b.node) (a.port == b.port) h in
    let n : a.node ≡ b.node = eqb-true a.node b.node both.0 in
    let p : a.port ≡ b.port = eqb-true a.port b.port both.1 in
    ap₂ (λ (x y : ℕ). record { node = x; port = y }) n p

-- sums of nothing in cycles in which nothing is received
nothing_comes : (f : ℕ → List ℤ) (p : ℕ → Bool) (a m : ℕ) → ((k : ℕ) → a ≤ k → k < a + m → f k ≡ []) → flat_map f (filter p (range_with_len a m)) ≡ []
nothing_comes f p a zero h = refl
nothing_comes f p a (suc m) h =
    go (p a) (nothing_comes f p (a + 1) m (λ k low high. h k (omega (arith, low)) (omega (arith, high)))) where
      go : (b : Bool) → flat_map f (filter p (range_with_len (a + 1) m)) ≡ []
          → flat_map f (cond b (a ∷ filter p (range_with_len (a + 1) m)) (filter p (range_with_len (a + 1) m))) ≡ []
      go true rest = ap₂ (λ (x y : List ℤ). x ++ y) (h a (omega arith) (omega arith)) rest
      go false rest = rest

-- a sink or meter has one input
one_input : (k : Kind) → IsSinkOrMeter k → input_count k ≡ 1
one_input Sink h = refl
one_input Meter h = refl
one_input Source h = absurd h
one_input (Square rate channels period amp) h = absurd h
one_input (Gain g) h = absurd h
one_input (Mix2 ga gb) h = absurd h
one_input (Delay frames) h = absurd h
one_input (Map channels list) h = absurd h
one_input Split h = absurd h
one_input Dummy h = absurd h

some_port : (k : Kind) → 0 < input_count k → 0 < port_count k
some_port Sink h = omega arith
some_port Meter h = omega arith
some_port Source h = omega arith
some_port (Square rate channels period amp) h = omega arith
some_port (Gain g) h = omega arith
some_port (Mix2 ga gb) h = omega arith
some_port (Delay frames) h = omega arith
some_port (Map channels list) h = omega arith
some_port Split h = omega arith
some_port Dummy h = absurd (omega (arith, h))

-- AN INPUT WITHOUT A FORM
module _ (plan : Plan) (sound : IsSoundPlan plan) (n : ℕ) (there : n < length plan.nodes) where
  -- where the first input has no form, no input has one
  module _ (e : Epoch) (is : IsSoundEpoch plan e)
      (none : (rate channels : ℕ) → HasForm e (record { node = n; port = 0 }) rate channels → ⊥) where
    none_at : (port rate channels : ℕ) → port < input_count (kind_at plan n) → HasForm e (record { node = n; port = port }) rate channels → ⊥
    none_at port rate channels l has = elim (cases_eq n e.shape.driver) [
      | inr ne ↦
          let w = is.forms.whole (record { node = n; port = 0 }) active ne (some_port (kind_at plan n) (omega (arith, l))) in
          none w.0 w.1 w.2
      | inl same ↦ elim is.places.driver [
        | inl dummy ↦ (let f = sound.few in omega (arith, same, dummy, f, there))
        | inr ends ↦
            let one = one_input (kind_at plan n) (subst (λ (m : ℕ). IsSinkOrMeter (kind_at plan m)) (sym same) ends) in
            let first : port ≡ 0 = omega (arith, l, one) in
            none rate channels (subst (λ (q : ℕ). HasForm e (record { node = n; port = q }) rate channels) first has)
      ]
    ] where
      active : Contains (nodes_of e.shape) n
      active =
          let f : PortForm = record { port = record { node = n; port = port }; rate = rate; channels = channels } in
          (subst (λ (x : PortForm). IsSoundForm plan e x) has.2 (is.forms.each has.0 (record { port = record { node = n; port = port }; rate = rate; channels = channels }) has.1)).active

    module _ (port : ℕ) (input : port < input_count (kind_at plan n)) where
      no_links : filter (λ (l : ShapeLink). is_same_port l.to (record { node = n; port = port })) e.shape.links ≡ []
      no_links = none_kept (λ (l : ShapeLink). is_same_port l.to (record { node = n; port = port })) e.shape.links
          (λ i d m. false_from_ne_true (is_same_port (get_or e.shape.links i d).to (record { node = n; port = port })) (λ t.
          let f = is.forms.links i d m in
          none_at port f.rate (get_or e.shape.links i d).channels input
          (subst (λ (q : PortId). HasForm e q f.rate (get_or e.shape.links i d).channels)
          (same_port (get_or e.shape.links i d).to (record { node = n; port = port }) t) f.to)))

      no_channels : channels_of e.forms (record { node = n; port = port }) ≡ 0
      no_channels = ap (λ (o : Option PortForm). unwrap_or (option_map (λ (f : PortForm). f.channels) o) 0)
          (none_found (λ (f : PortForm). is_same_port f.port (record { node = n; port = port })) e.forms
          (λ i d m. false_from_ne_true (is_same_port (get_or e.forms i d).port (record { node = n; port = port })) (λ t.
          none_at port (get_or e.forms i d).rate (get_or e.forms i d).channels input
          (subst (Contains e.forms) (ap (λ (q : PortId). record {
            port = q;
            rate = (get_or e.forms i d).rate;
            channels = (get_or e.forms i d).channels;
          }) (same_port (get_or e.forms i d).port (record { node = n; port = port }) t)) (contains_at e.forms i (get_or e.forms i d) (slice_get-get_or e.forms i d m))))))

  -- nothing is received in a cycle in whose epoch the first input has no form
  module _ (k port : ℕ) (input : port < input_count (kind_at plan n))
      (none : (i : ℕ) (e : Epoch) (rate channels : ℕ) → slice_get plan.epochs i ≡ Some e → e.shape.first ≤ k → k < e.shape.first + e.shape.cycles
      → HasForm e (record { node = n; port = 0 }) rate channels → ⊥) (out : Outputs) where
    abbrev here : PortId
    here = record { node = n; port = port }

    empty : (links : List ShapeLink) (channels : ℕ) → links ≡ [] → channels ≡ 0
        → map clamped (fold summed (silence (plan.quantum * channels)) (map (λ l. brought plan out k l) links)) ≡ []
    empty links channels a b =
        ap₂ (λ (ls : List ShapeLink) (c : ℕ). map clamped (fold summed (silence c) (map (λ l. brought plan out k l) ls))) a
        (ap (λ (c : ℕ). plan.quantum * c) b ∙ (let z : plan.quantum * 0 ≡ 0 = omega arith in z))

    pub no_input : input_of plan out k (record { node = n; port = port }) ≡ []
    no_input = go (epoch_at plan k) refl where
      go : (o : Option Epoch) → epoch_at plan k ≡ o → input_of plan out k (record { node = n; port = port }) ≡ []
      go None d = empty (links_into plan k (record { node = n; port = port })) (channels_at plan k (record { node = n; port = port }))
          (ap (λ (o : Option Epoch). filter (λ (l : ShapeLink). is_same_port l.to (record { node = n; port = port })) (listed (λ e. e.shape.links) o)) d)
          (ap (λ (o : Option Epoch). channels_of (listed (λ e. e.forms) o) (record { node = n; port = port })) d)
      go (Some e) d = empty (links_into plan k (record { node = n; port = port })) (channels_at plan k (record { node = n; port = port }))
          (ap (λ (o : Option Epoch). filter (λ (l : ShapeLink). is_same_port l.to (record { node = n; port = port })) (listed (λ e. e.shape.links) o)) d
          ∙ no_links e is (λ rate channels. none w.0.0 e rate channels w.0.1 low high) port input)
          (ap (λ (o : Option Epoch). channels_of (listed (λ e. e.forms) o) (record { node = n; port = port })) d
          ∙ no_channels e is (λ rate channels. none w.0.0 e rate channels w.0.1 low high) port input)
        where
          w : ((i : ℕ) × (slice_get plan.epochs i ≡ Some e)) × (is_within e k ≡ true)
          w = found (λ (x : Epoch). (i : ℕ) × (slice_get plan.epochs i ≡ Some x)) (λ x. is_within x k) plan.epochs e
              (λ i x l. (i, slice_get-get_or plan.epochs i x l)) d

          both : (nat_le e.shape.first k ≡ true) × (nat_lt k (e.shape.first + e.shape.cycles) ≡ true)
          both = and_parts (nat_le e.shape.first k) (nat_lt k (e.shape.first + e.shape.cycles)) w.1

          low : e.shape.first ≤ k
          low = leb-true e.shape.first k both.0

          high : k < e.shape.first + e.shape.cycles
          high = ltb-true k (e.shape.first + e.shape.cycles) both.1

          is : IsSoundEpoch plan e
          is = (found (IsSoundEpoch plan) (λ x. is_within x k) plan.epochs e sound.epochs d).0

-- THE STREAMS
module _ (script : Script) (ranges : HasRanges script) (has : HasKinds script) (made : NamesMade 0 script.lines) (ports : List Node)
    (script_ports : AreScriptPorts script.lines ports) (waves : List WavIn) (start end : Graph) (starts : IsStart script.lines ports start)
    (follows : Follows waves start script.lines (Ok end)) (plan : Plan) (is : IsPlanOf script.names end plan) where
  sound : IsSoundPlan plan
  sound = is_sound script ranges has made ports script_ports waves start end starts follows plan is

  many : length plan.nodes ≡ length (kinds_of script.lines)
  many = is.count ∙ ap length (ends script ranges has made ports script_ports waves start end starts follows plan is).kinds_are

  -- before the first line
  module _ (cycle n : ℕ) (there : n < length plan.nodes) where
    none_before : (i : ℕ) (e : Epoch) → slice_get start.epochs i ≡ Some e → ⊥
    none_before i e at = none-some e (sym (ap (λ (es : List Epoch). slice_get es i) starts.epochs) ∙ at)

    zero_before : start_in plan cycle n start.epochs ≡ 0
    zero_before = ap (start_in plan cycle n) starts.epochs

    known_first : KnowsOf plan cycle n start 0
    known_first = record {
      below = omega (arith, zero_before);
      named = λ k f channels at w l. absurd (none_before k f at);
      telling = λ i e rate channels at has quiet. absurd (none_before i e at);
      made = λ i e rate channels at has. absurd (none_before i e at);
      state = inr (record {
        quiet = λ l. gave_first;
        before = omega arith;
        silent = λ i e rate channels k at low high from to has. absurd (none_before i e at);
      });
    } where
      gave_first : (standing start.nodes n).gave_up ≡ false
      gave_first = ap (λ (ns : List Standing). (standing ns n).gave_up) starts.nodes
          ∙ first_is (λ (s : Standing). s.gave_up) false (λ k. refl) refl (length (kinds_of script.lines)) n

    module _ (early : cycle < all_cycles plan) (inputs : 0 < input_count (kind_at plan n)) where
      ended : EndsKnown plan cycle n waves start script.lines 0 end
      ended = follows_known plan cycle n waves (kinds_of script.lines) script.lines 0 start end 0
          (first script ranges has made ports script_ports waves start end starts follows plan is) starts.kinds (omega (arith, there, many)) inputs many
          (kind_is script ranges has made ports script_ports waves start end starts follows plan is)
          (good script ranges has made ports script_ports waves start end starts follows plan is) known_first follows

      end_sound : EndsSound (kinds_of script.lines) end
      end_sound = ends script ranges has made ports script_ports waves start end starts follows plan is

      settled : Settles plan cycle n end.epochs end.first (standing end.nodes n).gave_up ended.begin
      settled = elim ended.known.state [
        | inr s ↦ s
        | inl p ↦
            let total = epoch_total 0 end.first end.epochs end_sound.sound.sums.follow in
            let all = ap (λ (es : List Epoch). sum_by (λ (e : Epoch). e.shape.cycles) es) is.epochs in
            let l = p.early in absurd (omega (arith, total, all, l, early))
      ]

      start_is : stream_start plan cycle n ≡ start_in plan cycle n end.epochs
      start_is = ap (start_in plan cycle n) is.epochs

      low : ended.begin ≤ stream_start plan cycle n
      low = let b = settled.before in omega (arith, b, start_is)

      same : (out : Outputs) (port : ℕ) → port < input_count (kind_at plan n)
          → stream_of plan out cycle (record { node = n; port = port }) ≡ stream_from plan out ended.begin cycle (record { node = n; port = port })
      same out port input =
          let high = start_le plan cycle n in
          let parts : cycle + 1 - ended.begin ≡ (s - ended.begin) + (cycle + 1 - s) = omega (arith, low, high) in
          let back : ended.begin + (s - ended.begin) ≡ s = omega (arith, low) in
          sym (ap (λ (m : ℕ). flat_map f (filter p (range_with_len ended.begin m))) parts
          ∙ (ap (λ (r : List ℕ). flat_map f (filter p r)) (range_split ended.begin (s - ended.begin) (cycle + 1 - s))
          ∙ (ap (λ (a : ℕ). flat_map f (filter p (range_with_len ended.begin (s - ended.begin) ++ range_with_len a (cycle + 1 - s)))) back
          ∙ (ap (flat_map f) (filter-append p (range_with_len ended.begin (s - ended.begin)) (range_with_len s (cycle + 1 - s)))
          ∙ (flat_map-append f (filter p (range_with_len ended.begin (s - ended.begin))) (filter p (range_with_len s (cycle + 1 - s)))
          ∙ ap (λ (x : List ℤ). x ++ flat_map f (filter p (range_with_len s (cycle + 1 - s))))
          (nothing_comes f p ended.begin (s - ended.begin) quiet))))))
        where
          s : ℕ
          s = stream_start plan cycle n

          f : ℕ → List ℤ
          f k = input_of plan out k (record { node = n; port = port })

          p : ℕ → Bool
          p k = is_active plan k n

          quiet : (k : ℕ) → ended.begin ≤ k → k < ended.begin + (stream_start plan cycle n - ended.begin)
              → input_of plan out k (record { node = n; port = port }) ≡ []
          quiet k from to = no_input plan sound n there k port input (λ i e rate channels at first_low last_high h.
              settled.silent i e rate channels k (ap (λ (es : List Epoch). slice_get es i) (sym is.epochs) ∙ at) from (omega (arith, to, low, start_is))
              first_low last_high h) out

      with_inputs : IsOfScript waves start script.lines script.names plan cycle n
      with_inputs = record { end = end; begin = ended.begin; leads = ended.leads; planned = is; same = same }

    of_script : cycle < all_cycles plan → IsOfScript waves start script.lines script.names plan cycle n
    of_script early = elim (cases_lt 0 (input_count (kind_at plan n))) [
      | inl inputs ↦ with_inputs early inputs
      | inr none ↦
          let leads = follows_leads plan cycle n waves script.lines start end 0 follows in record {
            end = end;
            begin = leads.0;
            leads = leads.1;
            planned = is;
            same = λ out port l. absurd (omega (arith, none, l));
          }
    ]

  pub streams_are : HasScriptStreams waves ports script.lines script.names plan
  streams_are = record { start = start; starts = starts; each = λ cycle n early there. of_script cycle n there early }

-- WHAT IS PLANNED
pub planned_streams : (script : Script) (ranges : HasRanges script) (has : HasKinds script) (made : NamesMade 0 script.lines) (ports : List Node)
    (script_ports : AreScriptPorts script.lines ports) (waves : List WavIn) (r : Result Plan PlanFault)
    → IsPlanned script.lines script.names waves ports r → IfOk r (HasScriptStreams waves ports script.lines script.names)
planned_streams script ranges has made ports script_ports waves (Ok plan) h =
    streams_are script ranges has made ports script_ports waves h.0 h.2.0 h.1 h.2.1 plan h.2.2
planned_streams script ranges has made ports script_ports waves (Err fault) h = tt
