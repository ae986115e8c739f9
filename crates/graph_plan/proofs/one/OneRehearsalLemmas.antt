-- A rehearsal keeps a sound graph sound, and means one thing: each line leaves one graph, so one list of links is made.
use Rattle.std.proofs.Common.{◌≡◌, inl, inr, ℕ, zero, suc, Bool, true, false, List, [], ◌∷◌, ◌++◌, length, map, drop}
use Rattle.std.proofs.Common.{refl, sym, ap, ◌∙◌, subst, arith}
use Rattle.std.specs.List.{range_with_len}
use Rattle.std.proofs.lemmas.Bool.{cases_lt, or_left}
use Rattle.std.proofs.lemmas.List.{get_or_past}
use Rattle.std.proofs.lemmas.List.FromFn.{length-map-range_with_len, get_or-map-range_with_len}
use Rattle.pw_graph.specs.declared.ids.PortId.{PortId}
use Rattle.pw_graph.specs.declared.kind.Kind.{Kind}
use Rattle.pw_lists.specs.declared.limit.Which.{Which}
use Rattle.pw_graph.specs.declared.plan.Epoch.{Epoch}
use Rattle.pw_graph.specs.declared.plan.LinkLine.{LinkLine}
use Rattle.wav_files.specs.declared.wav.WavIn.{WavIn}
use Rattle.graph_script.specs.declared.command.Command.{Command}
use Rattle.graph_script.specs.declared.command.Command.TheVariants as C
use Rattle.graph_script.specs.declared.script.Line.{Line}
use Rattle.graph_script.specs.Making.{grown}
use Rattle.port_model.specs.declared.port_state.Node.{Node}
use Rattle.link_negotiation.specs.declared.negotiation.Linked.{Linked}
use Rattle.link_negotiation.specs.declared.negotiation.Linked.TheVariants as L
use Rattle.link_negotiation.specs.Links.{LinkState}
use Rattle.link_negotiation.specs.LinkOutcome.{LeavesLink}
use Rattle.graph_lines.specs.declared.graph.Graph.{Graph}
use Rattle.graph_lines.specs.declared.graph.Stepped.{Stepped}
use Rattle.graph_lines.specs.declared.graph.Stepped.TheVariants as T
use Rattle.graph_lines.specs.declared.standing.Standing.{Standing}
use Rattle.graph_lines.specs.declared.wire.Wire.{Wire}
use Rattle.graph_lines.specs.Activity.{standing, nobody}
use Rattle.graph_lines.specs.EpochLines.{is_formed_sink}
use Rattle.graph_lines.specs.LinkLines.{IsRecorded}
use Rattle.graph_lines.specs.Lines.{Does}
use Rattle.graph_lines.specs.Rehearsal.{standing_past, gone_past, GoesPast, Rehearses, HasMade}
use Rattle.graph_plan.specs.working.Ahead.{is_run}
use Rattle.graph_plan.specs.working.Remembering.{CarriesOn}
use Rattle.graph_plan.specs.working.SoundGraph.{IsSoundGraph}
use Rattle.graph_plan.proofs.sound.CarriesOnLemmas.{rebuilt_sound}
use Rattle.graph_plan.proofs.one.OneEpochLemmas.{epoch_one, drain_one}
use Rattle.graph_plan.proofs.linked_parts.MovingLemmas.{does_steps, rehearses_does}
use Rattle.graph_plan.proofs.linked_parts.RehearsalLemmas.{rehearsal_kinds}
use Rattle.graph_plan.proofs.sound.StepLemmas.{IsGoodLine, AreGoodLines, good_first, good_rest, step_sound}
use Rattle.graph_plan.proofs.one.OneStepLemmas.{IsOneStep, step_one}

-- PAST AN EPOCH a sound graph is sound: nothing is noted, and a sink with frames keeps them
module _ (g : Graph) (e : Epoch) where
  abbrev row : List Standing
  row = map (standing_past g e) (range_with_len 0 (length g.nodes))

  row_long : length row ≡ length g.nodes
  row_long = length-map-range_with_len (standing_past g e) 0 (length g.nodes)

  -- in other respects what is said of a node stays
  row_same : {X : Type 0} (f : Standing → X) → ((n : ℕ) → f (standing_past g e n) ≡ f (standing g.nodes n)) → (n : ℕ)
      → f (standing row n) ≡ f (standing g.nodes n)
  row_same f same n = elim (cases_lt n (length g.nodes)) [
    | inl l ↦ ap f (get_or-map-range_with_len (standing_past g e) 0 (length g.nodes) n n nobody l (omega arith)) ∙ same n
    | inr past ↦ ap f (get_or_past row n nobody (omega (arith, past, row_long)) ∙ sym (get_or_past g.nodes n nobody past))
  ]

  row_kept : (n : ℕ) → (standing g.nodes n).kept ≡ true → (standing row n).kept ≡ true
  row_kept n h = elim (cases_lt n (length g.nodes)) [
    | inl l ↦ ap (λ (s : Standing). s.kept) (get_or-map-range_with_len (standing_past g e) 0 (length g.nodes) n n nobody l (omega arith))
        ∙ or_left (standing g.nodes n).kept (is_formed_sink g e n) h
    | inr past ↦ ap (λ (s : Standing). s.kept) (get_or_past row n nobody (omega (arith, past, row_long)) ∙ sym (get_or_past g.nodes n nobody past)) ∙ h
  ]

  row_on : (n : ℕ) → CarriesOn g.ports g.nodes g.ports row n
  row_on n = let gave = row_same (λ (s : Standing). s.gave_up) (λ m. refl) n in record {
    told = row_same (λ (s : Standing). s.told) (λ m. refl) n;
    there = λ h. row_same (λ (s : Standing). s.there) (λ m. refl) n ∙ h;
    kept = λ h. row_kept n h;
    quiet = λ h. sym gave ∙ h;
    stands = λ quiet port rate channels h. h;
    held = λ kept quiet. gave ∙ quiet;
  }

  pub past_sound : (count : ℕ) → IsSoundGraph count g → IsSoundGraph count (gone_past g e)
  past_sound count sound = rebuilt_sound count count g (gone_past g e) g.ports g.links g.wires row g.lines sound (record {
    sound = sound.ports;
    kinds = sound.kinds;
    many = row_long;
    made = record {
      within = let w = sound.made.within in omega (arith, w, row_long);
      there = λ n l. row_same (λ (s : Standing). s.there) (λ m. refl) n ∙ sound.made.there n l;
      wires_at = sound.made.wires_at;
      prior = λ n p h. sound.made.prior n p (sym (row_same (λ (s : Standing). s.priority) (λ m. refl) n) ∙ h);
    };
    wires_sound = sound.wires;
    wired = sound.wired;
    marks = sound.marks;
    marked = λ n. sound.marked n ∙ sym (row_same (λ (s : Standing). s.marked) (λ m. refl) n);
    order = sound.order;
    on = row_on;
    joins = sound.lines;
  }) refl

goes_sound : (count : ℕ) (g after : Graph) (n : ℕ) → IsSoundGraph count g → GoesPast g n after → IsSoundGraph count after
goes_sound count g after zero sound h = subst (IsSoundGraph count) (sym h) sound
goes_sound count g after (suc n) sound h = subst (IsSoundGraph count) (sym h.2) (past_sound g h.0 count sound)

-- A LINE that passes the limit of links changes nothing
passed_done : (which : Which) → T.Passed which ≡ T.Done → ⊥
passed_done which d = cc

same_four : (g after : Graph) → after.ports ≡ g.ports → after.links ≡ g.links → after.wires ≡ g.wires → after.lines ≡ g.lines
    → record g { ports = after.ports; links = after.links; wires = after.wires; lines = after.lines } ≡ g
same_four g after p l v n = ap (λ (x : List Node). record g { ports = x; links = after.links; wires = after.wires; lines = after.lines }) p
    ∙ (ap (λ (x : LinkState). record g { links = x; wires = after.wires; lines = after.lines }) l
    ∙ (ap (λ (x : List Wire). record g { wires = x; lines = after.lines }) v
    ∙ ap (λ (x : List LinkLine). record g { lines = x }) n))

link_many : (g after : Graph) (from to : PortId) (which : Which) (linked : Linked) → LeavesLink g.links g.ports from to linked after.links after.ports
    → IsRecorded g from to linked (T.Passed which) after
    → after ≡ record g { ports = after.ports; links = after.links; wires = after.wires; lines = after.lines } → after ≡ g
link_many g after from to which (L.Made format buffers) x h same = absurd (passed_done which h.0)
link_many g after from to which (L.NoFormat key) x h same = absurd (passed_done which h.0)
link_many g after from to which L.NoBuffers x h same = absurd (passed_done which h.0)
link_many g after from to which L.Twice x h same = absurd (passed_done which h.0)
link_many g after from to which L.Loop x h same = absurd (passed_done which h.0)
link_many g after from to which L.Many x h same = same ∙ same_four g after x.1 x.0 h.1 h.2

pub many_stays : (g after : Graph) (c : Command) (which : Which) → Does g c (T.Passed which) after → after ≡ g
many_stays g after (C.Quantum n) which h = absurd (passed_done which h.0)
many_stays g after (C.Source n file) which h = absurd (passed_done which h.0)
many_stays g after (C.Square n rate channels period amp) which h = absurd (passed_done which h.0)
many_stays g after (C.Gain n gain) which h = absurd (passed_done which h.0)
many_stays g after (C.Mix2 n ga gb) which h = absurd (passed_done which h.0)
many_stays g after (C.Delay n frames) which h = absurd (passed_done which h.0)
many_stays g after (C.Map n channels list) which h = absurd (passed_done which h.0)
many_stays g after (C.Split n) which h = absurd (passed_done which h.0)
many_stays g after (C.Sink n file) which h = absurd (passed_done which h.0)
many_stays g after (C.Meter n) which h = absurd (passed_done which h.0)
many_stays g after (C.Driver n p) which h = absurd (passed_done which h.0)
many_stays g after (C.Loop n k) which h = absurd (passed_done which h.0)
many_stays g after (C.Offer port file) which h = absurd (passed_done which h.0)
many_stays g after (C.Buffers port n) which h = absurd (passed_done which h.0)
many_stays g after (C.Link from to) which h = link_many g after from to which h.linked h.leaves h.noted h.same
many_stays g after (C.Unlink from to) which h = absurd (passed_done which h.0)
many_stays g after (C.On n) which h = absurd (passed_done which h.0)
many_stays g after (C.Off n) which h = absurd (passed_done which h.0)
many_stays g after (C.Async n) which h = absurd (passed_done which h.0)
many_stays g after (C.Cycles n) which h = absurd h
many_stays g after C.Drain which h = absurd h

many_grown : (g after : Graph) (c : Command) (which : Which) (count : ℕ) → Does g c (T.Passed which) after → grown count c ≡ count
many_grown g after (C.Quantum n) which count h = absurd (passed_done which h.0)
many_grown g after (C.Source n file) which count h = absurd (passed_done which h.0)
many_grown g after (C.Square n rate channels period amp) which count h = absurd (passed_done which h.0)
many_grown g after (C.Gain n gain) which count h = absurd (passed_done which h.0)
many_grown g after (C.Mix2 n ga gb) which count h = absurd (passed_done which h.0)
many_grown g after (C.Delay n frames) which count h = absurd (passed_done which h.0)
many_grown g after (C.Map n channels list) which count h = absurd (passed_done which h.0)
many_grown g after (C.Split n) which count h = absurd (passed_done which h.0)
many_grown g after (C.Sink n file) which count h = absurd (passed_done which h.0)
many_grown g after (C.Meter n) which count h = absurd (passed_done which h.0)
many_grown g after (C.Driver n p) which count h = absurd (passed_done which h.0)
many_grown g after (C.Loop n k) which count h = absurd (passed_done which h.0)
many_grown g after (C.Offer port file) which count h = absurd (passed_done which h.0)
many_grown g after (C.Buffers port n) which count h = absurd (passed_done which h.0)
many_grown g after (C.Link from to) which count h = refl
many_grown g after (C.Unlink from to) which count h = absurd (passed_done which h.0)
many_grown g after (C.On n) which count h = absurd (passed_done which h.0)
many_grown g after (C.Off n) which count h = absurd (passed_done which h.0)
many_grown g after (C.Async n) which count h = absurd (passed_done which h.0)
many_grown g after (C.Cycles n) which count h = absurd h
many_grown g after C.Drain which count h = absurd h

-- ANY LINE OF A REHEARSAL
module _ (waves : List WavIn) (count : ℕ) (g : Graph) (sound : IsSoundGraph count g) where
  does_sound : (c : Command) (s : Stepped) (after : Graph) → is_run c ≡ false → IsGoodLine count g.kinds c → Does g c s after
      → IsSoundGraph (grown count c) after
  does_sound c T.Done after run l h = step_sound waves count g after c sound l (does_steps waves g c T.Done after run h)
  does_sound c (T.Passed which) after run l h = subst (λ (n : ℕ). IsSoundGraph n after) (sym (many_grown g after c which count h))
      (subst (IsSoundGraph count) (sym (many_stays g after c which h)) sound)

  pub does_one : (c : Command) (s t : Stepped) (a b : Graph) → is_run c ≡ false → IsGoodLine count g.kinds c → Does g c s a → Does g c t b
      → (s ≡ t) × (a ≡ b)
  does_one c s t a b run l h k = (one.0, go s t one.0 h k one.1) where
    one : IsOneStep s t a b
    one = step_one count g sound waves c l s t a b (does_steps waves g c s a run h) (does_steps waves g c t b run k)

    go : (s t : Stepped) → s ≡ t → Does g c s a → Does g c t b → (s ≡ T.Done → a ≡ b) → a ≡ b
    go T.Done t e h k f = f refl
    go (T.Passed which) T.Done e h k f = absurd (passed_done which e)
    go (T.Passed which) (T.Passed other) e h k f = many_stays g a c which h ∙ sym (many_stays g b c other k)

  past_one : (n : ℕ) (a b : Graph) → GoesPast g n a → GoesPast g n b → a ≡ b
  past_one zero a b h k = h ∙ sym k
  past_one (suc n) a b h k = h.2 ∙ (ap (gone_past g) (epoch_one count g sound (suc n) h.0 k.0 h.1 k.1) ∙ sym k.2)

  run_sound : (c : Command) (r : Bool) → is_run c ≡ r → (s : Stepped) (after : Graph) → IsGoodLine count g.kinds c → Rehearses waves g c s after
      → IsSoundGraph (grown count c) after
  run_sound c false run s after l h = does_sound c s after run l (rehearses_does waves g c s after run h)
  run_sound (C.Quantum n) true run s after l h = absurd (cc run)
  run_sound (C.Source n file) true run s after l h = absurd (cc run)
  run_sound (C.Square n rate channels period amp) true run s after l h = absurd (cc run)
  run_sound (C.Gain n gain) true run s after l h = absurd (cc run)
  run_sound (C.Mix2 n ga gb) true run s after l h = absurd (cc run)
  run_sound (C.Delay n frames) true run s after l h = absurd (cc run)
  run_sound (C.Map n channels list) true run s after l h = absurd (cc run)
  run_sound (C.Split n) true run s after l h = absurd (cc run)
  run_sound (C.Sink n file) true run s after l h = absurd (cc run)
  run_sound (C.Meter n) true run s after l h = absurd (cc run)
  run_sound (C.Driver n p) true run s after l h = absurd (cc run)
  run_sound (C.Loop n k) true run s after l h = absurd (cc run)
  run_sound (C.Offer port file) true run s after l h = absurd (cc run)
  run_sound (C.Buffers port n) true run s after l h = absurd (cc run)
  run_sound (C.Link from to) true run s after l h = absurd (cc run)
  run_sound (C.Unlink from to) true run s after l h = absurd (cc run)
  run_sound (C.On n) true run s after l h = absurd (cc run)
  run_sound (C.Off n) true run s after l h = absurd (cc run)
  run_sound (C.Async n) true run s after l h = absurd (cc run)
  run_sound (C.Cycles n) true run s after l h = goes_sound count g after n sound h.1
  run_sound C.Drain true run s after l h = goes_sound count g after h.1.0 sound h.1.2

  pub rehearses_sound : (c : Command) (s : Stepped) (after : Graph) → IsGoodLine count g.kinds c → Rehearses waves g c s after
      → IsSoundGraph (grown count c) after
  rehearses_sound c s after l h = run_sound c (is_run c) refl s after l h

  run_one : (c : Command) (r : Bool) → is_run c ≡ r → (s t : Stepped) (a b : Graph) → IsGoodLine count g.kinds c → Rehearses waves g c s a
      → Rehearses waves g c t b → (s ≡ t) × (a ≡ b)
  run_one c false run s t a b l h k = does_one c s t a b run l (rehearses_does waves g c s a run h) (rehearses_does waves g c t b run k)
  run_one (C.Quantum n) true run s t a b l h k = absurd (cc run)
  run_one (C.Source n file) true run s t a b l h k = absurd (cc run)
  run_one (C.Square n rate channels period amp) true run s t a b l h k = absurd (cc run)
  run_one (C.Gain n gain) true run s t a b l h k = absurd (cc run)
  run_one (C.Mix2 n ga gb) true run s t a b l h k = absurd (cc run)
  run_one (C.Delay n frames) true run s t a b l h k = absurd (cc run)
  run_one (C.Map n channels list) true run s t a b l h k = absurd (cc run)
  run_one (C.Split n) true run s t a b l h k = absurd (cc run)
  run_one (C.Sink n file) true run s t a b l h k = absurd (cc run)
  run_one (C.Meter n) true run s t a b l h k = absurd (cc run)
  run_one (C.Driver n p) true run s t a b l h k = absurd (cc run)
  run_one (C.Loop n i) true run s t a b l h k = absurd (cc run)
  run_one (C.Offer port file) true run s t a b l h k = absurd (cc run)
  run_one (C.Buffers port n) true run s t a b l h k = absurd (cc run)
  run_one (C.Link from to) true run s t a b l h k = absurd (cc run)
  run_one (C.Unlink from to) true run s t a b l h k = absurd (cc run)
  run_one (C.On n) true run s t a b l h k = absurd (cc run)
  run_one (C.Off n) true run s t a b l h k = absurd (cc run)
  run_one (C.Async n) true run s t a b l h k = absurd (cc run)
  run_one (C.Cycles n) true run s t a b l h k = (h.0 ∙ sym k.0, past_one n a b h.1 k.1)
  run_one C.Drain true run s t a b l h k = let same = drain_one count g sound waves k.1.0 h.1.0 k.1.1 h.1.1 in
      (h.0 ∙ sym k.0, past_one h.1.0 a b h.1.2 (subst (λ (n : ℕ). GoesPast g n b) same k.1.2))

  pub rehearses_one : (c : Command) (s t : Stepped) (a b : Graph) → IsGoodLine count g.kinds c → Rehearses waves g c s a → Rehearses waves g c t b
      → (s ≡ t) × (a ≡ b)
  rehearses_one c s t a b l h k = run_one c (is_run c) refl s t a b l h k

-- ALL LINES make one list of links
pub made_one : (waves : List WavIn) (kinds : List Kind) (lines : List Line) (count : ℕ) (g : Graph) → IsSoundGraph count g → g.kinds ≡ kinds
    → AreGoodLines count kinds lines → (x y : List Wire) → HasMade waves g lines x → HasMade waves g lines y → x ≡ y
made_one waves kinds [] count g sound same good x y h k = h ∙ sym k
made_one waves kinds (l ∷ ls) count g sound same good x y h k =
    let line = subst (λ (ks : List Kind). IsGoodLine count ks l.command) (sym same) (good_first count kinds l ls good) in
    let one = (rehearses_one waves count g sound l.command h.0 k.0 h.1 k.1 line h.3 k.3).1 in
    let later : h.2 ≡ k.2 = made_one waves kinds ls (grown count l.command) h.1 (rehearses_sound waves count g sound l.command h.0 h.1 line h.3)
    (rehearsal_kinds waves g h.1 l.command h.0 h.3 ∙ same) (good_rest count kinds l ls good) h.2 k.2 h.4
    (subst (λ (z : Graph). HasMade waves z ls k.2) (sym one) k.4) in
    h.5 ∙ (ap (λ (z : Graph). drop (length g.wires) z.wires ++ h.2) one ∙ (ap (λ (ws : List Wire). drop (length g.wires) k.1.wires ++ ws) later ∙ sym k.5))
