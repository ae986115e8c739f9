-- The parts of a script have one meaning: two answers that are not out of memory are the same.
use Rattle.std.proofs.Common.{◌≡◌, inl, inr, ℕ, zero, suc, ◌+◌, ◌<◌, Bool, true, false, List, [], ◌∷◌, ◌++◌, length, map, get_or}
use Rattle.std.proofs.Common.{Option, Some, None, refl, sym, ap, ap₂, ◌∙◌, subst, arith}
use Rattle.std.specs.Prelude.{All, Result, Ok, Err, sum_by}
use Rattle.std.specs.List.{AllZip}
use Rattle.std.specs.Option.{option_map_or}
use Rattle.std.proofs.lemmas.List.Elements.{All-nil, All-cons, All-head, All-tail}
use Rattle.std.proofs.lemmas.List.Sums.{sum_by-cons}
use Rattle.std.proofs.lemmas.Option.{none-some}
use Rattle.pw_graph.specs.declared.kind.Kind.{Kind}
use Rattle.pw_lists.specs.declared.limit.Which.{Which}
use Rattle.pw_lists.specs.declared.limit.Which.TheVariants as W
use Rattle.pw_graph.specs.declared.parts.Part.{Part}
use Rattle.pw_graph.specs.declared.parts.Parts.{Parts}
use Rattle.pw_graph.specs.declared.plan.Epoch.{Epoch}
use Rattle.pw_graph.specs.declared.plan.LinkLine.{LinkLine}
use Rattle.pw_graph.specs.declared.plan.Plan.{Plan}
use Rattle.wav_files.specs.declared.wav.WavIn.{WavIn}
use Rattle.graph_script.specs.declared.command.Command.{Command}
use Rattle.graph_script.specs.declared.command.Command.TheVariants as C
use Rattle.graph_script.specs.declared.script.Line.{Line}
use Rattle.graph_script.specs.declared.script.Script.{Script}
use Rattle.graph_script.specs.Kinds.{HasKinds}
use Rattle.graph_script.specs.Making.{NamesMade, grown}
use Rattle.graph_script.specs.Ranges.{HasRanges}
use Rattle.port_model.specs.declared.port_state.Node.{Node}
use Rattle.graph_lines.specs.declared.graph.Graph.{Graph}
use Rattle.graph_lines.specs.declared.graph.Stepped.{Stepped}
use Rattle.graph_lines.specs.declared.graph.Stepped.TheVariants as T
use Rattle.graph_lines.specs.declared.limits.Sums.{Sums}
use Rattle.graph_lines.specs.declared.wire.Wire.{Wire}
use Rattle.graph_lines.specs.EpochLines.{IsAfter}
use Rattle.graph_lines.specs.Lines.{Does}
use Rattle.graph_lines.specs.Rehearsal.{Rehearses, HasMade}
use Rattle.graph_lines.specs.Start.{kinds_of, IsStart}
use Rattle.graph_lines.specs.Sums.{passed}
use Rattle.graph_lines.specs.Upcoming.{IsEpochFor}
use Rattle.graph_lines.proofs.SumLemmas.{passes_none}
use Rattle.graph_plan.specs.declared.fault.PlanFault.{PlanFault}
use Rattle.graph_plan.specs.declared.fault.PlanFault.TheVariants as F
use Rattle.graph_plan.specs.declared.member.Member.{Member}
use Rattle.graph_plan.specs.declared.together.Together.{Together}
use Rattle.graph_plan.specs.working.Ahead.{is_run}
use Rattle.graph_plan.specs.Conditions.{AreScriptPorts}
use Rattle.graph_plan.specs.Moving.{RunsOn, MovesOn, MovesIf, Moves, Makes, MakesIf, MakesOf, own_sums, all_sums, total}
use Rattle.graph_plan.specs.PartLines.{is_line_of}
use Rattle.graph_plan.specs.Parted.{begun, IsBegun, IsPartOfMember, ArePartsOf, IsPartsAnswer, IsParted}
use Rattle.graph_plan.specs.Parts.{AreParts, IsPartition}
use Rattle.graph_plan.specs.working.SoundGraph.{IsSoundGraph}
use Rattle.graph_plan.specs.Together.{noted, GoesOn, HasManyIn, HasMany, HasSums, Passes, FollowTogether}
use Rattle.graph_plan.proofs.linked_parts.AheadLemmas.{first_within}
use Rattle.graph_plan.proofs.one.OneEpochLemmas.{epoch_one, drain_one, after_one}
use Rattle.graph_plan.proofs.linked_parts.MovingLemmas.{moves_does, makes_none, does_sums, moves_kinds}
use Rattle.graph_plan.proofs.linked_parts.PartLinesLemmas.{makes_none_of}
use Rattle.graph_plan.proofs.one.OnePartitionLemmas.{parts_one}
use Rattle.graph_plan.proofs.one.OnePlanLemmas.{plan_one, start_one}
use Rattle.graph_plan.proofs.linked_parts.RehearsalLemmas.{rehearsal_kinds}
use Rattle.graph_plan.proofs.one.OneRehearsalLemmas.{does_one, rehearses_sound, rehearses_one, made_one}
use Rattle.graph_plan.proofs.PlannedLemmas.{lines_are}
use Rattle.graph_plan.proofs.sound.StartLemmas.{first_sound}
use Rattle.graph_plan.proofs.sound.StepLemmas.{IsGoodLine, AreGoodLines, good_first, good_rest, step_sound}
use Rattle.graph_plan.proofs.linked_parts.TogetherLemmas.{steps_from}

-- a line that may pass the limit of links runs nothing
passed_not_done : (which : Which) → T.Passed which ≡ T.Done → ⊥
passed_not_done which d = cc

does_not_run : (g after : Graph) (c : Command) (st : Stepped) → Does g c st after → is_run c ≡ false
does_not_run g after (C.Quantum n) st h = refl
does_not_run g after (C.Source n file) st h = refl
does_not_run g after (C.Square n rate channels period amp) st h = refl
does_not_run g after (C.Gain n gain) st h = refl
does_not_run g after (C.Mix2 n ga gb) st h = refl
does_not_run g after (C.Delay n frames) st h = refl
does_not_run g after (C.Map n channels list) st h = refl
does_not_run g after (C.Split n) st h = refl
does_not_run g after (C.Sink n file) st h = refl
does_not_run g after (C.Meter n) st h = refl
does_not_run g after (C.Driver n p) st h = refl
does_not_run g after (C.Loop n k) st h = refl
does_not_run g after (C.Offer port file) st h = refl
does_not_run g after (C.Buffers port n) st h = refl
does_not_run g after (C.Link from to) st h = refl
does_not_run g after (C.Unlink from to) st h = refl
does_not_run g after (C.On n) st h = refl
does_not_run g after (C.Off n) st h = refl
does_not_run g after (C.Async n) st h = refl
does_not_run g after (C.Cycles n) st h = absurd h
does_not_run g after C.Drain st h = absurd h

module _ (waves : List WavIn) where
  rehearses_not_run : (g after : Graph) (c : Command) (which : Which) → Rehearses waves g c (T.Passed which) after → is_run c ≡ false
  rehearses_not_run g after (C.Quantum n) which h = refl
  rehearses_not_run g after (C.Source n file) which h = refl
  rehearses_not_run g after (C.Square n rate channels period amp) which h = refl
  rehearses_not_run g after (C.Gain n gain) which h = refl
  rehearses_not_run g after (C.Mix2 n ga gb) which h = refl
  rehearses_not_run g after (C.Delay n frames) which h = refl
  rehearses_not_run g after (C.Map n channels list) which h = refl
  rehearses_not_run g after (C.Split n) which h = refl
  rehearses_not_run g after (C.Sink n file) which h = refl
  rehearses_not_run g after (C.Meter n) which h = refl
  rehearses_not_run g after (C.Driver n p) which h = refl
  rehearses_not_run g after (C.Loop n k) which h = refl
  rehearses_not_run g after (C.Offer port file) which h = refl
  rehearses_not_run g after (C.Buffers port n) which h = refl
  rehearses_not_run g after (C.Link from to) which h = refl
  rehearses_not_run g after (C.Unlink from to) which h = refl
  rehearses_not_run g after (C.On n) which h = refl
  rehearses_not_run g after (C.Off n) which h = refl
  rehearses_not_run g after (C.Async n) which h = refl
  rehearses_not_run g after (C.Cycles n) which h = absurd (passed_not_done which h.0)
  rehearses_not_run g after C.Drain which h = absurd (passed_not_done which h.0)

-- ONE PART
module _ (waves : List WavIn) (count : ℕ) (g : Graph) (sound : IsSoundGraph count g) where
  runs_one : (n : ℕ) (a b : Graph) → RunsOn g n a → RunsOn g n b → a ≡ b
  runs_one zero a b h k = h ∙ sym k
  runs_one (suc n) a b h k = after_one count g sound h.0 a b h.2
      (subst (λ (e : Epoch). IsAfter g e b) (sym (epoch_one count g sound (suc n) h.0 k.0 h.1 k.1)) k.2)

  for_one : (n : ℕ) (d e : Option Epoch) → IsEpochFor g n d → IsEpochFor g n e → d ≡ e
  for_one zero d e h k = h ∙ sym k
  for_one (suc n) d e h k = h.2 ∙ (ap (λ (x : Epoch). Some x) (epoch_one count g sound (suc n) h.0 k.0 h.1 k.1) ∙ sym k.2)

  -- the sums after a run are those with its epoch
  for_sums : (nodes : List ℕ) (n : ℕ) (after : Graph) (made : Option Epoch) → RunsOn g n after → IsEpochFor g n made
      → after.sums ≡ own_sums (record { nodes = nodes; graph = g }) made
  for_sums nodes zero after made h k = ap (λ (x : Graph). x.sums) h ∙ sym (ap (own_sums (record { nodes = nodes; graph = g })) k)
  for_sums nodes (suc n) after made h k = ap (λ (x : Graph). x.sums) h.2.same
      ∙ (ap (λ (e : Epoch). own_sums (record { nodes = nodes; graph = g }) (Some e)) (epoch_one count g sound (suc n) h.0 k.0 h.1 k.1)
      ∙ sym (ap (own_sums (record { nodes = nodes; graph = g })) k.2))

  on_one : (c : Command) (r : Bool) → is_run c ≡ r → (a b : Graph) → IsGoodLine count g.kinds c → MovesOn waves g c a → MovesOn waves g c b → a ≡ b
  on_one c false run a b l h k = (does_one waves count g sound c T.Done T.Done a b run l (moves_does waves g c a run h) (moves_does waves g c b run k)).1
  on_one (C.Quantum n) true run a b l h k = absurd (cc run)
  on_one (C.Source n file) true run a b l h k = absurd (cc run)
  on_one (C.Square n rate channels period amp) true run a b l h k = absurd (cc run)
  on_one (C.Gain n gain) true run a b l h k = absurd (cc run)
  on_one (C.Mix2 n ga gb) true run a b l h k = absurd (cc run)
  on_one (C.Delay n frames) true run a b l h k = absurd (cc run)
  on_one (C.Map n channels list) true run a b l h k = absurd (cc run)
  on_one (C.Split n) true run a b l h k = absurd (cc run)
  on_one (C.Sink n file) true run a b l h k = absurd (cc run)
  on_one (C.Meter n) true run a b l h k = absurd (cc run)
  on_one (C.Driver n p) true run a b l h k = absurd (cc run)
  on_one (C.Loop n i) true run a b l h k = absurd (cc run)
  on_one (C.Offer port file) true run a b l h k = absurd (cc run)
  on_one (C.Buffers port n) true run a b l h k = absurd (cc run)
  on_one (C.Link from to) true run a b l h k = absurd (cc run)
  on_one (C.Unlink from to) true run a b l h k = absurd (cc run)
  on_one (C.On n) true run a b l h k = absurd (cc run)
  on_one (C.Off n) true run a b l h k = absurd (cc run)
  on_one (C.Async n) true run a b l h k = absurd (cc run)
  on_one (C.Cycles n) true run a b l h k = runs_one n a b h k
  on_one C.Drain true run a b l h k = let same = drain_one count g sound waves k.0 h.0 k.1 h.1 in runs_one h.0 a b h.2 (subst (λ (n : ℕ). RunsOn g n b) same k.2)

  made_on : (c : Command) (r : Bool) → is_run c ≡ r → (d e : Option Epoch) → Makes waves g c d → Makes waves g c e → d ≡ e
  made_on c false run d e h k = makes_none waves g c d run h ∙ sym (makes_none waves g c e run k)
  made_on (C.Quantum n) true run d e h k = absurd (cc run)
  made_on (C.Source n file) true run d e h k = absurd (cc run)
  made_on (C.Square n rate channels period amp) true run d e h k = absurd (cc run)
  made_on (C.Gain n gain) true run d e h k = absurd (cc run)
  made_on (C.Mix2 n ga gb) true run d e h k = absurd (cc run)
  made_on (C.Delay n frames) true run d e h k = absurd (cc run)
  made_on (C.Map n channels list) true run d e h k = absurd (cc run)
  made_on (C.Split n) true run d e h k = absurd (cc run)
  made_on (C.Sink n file) true run d e h k = absurd (cc run)
  made_on (C.Meter n) true run d e h k = absurd (cc run)
  made_on (C.Driver n p) true run d e h k = absurd (cc run)
  made_on (C.Loop n i) true run d e h k = absurd (cc run)
  made_on (C.Offer port file) true run d e h k = absurd (cc run)
  made_on (C.Buffers port n) true run d e h k = absurd (cc run)
  made_on (C.Link from to) true run d e h k = absurd (cc run)
  made_on (C.Unlink from to) true run d e h k = absurd (cc run)
  made_on (C.On n) true run d e h k = absurd (cc run)
  made_on (C.Off n) true run d e h k = absurd (cc run)
  made_on (C.Async n) true run d e h k = absurd (cc run)
  made_on (C.Cycles n) true run d e h k = for_one n d e h k
  made_on C.Drain true run d e h k = let same = drain_one count g sound waves k.0 h.0 k.1 h.1 in for_one h.0 d e h.2 (subst (λ (n : ℕ). IsEpochFor g n e) same k.2)

  on_sums : (nodes : List ℕ) (c : Command) (r : Bool) → is_run c ≡ r → (after : Graph) (made : Option Epoch) → MovesOn waves g c after → Makes waves g c made
      → after.sums ≡ own_sums (record { nodes = nodes; graph = g }) made
  on_sums nodes c false run after made h k = does_sums g after c (moves_does waves g c after run h)
      ∙ sym (ap (own_sums (record { nodes = nodes; graph = g })) (makes_none waves g c made run k))
  on_sums nodes (C.Quantum n) true run after made h k = absurd (cc run)
  on_sums nodes (C.Source n file) true run after made h k = absurd (cc run)
  on_sums nodes (C.Square n rate channels period amp) true run after made h k = absurd (cc run)
  on_sums nodes (C.Gain n gain) true run after made h k = absurd (cc run)
  on_sums nodes (C.Mix2 n ga gb) true run after made h k = absurd (cc run)
  on_sums nodes (C.Delay n frames) true run after made h k = absurd (cc run)
  on_sums nodes (C.Map n channels list) true run after made h k = absurd (cc run)
  on_sums nodes (C.Split n) true run after made h k = absurd (cc run)
  on_sums nodes (C.Sink n file) true run after made h k = absurd (cc run)
  on_sums nodes (C.Meter n) true run after made h k = absurd (cc run)
  on_sums nodes (C.Driver n p) true run after made h k = absurd (cc run)
  on_sums nodes (C.Loop n i) true run after made h k = absurd (cc run)
  on_sums nodes (C.Offer port file) true run after made h k = absurd (cc run)
  on_sums nodes (C.Buffers port n) true run after made h k = absurd (cc run)
  on_sums nodes (C.Link from to) true run after made h k = absurd (cc run)
  on_sums nodes (C.Unlink from to) true run after made h k = absurd (cc run)
  on_sums nodes (C.On n) true run after made h k = absurd (cc run)
  on_sums nodes (C.Off n) true run after made h k = absurd (cc run)
  on_sums nodes (C.Async n) true run after made h k = absurd (cc run)
  on_sums nodes (C.Cycles n) true run after made h k = for_sums nodes n after made h k
  on_sums nodes C.Drain true run after made h k = let same = drain_one count g sound waves k.0 h.0 k.1 h.1 in for_sums nodes h.0 after made h.2 (subst (λ (n : ℕ). IsEpochFor g n made) same k.2)

-- a part whose graph is sound
pub record IsSoundMember (count : ℕ) (kinds : List Kind) (m : Member) : Type 0 where
  pub sound : IsSoundGraph count m.graph
  pub kinds_are : m.graph.kinds ≡ kinds

module _ (waves : List WavIn) (count : ℕ) (kinds : List Kind) (l : Line) (good : IsGoodLine count kinds l.command) where
  good_here : (m : Member) → IsSoundMember count kinds m → IsGoodLine count m.graph.kinds l.command
  good_here m s = subst (λ (ks : List Kind). IsGoodLine count ks l.command) (sym s.kinds_are) good

  moves_one : (m a b : Member) → IsSoundMember count kinds m → Moves waves l m a → Moves waves l m b → a ≡ b
  moves_one m a b s h k = ap (λ (ns : List ℕ). record a { nodes = ns }) (h.0 ∙ sym k.0)
      ∙ ap (λ (g : Graph). record b { graph = g }) (go (is_line_of m.nodes l) h.1 k.1) where
        go : (x : Bool) → MovesIf x waves m.graph l.command a.graph → MovesIf x waves m.graph l.command b.graph → a.graph ≡ b.graph
        go true p q = on_one waves count m.graph s.sound l.command (is_run l.command) refl a.graph b.graph (good_here m s) p q
        go false p q = p ∙ sym q

  epochs_one : (m : Member) (d e : Option Epoch) → IsSoundMember count kinds m → MakesOf waves l m d → MakesOf waves l m e → d ≡ e
  epochs_one m d e s h k = go (is_line_of m.nodes l) h k where
    go : (x : Bool) → MakesIf x waves m.graph l.command d → MakesIf x waves m.graph l.command e → d ≡ e
    go true p q = made_on waves count m.graph s.sound l.command (is_run l.command) refl d e p q
    go false p q = p ∙ sym q

  sums_one : (m after : Member) (made : Option Epoch) → IsSoundMember count kinds m → Moves waves l m after → MakesOf waves l m made
      → after.graph.sums ≡ own_sums m made
  sums_one m after made s h k = go (is_line_of m.nodes l) h.1 k where
    go : (x : Bool) → MovesIf x waves m.graph l.command after.graph → MakesIf x waves m.graph l.command made → after.graph.sums ≡ own_sums m made
    go true p q = on_sums waves count m.graph s.sound m.nodes l.command (is_run l.command) refl after.graph made p q
    go false p q = ap (λ (g : Graph). g.sums) p ∙ sym (ap (own_sums m) q)

  -- it stays sound
  moves_sound : (m after : Member) → IsSoundMember count kinds m → Moves waves l m after → passed after.graph.sums ≡ None
      → IsSoundMember (grown count l.command) kinds after
  moves_sound m after s h none = record {
    sound = go (is_line_of m.nodes l) refl h.1;
    kinds_are = moves_kinds waves l m after h ∙ s.kinds_are;
  } where
    go : (x : Bool) → is_line_of m.nodes l ≡ x → MovesIf x waves m.graph l.command after.graph → IsSoundGraph (grown count l.command) after.graph
    go true is p = step_sound waves count m.graph after.graph l.command s.sound (good_here m s) (steps_from waves m.graph l.command after.graph p none)
    go false is p = subst (λ (n : ℕ). IsSoundGraph n after.graph)
        (sym (ap (λ (o : Option (ℕ × Kind)). option_map_or (λ x. x.0 + 1) o count) (makes_none_of m.nodes l is)))
        (subst (IsSoundGraph count) (sym p) s.sound)

  -- ALL PARTS
  all_one : (ms xs ys : List Member) → All (IsSoundMember count kinds) ms → AllZip (Moves waves l) ms xs → AllZip (Moves waves l) ms ys → xs ≡ ys
  all_one [] [] [] s h k = refl
  all_one [] [] (y ∷ ys) s h k = absurd k
  all_one [] (x ∷ xs) ys s h k = absurd h
  all_one (m ∷ ms) [] ys s h k = absurd h
  all_one (m ∷ ms) (x ∷ xs) [] s h k = absurd k
  all_one (m ∷ ms) (x ∷ xs) (y ∷ ys) s h k = ap₂ (λ (a : Member) (cs : List Member). a ∷ cs) (moves_one m x y (All-head (IsSoundMember count kinds) m ms s) h.0 k.0)
      (all_one ms xs ys (All-tail (IsSoundMember count kinds) m ms s) h.1 k.1)

  all_epochs_one : (ms : List Member) (ds es : List (Option Epoch)) → All (IsSoundMember count kinds) ms → AllZip (MakesOf waves l) ms ds
      → AllZip (MakesOf waves l) ms es → ds ≡ es
  all_epochs_one [] [] [] s h k = refl
  all_epochs_one [] [] (e ∷ es) s h k = absurd k
  all_epochs_one [] (d ∷ ds) es s h k = absurd h
  all_epochs_one (m ∷ ms) [] es s h k = absurd h
  all_epochs_one (m ∷ ms) (d ∷ ds) [] s h k = absurd k
  all_epochs_one (m ∷ ms) (d ∷ ds) (e ∷ es) s h k = ap₂ (λ (a : Option Epoch) (cs : List (Option Epoch)). a ∷ cs)
      (epochs_one m d e (All-head (IsSoundMember count kinds) m ms s) h.0 k.0) (all_epochs_one ms ds es (All-tail (IsSoundMember count kinds) m ms s) h.1 k.1)

  all_sums_one : (ms ns : List Member) (es : List (Option Epoch)) → All (IsSoundMember count kinds) ms → AllZip (Moves waves l) ms ns
      → AllZip (MakesOf waves l) ms es → map (λ (m : Member). m.graph.sums) ns ≡ all_sums ms es
  all_sums_one [] [] [] s h k = refl
  all_sums_one [] [] (e ∷ es) s h k = absurd k
  all_sums_one [] (n ∷ ns) es s h k = absurd h
  all_sums_one (m ∷ ms) [] es s h k = absurd h
  all_sums_one (m ∷ ms) (n ∷ ns) [] s h k = absurd k
  all_sums_one (m ∷ ms) (n ∷ ns) (e ∷ es) s h k = ap₂ (λ (a : Sums) (cs : List Sums). a ∷ cs)
      (sums_one m n e (All-head (IsSoundMember count kinds) m ms s) h.0 k.0) (all_sums_one ms ns es (All-tail (IsSoundMember count kinds) m ms s) h.1 k.1)

  all_sound : (ms ns : List Member) → All (IsSoundMember count kinds) ms → AllZip (Moves waves l) ms ns
      → passed (total (map (λ (m : Member). m.graph.sums) ns)) ≡ None → All (IsSoundMember (grown count l.command) kinds) ns
  all_sound [] [] s h none = All-nil (IsSoundMember (grown count l.command) kinds)
  all_sound [] (n ∷ ns) s h none = absurd h
  all_sound (m ∷ ms) [] s h none = absurd h
  all_sound (m ∷ ms) (n ∷ ns) s h none = let two = first_within n.graph.sums (map (λ (x : Member). x.graph.sums) ns) none in
      All-cons (IsSoundMember (grown count l.command) kinds) n ns (moves_sound m n (All-head (IsSoundMember count kinds) m ms s) h.0 two.0)
      (all_sound ms ns (All-tail (IsSoundMember count kinds) m ms s) h.1 two.1)

  -- a line that runs nothing adds nothing
  no_epochs : is_run l.command ≡ false → (ms : List Member) (es : List (Option Epoch)) → AllZip (MakesOf waves l) ms es
      → all_sums ms es ≡ map (λ (m : Member). m.graph.sums) ms
  no_epochs run [] [] h = refl
  no_epochs run [] (e ∷ es) h = absurd h
  no_epochs run (m ∷ ms) [] h = absurd h
  no_epochs run (m ∷ ms) (e ∷ es) h = ap₂ (λ (a : Sums) (cs : List Sums). a ∷ cs) (ap (own_sums m) (none (is_line_of m.nodes l) h.0)) (no_epochs run ms es h.1) where
    none : (x : Bool) → MakesIf x waves m.graph l.command e → e ≡ None
    none true p = makes_none waves m.graph l.command e run p
    none false p = p

  -- a part that has 256 links has not moved
  many_moved : (ms ns : List Member) → All (IsSoundMember count kinds) ms → AllZip (Moves waves l) ms ns → HasManyIn ms l → ⊥
  many_moved ms ns s h many = go ms ns s h many.there.0 many.there.1 many.there.2 where
    here : (x n : Member) → IsSoundMember count kinds x → x ≡ many.member → Moves waves l x n → ⊥
    here x n sx e mv =
        let does = subst (λ (y : Member). Does y.graph l.command (T.Passed W.Links) many.after) (sym e) many.passes in
        let run = does_not_run x.graph many.after l.command (T.Passed W.Links) does in
        let line_of : is_line_of x.nodes l ≡ true = ap (λ (y : Member). is_line_of y.nodes l) e ∙ many.line_of in
        let on = subst (λ (b : Bool). MovesIf b waves x.graph l.command n.graph) line_of mv.1 in
        passed_not_done W.Links (does_one waves count x.graph sx.sound l.command (T.Passed W.Links) T.Done many.after n.graph run (good_here x sx) does
        (moves_does waves x.graph l.command n.graph run on)).0

    go : (xs ys : List Member) → All (IsSoundMember count kinds) xs → AllZip (Moves waves l) xs ys → (k : ℕ) → k < length xs
        → get_or xs k many.member ≡ many.member → ⊥
    go [] ys sx hx k low e = omega (arith, low)
    go (x ∷ xs) [] sx hx k low e = hx
    go (x ∷ xs) (y ∷ ys) sx hx zero low e = here x y (All-head (IsSoundMember count kinds) x xs sx) e hx.0
    go (x ∷ xs) (y ∷ ys) sx hx (suc k) low e = go xs ys (All-tail (IsSoundMember count kinds) x xs sx) hx.1 k (omega (arith, low)) e

-- THE WHOLE AND ALL PARTS
pub record IsSoundTogether (count : ℕ) (kinds : List Kind) (t : Together) : Type 0 where
  pub sound : IsSoundGraph count t.whole
  pub kinds_are : t.whole.kinds ≡ kinds
  pub members : All (IsSoundMember count kinds) t.members
  pub within : passed (total (map (λ (m : Member). m.graph.sums) t.members)) ≡ None

module _ (waves : List WavIn) (count : ℕ) (kinds : List Kind) (t : Together) (s : IsSoundTogether count kinds t) (l : Line)
    (good : IsGoodLine count kinds l.command) where
  whole_good : IsGoodLine count t.whole.kinds l.command
  whole_good = subst (λ (ks : List Kind). IsGoodLine count ks l.command) (sym s.kinds_are) good

  goes_one : (x y : Together) → GoesOn waves t l x → GoesOn waves t l y → x ≡ y
  goes_one x y h k = ap (λ (g : Graph). record x { whole = g }) whole
      ∙ (ap (λ (ms : List Member). record x { whole = y.whole; members = ms }) members
      ∙ ap (λ (ls : List LinkLine). record y { lines = ls }) (h.lines
      ∙ (ap (λ (g : Graph). t.lines ++ noted g x.members l.command) whole
      ∙ (ap (λ (ms : List Member). t.lines ++ noted y.whole ms l.command) members ∙ sym k.lines)))) where
        whole : x.whole ≡ y.whole
        whole = (rehearses_one waves count t.whole s.sound l.command T.Done T.Done x.whole y.whole whole_good h.whole k.whole).1

        members : x.members ≡ y.members
        members = all_one waves count kinds l good t.members x.members y.members s.members h.members k.members

  pub goes_sound : (x : Together) → GoesOn waves t l x → IsSoundTogether (grown count l.command) kinds x
  goes_sound x h = record {
    sound = rehearses_sound waves count t.whole s.sound l.command T.Done x.whole whole_good h.whole;
    kinds_are = rehearsal_kinds waves t.whole x.whole l.command T.Done h.whole ∙ s.kinds_are;
    members = all_sound waves count kinds l good t.members x.members s.members h.members h.sums;
    within = h.sums;
  }

  many_goes : (x : Together) → GoesOn waves t l x → HasMany waves t l → ⊥
  many_goes x h (inl many) = many_moved waves count kinds l good t.members x.members s.members h.members many
  many_goes x h (inr w) = passed_not_done W.Links
      (rehearses_one waves count t.whole s.sound l.command (T.Passed W.Links) T.Done w.0 x.whole whole_good w.1 h.whole).0

  goes_passes : (x : Together) (which : Which) → GoesOn waves t l x → Passes waves t l which → ⊥
  goes_passes x which h (inl p) = many_goes x h p.1
  goes_passes x which h (inr p) = none-some which (sym h.sums ∙ (ap (λ (all : List Sums). passed (total all))
      (all_sums_one waves count kinds l good t.members x.members p.epochs s.members h.members p.made) ∙ p.passes))

  -- a line that finds 256 links runs nothing
  many_runs : HasMany waves t l → is_run l.command ≡ false
  many_runs (inl many) = does_not_run many.member.graph many.after l.command (T.Passed W.Links) many.passes
  many_runs (inr w) = rehearses_not_run waves t.whole w.0 l.command W.Links w.1

  many_sums : (which : Which) → HasMany waves t l → HasSums waves t.members l which → ⊥
  many_sums which many p = none-some which (sym s.within ∙ (sym (ap (λ (all : List Sums). passed (total all))
      (no_epochs waves count kinds l good (many_runs many) t.members p.epochs p.made)) ∙ p.passes))

  same_some : (v w : Which) → Some v ≡ Some w → v ≡ w
  same_some v w e = cc

  passes_one : (v w : Which) → Passes waves t l v → Passes waves t l w → v ≡ w
  passes_one v w (inl p) (inl q) = p.0 ∙ sym q.0
  passes_one v w (inl p) (inr q) = absurd (many_sums w p.1 q)
  passes_one v w (inr p) (inl q) = absurd (many_sums v q.1 p)
  passes_one v w (inr p) (inr q) = same_some v w (sym p.passes ∙ (ap (λ (es : List (Option Epoch)). passed (total (all_sums t.members es)))
      (all_epochs_one waves count kinds l good t.members p.epochs q.epochs s.members p.made q.made) ∙ q.passes))

-- ALL LINES
module _ (waves : List WavIn) (kinds : List Kind) where
  pub together_one : (ls : List Line) (count : ℕ) (t : Together) → IsSoundTogether count kinds t → AreGoodLines count kinds ls
      → (x y : Result Together (ℕ × Which)) → FollowTogether waves t ls x → FollowTogether waves t ls y → x ≡ y
  together_one [] count t s good x y h k = h ∙ sym k
  together_one (l ∷ ls) count t s good x y (inl h) (inl k) =
      let line = good_first count kinds l ls good in
      together_one ls (grown count l.command) h.0 (goes_sound waves count kinds t s l line h.0 h.1) (good_rest count kinds l ls good) x y h.2
      (subst (λ (z : Together). FollowTogether waves z ls y) (sym (goes_one waves count kinds t s l line h.0 k.0 h.1 k.1)) k.2)
  together_one (l ∷ ls) count t s good x y (inl h) (inr k) =
      absurd (goes_passes waves count kinds t s l (good_first count kinds l ls good) h.0 k.0 h.1 k.1)
  together_one (l ∷ ls) count t s good x y (inr h) (inl k) =
      absurd (goes_passes waves count kinds t s l (good_first count kinds l ls good) k.0 h.0 k.1 h.1)
  together_one (l ∷ ls) count t s good x y (inr h) (inr k) =
      h.2 ∙ (ap (λ (w : Which). Err (l.line, w)) (passes_one waves count kinds t s l (good_first count kinds l ls good) h.0 k.0 h.1 k.1) ∙ sym k.2)

  ok_is : (x y : Together) → ◌≡◌ {A = Result Together (ℕ × Which)} (Ok x) (Ok y) → x ≡ y
  ok_is x y e = cc

  ok_not : (x : Together) (y : ℕ × Which) → ◌≡◌ {A = Result Together (ℕ × Which)} (Ok x) (Err y) → ⊥
  ok_not x y e = cc

  -- the end is sound
  pub record EndsTogether (end : Together) : Type 0 where
    pub count : ℕ
    pub sound : IsSoundTogether count kinds end

  pub together_sound : (ls : List Line) (count : ℕ) (t end : Together) → IsSoundTogether count kinds t → AreGoodLines count kinds ls
      → FollowTogether waves t ls (Ok end) → EndsTogether end
  together_sound [] count t end s good f = record { count = count; sound = subst (IsSoundTogether count kinds) (sym (ok_is end t f)) s }
  together_sound (l ∷ ls) count t end s good (inl f) = together_sound ls (grown count l.command) f.0 end
      (goes_sound waves count kinds t s l (good_first count kinds l ls good) f.0 f.1) (good_rest count kinds l ls good) f.2
  together_sound (l ∷ ls) count t end s good (inr f) = absurd (ok_not end (l.line, f.0) f.2)

-- BEFORE THE FIRST LINE no sum is above 0
zero_sums : (start : Graph) → start.sums ≡ record { events = 0; samples = 0; bytes = 0 } → (parts : List (List ℕ)) (f : Sums → ℕ)
    → f (record { events = 0; samples = 0; bytes = 0 }) ≡ 0
    → sum_by f (map (λ (m : Member). m.graph.sums) (map (λ (nodes : List ℕ). record { nodes = nodes; graph = start }) parts)) ≡ 0
zero_sums start none [] f z = refl
zero_sums start none (p ∷ ps) f z =
    let head : f start.sums ≡ 0 = ap f none ∙ z in
    let rest = zero_sums start none ps f z in
    let cons = sum_by-cons f start.sums (map (λ (m : Member). m.graph.sums) (map (λ (nodes : List ℕ). record { nodes = nodes; graph = start }) ps)) in
    omega (arith, cons, head, rest)

pub begun_sound : (kinds : List Kind) (start : Graph) (parts : List (List ℕ)) → IsSoundGraph 0 start → start.kinds ≡ kinds
    → start.sums ≡ record { events = 0; samples = 0; bytes = 0 } → IsSoundTogether 0 kinds (begun start parts)
begun_sound kinds start parts sound kinds_are none = record {
  sound = sound;
  kinds_are = kinds_are;
  members = each parts;
  within = let a = zero_sums start none parts (λ x. x.events) refl in let b = zero_sums start none parts (λ x. x.samples) refl in
      let c = zero_sums start none parts (λ x. x.bytes) refl in
      passes_none (total (map (λ (m : Member). m.graph.sums) (begun start parts).members)) (omega (arith, a)) (omega (arith, b)) (omega (arith, c));
} where
  each : (ps : List (List ℕ)) → All (IsSoundMember 0 kinds) (map (λ (nodes : List ℕ). record { nodes = nodes; graph = start }) ps)
  each [] = All-nil (IsSoundMember 0 kinds)
  each (p ∷ ps) = All-cons (IsSoundMember 0 kinds) (record { nodes = p; graph = start }) (map (λ (nodes : List ℕ). record { nodes = nodes; graph = start }) ps)
      (record { sound = sound; kinds_are = kinds_are }) (each ps)

-- AT THE END there is one plan of each part
part_one : (names : List (List ℕ)) (count : ℕ) (kinds : List Kind) (m : Member) → IsSoundMember count kinds m → (x y : Part) → IsPartOfMember names m x
    → IsPartOfMember names m y → x ≡ y
part_one names count kinds m s x y h k = ap (λ (ns : List ℕ). record x { nodes = ns }) (h.nodes ∙ sym k.nodes)
    ∙ ap (λ (p : Plan). record y { plan = p }) (plan_one count m.graph s.sound names x.plan y.plan h.plan k.plan)

all_parts_one : (names : List (List ℕ)) (count : ℕ) (kinds : List Kind) (ms : List Member) (xs ys : List Part) → All (IsSoundMember count kinds) ms
    → AllZip (IsPartOfMember names) ms xs → AllZip (IsPartOfMember names) ms ys → xs ≡ ys
all_parts_one names count kinds [] [] [] s h k = refl
all_parts_one names count kinds [] [] (y ∷ ys) s h k = absurd k
all_parts_one names count kinds [] (x ∷ xs) ys s h k = absurd h
all_parts_one names count kinds (m ∷ ms) [] ys s h k = absurd h
all_parts_one names count kinds (m ∷ ms) (x ∷ xs) [] s h k = absurd k
all_parts_one names count kinds (m ∷ ms) (x ∷ xs) (y ∷ ys) s h k = ap₂ (λ (a : Part) (cs : List Part). a ∷ cs)
    (part_one names count kinds m (All-head (IsSoundMember count kinds) m ms s) x y h.0 k.0)
    (all_parts_one names count kinds ms xs ys (All-tail (IsSoundMember count kinds) m ms s) h.1 k.1)

ends_one : (names : List (List ℕ)) (count : ℕ) (kinds : List Kind) (end : Together) → IsSoundTogether count kinds end → (p q : Parts)
    → ArePartsOf names end p → ArePartsOf names end q → p ≡ q
ends_one names count kinds end s p q h k = ap (λ (xs : List Part). record p { parts = xs })
    (all_parts_one names count kinds end.members p.parts q.parts s.members h.parts k.parts)
    ∙ ap (λ (ls : List LinkLine). record q { lines = ls }) (h.lines ∙ sym k.lines)

-- an answer that is not out of memory
abbrev pub AreAnswered : Result Parts PlanFault → Type 0
AreAnswered (Err F.Memory) = ⊥
AreAnswered other = Unit {0}

end_one : (a b : Together) → ◌≡◌ {A = Result Together (ℕ × Which)} (Ok a) (Ok b) → a ≡ b
end_one a b e = cc

no_limit : (a : Together) (line : ℕ) (which : Which) → ◌≡◌ {A = Result Together (ℕ × Which)} (Ok a) (Err (line, which)) → ⊥
no_limit a line which e = cc

one_limit : (l m : ℕ) (v w : Which) → ◌≡◌ {A = Result Together (ℕ × Which)} (Err (l, v)) (Err (m, w)) → (l ≡ m) × (v ≡ w)
one_limit l m v w e = let pair : (l, v) ≡ (m, w) = cc in (ap (λ (p : ℕ × Which). p.0) pair, ap (λ (p : ℕ × Which). p.1) pair)

module _ (names : List (List ℕ)) (waves : List WavIn) (kinds : List Kind) (lines : List Line) (count : ℕ) (t : Together) (s : IsSoundTogether count kinds t)
    (good : AreGoodLines count kinds lines) where
  one : (x y : Result Together (ℕ × Which)) → FollowTogether waves t lines x → FollowTogether waves t lines y → x ≡ y
  one = together_one waves kinds lines count t s good

  answers_one : (x y : Result Parts PlanFault) → AreAnswered x → AreAnswered y → IsPartsAnswer names waves t lines x → IsPartsAnswer names waves t lines y → x ≡ y
  answers_one (Ok p) (Ok q) a b h k =
      let ends = end_one k.0 h.0 (one (Ok k.0) (Ok h.0) k.1 h.1) in
      let last = together_sound waves kinds lines count t h.0 s good h.1 in
      ap (λ (z : Parts). Ok z) (ends_one names last.count kinds h.0 last.sound p q h.2 (subst (λ (z : Together). ArePartsOf names z q) ends k.2))
  answers_one (Ok p) (Err (F.Limit line which)) a b h k = absurd (no_limit h.0 line which (one (Ok h.0) (Err (line, which)) h.1 k))
  answers_one (Ok p) (Err F.Memory) a b h k = absurd b
  answers_one (Err (F.Limit line which)) (Ok q) a b h k = absurd (no_limit k.0 line which (one (Ok k.0) (Err (line, which)) k.1 h))
  answers_one (Err (F.Limit l v)) (Err (F.Limit m w)) a b h k =
      let e = one_limit l m v w (one (Err (l, v)) (Err (m, w)) h k) in
      ap (λ (n : ℕ). Err (F.Limit n v)) e.0 ∙ ap (λ (z : Which). Err (F.Limit m z)) e.1
  answers_one (Err (F.Limit l v)) (Err F.Memory) a b h k = absurd b
  answers_one (Err F.Memory) y a b h k = absurd a

-- what is answered, if it is given
from_begun : (lines : List Line) (names : List (List ℕ)) (waves : List WavIn) (ports : List Node) (r : Result Parts PlanFault) → AreAnswered r
    → IsParted lines names waves ports r → (t : Together) × IsBegun lines (length names) waves ports t × IsPartsAnswer names waves t lines r
from_begun lines names waves ports (Ok p) a h = h
from_begun lines names waves ports (Err (F.Limit line which)) a h = h
from_begun lines names waves ports (Err F.Memory) a h = absurd a

-- THE PARTS OF A SCRIPT have one answer
pub parted_one : (script : Script) → HasRanges script → HasKinds script → NamesMade 0 script.lines → (ports : List Node)
    → AreScriptPorts script.lines ports → (waves : List WavIn) (x y : Result Parts PlanFault) → AreAnswered x → AreAnswered y
    → IsParted script.lines script.names waves ports x → IsParted script.lines script.names waves ports y → x ≡ y
parted_one script ranges has named ports script_ports waves x y a b h k = answers_one script.names waves kinds script.lines 0 p.0 sound good x y a b p.2
    (subst (λ (t : Together). IsPartsAnswer script.names waves t script.lines y) same q.2) where
      kinds : List Kind
      kinds = kinds_of script.lines

      p : (t : Together) × IsBegun script.lines (length script.names) waves ports t × IsPartsAnswer script.names waves t script.lines x
      p = from_begun script.lines script.names waves ports x a h

      q : (t : Together) × IsBegun script.lines (length script.names) waves ports t × IsPartsAnswer script.names waves t script.lines y
      q = from_begun script.lines script.names waves ports y b k

      good : AreGoodLines 0 kinds script.lines
      good = record { named = named; lines_of = lines_are script ranges has }

      first : (g : Graph) → IsStart script.lines ports g → IsSoundGraph 0 g
      first g is = first_sound script.lines ports g ranges.ranges script_ports is

      made_same : (u v : List (List ℕ)) → IsPartition script.lines (length script.names) waves ports u → IsPartition script.lines (length script.names) waves ports v
          → u ≡ v
      made_same u v m n =
          let starts = start_one script.lines ports n.0 m.0 n.1 m.1 in
          let made : m.2.0 ≡ n.2.0 = made_one waves kinds script.lines 0 m.0 (first m.0 m.1) m.1.kinds good m.2.0 n.2.0 m.2.1
          (subst (λ (g : Graph). HasMade waves g script.lines n.2.0) starts n.2.1) in
          parts_one (length script.names) n.2.0 u v (subst (λ (ws : List Wire). AreParts (length script.names) ws u) made m.2.2) n.2.2

      same : q.0 ≡ p.0
      same = q.1.2.2 ∙ (ap (λ (g : Graph). begun g q.1.0) (start_one script.lines ports q.1.2.0 p.1.2.0 q.1.2.1 p.1.2.1)
          ∙ (ap (begun p.1.2.0) (made_same q.1.0 p.1.0 q.1.1 p.1.1) ∙ sym p.1.2.2))

      sound : IsSoundTogether 0 kinds p.0
      sound = subst (IsSoundTogether 0 kinds) (sym p.1.2.2)
          (begun_sound kinds p.1.2.0 p.1.0 (first p.1.2.0 p.1.2.1) p.1.2.1.kinds p.1.2.1.sums)
