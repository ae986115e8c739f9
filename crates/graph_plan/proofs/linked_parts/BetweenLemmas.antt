-- No link between parts is made or taken away: what the whole makes joins its nodes, and what it
-- takes away was made.
use Rattle.std.proofs.Common.{◌≡◌, ◌⊎◌, inl, inr, ℕ, zero, suc, ◌-◌, ◌<◌, ◌&&◌, Bool, true, false, cond, List, [], ◌∷◌, ◌++◌, length, map, drop, get_or}
use Rattle.std.proofs.Common.{Option, Some, None, refl, sym, ap, ◌∙◌, subst, arith}
use Rattle.std.specs.Prelude.{All, Contains, Result, Ok, Err, IfOk, find, slice_get, option_to_list}
use Rattle.std.specs.List.{AllZip, list_any}
use Rattle.std.specs.Option.{option_map_or}
use Rattle.std.proofs.lemmas.Bool.{and_parts, or_cases}
use Rattle.std.proofs.lemmas.List.{length_push, drop_at}
use Rattle.std.proofs.lemmas.Option.{same_Some, none-some}
use Rattle.std.proofs.lemmas.List.Elements.{All-nil, All-cons, All-append, All-drop, All-weaker, All-contains, Contains-append_left, Contains-append_right, Contains-append_cases}
use Rattle.pw_graph.specs.declared.ids.PortId.{PortId}
use Rattle.pw_graph.specs.declared.kind.Kind.{Kind}
use Rattle.pw_lists.specs.declared.limit.Which.{Which}
use Rattle.pw_lists.specs.declared.limit.Which.TheVariants as W
use Rattle.pw_graph.specs.declared.parts.Part.{Part}
use Rattle.pw_graph.specs.declared.parts.Parts.{Parts}
use Rattle.pw_graph.specs.declared.plan.LineOutcome.{LineOutcome}
use Rattle.pw_graph.specs.declared.plan.LineOutcome.TheVariants as O
use Rattle.pw_graph.specs.declared.plan.LinkLine.{LinkLine}
use Rattle.pw_graph.specs.Pools.{is_same_port}
use Rattle.pw_graph.proofs.PoolLemmas.{same_port}
use Rattle.wav_files.specs.declared.wav.WavIn.{WavIn}
use Rattle.graph_script.specs.declared.command.Command.{Command}
use Rattle.graph_script.specs.declared.command.Command.TheVariants as C
use Rattle.graph_script.specs.declared.script.Line.{Line}
use Rattle.graph_script.specs.declared.script.Script.{Script}
use Rattle.graph_script.specs.Kinds.{HasKinds}
use Rattle.graph_script.specs.Making.{NamesMade, grown}
use Rattle.graph_script.specs.Ranges.{HasRanges}
use Rattle.port_model.specs.declared.port_state.Node.{Node}
use Rattle.link_negotiation.specs.declared.link.Link.{Link}
use Rattle.link_negotiation.specs.declared.negotiation.Linked.{Linked}
use Rattle.link_negotiation.specs.declared.negotiation.Linked.TheVariants as L
use Rattle.link_negotiation.specs.declared.unlinking.Unlinked.{Unlinked}
use Rattle.link_negotiation.specs.declared.unlinking.Unlinked.TheVariants as U
use Rattle.link_negotiation.specs.Links.{joins, link_of}
use Rattle.link_negotiation.specs.Unlinking.{HasUnlinked}
use Rattle.graph_lines.specs.declared.graph.Graph.{Graph}
use Rattle.graph_lines.specs.declared.graph.Stepped.TheVariants as T
use Rattle.graph_lines.specs.declared.wire.Wire.{Wire}
use Rattle.graph_lines.specs.Activity.{AreJoined}
use Rattle.graph_lines.specs.Conditions.{AreWired}
use Rattle.graph_lines.specs.LinkLines.{Notes, IsRecorded, LinksLine}
use Rattle.graph_lines.specs.Lines.{Marks}
use Rattle.graph_lines.specs.Rehearsal.{GoesPast, Rehearses, HasMade}
use Rattle.graph_lines.specs.Start.{kinds_of}
use Rattle.graph_lines.specs.UnlinkLines.{IsTakenAway, UnlinksLine}
use Rattle.graph_plan.specs.declared.fault.PlanFault.{PlanFault}
use Rattle.graph_plan.specs.declared.fault.PlanFault.TheVariants as F
use Rattle.graph_plan.specs.declared.member.Member.{Member}
use Rattle.graph_plan.specs.declared.together.Together.{Together}
use Rattle.graph_plan.specs.Conditions.{AreScriptPorts}
use Rattle.graph_plan.specs.Moving.{MovesIf, Moves}
use Rattle.graph_plan.specs.PartLines.{is_line_of}
use Rattle.graph_plan.specs.Parted.{AreBegun, IsBegun, IsPartOfMember, ArePartsOf, IsPartsAnswer, IsParted, IsWithin, IsNoChange}
use Rattle.graph_plan.specs.Parts.{is_among, IsPartOf, AreParts, IsPartition}
use Rattle.graph_plan.specs.working.SoundGraph.{IsSoundGraph}
use Rattle.graph_plan.specs.Together.{has_both, last_line, said_last, noted, GoesOn, FollowTogether}
use Rattle.graph_plan.proofs.lists.ElementLemmas.{behind, origin, stands_for}
use Rattle.graph_plan.proofs.linked_parts.PartedLemmas.{begun_nodes}
use Rattle.graph_plan.proofs.linked_parts.PartitionLemmas.{among_has}
use Rattle.graph_plan.proofs.linked_parts.RehearsalLemmas.{rehearsal_kinds}
use Rattle.graph_plan.proofs.one.OneRehearsalLemmas.{rehearses_sound, rehearses_one}
use Rattle.graph_plan.proofs.one.OnePlanLemmas.{start_one}
use Rattle.graph_plan.proofs.PlannedLemmas.{named_are, lines_are}
use Rattle.graph_plan.proofs.sound.SoundGraphLemmas.{count_within}
use Rattle.graph_plan.proofs.sound.StartLemmas.{first_sound}
use Rattle.graph_plan.proofs.sound.StepLemmas.{IsGoodLine, AreGoodLines, good_first, good_rest}
use Rattle.graph_plan.proofs.linked_parts.WalkLemmas.{joined_on}

-- two nodes are in one part; a line of two such nodes, or one that changes nothing
abbrev InOne : List (List ℕ) → ℕ → ℕ → Type 0
InOne parts a b = (p : List ℕ) × Contains parts p × Contains p a × Contains p b

abbrev IsJoined : List (List ℕ) → Wire → Type 0
IsJoined parts w = InOne parts w.from.node w.to.node

abbrev IsSettled : List (List ℕ) → LinkLine → Type 0
IsSettled parts l = InOne parts l.from.node l.to.node ⊎ IsNoChange l.outcome

-- THE LAST LINE of a graph
last_is : (g : Graph) (before : List LinkLine) (x : LinkLine) → g.lines ≡ before ++ x ∷ [] → last_line g ≡ x ∷ []
last_is g before x e = ap (λ (ls : List LinkLine). option_to_list (slice_get ls (length ls - 1))) e
    ∙ (ap (λ (n : ℕ). option_to_list (slice_get (before ++ x ∷ []) n)) (let n : length (before ++ x ∷ []) - 1 ≡ length before = omega (arith, length_push before x) in n)
    ∙ ap option_to_list (at_end before)) where
      at_end : (ls : List LinkLine) → slice_get (ls ++ x ∷ []) (length ls) ≡ Some x
      at_end [] = refl
      at_end (y ∷ ls) = at_end ls

-- what a line of two ports is noted with
abbrev IsNoted : Graph → PortId → PortId → Graph → (LineOutcome → Type 0) → Type 0
IsNoted g from to after P = (outcome : LineOutcome) × Notes g from to outcome after × P outcome

-- of a `link` line: what changes nothing, or a link that is made
abbrev IsNew : Graph → PortId → PortId → Graph → Type 0
IsNew g from to after = (w : Wire) × Contains (drop (length g.wires) after.wires) w × (w.from ≡ from) × (w.to ≡ to)

behind_all : (g after : Graph) (w : Wire) → after.wires ≡ g.wires ++ w ∷ [] → Contains (drop (length g.wires) after.wires) w
behind_all g after w e = subst (λ (ws : List Wire). Contains ws w)
    (sym (ap (drop (length g.wires)) e ∙ drop_at g.wires (w ∷ []) (length g.wires) refl)) (0, omega arith, refl)

recorded : (g after : Graph) (from to : PortId) (linked : Linked) → IsRecorded g from to linked T.Done after
    → IsNoted g from to after (λ outcome. IsNoChange outcome ⊎ IsNew g from to after)
recorded g after from to (L.Made format buffers) h = let w : Wire = record { from = from; to = to; buffers = buffers } in
    (O.Linked h.2.0 h.2.1 buffers, h.2.3, inr (w, behind_all g after w h.1, refl, refl))
recorded g after from to (L.NoFormat key) h = (O.NoFormat key, h.2, inl tt)
recorded g after from to L.NoBuffers h = (O.NoBuffers, h.2, inl tt)
recorded g after from to L.Twice h = (O.Twice, h.2, inl tt)
recorded g after from to L.Loop h = (O.Looped, h.2, inl tt)
recorded g after from to L.Many h = absurd (done_passed W.Links h.0) where
  done_passed : (which : Which) → T.Done ≡ T.Passed which → ⊥
  done_passed which d = cc

-- of an `unlink` line: what changes nothing, or a link that was there
abbrev WasThere : Graph → PortId → PortId → Type 0
WasThere g from to = (w : Wire) × Contains g.wires w × (w.from ≡ from) × (w.to ≡ to)

was_linked : (wires : List Wire) (from to : PortId) → list_any (joins from to) (map (λ (w : Wire). link_of w.from w.to) wires) ≡ true
    → (w : Wire) × Contains wires w × (w.from ≡ from) × (w.to ≡ to)
was_linked [] from to e = absurd (not_is e) where
  not_is : false ≡ true → ⊥
  not_is d = cc
was_linked (w ∷ ws) from to e = elim (or_cases (joins from to (link_of w.from w.to)) (list_any (joins from to) (map (λ (x : Wire). link_of x.from x.to) ws)) e) [
  | inl here ↦ (let two = and_parts (is_same_port w.from from) (is_same_port w.to to) here in
      (w, (0, omega arith, refl), same_port w.from from two.0, same_port w.to to two.1))
  | inr later ↦ (let r = was_linked ws from to later in (r.0, behind w ws r.0 r.1, r.2, r.3))
]

taken_away : (g after : Graph) (from to : PortId) (keep : ℕ) (unlinked : Unlinked) → AreWired g
    → HasUnlinked g.links g.ports from to keep unlinked after.links after.ports → IsTakenAway g from to unlinked after
    → IsNoted g from to after (λ outcome. IsNoChange outcome ⊎ WasThere g from to)
taken_away g after from to keep U.NotThere wired o h = (O.NotThere, h.2, inl tt)
taken_away g after from to keep (U.Gone set) wired o h = (
  O.Gone,
  h.2,
  inr (was_linked g.wires from to (subst (λ (ls : List Link). list_any (joins from to) ls ≡ true) (sym wired) o.0)),
)

-- LINKS after a line were there before it, or are new
abbrev IsOldOrNew : Graph → Graph → Type 0
IsOldOrNew g after = (w : Wire) → Contains after.wires w → Contains g.wires w ⊎ Contains (drop (length g.wires) after.wires) w

same_wires : (g after : Graph) → after.wires ≡ g.wires → IsOldOrNew g after
same_wires g after e w c = inl (subst (λ (ws : List Wire). Contains ws w) e c)

marked_wires : (g after : Graph) (n : ℕ) → Marks g n after → after.wires ≡ g.wires
marked_wires g after n (inl h) = ap (λ (x : Graph). x.wires) h.1
marked_wires g after n (inr h) = ap (λ (x : Graph). x.wires) h.1

past_wires : (g after : Graph) (n : ℕ) → GoesPast g n after → after.wires ≡ g.wires
past_wires g after zero h = ap (λ (x : Graph). x.wires) h
past_wires g after (suc n) h = ap (λ (x : Graph). x.wires) h.2

link_wires : (g after : Graph) (from to : PortId) (linked : Linked) → IsRecorded g from to linked T.Done after → IsOldOrNew g after
link_wires g after from to (L.Made format buffers) h = λ w c.
    let new : Wire = record { from = from; to = to; buffers = buffers } in
    elim (Contains-append_cases g.wires (new ∷ []) w (subst (λ (ws : List Wire). Contains ws w) h.1 c)) [
      | inl old ↦ inl old
      | inr now ↦ inr (subst (λ (ws : List Wire). Contains ws w) (sym (ap (drop (length g.wires)) h.1 ∙ drop_at g.wires (new ∷ []) (length g.wires) refl)) now)
    ]
link_wires g after from to (L.NoFormat key) h = same_wires g after h.1
link_wires g after from to L.NoBuffers h = same_wires g after h.1
link_wires g after from to L.Twice h = same_wires g after h.1
link_wires g after from to L.Loop h = same_wires g after h.1
link_wires g after from to L.Many h = same_wires g after h.1

unlink_wires : (g after : Graph) (from to : PortId) (unlinked : Unlinked) → IsTakenAway g from to unlinked after → IsOldOrNew g after
unlink_wires g after from to U.NotThere h = same_wires g after h.0
unlink_wires g after from to (U.Gone set) h = λ w c. inl (origin _ g.wires w (subst (λ (ws : List Wire). Contains ws w) h.0 c)).0

wires_after : (waves : List WavIn) (g after : Graph) (c : Command) → Rehearses waves g c T.Done after → IsOldOrNew g after
wires_after waves g after (C.Quantum n) h = same_wires g after (ap (λ (x : Graph). x.wires) h.1)
wires_after waves g after (C.Source n file) h = same_wires g after (ap (λ (x : Graph). x.wires) h.1)
wires_after waves g after (C.Square n rate channels period amp) h = same_wires g after (ap (λ (x : Graph). x.wires) h.1)
wires_after waves g after (C.Gain n gain) h = same_wires g after (ap (λ (x : Graph). x.wires) h.1)
wires_after waves g after (C.Mix2 n ga gb) h = same_wires g after (ap (λ (x : Graph). x.wires) h.1)
wires_after waves g after (C.Delay n frames) h = same_wires g after (ap (λ (x : Graph). x.wires) h.1)
wires_after waves g after (C.Map n channels list) h = same_wires g after (ap (λ (x : Graph). x.wires) h.1)
wires_after waves g after (C.Split n) h = same_wires g after (ap (λ (x : Graph). x.wires) h.1)
wires_after waves g after (C.Sink n file) h = same_wires g after (ap (λ (x : Graph). x.wires) h.1)
wires_after waves g after (C.Meter n) h = same_wires g after (ap (λ (x : Graph). x.wires) h.1)
wires_after waves g after (C.Driver n p) h = same_wires g after (ap (λ (x : Graph). x.wires) h.1)
wires_after waves g after (C.Loop n k) h = same_wires g after (ap (λ (x : Graph). x.wires) h.1)
wires_after waves g after (C.Offer port file) h = same_wires g after (ap (λ (x : Graph). x.wires) h.1)
wires_after waves g after (C.Buffers port n) h = same_wires g after (ap (λ (x : Graph). x.wires) h.1)
wires_after waves g after (C.Link from to) h = link_wires g after from to h.linked h.noted
wires_after waves g after (C.Unlink from to) h = unlink_wires g after from to h.1.unlinked h.1.noted
wires_after waves g after (C.On n) h = same_wires g after (ap (λ (x : Graph). x.wires) h.1)
wires_after waves g after (C.Off n) h = same_wires g after (ap (λ (x : Graph). x.wires) h.1)
wires_after waves g after (C.Async n) h = same_wires g after (marked_wires g after n h.1)
wires_after waves g after (C.Cycles n) h = same_wires g after (past_wires g after n h.1)
wires_after waves g after C.Drain h = same_wires g after (past_wires g after h.1.0 h.1.2)

-- THE PART that has both nodes has done the line
find_more : (p : Member → Bool) (x : Member) (xs : List Member) (m : Member) → (find p xs ≡ Some m → Contains xs m × (p m ≡ true)) → (b : Bool) → p x ≡ b
    → cond b (Some x) (find p xs) ≡ Some m → Contains (x ∷ xs) m × (p m ≡ true)
find_more p x xs m rest true is f = let same : x ≡ m = same_Some x m f in ((0, omega arith, same), ap p (sym same) ∙ is)
find_more p x xs m rest false is f = let r = rest f in (behind x xs m r.0, r.1)

list_find : (p : Member → Bool) (ms : List Member) (m : Member) → find p ms ≡ Some m → Contains ms m × (p m ≡ true)
list_find p [] m e = absurd (none-some m e)
list_find p (x ∷ xs) m e = find_more p x xs m (list_find p xs m) (p x) refl e

module _ (waves : List WavIn) (l : Line) where
  moved_from : (ms ns : List Member) (n : Member) → AllZip (Moves waves l) ms ns → Contains ns n → (m : Member) × Moves waves l m n
  moved_from ms ns n h c = go ms ns h c.0 c.1 c.2 where
    go : (xs ys : List Member) → AllZip (Moves waves l) xs ys → (k : ℕ) → k < length ys → get_or ys k n ≡ n → (m : Member) × Moves waves l m n
    go [] [] h k low e = absurd (omega (arith, low))
    go [] (y ∷ ys) h k low e = absurd h
    go (x ∷ xs) [] h k low e = absurd h
    go (x ∷ xs) (y ∷ ys) h zero low e = (x, subst (Moves waves l x) e h.0)
    go (x ∷ xs) (y ∷ ys) h (suc k) low e = go xs ys h.1 k (omega (arith, low)) e

  pub moved_nodes : (ms ns : List Member) → AllZip (Moves waves l) ms ns → map (λ (m : Member). m.nodes) ns ≡ map (λ (m : Member). m.nodes) ms
  moved_nodes [] [] h = refl
  moved_nodes [] (n ∷ ns) h = absurd h
  moved_nodes (m ∷ ms) [] h = absurd h
  moved_nodes (m ∷ ms) (n ∷ ns) h = ap (λ (x : List ℕ). x ∷ map (λ (y : Member). y.nodes) ns) h.0.0
      ∙ ap (λ (xs : List (List ℕ)). m.nodes ∷ xs) (moved_nodes ms ns h.1)

-- a line of these two ports, in a part that has both
part_of_line : (waves : List WavIn) (parts : List (List ℕ)) (l : Line) (from to : PortId) (ms ns : List Member) (n : Member)
    → ((b : Bool) → (is_among n.nodes from.node && (is_among n.nodes to.node && true)) ≡ b → is_line_of n.nodes l ≡ b)
    → ((g after : Graph) → MovesIf true waves g l.command after → (outcome : LineOutcome) × Notes g from to outcome after)
    → AllZip (Moves waves l) ms ns → map (λ (m : Member). m.nodes) ns ≡ parts → find (has_both from.node to.node) ns ≡ Some n
    → All (IsSettled parts) (last_line n.graph)
part_of_line waves parts l from to ms ns n named does moved same found =
    let here = list_find (has_both from.node to.node) ns n found in
    let two = and_parts (is_among n.nodes from.node) (is_among n.nodes to.node) here.1 in
    let m = moved_from waves l ms ns n moved here.0 in
    let is : is_line_of n.nodes l ≡ true = named true (both_true (is_among n.nodes from.node) (is_among n.nodes to.node) two.0 two.1) in
    let was : is_line_of m.0.nodes l ≡ true = ap (λ (ns : List ℕ). is_line_of ns l) (sym m.1.0) ∙ is in
    let noted_it = does m.0.graph n.graph (subst (λ (b : Bool). MovesIf b waves m.0.graph l.command n.graph) was m.1.1) in
    subst (All (IsSettled parts)) (sym (last_is n.graph m.0.graph.lines (record { from = from; to = to; outcome = noted_it.0 }) noted_it.1))
    (All-cons (IsSettled parts) (record { from = from; to = to; outcome = noted_it.0 }) []
    (inl (
      n.nodes,
      subst (λ (ps : List (List ℕ)). Contains ps n.nodes) same (stands_for (λ (x : Member). x.nodes) ns n here.0),
      among_has n.nodes from.node two.0,
      among_has n.nodes to.node two.1,
    )) (All-nil (IsSettled parts)))
  where
    both_true : (a b : Bool) → a ≡ true → b ≡ true → (a && (b && true)) ≡ true
    both_true true true p q = refl
    both_true true false p q = q
    both_true false b p q = p

-- A LINE of two ports, in the first part that has both or in the whole
said_settled : (parts : List (List ℕ)) (from to : PortId) (ns : List Member) (whole : Graph)
    → ((n : Member) → find (has_both from.node to.node) ns ≡ Some n → All (IsSettled parts) (last_line n.graph)) → All (IsSettled parts) (last_line whole)
    → All (IsSettled parts) (said_last whole ns from.node to.node)
said_settled parts from to ns whole part other = go (find (has_both from.node to.node) ns) refl where
  go : (o : Option Member) → find (has_both from.node to.node) ns ≡ o → All (IsSettled parts) (said_last whole ns from.node to.node)
  go None e = subst (λ (o : Option Member). All (IsSettled parts) (last_line (option_map_or (λ (m : Member). m.graph) o whole))) (sym e) other
  go (Some n) e = subst (λ (o : Option Member). All (IsSettled parts) (last_line (option_map_or (λ (m : Member). m.graph) o whole))) (sym e) (part n e)

-- in the whole
one_line : (parts : List (List ℕ)) (g after : Graph) (from to : PortId) (outcome : LineOutcome) → Notes g from to outcome after
    → IsSettled parts (record { from = from; to = to; outcome = outcome }) → All (IsSettled parts) (last_line after)
one_line parts g after from to outcome notes s = subst (All (IsSettled parts))
    (sym (last_is after g.lines (record { from = from; to = to; outcome = outcome }) notes))
    (All-cons (IsSettled parts) (record { from = from; to = to; outcome = outcome }) [] s (All-nil (IsSettled parts)))

in_one : (parts : List (List ℕ)) (w : Wire) (from to : PortId) → IsJoined parts w → w.from ≡ from → w.to ≡ to → InOne parts from.node to.node
in_one parts w from to j p q = subst (λ (a : PortId). InOne parts a.node to.node) p (subst (λ (b : PortId). InOne parts w.from.node b.node) q j)

link_settled : (parts : List (List ℕ)) (g after : Graph) (from to : PortId) → LinksLine g from to T.Done after
    → ((w : Wire) → Contains (drop (length g.wires) after.wires) w → IsJoined parts w) → All (IsSettled parts) (last_line after)
link_settled parts g after from to h new = let r = recorded g after from to h.linked h.noted in
    one_line parts g after from to r.0 r.1 (elim r.2 [
      | inl same ↦ inr same
      | inr w ↦ inl (in_one parts w.0 from to (new w.0 w.1) w.2 w.3)
    ])

unlink_settled : (parts : List (List ℕ)) (g after : Graph) (from to : PortId) → AreWired g → UnlinksLine g from to after
    → ((w : Wire) → Contains g.wires w → IsJoined parts w) → All (IsSettled parts) (last_line after)
unlink_settled parts g after from to wired h old = let r = taken_away g after from to h.keep h.unlinked wired h.outcome h.noted in
    one_line parts g after from to r.0 r.1 (elim r.2 [
      | inl same ↦ inr same
      | inr w ↦ inl (in_one parts w.0 from to (old w.0 w.1) w.2 w.3)
    ])

link_notes : (g after : Graph) (from to : PortId) → LinksLine g from to T.Done after → (outcome : LineOutcome) × Notes g from to outcome after
link_notes g after from to h = let r = recorded g after from to h.linked h.noted in (r.0, r.1)

unlink_notes : (g after : Graph) (from to : PortId) → UnlinksLine g from to after → (outcome : LineOutcome) × Notes g from to outcome after
unlink_notes g after from to h = go h.unlinked h.noted where
  go : (u : Unlinked) → IsTakenAway g from to u after → (outcome : LineOutcome) × Notes g from to outcome after
  go U.NotThere n = (O.NotThere, n.2)
  go (U.Gone set) n = (O.Gone, n.2)

-- WHAT ONE LINE NOTES
module _ (waves : List WavIn) (parts : List (List ℕ)) (g next : Graph) (wired : AreWired g) (ms ns : List Member)
    (same : map (λ (m : Member). m.nodes) ns ≡ parts) (old : (w : Wire) → Contains g.wires w → IsJoined parts w)
    (new : (w : Wire) → Contains (drop (length g.wires) next.wires) w → IsJoined parts w) where
  noted_settled : (number : ℕ) (c : Command) → Rehearses waves g c T.Done next → AllZip (Moves waves (record { line = number; command = c })) ms ns
      → All (IsSettled parts) (noted next ns c)
  noted_settled number (C.Quantum n) h moved = All-nil (IsSettled parts)
  noted_settled number (C.Source n file) h moved = All-nil (IsSettled parts)
  noted_settled number (C.Square n rate channels period amp) h moved = All-nil (IsSettled parts)
  noted_settled number (C.Gain n gain) h moved = All-nil (IsSettled parts)
  noted_settled number (C.Mix2 n ga gb) h moved = All-nil (IsSettled parts)
  noted_settled number (C.Delay n frames) h moved = All-nil (IsSettled parts)
  noted_settled number (C.Map n channels list) h moved = All-nil (IsSettled parts)
  noted_settled number (C.Split n) h moved = All-nil (IsSettled parts)
  noted_settled number (C.Sink n file) h moved = All-nil (IsSettled parts)
  noted_settled number (C.Meter n) h moved = All-nil (IsSettled parts)
  noted_settled number (C.Driver n p) h moved = All-nil (IsSettled parts)
  noted_settled number (C.Loop n k) h moved = All-nil (IsSettled parts)
  noted_settled number (C.Offer port file) h moved = All-nil (IsSettled parts)
  noted_settled number (C.Buffers port n) h moved = All-nil (IsSettled parts)
  noted_settled number (C.Link from to) h moved = said_settled parts from to ns next
      (λ n found. part_of_line waves parts (record { line = number; command = C.Link from to }) from to ms ns n (λ b e. e)
      (λ x y does. link_notes x y from to does) moved same found) (link_settled parts g next from to h new)
  noted_settled number (C.Unlink from to) h moved = said_settled parts from to ns next
      (λ n found. part_of_line waves parts (record { line = number; command = C.Unlink from to }) from to ms ns n (λ b e. e)
      (λ x y does. unlink_notes x y from to does.1) moved same found) (unlink_settled parts g next from to wired h.1 old)
  noted_settled number (C.On n) h moved = All-nil (IsSettled parts)
  noted_settled number (C.Off n) h moved = All-nil (IsSettled parts)
  noted_settled number (C.Async n) h moved = All-nil (IsSettled parts)
  noted_settled number (C.Cycles n) h moved = All-nil (IsSettled parts)
  noted_settled number C.Drain h moved = All-nil (IsSettled parts)

-- LINKS that are made join nodes of one part
module _ (waves : List WavIn) (kinds : List Kind) where
  abbrev IsBelow : Wire → Type 0
  IsBelow w = (w.from.node < length kinds) × (w.to.node < length kinds)

  made_below : (lines : List Line) (count : ℕ) (g : Graph) → IsSoundGraph count g → g.kinds ≡ kinds → AreGoodLines count kinds lines
      → (made : List Wire) → HasMade waves g lines made → All IsBelow made
  made_below [] count g sound same good made h = subst (All IsBelow) (sym h) (All-nil IsBelow)
  made_below (l ∷ ls) count g sound same good made h =
      let line = subst (λ (ks : List Kind). IsGoodLine count ks l.command) (sym same) (good_first count kinds l ls good) in
      let next : Graph = h.1 in
      let after = rehearses_sound waves count g sound l.command h.0 next line h.3 in
      let kinds_are : next.kinds ≡ kinds = rehearsal_kinds waves g next l.command h.0 h.3 ∙ same in
      let few = count_within (grown count l.command) next after in
      let long = ap length kinds_are in
      let here : All IsBelow next.wires = λ i d low. let b = after.made.wires_at i d low in let x = b.0 in let y = b.1 in
      (omega (arith, x, few, long), omega (arith, y, few, long)) in
      subst (All IsBelow) (sym h.5) (All-append IsBelow (drop (length g.wires) next.wires) h.2 (All-drop IsBelow (length g.wires) next.wires here)
      (made_below ls (grown count l.command) next after kinds_are (good_rest count kinds l ls good) h.2 h.4))

joined_parts : (count : ℕ) (made : List Wire) (parts : List (List ℕ)) → AreParts count made parts → (w : Wire) → Contains made w → w.from.node < count
    → w.to.node < count → IsJoined parts w
joined_parts count made parts h w c from to =
    let p = h.all w.from.node from in
    let part = All-contains (IsPartOf count made) parts p.0 h.each p.1 in
    let to_least = ((part.joined w.from.node).0 p.2).1 in
    let walk : AreJoined made w.to.node w.from.node = (w ∷ [], (c, (w.from.node, inr (refl, refl), refl))) in
    (p.0, p.1, p.2, (part.joined w.to.node).1 (to, joined_on made w.to.node w.from.node part.least walk to_least))

-- ALL LINES
module _ (waves : List WavIn) (kinds : List Kind) (parts : List (List ℕ)) where
  ok_is : (x y : Together) → ◌≡◌ {A = Result Together (ℕ × Which)} (Ok x) (Ok y) → x ≡ y
  ok_is x y e = cc

  ok_not : (x : Together) (y : ℕ × Which) → ◌≡◌ {A = Result Together (ℕ × Which)} (Ok x) (Err y) → ⊥
  ok_not x y e = cc

  pub all_settled : (ls : List Line) (count : ℕ) (t end : Together) (made : List Wire) → IsSoundGraph count t.whole → t.whole.kinds ≡ kinds
      → AreGoodLines count kinds ls → HasMade waves t.whole ls made → ((w : Wire) → Contains made w → IsJoined parts w)
      → map (λ (m : Member). m.nodes) t.members ≡ parts → ((w : Wire) → Contains t.whole.wires w → IsJoined parts w) → All (IsSettled parts) t.lines
      → FollowTogether waves t ls (Ok end) → All (IsSettled parts) end.lines × (map (λ (m : Member). m.nodes) end.members ≡ parts)
  all_settled [] count t end made sound kinds_are good h joins same old said f = (
    subst (λ (x : Together). All (IsSettled parts) x.lines) (sym (ok_is end t f)) said,
    ap (λ (x : Together). map (λ (m : Member). m.nodes) x.members) (ok_is end t f) ∙ same,
  )
  all_settled (l ∷ ls) count t end made sound kinds_are good h joins same old said (inr f) = absurd (ok_not end (l.line, f.0) f.2)
  all_settled (l ∷ ls) count t end made sound kinds_are good h joins same old said (inl f) =
      all_settled ls (grown count l.command) next end h.2 after (rehearsal_kinds waves t.whole next.whole l.command T.Done goes.whole ∙ kinds_are)
      (good_rest count kinds l ls good) (subst (λ (g : Graph). HasMade waves g ls h.2) (sym one) h.4) later (moved_nodes waves l t.members next.members goes.members ∙ same)
      (λ w c. elim (wires_after waves t.whole next.whole l.command goes.whole w c) [ inl was ↦ old w was | inr now ↦ new w now ])
      (subst (All (IsSettled parts)) (sym goes.lines) (All-append (IsSettled parts) t.lines (noted next.whole next.members l.command) said
      (noted_settled waves parts t.whole next.whole sound.wired t.members next.members (moved_nodes waves l t.members next.members goes.members ∙ same)
      old new l.line l.command goes.whole goes.members))) f.2
    where
      next : Together
      next = f.0

      goes : GoesOn waves t l next
      goes = f.1

      line : IsGoodLine count t.whole.kinds l.command
      line = subst (λ (ks : List Kind). IsGoodLine count ks l.command) (sym kinds_are) (good_first count kinds l ls good)

      after : IsSoundGraph (grown count l.command) next.whole
      after = rehearses_sound waves count t.whole sound l.command T.Done next.whole line goes.whole

      one : next.whole ≡ h.1
      one = (rehearses_one waves count t.whole sound l.command T.Done h.0 next.whole h.1 line goes.whole h.3).1

      made_is : made ≡ drop (length t.whole.wires) next.whole.wires ++ h.2
      made_is = h.5 ∙ ap (λ (g : Graph). drop (length t.whole.wires) g.wires ++ h.2) (sym one)

      new : (w : Wire) → Contains (drop (length t.whole.wires) next.whole.wires) w → IsJoined parts w
      new w c = joins w (subst (λ (ws : List Wire). Contains ws w) (sym made_is) (Contains-append_left (drop (length t.whole.wires) next.whole.wires) h.2 w c))

      later : (w : Wire) → Contains h.2 w → IsJoined parts w
      later w c = joins w (subst (λ (ws : List Wire). Contains ws w) (sym made_is) (Contains-append_right (drop (length t.whole.wires) next.whole.wires) h.2 w c))

-- BETWEEN PARTS
part_there : (names : List (List ℕ)) (ms : List Member) (ps : List Part) → AllZip (IsPartOfMember names) ms ps
    → (nodes : List ℕ) → Contains (map (λ (m : Member). m.nodes) ms) nodes → (part : Part) × Contains ps part × (part.nodes ≡ nodes)
part_there names ms ps h nodes c = go ms ps h c.0 c.1 c.2 where
  go : (xs : List Member) (ys : List Part) → AllZip (IsPartOfMember names) xs ys → (k : ℕ) → k < length (map (λ (m : Member). m.nodes) xs)
      → get_or (map (λ (m : Member). m.nodes) xs) k nodes ≡ nodes → (part : Part) × Contains ys part × (part.nodes ≡ nodes)
  go [] [] h k low e = absurd (omega (arith, low))
  go [] (y ∷ ys) h k low e = absurd h
  go (x ∷ xs) [] h k low e = absurd h
  go (x ∷ xs) (y ∷ ys) h zero low e = (y, (0, omega arith, refl), h.0.nodes ∙ e)
  go (x ∷ xs) (y ∷ ys) h (suc k) low e = let r = go xs ys h.1 k (omega (arith, low)) e in (r.0, behind y ys r.0 r.1, r.2)

module _ (script : Script) (ranges : HasRanges script) (has : HasKinds script) (named : NamesMade 0 script.lines) (ports : List Node)
    (script_ports : AreScriptPorts script.lines ports) (waves : List WavIn) where
  abbrev IsBetween : Parts → LinkLine → Type 0
  IsBetween p l = IsWithin p l ⊎ IsNoChange l.outcome

  settled_between : (p : Parts) (end : Together) → ArePartsOf script.names end p → All (IsSettled (map (λ (m : Member). m.nodes) end.members)) end.lines
      → All (IsBetween p) p.lines
  settled_between p end of said = subst (All (IsBetween p)) (sym of.lines)
      (All-weaker (IsSettled (map (λ (m : Member). m.nodes) end.members)) (IsBetween p) (λ l s. elim s [
        | inl w ↦ (let r = part_there script.names end.members p.parts of.parts w.0 w.1 in inl (record {
          part = r.0;
          there = r.1;
          from = subst (λ (ns : List ℕ). Contains ns l.from.node) (sym r.2) w.2;
          to = subst (λ (ns : List ℕ). Contains ns l.to.node) (sym r.2) w.3;
        }))
        | inr same ↦ inr same
      ]) end.lines said)

  pub parted_between : (r : Result Parts PlanFault) → IsParted script.lines script.names waves ports r → IfOk r (λ p. All (IsBetween p) p.lines)
  parted_between (Err (F.Limit line which)) h = tt
  parted_between (Err F.Memory) h = tt
  parted_between (Ok p) h = settled_between p answer.0 answer.2
      (subst (λ (ps : List (List ℕ)). All (IsSettled ps) answer.0.lines) (sym settled.1) settled.0) where
        begins : IsBegun script.lines (length script.names) waves ports h.0
        begins = h.1

        parts : List (List ℕ)
        parts = begins.0

        partition : IsPartition script.lines (length script.names) waves ports parts
        partition = begins.1

        starts : AreBegun script.lines ports parts h.0
        starts = begins.2

        answer : IsPartsAnswer script.names waves h.0 script.lines (Ok p)
        answer = h.2

        start : Graph
        start = starts.0

        good : AreGoodLines 0 (kinds_of script.lines) script.lines
        good = record { named = named; lines_of = lines_are script ranges has }

        sound : IsSoundGraph 0 start
        sound = first_sound script.lines ports start ranges.ranges script_ports starts.1

        made : HasMade waves start script.lines partition.2.0
        made = subst (λ (g : Graph). HasMade waves g script.lines partition.2.0) (start_one script.lines ports partition.0 start partition.1 starts.1) partition.2.1

        below : All (λ (w : Wire). (w.from.node < length (kinds_of script.lines)) × (w.to.node < length (kinds_of script.lines))) partition.2.0
        below = made_below waves (kinds_of script.lines) script.lines 0 start sound starts.1.kinds good partition.2.0 made

        count : length script.names ≡ length (kinds_of script.lines)
        count = named_are script ranges has

        joins : (w : Wire) → Contains partition.2.0 w → IsJoined parts w
        joins w c = let b = All-contains (λ (x : Wire). (x.from.node < length (kinds_of script.lines)) × (x.to.node < length (kinds_of script.lines))) partition.2.0 w below c in
            let x = b.0 in let y = b.1 in
            joined_parts (length script.names) partition.2.0 parts partition.2.2 w c (omega (arith, x, count)) (omega (arith, y, count))

        whole_is : h.0.whole ≡ start
        whole_is = ap (λ (t : Together). t.whole) starts.2

        settled : All (IsSettled parts) answer.0.lines × (map (λ (m : Member). m.nodes) answer.0.members ≡ parts)
        settled = all_settled waves (kinds_of script.lines) parts script.lines 0 h.0 answer.0 partition.2.0
            (subst (IsSoundGraph 0) (sym whole_is) sound) (ap (λ (g : Graph). g.kinds) whole_is ∙ starts.1.kinds) good
            (subst (λ (g : Graph). HasMade waves g script.lines partition.2.0) (sym whole_is) made) joins
            (ap (λ (t : Together). map (λ (m : Member). m.nodes) t.members) starts.2 ∙ begun_nodes start parts)
            (subst (λ (ws : List Wire). (w : Wire) → Contains ws w → IsJoined parts w) (sym (ap (λ (g : Graph). g.wires) whole_is ∙ starts.1.wires)) (λ w c. absurd (let l = c.1 in omega (arith, l))))
            (subst (All (IsSettled parts)) (sym (ap (λ (t : Together). t.lines) starts.2)) (All-nil (IsSettled parts))) answer.1
