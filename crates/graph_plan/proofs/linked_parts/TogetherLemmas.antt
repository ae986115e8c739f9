-- All parts, followed together: what a line needs of them, what it leaves, and that each part is
-- followed by itself.
use Rattle.std.proofs.Common.{◌≡◌, inl, inr, ℕ, zero, suc, ◌+◌, ◌<◌, Bool, true, false, cond, List, [], ◌∷◌, ◌++◌, length, get_or, map, drop}
use Rattle.std.proofs.Common.{None, refl, sym, ap, ◌∙◌, subst, arith}
use Rattle.std.specs.Prelude.{Result, Ok, Err, IfOk, All}
use Rattle.std.specs.List.{AllZip}
use Rattle.std.proofs.lemmas.List.Elements.{All-cons, All-nil, All-weaker}
use Rattle.pw_graph.specs.declared.kind.Kind.{Kind}
use Rattle.pw_lists.specs.declared.limit.Which.{Which}
use Rattle.pw_lists.specs.declared.memory.Memory.{Memory}
use Rattle.wav_files.specs.declared.wav.WavIn.{WavIn}
use Rattle.graph_script.specs.declared.command.Command.{Command}
use Rattle.graph_script.specs.declared.command.Command.TheVariants as C
use Rattle.graph_script.specs.declared.script.Line.{Line}
use Rattle.graph_script.specs.Kinds.{HasPorts}
use Rattle.graph_script.specs.Ranges.{IsInRange, HasNodes}
use Rattle.graph_lines.specs.declared.graph.Graph.{Graph}
use Rattle.graph_lines.specs.declared.graph.Stepped.{Stepped}
use Rattle.graph_lines.specs.declared.graph.Stepped.TheVariants as T
use Rattle.graph_lines.specs.Conditions.{MayStep}
use Rattle.graph_lines.specs.EpochLines.{RunsFor, Steps}
use Rattle.graph_lines.specs.Ready.{IsReady}
use Rattle.graph_lines.specs.Rehearsal.{Rehearses}
use Rattle.graph_lines.specs.Sums.{passed}
use Rattle.graph_plan.specs.declared.member.Member.{Member}
use Rattle.graph_plan.specs.declared.together.Together.{Together}
use Rattle.graph_plan.specs.Conditions.{AreLinesOf}
use Rattle.graph_plan.specs.Following.{Follows}
use Rattle.graph_plan.specs.working.Members.{IsStanding, IsReadyFor, IsMemberOf, AreReady}
use Rattle.graph_plan.specs.Moving.{RunsOn, MovesOn, MovesIf, Moves, total}
use Rattle.graph_plan.specs.working.MovingTogether.{MoveOrPass, StepsTogether}
use Rattle.graph_plan.specs.PartLines.{is_line_of, part_lines}
use Rattle.graph_plan.specs.Together.{noted, GoesOn, Passes, FollowTogether}
use Rattle.graph_plan.proofs.linked_parts.AheadLemmas.{first_within}
use Rattle.graph_plan.proofs.FollowingLemmas.{may, next_line}
use Rattle.graph_plan.proofs.linked_parts.MovingLemmas.{moves_kinds}
use Rattle.graph_plan.proofs.lists.AllZipLemmas.{pairs_over}
use Rattle.graph_plan.proofs.linked_parts.RehearsalLemmas.{rehearsal_kinds}

-- WHAT A LINE NEEDS
pub may_here : (g : Graph) (kinds : List Kind) (l : Line) → IsReady g → g.kinds ≡ kinds → AreLinesOf kinds (l ∷ []) → MayStep g l.command
may_here g kinds l ready same h =
    let low : 0 < length (l ∷ []) = omega arith in
    may g ready l.command (h.ranges 0 l low) (subst (λ (ks : List Kind). HasPorts ks l.command) (sym same) (h.ports 0 l low))
    (subst (λ (ks : List Kind). HasNodes (length ks) l.command) (sym same) (h.nodes 0 l low))

pub line_here : (kinds : List Kind) (lines : List Line) (i : ℕ) (l : Line) → AreLinesOf kinds lines → i < length lines → l ≡ get_or lines i l
    → AreLinesOf kinds (l ∷ [])
line_here kinds lines i l h lt is = record {
  ranges = All-cons (λ (x : Line). IsInRange x.command) l [] (subst (λ (x : Line). IsInRange x.command) (sym is) (h.ranges i l lt))
      (All-nil (λ (x : Line). IsInRange x.command));
  ports = All-cons (λ (x : Line). HasPorts kinds x.command) l [] (subst (λ (x : Line). HasPorts kinds x.command) (sym is) (h.ports i l lt))
      (All-nil (λ (x : Line). HasPorts kinds x.command));
  nodes = All-cons (λ (x : Line). HasNodes (length kinds) x.command) l [] (subst (λ (x : Line). HasNodes (length kinds) x.command) (sym is) (h.nodes i l lt))
      (All-nil (λ (x : Line). HasNodes (length kinds) x.command));
}

pub ready_parts : (t : Together) (l : Line) → AreReady t → AreLinesOf t.whole.kinds (l ∷ []) → All (IsReadyFor l) t.members
ready_parts t l ready h = All-weaker (IsMemberOf t.whole.kinds) (IsReadyFor l) (λ m is. record {
  stands = is.stands;
  may = may_here m.graph t.whole.kinds l is.stands.ready is.kinds_are h;
}) t.members ready.members

-- WHAT IT LEAVES
module _ (waves : List WavIn) (l : Line) (t next : Together) (middle : Graph) (rehearsed : Rehearses waves t.whole l.command T.Done middle) where
  stepped_so : (s : Stepped) → next.whole ≡ middle → MoveOrPass waves l t.members s next.members
      → (s ≡ T.Done → next.lines ≡ t.lines ++ noted next.whole next.members l.command) → StepsTogether waves t l s next
  stepped_so T.Done whole moved lines = record {
    whole = subst (Rehearses waves t.whole l.command T.Done) (sym whole) rehearsed;
    members = moved.each;
    sums = moved.sums;
    lines = lines refl;
  }
  stepped_so (T.Passed which) whole (inl many) lines = inl (many.0, inl many.1)
  stepped_so (T.Passed which) whole (inr sums) lines = inr sums

  pub steps_together : (r : Result Stepped Memory) → IfOk r (λ s. next.whole ≡ middle) → IfOk r (λ s. MoveOrPass waves l t.members s next.members)
      → IfOk r (λ s. s ≡ T.Done → next.lines ≡ t.lines ++ noted next.whole next.members l.command) → IfOk r (λ s. StepsTogether waves t l s next)
  steps_together (Ok s) whole moved lines = stepped_so s whole moved lines
  steps_together (Err m) whole moved lines = tt

  whole_kinds : next.whole ≡ middle → next.whole.kinds ≡ t.whole.kinds
  whole_kinds whole = ap (λ (g : Graph). g.kinds) whole ∙ rehearsal_kinds waves t.whole middle l.command T.Done rehearsed

  kept_member : (kinds : List Kind) → (m after : Member) → Moves waves l m after × IsStanding after → IsMemberOf t.whole.kinds m → IsMemberOf t.whole.kinds after
  kept_member kinds m after h is = record { stands = h.1; kinds_are = moves_kinds waves l m after h.0 ∙ is.kinds_are }

  with_stand : (ms ns : List Member) → AllZip (Moves waves l) ms ns → All IsStanding ns → AllZip (λ (m after : Member). Moves waves l m after × IsStanding after) ms ns
  with_stand [] [] h s = tt
  with_stand [] (a ∷ ns) h s = absurd h
  with_stand (m ∷ ms) [] h s = absurd h
  with_stand (m ∷ ms) (a ∷ ns) h s = ((h.0, s 0 a (omega arith)), with_stand ms ns h.1 (λ i d low. s (suc i) d (omega (arith, low))))

  pub ready_after : (r : Result Stepped Memory) → AreReady t → IsReady middle → IfOk r (λ s. next.whole ≡ middle)
      → IfOk r (λ s. MoveOrPass waves l t.members s next.members) → IfOk r (λ s. s ≡ T.Done → AreReady next)
  ready_after (Ok T.Done) ready sound whole moved = λ e. record {
    whole = subst IsReady (sym whole) sound;
    members = subst (λ (ks : List Kind). All (IsMemberOf ks) next.members) (sym (whole_kinds whole))
        (pairs_over (λ (m after : Member). Moves waves l m after × IsStanding after) (IsMemberOf t.whole.kinds) (IsMemberOf t.whole.kinds)
        (kept_member t.whole.kinds) t.members next.members ready.members (with_stand t.members next.members moved.each moved.stand));
  }
  ready_after (Ok (T.Passed which)) ready sound whole moved = λ e. absurd (passed_done which e) where
    passed_done : (w : Which) → T.Passed w ≡ T.Done → ⊥
    passed_done w d = cc
  ready_after (Err m) ready sound whole moved = tt

  pub kinds_after : (r : Result Stepped Memory) → IfOk r (λ s. next.whole ≡ middle) → IfOk r (λ s. s ≡ T.Done → next.whole.kinds ≡ t.whole.kinds)
  kinds_after (Ok s) whole = λ e. whole_kinds whole
  kinds_after (Err m) whole = tt

-- ONE LINE MORE
module _ (waves : List WavIn) (t : Together) (lines : List Line) (i : ℕ) (line : Line) (lt : i < length lines) (is : line ≡ get_or lines i line) where
  left : drop i lines ≡ line ∷ drop (i + 1) lines
  left = next_line waves t.whole lines i line lt is

  pub together_more : (next : Together) (outcome : Result Together (ℕ × Which)) → GoesOn waves t line next
      → FollowTogether waves next (drop (i + 1) lines) outcome → FollowTogether waves t (drop i lines) outcome
  together_more next outcome g f = subst (λ (ls : List Line). FollowTogether waves t ls outcome) (sym left) (inl (next, g, f))

  pub together_stop : (which : Which) → Passes waves t line which → FollowTogether waves t (drop i lines) (Err (line.line, which))
  together_stop which p = subst (λ (ls : List Line). FollowTogether waves t ls (Err (line.line, which))) (sym left) (inr (which, p, refl))

-- A LINE that is done, and passes no limit by the part's own sums
runs_from : (g : Graph) (n : ℕ) (after : Graph) → RunsOn g n after → passed after.sums ≡ None → RunsFor g n T.Done after
runs_from g zero after h p = (refl, h)
runs_from g (suc n) after h p = (h.0, h.1, (ap passed (sym (ap (λ (x : Graph). x.sums) h.2.same)) ∙ p, h.2))

pub steps_from : (waves : List WavIn) (g : Graph) (c : Command) (after : Graph) → MovesOn waves g c after → passed after.sums ≡ None
    → Steps waves g c T.Done after
steps_from waves g (C.Quantum n) after h none = h
steps_from waves g (C.Source n file) after h none = h
steps_from waves g (C.Square n rate channels period amp) after h none = h
steps_from waves g (C.Gain n gain) after h none = h
steps_from waves g (C.Mix2 n ga gb) after h none = h
steps_from waves g (C.Delay n frames) after h none = h
steps_from waves g (C.Map n channels list) after h none = h
steps_from waves g (C.Split n) after h none = h
steps_from waves g (C.Sink n file) after h none = h
steps_from waves g (C.Meter n) after h none = h
steps_from waves g (C.Driver n p) after h none = h
steps_from waves g (C.Loop n k) after h none = h
steps_from waves g (C.Offer port file) after h none = h
steps_from waves g (C.Buffers port n) after h none = h
steps_from waves g (C.Link from to) after h none = h
steps_from waves g (C.Unlink from to) after h none = h
steps_from waves g (C.On n) after h none = h
steps_from waves g (C.Off n) after h none = h
steps_from waves g (C.Async n) after h none = h
steps_from waves g (C.Cycles n) after h none = runs_from g n after h none
steps_from waves g C.Drain after h none = (h.0, h.1, runs_from g h.0 after h.2 none)

module _ (waves : List WavIn) where
  -- a part that is followed by itself
  pub record IsAlone (ls : List Line) (m end : Member) : Type 0 where
    pub nodes_are : end.nodes ≡ m.nodes
    pub follows : Follows waves m.graph (part_lines m.nodes ls) (Ok end.graph)

  one : (l : Line) (ls : List Line) (m n e : Member) → Moves waves l m n → passed n.graph.sums ≡ None → IsAlone ls n e → IsAlone (l ∷ ls) m e
  one l ls m n e h none f = record { nodes_are = f.nodes_are ∙ h.0; follows = go (is_line_of m.nodes l) refl } where
    rest : Follows waves n.graph (part_lines m.nodes ls) (Ok e.graph)
    rest = subst (λ (ns : List ℕ). Follows waves n.graph (part_lines ns ls) (Ok e.graph)) h.0 f.follows

    go : (b : Bool) → is_line_of m.nodes l ≡ b → Follows waves m.graph (part_lines m.nodes (l ∷ ls)) (Ok e.graph)
    go true is = subst (λ (b : Bool). Follows waves m.graph (cond b (l ∷ part_lines m.nodes ls) (part_lines m.nodes ls)) (Ok e.graph)) (sym is)
        (inl (n.graph, steps_from waves m.graph l.command n.graph (subst (λ (b : Bool). MovesIf b waves m.graph l.command n.graph) is h.1) none, rest))
    go false is = subst (λ (b : Bool). Follows waves m.graph (cond b (l ∷ part_lines m.nodes ls) (part_lines m.nodes ls)) (Ok e.graph)) (sym is)
        (subst (λ (g : Graph). Follows waves g (part_lines m.nodes ls) (Ok e.graph)) (subst (λ (b : Bool). MovesIf b waves m.graph l.command n.graph) is h.1) rest)

  step : (l : Line) (ls : List Line) (ms ns es : List Member) → AllZip (Moves waves l) ms ns → passed (total (map (λ (m : Member). m.graph.sums) ns)) ≡ None
      → AllZip (IsAlone ls) ns es → AllZip (IsAlone (l ∷ ls)) ms es
  step l ls [] [] [] h none f = tt
  step l ls [] [] (e ∷ es) h none f = absurd f
  step l ls [] (n ∷ ns) es h none f = absurd h
  step l ls (m ∷ ms) [] es h none f = absurd h
  step l ls (m ∷ ms) (n ∷ ns) [] h none f = absurd f
  step l ls (m ∷ ms) (n ∷ ns) (e ∷ es) h none f = let w = first_within n.graph.sums (map (λ (x : Member). x.graph.sums) ns) none in
      (one l ls m n e h.0 w.0 f.0, step l ls ms ns es h.1 w.1 f.1)

  same : (ms : List Member) → AllZip (IsAlone []) ms ms
  same [] = tt
  same (m ∷ ms) = (record { nodes_are = refl; follows = refl }, same ms)

  ok_is : (x y : Together) → ◌≡◌ {A = Result Together (ℕ × Which)} (Ok x) (Ok y) → x ≡ y
  ok_is x y e = cc

  ok_not : (x : Together) (y : ℕ × Which) → ◌≡◌ {A = Result Together (ℕ × Which)} (Ok x) (Err y) → ⊥
  ok_not x y e = cc

  -- EACH PART is followed by itself
  pub each_alone : (ls : List Line) (t end : Together) → FollowTogether waves t ls (Ok end) → AllZip (IsAlone ls) t.members end.members
  each_alone [] t end f = subst (λ (x : Together). AllZip (IsAlone []) t.members x.members) (sym (ok_is end t f)) (same t.members)
  each_alone (l ∷ ls) t end (inl f) = let goes = f.1 in
      step l ls t.members f.0.members end.members goes.members goes.sums (each_alone ls f.0 end f.2)
  each_alone (l ∷ ls) t end (inr f) = absurd (ok_not end (l.line, f.0) f.2)
