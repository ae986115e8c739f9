-- What a line does to one part: what other lines than `cycles` and `drain` do, and epochs that are taken.
use Rattle.std.proofs.Common.{◌≡◌, inl, inr, ℕ, zero, suc, ◌&&◌, not, Bool, true, false, List, Some, None, refl, sym, ap, subst}
use Rattle.std.specs.Prelude.{Option}
use Rattle.std.proofs.lemmas.Option.{same_Some, none-some}
use Rattle.pw_graph.specs.declared.ids.PortId.{PortId}
use Rattle.pw_lists.specs.declared.limit.Which.{Which}
use Rattle.pw_lists.specs.declared.limit.Which.TheVariants as W
use Rattle.pw_graph.specs.declared.plan.Epoch.{Epoch}
use Rattle.wav_files.specs.declared.wav.WavIn.{WavIn}
use Rattle.graph_script.specs.declared.command.Command.{Command}
use Rattle.graph_script.specs.declared.command.Command.TheVariants as C
use Rattle.graph_script.specs.declared.script.Line.{Line}
use Rattle.link_negotiation.specs.declared.negotiation.Linked.{Linked}
use Rattle.link_negotiation.specs.declared.negotiation.Linked.TheVariants as L
use Rattle.graph_lines.specs.declared.graph.Graph.{Graph}
use Rattle.graph_lines.specs.declared.graph.Stepped.{Stepped}
use Rattle.graph_lines.specs.declared.graph.Stepped.TheVariants as T
use Rattle.graph_lines.specs.EpochLines.{IsAfter, Steps}
use Rattle.graph_lines.specs.Epochs.{IsEpochOf}
use Rattle.graph_lines.specs.LinkLines.{IsRecorded}
use Rattle.graph_lines.specs.Lines.{Marks, Does}
use Rattle.graph_lines.specs.Ready.{IsReady, HasRan}
use Rattle.graph_lines.specs.Rehearsal.{Rehearses}
use Rattle.graph_lines.specs.Upcoming.{IsEpochFor, IsUpcoming}
use Rattle.graph_plan.specs.declared.member.Member.{Member}
use Rattle.graph_plan.specs.working.Ahead.{is_run}
use Rattle.graph_plan.specs.working.Members.{IsStanding}
use Rattle.graph_plan.specs.Moving.{RunsOn, MovesOn, MovesIf, Moves, Makes, MakesIf, MakesOf}
use Rattle.graph_plan.specs.working.MovingTogether.{HasTaken, MovesBy, GoesBy}
use Rattle.graph_plan.specs.PartLines.{is_line_of}
use Rattle.graph_plan.proofs.sound.StepLemmas.{step_kinds}

is_not : true ≡ false → ⊥
is_not e = cc

not_is : false ≡ true → ⊥
not_is e = cc

-- A LINE THAT RUNS NOTHING does the same, whatever its sums, and in a rehearsal; it makes no epoch
module _ (waves : List WavIn) (g : Graph) where
  pub moves_does : (c : Command) (after : Graph) → is_run c ≡ false → MovesOn waves g c after → Does g c T.Done after
  moves_does (C.Quantum n) after run h = h
  moves_does (C.Source n file) after run h = h
  moves_does (C.Square n rate channels period amp) after run h = h
  moves_does (C.Gain n gain) after run h = h
  moves_does (C.Mix2 n ga gb) after run h = h
  moves_does (C.Delay n frames) after run h = h
  moves_does (C.Map n channels list) after run h = h
  moves_does (C.Split n) after run h = h
  moves_does (C.Sink n file) after run h = h
  moves_does (C.Meter n) after run h = h
  moves_does (C.Driver n p) after run h = h
  moves_does (C.Loop n k) after run h = h
  moves_does (C.Offer port file) after run h = h
  moves_does (C.Buffers port n) after run h = h
  moves_does (C.Link from to) after run h = h
  moves_does (C.Unlink from to) after run h = h
  moves_does (C.On n) after run h = h
  moves_does (C.Off n) after run h = h
  moves_does (C.Async n) after run h = h
  moves_does (C.Cycles n) after run h = absurd (is_not run)
  moves_does C.Drain after run h = absurd (is_not run)

  pub does_moves : (c : Command) (after : Graph) → is_run c ≡ false → Does g c T.Done after → MovesOn waves g c after
  does_moves (C.Quantum n) after run h = h
  does_moves (C.Source n file) after run h = h
  does_moves (C.Square n rate channels period amp) after run h = h
  does_moves (C.Gain n gain) after run h = h
  does_moves (C.Mix2 n ga gb) after run h = h
  does_moves (C.Delay n frames) after run h = h
  does_moves (C.Map n channels list) after run h = h
  does_moves (C.Split n) after run h = h
  does_moves (C.Sink n file) after run h = h
  does_moves (C.Meter n) after run h = h
  does_moves (C.Driver n p) after run h = h
  does_moves (C.Loop n k) after run h = h
  does_moves (C.Offer port file) after run h = h
  does_moves (C.Buffers port n) after run h = h
  does_moves (C.Link from to) after run h = h
  does_moves (C.Unlink from to) after run h = h
  does_moves (C.On n) after run h = h
  does_moves (C.Off n) after run h = h
  does_moves (C.Async n) after run h = h
  does_moves (C.Cycles n) after run h = absurd (is_not run)
  does_moves C.Drain after run h = absurd (is_not run)

  pub steps_does : (c : Command) (s : Stepped) (after : Graph) → is_run c ≡ false → Steps waves g c s after → Does g c s after
  steps_does (C.Quantum n) s after run h = h
  steps_does (C.Source n file) s after run h = h
  steps_does (C.Square n rate channels period amp) s after run h = h
  steps_does (C.Gain n gain) s after run h = h
  steps_does (C.Mix2 n ga gb) s after run h = h
  steps_does (C.Delay n frames) s after run h = h
  steps_does (C.Map n channels list) s after run h = h
  steps_does (C.Split n) s after run h = h
  steps_does (C.Sink n file) s after run h = h
  steps_does (C.Meter n) s after run h = h
  steps_does (C.Driver n p) s after run h = h
  steps_does (C.Loop n k) s after run h = h
  steps_does (C.Offer port file) s after run h = h
  steps_does (C.Buffers port n) s after run h = h
  steps_does (C.Link from to) s after run h = h
  steps_does (C.Unlink from to) s after run h = h
  steps_does (C.On n) s after run h = h
  steps_does (C.Off n) s after run h = h
  steps_does (C.Async n) s after run h = h
  steps_does (C.Cycles n) s after run h = absurd (is_not run)
  steps_does C.Drain s after run h = absurd (is_not run)

  pub does_steps : (c : Command) (s : Stepped) (after : Graph) → is_run c ≡ false → Does g c s after → Steps waves g c s after
  does_steps (C.Quantum n) s after run h = h
  does_steps (C.Source n file) s after run h = h
  does_steps (C.Square n rate channels period amp) s after run h = h
  does_steps (C.Gain n gain) s after run h = h
  does_steps (C.Mix2 n ga gb) s after run h = h
  does_steps (C.Delay n frames) s after run h = h
  does_steps (C.Map n channels list) s after run h = h
  does_steps (C.Split n) s after run h = h
  does_steps (C.Sink n file) s after run h = h
  does_steps (C.Meter n) s after run h = h
  does_steps (C.Driver n p) s after run h = h
  does_steps (C.Loop n k) s after run h = h
  does_steps (C.Offer port file) s after run h = h
  does_steps (C.Buffers port n) s after run h = h
  does_steps (C.Link from to) s after run h = h
  does_steps (C.Unlink from to) s after run h = h
  does_steps (C.On n) s after run h = h
  does_steps (C.Off n) s after run h = h
  does_steps (C.Async n) s after run h = h
  does_steps (C.Cycles n) s after run h = absurd (is_not run)
  does_steps C.Drain s after run h = absurd (is_not run)

  pub rehearses_does : (c : Command) (s : Stepped) (after : Graph) → is_run c ≡ false → Rehearses waves g c s after → Does g c s after
  rehearses_does (C.Quantum n) s after run h = h
  rehearses_does (C.Source n file) s after run h = h
  rehearses_does (C.Square n rate channels period amp) s after run h = h
  rehearses_does (C.Gain n gain) s after run h = h
  rehearses_does (C.Mix2 n ga gb) s after run h = h
  rehearses_does (C.Delay n frames) s after run h = h
  rehearses_does (C.Map n channels list) s after run h = h
  rehearses_does (C.Split n) s after run h = h
  rehearses_does (C.Sink n file) s after run h = h
  rehearses_does (C.Meter n) s after run h = h
  rehearses_does (C.Driver n p) s after run h = h
  rehearses_does (C.Loop n k) s after run h = h
  rehearses_does (C.Offer port file) s after run h = h
  rehearses_does (C.Buffers port n) s after run h = h
  rehearses_does (C.Link from to) s after run h = h
  rehearses_does (C.Unlink from to) s after run h = h
  rehearses_does (C.On n) s after run h = h
  rehearses_does (C.Off n) s after run h = h
  rehearses_does (C.Async n) s after run h = h
  rehearses_does (C.Cycles n) s after run h = absurd (is_not run)
  rehearses_does C.Drain s after run h = absurd (is_not run)

  pub makes_none : (c : Command) (made : Option Epoch) → is_run c ≡ false → Makes waves g c made → made ≡ None
  makes_none (C.Quantum n) made run h = h
  makes_none (C.Source n file) made run h = h
  makes_none (C.Square n rate channels period amp) made run h = h
  makes_none (C.Gain n gain) made run h = h
  makes_none (C.Mix2 n ga gb) made run h = h
  makes_none (C.Delay n frames) made run h = h
  makes_none (C.Map n channels list) made run h = h
  makes_none (C.Split n) made run h = h
  makes_none (C.Sink n file) made run h = h
  makes_none (C.Meter n) made run h = h
  makes_none (C.Driver n p) made run h = h
  makes_none (C.Loop n k) made run h = h
  makes_none (C.Offer port file) made run h = h
  makes_none (C.Buffers port n) made run h = h
  makes_none (C.Link from to) made run h = h
  makes_none (C.Unlink from to) made run h = h
  makes_none (C.On n) made run h = h
  makes_none (C.Off n) made run h = h
  makes_none (C.Async n) made run h = h
  makes_none (C.Cycles n) made run h = absurd (is_not run)
  makes_none C.Drain made run h = absurd (is_not run)

  pub upcoming_none : (c : Command) (made : Option Epoch) → is_run c ≡ false → IsUpcoming waves g c made → made ≡ None
  upcoming_none (C.Quantum n) made run h = h
  upcoming_none (C.Source n file) made run h = h
  upcoming_none (C.Square n rate channels period amp) made run h = h
  upcoming_none (C.Gain n gain) made run h = h
  upcoming_none (C.Mix2 n ga gb) made run h = h
  upcoming_none (C.Delay n frames) made run h = h
  upcoming_none (C.Map n channels list) made run h = h
  upcoming_none (C.Split n) made run h = h
  upcoming_none (C.Sink n file) made run h = h
  upcoming_none (C.Meter n) made run h = h
  upcoming_none (C.Driver n p) made run h = h
  upcoming_none (C.Loop n k) made run h = h
  upcoming_none (C.Offer port file) made run h = h
  upcoming_none (C.Buffers port n) made run h = h
  upcoming_none (C.Link from to) made run h = h
  upcoming_none (C.Unlink from to) made run h = h
  upcoming_none (C.On n) made run h = h
  upcoming_none (C.Off n) made run h = h
  upcoming_none (C.Async n) made run h = h
  upcoming_none (C.Cycles n) made run h = absurd (is_not run)
  upcoming_none C.Drain made run h = absurd (is_not run)

  pub none_makes : (c : Command) (made : Option Epoch) → is_run c ≡ false → made ≡ None → Makes waves g c made
  none_makes (C.Quantum n) made run h = h
  none_makes (C.Source n file) made run h = h
  none_makes (C.Square n rate channels period amp) made run h = h
  none_makes (C.Gain n gain) made run h = h
  none_makes (C.Mix2 n ga gb) made run h = h
  none_makes (C.Delay n frames) made run h = h
  none_makes (C.Map n channels list) made run h = h
  none_makes (C.Split n) made run h = h
  none_makes (C.Sink n file) made run h = h
  none_makes (C.Meter n) made run h = h
  none_makes (C.Driver n p) made run h = h
  none_makes (C.Loop n k) made run h = h
  none_makes (C.Offer port file) made run h = h
  none_makes (C.Buffers port n) made run h = h
  none_makes (C.Link from to) made run h = h
  none_makes (C.Unlink from to) made run h = h
  none_makes (C.On n) made run h = h
  none_makes (C.Off n) made run h = h
  none_makes (C.Async n) made run h = h
  none_makes (C.Cycles n) made run h = absurd (is_not run)
  none_makes C.Drain made run h = absurd (is_not run)

-- it leaves the sums, and passes only the limit of links
marks_sums : (g after : Graph) (n : ℕ) → Marks g n after → after.sums ≡ g.sums
marks_sums g after n (inl h) = ap (λ (x : Graph). x.sums) h.1
marks_sums g after n (inr h) = ap (λ (x : Graph). x.sums) h.1

pub does_sums : (g after : Graph) (c : Command) → Does g c T.Done after → after.sums ≡ g.sums
does_sums g after (C.Quantum n) h = ap (λ (x : Graph). x.sums) h.1
does_sums g after (C.Source n file) h = ap (λ (x : Graph). x.sums) h.1
does_sums g after (C.Square n rate channels period amp) h = ap (λ (x : Graph). x.sums) h.1
does_sums g after (C.Gain n gain) h = ap (λ (x : Graph). x.sums) h.1
does_sums g after (C.Mix2 n ga gb) h = ap (λ (x : Graph). x.sums) h.1
does_sums g after (C.Delay n frames) h = ap (λ (x : Graph). x.sums) h.1
does_sums g after (C.Map n channels list) h = ap (λ (x : Graph). x.sums) h.1
does_sums g after (C.Split n) h = ap (λ (x : Graph). x.sums) h.1
does_sums g after (C.Sink n file) h = ap (λ (x : Graph). x.sums) h.1
does_sums g after (C.Meter n) h = ap (λ (x : Graph). x.sums) h.1
does_sums g after (C.Driver n p) h = ap (λ (x : Graph). x.sums) h.1
does_sums g after (C.Loop n k) h = ap (λ (x : Graph). x.sums) h.1
does_sums g after (C.Offer port file) h = ap (λ (x : Graph). x.sums) h.1
does_sums g after (C.Buffers port n) h = ap (λ (x : Graph). x.sums) h.1
does_sums g after (C.Link from to) h = ap (λ (x : Graph). x.sums) h.same
does_sums g after (C.Unlink from to) h = ap (λ (x : Graph). x.sums) h.1.same
does_sums g after (C.On n) h = ap (λ (x : Graph). x.sums) h.1
does_sums g after (C.Off n) h = ap (λ (x : Graph). x.sums) h.1
does_sums g after (C.Async n) h = marks_sums g after n h.1
does_sums g after (C.Cycles n) h = absurd h
does_sums g after C.Drain h = absurd h

passed_done : (which : Which) → T.Passed which ≡ T.Done → ⊥
passed_done which e = cc

same_limit : (v w : Which) → T.Passed v ≡ T.Passed w → v ≡ w
same_limit v w e = cc

recorded_passed : (g after : Graph) (from to : PortId) (linked : Linked) (which : Which) → IsRecorded g from to linked (T.Passed which) after → which ≡ W.Links
recorded_passed g after from to (L.Made format buffers) which h = absurd (passed_done which h.0)
recorded_passed g after from to (L.NoFormat key) which h = absurd (passed_done which h.0)
recorded_passed g after from to L.NoBuffers which h = absurd (passed_done which h.0)
recorded_passed g after from to L.Twice which h = absurd (passed_done which h.0)
recorded_passed g after from to L.Loop which h = absurd (passed_done which h.0)
recorded_passed g after from to L.Many which h = same_limit which W.Links h.0

pub does_passed : (g after : Graph) (c : Command) (which : Which) → Does g c (T.Passed which) after → which ≡ W.Links
does_passed g after (C.Quantum n) which h = absurd (passed_done which h.0)
does_passed g after (C.Source n file) which h = absurd (passed_done which h.0)
does_passed g after (C.Square n rate channels period amp) which h = absurd (passed_done which h.0)
does_passed g after (C.Gain n gain) which h = absurd (passed_done which h.0)
does_passed g after (C.Mix2 n ga gb) which h = absurd (passed_done which h.0)
does_passed g after (C.Delay n frames) which h = absurd (passed_done which h.0)
does_passed g after (C.Map n channels list) which h = absurd (passed_done which h.0)
does_passed g after (C.Split n) which h = absurd (passed_done which h.0)
does_passed g after (C.Sink n file) which h = absurd (passed_done which h.0)
does_passed g after (C.Meter n) which h = absurd (passed_done which h.0)
does_passed g after (C.Driver n p) which h = absurd (passed_done which h.0)
does_passed g after (C.Loop n k) which h = absurd (passed_done which h.0)
does_passed g after (C.Offer port file) which h = absurd (passed_done which h.0)
does_passed g after (C.Buffers port n) which h = absurd (passed_done which h.0)
does_passed g after (C.Link from to) which h = recorded_passed g after from to h.linked which h.noted
does_passed g after (C.Unlink from to) which h = absurd (passed_done which h.0)
does_passed g after (C.On n) which h = absurd (passed_done which h.0)
does_passed g after (C.Off n) which h = absurd (passed_done which h.0)
does_passed g after (C.Async n) which h = absurd (passed_done which h.0)
does_passed g after (C.Cycles n) which h = absurd h
does_passed g after C.Drain which h = absurd h

-- A RUN: an epoch that is taken, or no epoch
for_none : (g : Graph) (n : ℕ) → IsEpochFor g n None → RunsOn g n g
for_none g zero h = refl
for_none g (suc n) h = absurd (none-some h.0 h.2)

for_some : (g after : Graph) (n : ℕ) (e : Epoch) → IsEpochFor g n (Some e) → IsAfter g e after → RunsOn g n after
for_some g after zero e h a = absurd (none-some e (sym h))
for_some g after (suc n) e h a = (e, subst (IsEpochOf g (suc n)) (sym (same_Some e h.0 h.2)) h.1, a)

stays : (waves : List WavIn) (g : Graph) (c : Command) → is_run c ≡ true → Makes waves g c None → MovesOn waves g c g
stays waves g (C.Quantum n) run h = absurd (not_is run)
stays waves g (C.Source n file) run h = absurd (not_is run)
stays waves g (C.Square n rate channels period amp) run h = absurd (not_is run)
stays waves g (C.Gain n gain) run h = absurd (not_is run)
stays waves g (C.Mix2 n ga gb) run h = absurd (not_is run)
stays waves g (C.Delay n frames) run h = absurd (not_is run)
stays waves g (C.Map n channels list) run h = absurd (not_is run)
stays waves g (C.Split n) run h = absurd (not_is run)
stays waves g (C.Sink n file) run h = absurd (not_is run)
stays waves g (C.Meter n) run h = absurd (not_is run)
stays waves g (C.Driver n p) run h = absurd (not_is run)
stays waves g (C.Loop n k) run h = absurd (not_is run)
stays waves g (C.Offer port file) run h = absurd (not_is run)
stays waves g (C.Buffers port n) run h = absurd (not_is run)
stays waves g (C.Link from to) run h = absurd (not_is run)
stays waves g (C.Unlink from to) run h = absurd (not_is run)
stays waves g (C.On n) run h = absurd (not_is run)
stays waves g (C.Off n) run h = absurd (not_is run)
stays waves g (C.Async n) run h = absurd (not_is run)
stays waves g (C.Cycles n) run h = for_none g n h
stays waves g C.Drain run h = (h.0, h.1, for_none g h.0 h.2)

takes : (waves : List WavIn) (g after : Graph) (c : Command) (e : Epoch) → Makes waves g c (Some e) → IsAfter g e after → MovesOn waves g c after
takes waves g after (C.Quantum n) e h a = absurd (none-some e (sym h))
takes waves g after (C.Source n file) e h a = absurd (none-some e (sym h))
takes waves g after (C.Square n rate channels period amp) e h a = absurd (none-some e (sym h))
takes waves g after (C.Gain n gain) e h a = absurd (none-some e (sym h))
takes waves g after (C.Mix2 n ga gb) e h a = absurd (none-some e (sym h))
takes waves g after (C.Delay n frames) e h a = absurd (none-some e (sym h))
takes waves g after (C.Map n channels list) e h a = absurd (none-some e (sym h))
takes waves g after (C.Split n) e h a = absurd (none-some e (sym h))
takes waves g after (C.Sink n file) e h a = absurd (none-some e (sym h))
takes waves g after (C.Meter n) e h a = absurd (none-some e (sym h))
takes waves g after (C.Driver n p) e h a = absurd (none-some e (sym h))
takes waves g after (C.Loop n k) e h a = absurd (none-some e (sym h))
takes waves g after (C.Offer port file) e h a = absurd (none-some e (sym h))
takes waves g after (C.Buffers port n) e h a = absurd (none-some e (sym h))
takes waves g after (C.Link from to) e h a = absurd (none-some e (sym h))
takes waves g after (C.Unlink from to) e h a = absurd (none-some e (sym h))
takes waves g after (C.On n) e h a = absurd (none-some e (sym h))
takes waves g after (C.Off n) e h a = absurd (none-some e (sym h))
takes waves g after (C.Async n) e h a = absurd (none-some e (sym h))
takes waves g after (C.Cycles n) e h a = for_some g after n e h a
takes waves g after C.Drain e h a = (h.0, h.1, for_some g after h.0 e h.2 a)

-- no line changes the kinds
runs_kinds : (g after : Graph) (n : ℕ) → RunsOn g n after → after.kinds ≡ g.kinds
runs_kinds g after zero h = ap (λ (x : Graph). x.kinds) h
runs_kinds g after (suc n) h = ap (λ (x : Graph). x.kinds) h.2.same

on_kinds : (waves : List WavIn) (g after : Graph) (c : Command) → MovesOn waves g c after → after.kinds ≡ g.kinds
on_kinds waves g after (C.Quantum n) h = step_kinds waves g after (C.Quantum n) h
on_kinds waves g after (C.Source n file) h = step_kinds waves g after (C.Source n file) h
on_kinds waves g after (C.Square n rate channels period amp) h = step_kinds waves g after (C.Square n rate channels period amp) h
on_kinds waves g after (C.Gain n gain) h = step_kinds waves g after (C.Gain n gain) h
on_kinds waves g after (C.Mix2 n ga gb) h = step_kinds waves g after (C.Mix2 n ga gb) h
on_kinds waves g after (C.Delay n frames) h = step_kinds waves g after (C.Delay n frames) h
on_kinds waves g after (C.Map n channels list) h = step_kinds waves g after (C.Map n channels list) h
on_kinds waves g after (C.Split n) h = step_kinds waves g after (C.Split n) h
on_kinds waves g after (C.Sink n file) h = step_kinds waves g after (C.Sink n file) h
on_kinds waves g after (C.Meter n) h = step_kinds waves g after (C.Meter n) h
on_kinds waves g after (C.Driver n p) h = step_kinds waves g after (C.Driver n p) h
on_kinds waves g after (C.Loop n k) h = step_kinds waves g after (C.Loop n k) h
on_kinds waves g after (C.Offer port file) h = step_kinds waves g after (C.Offer port file) h
on_kinds waves g after (C.Buffers port n) h = step_kinds waves g after (C.Buffers port n) h
on_kinds waves g after (C.Link from to) h = step_kinds waves g after (C.Link from to) h
on_kinds waves g after (C.Unlink from to) h = step_kinds waves g after (C.Unlink from to) h
on_kinds waves g after (C.On n) h = step_kinds waves g after (C.On n) h
on_kinds waves g after (C.Off n) h = step_kinds waves g after (C.Off n) h
on_kinds waves g after (C.Async n) h = step_kinds waves g after (C.Async n) h
on_kinds waves g after (C.Cycles n) h = runs_kinds g after n h
on_kinds waves g after C.Drain h = runs_kinds g after h.0 h.2

if_kinds : (waves : List WavIn) (g after : Graph) (c : Command) (b : Bool) → MovesIf b waves g c after → after.kinds ≡ g.kinds
if_kinds waves g after c true h = on_kinds waves g after c h
if_kinds waves g after c false h = ap (λ (x : Graph). x.kinds) h

pub moves_kinds : (waves : List WavIn) (l : Line) (m after : Member) → Moves waves l m after → after.graph.kinds ≡ m.graph.kinds
moves_kinds waves l m after h = if_kinds waves m.graph after.graph l.command (is_line_of m.nodes l) h.1

-- A PART: no epoch is made of it, and nothing is done
module _ (waves : List WavIn) (l : Line) (m : Member) where
  still : (b r : Bool) → is_run l.command ≡ r → (b && not r) ≡ false → MakesIf b waves m.graph l.command None → MovesIf b waves m.graph l.command m.graph
  still true true run e h = stays waves m.graph l.command run h
  still true false run e h = absurd (is_not e)
  still false r run e h = refl

  pub moves_nothing : (is_line_of m.nodes l && not (is_run l.command)) ≡ false → MakesOf waves l m None → IsStanding m → MovesBy waves l m None m
  moves_nothing e h stands = record {
    moves = (refl, still (is_line_of m.nodes l) (is_run l.command) refl e h);
    sums = refl;
    stands = stands;
  }

  -- an epoch is taken
  one_taken : (after : Graph) (e : Epoch) (b : Bool) → MakesIf b waves m.graph l.command (Some e) → IsAfter m.graph e after
      → MovesIf b waves m.graph l.command after
  one_taken after e true h a = takes waves m.graph after l.command e h a
  one_taken after e false h a = absurd (none-some e (sym h))

  pub moves_taken : (e : Epoch) (after : Member) → MakesOf waves l m (Some e) → HasTaken m e after → MovesBy waves l m (Some e) after
  moves_taken e after h t = record {
    moves = (t.nodes, one_taken after.graph e (is_line_of m.nodes l) h t.graph);
    sums = ap (λ (x : Graph). x.sums) t.graph.same;
    stands = t.stands;
  }

  -- a line of it that makes no epoch is done, or passes the limit of links
  pub moves_changed : (s : Stepped) (after : Member) → is_line_of m.nodes l ≡ true → is_run l.command ≡ false → after.nodes ≡ m.nodes
      → Steps waves m.graph l.command s after.graph → (s ≡ T.Done → IsReady after.graph) → (s ≡ T.Done → HasRan after.graph)
      → GoesBy waves l m None s after
  moves_changed T.Done after is run nodes h ready ran =
      let d = steps_does waves m.graph l.command T.Done after.graph run h in
      record {
        moves = (
          nodes,
          subst (λ (b : Bool). MovesIf b waves m.graph l.command after.graph) (sym is)
              (does_moves waves m.graph l.command after.graph run d),
        );
        sums = does_sums m.graph after.graph l.command d;
        stands = record { ready = ready refl; ran = ran refl };
      }
  moves_changed (T.Passed which) after is run nodes h ready ran =
      let d = steps_does waves m.graph l.command (T.Passed which) after.graph run h in
      let links = does_passed m.graph after.graph l.command which d in
      (links, is, subst (λ (w : Which). Does m.graph l.command (T.Passed w) after.graph) links d)
