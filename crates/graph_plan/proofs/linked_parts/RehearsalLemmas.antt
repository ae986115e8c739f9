-- A line of a rehearsal: the kinds of the nodes stay, and the links that it makes are after those
-- made before.
use Rattle.std.proofs.Common.{◌≡◌, ℕ, zero, suc, ◌+◌, ◌<◌, ◌≤◌, List, [], ◌++◌, length, get_or, drop, refl, sym, ap, ◌∙◌, subst, append_assoc, append-nil}
use Rattle.std.proofs.lemmas.List.{drop_all}
use Rattle.std.specs.Prelude.{All}
use Rattle.std.proofs.lemmas.List.Elements.{All-append, All-drop}
use Rattle.wav_files.specs.declared.wav.WavIn.{WavIn}
use Rattle.graph_script.specs.declared.command.Command.{Command}
use Rattle.graph_script.specs.declared.command.Command.TheVariants as C
use Rattle.graph_script.specs.declared.script.Line.{Line}
use Rattle.graph_lines.specs.declared.graph.Graph.{Graph}
use Rattle.graph_lines.specs.declared.graph.Stepped.{Stepped}
use Rattle.graph_lines.specs.declared.wire.Wire.{Wire}
use Rattle.graph_lines.specs.Ready.{IsReady}
use Rattle.graph_lines.specs.Rehearsal.{GoesPast, Rehearses, HasMade}
use Rattle.graph_lines.specs.Searching.{IsWithin}
use Rattle.graph_lines.proofs.EpochLemmas.{wires_within}
use Rattle.graph_plan.proofs.FollowingLemmas.{next_line}
use Rattle.graph_plan.proofs.sound.StepLemmas.{kinds_marked}

kinds_past : (g after : Graph) (n : ℕ) → GoesPast g n after → after.kinds ≡ g.kinds
kinds_past g after zero h = ap (λ (x : Graph). x.kinds) h
kinds_past g after (suc n) h = ap (λ (x : Graph). x.kinds) h.2

pub rehearsal_kinds : (waves : List WavIn) (g after : Graph) (command : Command) (stepped : Stepped) → Rehearses waves g command stepped after
    → after.kinds ≡ g.kinds
rehearsal_kinds waves g after (C.Source n file) stepped h = ap (λ (x : Graph). x.kinds) h.1
rehearsal_kinds waves g after (C.Square n rate channels period amp) stepped h = ap (λ (x : Graph). x.kinds) h.1
rehearsal_kinds waves g after (C.Gain n gain) stepped h = ap (λ (x : Graph). x.kinds) h.1
rehearsal_kinds waves g after (C.Mix2 n ga gb) stepped h = ap (λ (x : Graph). x.kinds) h.1
rehearsal_kinds waves g after (C.Delay n frames) stepped h = ap (λ (x : Graph). x.kinds) h.1
rehearsal_kinds waves g after (C.Map n channels list) stepped h = ap (λ (x : Graph). x.kinds) h.1
rehearsal_kinds waves g after (C.Split n) stepped h = ap (λ (x : Graph). x.kinds) h.1
rehearsal_kinds waves g after (C.Sink n file) stepped h = ap (λ (x : Graph). x.kinds) h.1
rehearsal_kinds waves g after (C.Meter n) stepped h = ap (λ (x : Graph). x.kinds) h.1
rehearsal_kinds waves g after (C.Driver n p) stepped h = ap (λ (x : Graph). x.kinds) h.1
rehearsal_kinds waves g after (C.Loop n k) stepped h = ap (λ (x : Graph). x.kinds) h.1
rehearsal_kinds waves g after (C.On n) stepped h = ap (λ (x : Graph). x.kinds) h.1
rehearsal_kinds waves g after (C.Off n) stepped h = ap (λ (x : Graph). x.kinds) h.1
rehearsal_kinds waves g after (C.Async n) stepped h = kinds_marked g after n h.1
rehearsal_kinds waves g after (C.Buffers port n) stepped h = ap (λ (x : Graph). x.kinds) h.1
rehearsal_kinds waves g after (C.Link from to) stepped h = ap (λ (x : Graph). x.kinds) h.same
rehearsal_kinds waves g after (C.Unlink from to) stepped h = ap (λ (x : Graph). x.kinds) h.1.same
rehearsal_kinds waves g after (C.Quantum n) stepped h = ap (λ (x : Graph). x.kinds) h.1
rehearsal_kinds waves g after (C.Offer port file) stepped h = ap (λ (x : Graph). x.kinds) h.1
rehearsal_kinds waves g after (C.Cycles n) stepped h = kinds_past g after n h.1
rehearsal_kinds waves g after C.Drain stepped h = kinds_past g after h.1.0 h.1.2

-- EVERY LINK that lines make, as far as a rehearsal has got
pub record HasMadeSoFar (waves : List WavIn) (start : Graph) (lines : List Line) (i : ℕ) (g : Graph) (made : List Wire) : Type 0 where
  pub rest : (later : List Wire) → HasMade waves g (drop i lines) later → HasMade waves start lines (made ++ later)

pub made_begins : (waves : List WavIn) (start : Graph) (lines : List Line) (made : List Wire) → made ≡ [] → HasMadeSoFar waves start lines 0 start made
made_begins waves start lines made none = record {
  rest = λ later h. subst (λ (ms : List Wire). HasMade waves start lines (ms ++ later)) (sym none) h;
}

pub made_more : (waves : List WavIn) (start g next : Graph) (lines : List Line) (i : ℕ) (line : Line) (stepped : Stepped) (made more : List Wire)
    → i < length lines → line ≡ get_or lines i line → HasMadeSoFar waves start lines i g made → Rehearses waves g line.command stepped next
    → more ≡ made ++ drop (length g.wires) next.wires → HasMadeSoFar waves start lines (i + 1) next more
made_more waves start g next lines i line stepped made more lt is h step e = record {
  rest = λ later k. subst (HasMade waves start lines)
      (sym (ap (λ (ms : List Wire). ms ++ later) e ∙ append_assoc made (drop (length g.wires) next.wires) later))
      (h.rest (drop (length g.wires) next.wires ++ later)
      (subst (λ (ls : List Line). HasMade waves g ls (drop (length g.wires) next.wires ++ later)) (sym (next_line waves g lines i line lt is))
      (stepped, next, later, step, k, refl)));
}

pub made_ends : (waves : List WavIn) (start g : Graph) (lines : List Line) (i : ℕ) (made : List Wire) → length lines ≤ i
    → HasMadeSoFar waves start lines i g made → HasMade waves start lines made
made_ends waves start g lines i made past h = subst (HasMade waves start lines) (append-nil made)
    (h.rest [] (subst (λ (ls : List Line). HasMade waves g ls []) (sym (drop_all i lines past)) refl))

-- their nodes have numbers below 64
pub within_more : (next : Graph) (made more : List Wire) (n : ℕ) → IsReady next → All IsWithin made → more ≡ made ++ drop n next.wires → All IsWithin more
within_more next made more n ready h e = subst (All IsWithin) (sym e)
    (All-append IsWithin made (drop n next.wires) h (All-drop IsWithin n next.wires (wires_within next.ports next.wires ready.nodes.ports ready.wires.each)))
