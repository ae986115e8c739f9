-- The wave and the numbers of one chain more, whose draws begin where those of the chains so far end.
use Rattle.std.proofs.Common.{◌≡◌, ◌+◌, ◌*◌, ◌++◌, [], ◌∷◌, sym, ap, ◌∙◌, arith}
use Rattle.std.proofs.lemmas.List.FromFn.{map-range_with_len_more}
use Rattle.soak_graph.specs.working.Drawing.{chain}
use Rattle.soak_graph.specs.Draws.{state_after, samples}
use Rattle.soak_graph.specs.SoakChains.{frames, chain_draws, wave_with, soak_wave}
use Rattle.soak_graph.proofs.DrawnLemmas.{chain_there, samples_there, chain_more}
use Rattle.soak_graph.proofs.drawing.draw_graph.Goals as goal

pub loop-i-preserved : goal.loop-i-preserved
loop-i-preserved c =
    let x = c.args.number in
    let i = c.loop-i.i in
    let e : 0 + i ≡ i = omega arith in
    let there : c.loop-i.draws.state ≡ state_after (i * chain_draws) x = c.loop-i.invariant.2 in
    let wave : c.in_ok-wave.wave ≡ soak_wave x i = c.in_ok-wave.ensures.wave
    ∙ ap (λ s. wave_with i (samples s 0 frames)) there ∙ ap (wave_with i) (samples_there x i) in
    let numbers : c.in_ok-wave.chain ≡ chain x i = c.in_ok-wave.ensures.chain ∙ ap (λ s. chain s 0) there ∙ chain_there x i in (
      c.in_ok-push.ensures.ok ∙ (λ k. c.loop-i.invariant.0 k ++ wave k ∷ []) ∙ sym (map-range_with_len_more (soak_wave x) 0 i i e),
      c.in_ok-push-2.ensures.ok ∙ (λ k. c.loop-i.invariant.1 k ++ numbers k ∷ []) ∙ sym (map-range_with_len_more (chain x) 0 i i e),
      c.in_ok-wave.ensures.draws ∙ ap (state_after chain_draws) there ∙ chain_more x i,
    )
