use Rattle.std.proofs.Common.{ℕ, max, sym, ap, ◌∙◌}
use Rattle.std.specs.Prelude.{fold, filter}
use Rattle.std.proofs.lemmas.List.{take_all}
use Rattle.wav_files.specs.declared.wav.WavIn.{WavIn}
use Rattle.graph_lines.specs.Searching.{is_in}
use Rattle.graph_lines.specs.Draining.{rest_cycles}
use Rattle.graph_lines.proofs.DrainingLemmas.{most_yes, most_no}
use Rattle.graph_lines.proofs.draining.drain_cycles.Goals as goal
use Rattle.graph_lines.proofs.draining.drain_cycles.Goals.{then-is_in, else-is_in}

pub loop-wave-preserved : goal.loop-wave-preserved
loop-wave-preserved c =
    let p = λ (w : WavIn). is_in c.args.active.now w.node in
    let f = λ (most : ℕ) (w : WavIn). max most (rest_cycles c.args.quantum c.args.nodes.now w) in
    elim c.if-is_in.branch [
      | then-is_in w ↦ most_yes p f c.as_slice-wave-items.result.now c.loop-wave.wave-index c.wave-item.result c.loop-wave-test.true
          c.loop-wave.most c.if-is_in.most c.loop-wave.invariant
          (ap p (sym c.wave-item.is) ∙ (sym c.is_in.ensures ∙ w.if-is_in.true))
          (w.most-is ∙ (w.greater-most.ensures ∙ ap (max c.loop-wave.most) (w.rest_cycles.ensures ∙ ap (rest_cycles c.args.quantum c.args.nodes.now) c.wave-item.is)))
      | else-is_in w ↦ most_no p f c.as_slice-wave-items.result.now c.loop-wave.wave-index c.wave-item.result c.loop-wave-test.true
          c.loop-wave.most c.if-is_in.most c.loop-wave.invariant
          (ap p (sym c.wave-item.is) ∙ (sym c.is_in.ensures ∙ w.if-is_in.false)) w.most-is
    ]

pub returns : goal.returns
returns c =
    let p = λ (w : WavIn). is_in c.args.active.now w.node in
    let f = λ (most : ℕ) (w : WavIn). max most (rest_cycles c.args.quantum c.args.nodes.now w) in
    c.loop-wave.invariant ∙ (ap (λ ws. fold f 0 (filter p ws))
    (take_all c.loop-wave.wave-index c.as_slice-wave-items.result.now c.loop-wave-test.false)
    ∙ ap (λ ws. fold f 0 (filter p ws)) c.as_slice-wave-items.ensures)
