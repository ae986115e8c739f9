use Rattle.std.proofs.Common.{◌≡◌, ◌∙◌, ◌*◌, List, Option, get_or, arith, sym, ap, subst}
use Rattle.pw_graph.specs.declared.kind.Kind.{Kind}
use Rattle.pw_graph.specs.declared.plan.PlanNode.{PlanNode}
use Rattle.pw_graph.specs.PlanForms.{kind_at}
use Rattle.wav_files.specs.declared.wav.Wav.{Wav}
use Rattle.cycle_model.specs.Epochs.{all_cycles}
use Rattle.cycle_model.proofs.CycleLemmas.{kind_there}
use Rattle.node_state.specs.Slices.{AllowsChannels}
use Rattle.node_state.specs.Streams.{HasItsWave}
use Rattle.node_progress.specs.Standing.{worked}
use Rattle.node_progress.proofs.PrepareLemmas.{its_wave, most_allowed, frames_are, frames_few, prepared_is, answered}
use Rattle.node_progress.proofs.preparing.prepare_for_run.Goals as goal

pub overflow_mul-frames : goal.overflow_mul-frames
overflow_mul-frames c = let plan = c.args.plan.now in let q = c.quantum_of-quantum.result in
    let few = frames_few plan c.requires.sound c.args.node q c.quantum_of-quantum.ensures.range.1 in
    let is : c.from.result * c.worked_cycles.result ≡ q * worked plan c.args.node (all_cycles plan) =
    λ i. c.from.ensures i * c.worked_cycles.ensures i in
    omega (arith, few, is)

pub prepare-requires-clause-wave : goal.prepare-requires-clause-wave
prepare-requires-clause-wave c = let plan = c.args.plan.now in let n = c.args.node in let d = c.index-as_slice-node.result in
    let kind : kind_at plan n ≡ (get_or c.as_slice.result.now n d).kind = kind_there plan.nodes n d c.requires.place
    ∙ sym (ap (λ (l : List PlanNode). (get_or l n d).kind) c.as_slice.ensures) in
    subst (λ (x : Kind × Option Wav). HasItsWave x.0 x.1) (λ i. (kind i, sym c.wave_of-wave.ensures i))
    (its_wave plan c.args.waves.now n c.requires.fit)

pub prepare-requires-clause-channels : goal.prepare-requires-clause-channels
prepare-requires-clause-channels c = let plan = c.args.plan.now in let n = c.args.node in let d = c.index-as_slice-node.result in
    let kind : kind_at plan n ≡ (get_or c.as_slice.result.now n d).kind = kind_there plan.nodes n d c.requires.place
    ∙ sym (ap (λ (l : List PlanNode). (get_or l n d).kind) c.as_slice.ensures) in
    subst (λ kd. AllowsChannels kd c.most_channels-most.result) kind
    (most_allowed plan c.requires.sound n c.most_channels-most.result c.most_channels-most.ensures)

pub returns : goal.returns
returns c = let plan = c.args.plan.now in let n = c.args.node in let d = c.index-as_slice-node.result in let r = c.requires in
    let e = c.prepare.ensures in let q = c.quantum_of-quantum in
    let kd : Kind = (get_or c.as_slice.result.now n d).kind in
    let kind : kd ≡ kind_at plan n = ap (λ (l : List PlanNode). (get_or l n d).kind) c.as_slice.ensures
    ∙ sym (kind_there plan.nodes n d r.place) in
    let frames : c.from.result * c.worked_cycles.result ≡ plan.quantum * worked plan n (all_cycles plan) =
    (λ i. c.from.ensures i * c.worked_cycles.ensures i) ∙ frames_are plan r.sound n q.result q.ensures.is in
    answered c.prepare.result _ _ _ _ _ (λ s is wave numbers stands.
    prepared_is c.args.run_model.now plan c.args.waves.now n r.plan_is r.waves_are s kd _ c.most_channels-most.result q.result _ kind
    c.wave_of-wave.ensures c.most_channels-most.ensures q.ensures.is frames is wave numbers stands)
    e.kind e.wave e.numbers e.stands
