use Rattle.std.proofs.Common.{◌≡◌, ◌+◌, ◌*◌, [], ◌∷◌, ◌++◌, map, ap, ap₂, sym, ◌∙◌, append_assoc, arith}
use Rattle.std.specs.List.{range_with_len}
use Rattle.std.proofs.lemmas.List.FromFn.{map-range_with_len_more}
use Rattle.pw_graph.specs.declared.ids.PortId.{PortId}
use Rattle.pw_graph.specs.KindFunction.{kind_output}
use Rattle.pw_graph.specs.KindPorts.{input_count}
use Rattle.cycle_model.specs.declared.received.Given.{Given}
use Rattle.cycle_model.specs.Cycle.{last_of}
use Rattle.cycle_model.specs.Epochs.{channels_of}
use Rattle.cycle_model.specs.KindSamples.{kind_inputs_of}
use Rattle.cycle_model.specs.working.Known.{given_by}
use Rattle.cycle_model.proofs.one_cycle.give.Goals as goal

pub loop-output-preserved : goal.loop-output-preserved
loop-output-preserved c =
    let kind = c.args.kind.now in
    let q = c.args.at.now.quantum in
    let wave = c.args.wave.now in
    let received = c.args.received.now in
    let k = c.loop-output.output in
    let g = given_by q c.args.at.now.epoch.now kind wave c.args.node received in
    let found : PortId = record { node = c.args.node; port = c.inputs-inputs.result + k } in
    let wanted : PortId = record { node = c.args.node; port = input_count kind + k } in
    let same : found ≡ wanted = ap (λ n. let p : PortId = record { node = c.args.node; port = n + k } in p) c.inputs-inputs.ensures in
    let channels : c.channels_of-channels.result ≡ channels_of c.args.at.now.epoch.now.forms wanted = c.channels_of-channels.ensures
    ∙ ap₂ (λ forms p. channels_of forms p) c.as_slice.ensures same in
    let row : c.in_ok-samples.samples ≡ last_of (q * channels_of c.args.at.now.epoch.now.forms wanted)
    (kind_output kind (kind_inputs_of wave (channels_of c.args.at.now.epoch.now.forms wanted) received) k) =
    c.in_ok-samples.ensures
    ∙ ap (λ n. last_of n (kind_output kind (kind_inputs_of wave c.channels_of-channels.result received) k)) c.samples_in-n.ensures
    ∙ ap (λ ch. last_of (q * ch) (kind_output kind (kind_inputs_of wave ch received) k)) channels in
    let item : Given = record { port = found; samples = c.in_ok-samples.samples } in
    let given : item ≡ g k = ap₂ (λ p s. let one : Given = record { port = p; samples = s } in one) same row in
    c.in_ok-push.ensures.ok
    ∙ ap (λ t. t ++ item ∷ []) c.loop-output.invariant
    ∙ ap (λ one. (c.args.now.now ++ map g (range_with_len 0 k)) ++ one ∷ []) given
    ∙ append_assoc c.args.now.now (map g (range_with_len 0 k)) (g k ∷ [])
    ∙ ap (λ t. c.args.now.now ++ t) (sym (map-range_with_len_more g 0 k k (omega arith)))
