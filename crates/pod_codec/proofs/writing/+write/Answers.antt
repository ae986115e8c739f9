-- Where what is inside fits the whole does, and where it does not the whole does not.
use Rattle.std.proofs.Common.{◌+◌, ◌-◌, length, map, arith, rules}
use Rattle.pod_codec.specs.PodValue.{form_of, keyed_of, control_keyed}
use Rattle.pod_codec.specs.Writable.{IsOpen}
use Rattle.pod_codec.proofs.WritingLemmas.{struct_told, object_told, sequence_told, whole_told, open_size, numbers_told}
use Rattle.pod_codec.proofs.writing.+write.Goals as goal

pub put_struct-returns-clause-told : goal.put_struct-returns-clause-told
put_struct-returns-clause-told t c = struct_told c.put_pods.result c.args.left (map form_of c.args.fields.now) c.put_pods.ensures.told

pub put_object-returns-clause-told : goal.put_object-returns-clause-told
put_object-returns-clause-told t c = object_told c.put_props.result c.args.left c.args.object c.args.id
    (map keyed_of c.args.props.now) c.put_props.ensures.told

pub put_sequence-returns-clause-told : goal.put_sequence-returns-clause-told
put_sequence-returns-clause-told t c = sequence_told c.put_controls.result c.args.left c.args.unit
    (map control_keyed c.args.controls.now) c.put_controls.ensures.told

pub put_pod-returns-clause-ok : goal.put_pod-returns-clause-ok
put_pod-returns-clause-ok t c = c.end_frame.ensures.ok c.args.to.now (form_of c.args.pod.now)
    (record { place = search rules; parts = search rules })

pub put_pod-returns-clause-told : goal.put_pod-returns-clause-told
put_pod-returns-clause-told t c =
    let f = form_of c.args.pod.now in
    let is_open : IsOpen c.args.to.now f c.len-at.result c.put_body.new.to = record { place = search rules; parts = search rules } in
    let told = c.in_ok-put_body.ensures.told in
    whole_told c.end_frame.result c.args.left (length c.put_body.new.to - (c.len-at.result + 8)) f
    (omega (arith, open_size c.args.to.now f c.len-at.result c.put_body.new.to is_open)) told.0
    (omega (arith, told.1)) c.end_frame.ensures.told

pub put_pod-returns-clause-numbers : goal.put_pod-returns-clause-numbers
put_pod-returns-clause-numbers t c = numbers_told c.end_frame.result c.args.left c.args.pod.now
    (omega arith) c.in_ok-put_body.ensures.numbers
