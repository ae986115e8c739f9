-- One more field, or the first that does not admit the shared value.
use Rattle.std.proofs.Common.{Option, subst, arith}
use Rattle.format_filter.specs.declared.format.Field.{Field}
use Rattle.port_model.specs.Sharing.{Shares}
use Rattle.port_model.proofs.SharingLemmas.{one_more, first_outside}
use Rattle.port_model.proofs.sharing.shared_fields.Goals as goal

pub returns-in-None : goal.returns-in-None
returns-in-None c =
    first_outside c.args.node.now c.args.fields.now c.loop-field.field-index c.field-item.result c.requires.sound
    (omega arith) c.field-item.is c.loop-field.invariant.inside
    (subst (λ (o : Option Field). Shares c.args.node.now c.field-item.result o) c.in-None.is c.in_ok-narrowed.ensures)

pub loop-field-preserved : goal.loop-field-preserved
loop-field-preserved c =
    let both = one_more c.args.node.now c.args.fields.now c.loop-field.shared c.push.new.self c.loop-field.field-index c.field-item.result
    c.in-Some.narrowed (omega arith) c.field-item.is c.loop-field.invariant.inside
    c.loop-field.invariant.same (subst (λ (o : Option Field). Shares c.args.node.now c.field-item.result o)
    c.in-Some.is c.in_ok-narrowed.ensures) c.in_ok-push-in-Some.ensures.ok in
    record { inside = both.0; same = both.1 }
