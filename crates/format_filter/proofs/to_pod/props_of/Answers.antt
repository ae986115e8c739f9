-- One field more is written.
use Rattle.std.proofs.Common.{◌<◌, ◌+◌, ◌∷◌, ◌++◌, [], ◌∙◌, ap, sym, subst, List, length, take, arith}
use Rattle.std.specs.List.{AllZip}
use Rattle.std.proofs.lemmas.List.{take_more}
use Rattle.format_filter.specs.declared.format.Field.{Field}
use Rattle.format_filter.specs.FormatWriting.{WritesField}
use Rattle.format_filter.proofs.FormatWritingLemmas.{zip_push}
use Rattle.format_filter.proofs.to_pod.props_of.Goals as goal

pub loop-field-preserved : goal.loop-field-preserved
loop-field-preserved c =
    let i = c.loop-field.field-index in
    let field = c.field-item.result in
    let inside : i < length c.args.fields.now = omega arith in
    let next = take_more c.args.fields.now i field inside ∙ ap (λ (f : Field). take i c.args.fields.now ++ f ∷ []) (sym c.field-item.is) in
    subst (AllZip WritesField (take (i + 1) c.args.fields.now)) (sym c.in_ok-push.ensures.ok)
    (subst (λ (fs : List Field). AllZip WritesField fs (c.loop-field.props ++ c.in_ok-prop_of.field-0 ∷ [])) (sym next)
    (zip_push (take i c.args.fields.now)
    c.loop-field.props field c.in_ok-prop_of.field-0 c.loop-field.invariant c.in_ok-prop_of.ensures))
