-- What the fields with only the shared values make of the own offer.
use Rattle.std.proofs.Common.{List, subst, sym}
use Rattle.format_filter.specs.declared.format.Field.{Field}
use Rattle.format_filter.specs.CommonFormat.{AreSoundFields}
use Rattle.port_model.specs.declared.sharing.Shared.TheVariants.{Fields, Outside}
use Rattle.port_model.specs.Sharing.{SharesAll}
use Rattle.port_model.proofs.SharingLemmas.{offers_fields, offers_nothing, shared_sound}
use Rattle.port_model.proofs.sharing.offered_freely.Goals as goal

pub returns-in-Fields-clause-offers : goal.returns-in-Fields-clause-offers
returns-in-Fields-clause-offers c =
    let all = subst (SharesAll c.args.node.now c.as_slice.result.now) c.in-Fields.is c.in_ok-fields.ensures in
    let own = subst (λ (fs : List Field). SharesAll c.args.node.now fs (Fields c.in-Fields.fields)) c.as_slice.ensures all in
    offers_fields c.args.node.now c.args.state.now c.in-Fields.fields c.requires.free own

pub returns-in-Fields-clause-sound : goal.returns-in-Fields-clause-sound
returns-in-Fields-clause-sound c =
    let all = subst (SharesAll c.args.node.now c.as_slice.result.now) c.in-Fields.is c.in_ok-fields.ensures in
    let own = subst (λ (fs : List Field). SharesAll c.args.node.now fs (Fields c.in-Fields.fields)) c.as_slice.ensures all in (
      subst AreSoundFields (sym own.1) (shared_sound c.args.node.now c.args.state.now.own.fields c.requires.plain c.requires.own),
      c.requires.object,
    )

pub returns-in-Outside-clause-offers : goal.returns-in-Outside-clause-offers
returns-in-Outside-clause-offers c =
    let all = subst (SharesAll c.args.node.now c.as_slice.result.now) c.in-Outside.is c.in_ok-fields.ensures in
    let own = subst (λ (fs : List Field). SharesAll c.args.node.now fs (Outside c.in-Outside.key)) c.as_slice.ensures all in
    offers_nothing c.args.node.now c.args.state.now c.in-Outside.key c.requires.free own
