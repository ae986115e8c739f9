-- The members of a Range of counts are counts.
use Rattle.std.proofs.Common.{◌≡◌, subst, rules, pos, to_z, of_z, w64}
use Rattle.format_filter.specs.declared.choice.Choice.{Choice}
use Rattle.format_filter.specs.declared.choice.Choice.TheVariants.{Range}
use Rattle.format_filter.specs.declared.choice.Wide.TheVariants as wide
use Rattle.format_filter.specs.Members.{IsMember}
use Rattle.port_model.proofs.OfferLemmas.{between_number}
use Rattle.port_model.proofs.buffers.range.Goals as goal

pub returns-clause-numbers : goal.returns-clause-numbers
returns-clause-numbers c = λ x w.
    let whole : Range wide.Int (to_z w64 (of_z w64 c.from.result)) (to_z w64 (of_z w64 c.from-2.result))
    (to_z w64 (of_z w64 c.from-3.result)) ≡ Range wide.Int (pos c.args.pick) (pos c.args.min) (pos c.args.max) = search rules in
    between_number c.args.pick c.args.min c.args.max 1 8 x c.requires.some c.requires.few
    (subst (λ (choice : Choice). IsMember choice x) whole w)
