-- Fixed fields are sound.
use Rattle.std.proofs.Common.{sym, subst, map, List}
use Rattle.format_filter.specs.declared.format.Field.{Field}
use Rattle.format_filter.specs.CommonFormat.{AreSoundFields}
use Rattle.format_filter.specs.Fixation.{fixed}
use Rattle.format_filter.proofs.FixationLemmas.{fixed_sound}
use Rattle.format_filter.proofs.fixation.fixate.Goals as goal

pub returns-clause-sound : goal.returns-clause-sound
returns-clause-sound c = subst AreSoundFields (sym c.in_ok-fixed_fields.ensures)
    (subst (λ (xs : List Field). AreSoundFields (map fixed xs)) (sym c.as_slice.ensures) (fixed_sound c.args.format.now.fields c.requires))
