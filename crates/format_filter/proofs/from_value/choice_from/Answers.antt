-- Values that are no Range or Step are at fault.
use Rattle.std.proofs.Common.{inr, refl, sym, subst}
use Rattle.pod_codec.specs.declared.pod.ChoiceKind.{ChoiceKind}
use Rattle.format_filter.specs.declared.fault.FormatFault.TheVariants as f
use Rattle.format_filter.specs.ChoiceReading.{FaultsValues}
use Rattle.format_filter.proofs.ReadingLemmas.{range_faults, step_faults}
use Rattle.format_filter.proofs.from_value.choice_from.Goals as goal

pub returns-in-None-range_from-clause-fault : goal.returns-in-None-range_from-clause-fault
returns-in-None-range_from-clause-fault c = inr (subst
    (λ (kind : ChoiceKind). FaultsValues kind c.args.values.now c.args.key (f.BadRange c.args.key)) (sym c.in-Range.is)
    (range_faults c.args.values.now c.args.key c.requires.some (c.in-None-range_from.ensures.none refl)))

pub returns-in-None-step_from-clause-fault : goal.returns-in-None-step_from-clause-fault
returns-in-None-step_from-clause-fault c = inr (subst
    (λ (kind : ChoiceKind). FaultsValues kind c.args.values.now c.args.key (f.BadStep c.args.key)) (sym c.in-Step.is)
    (step_faults c.args.values.now c.args.key c.requires.some (c.in-None-step_from.ensures.none refl)))
