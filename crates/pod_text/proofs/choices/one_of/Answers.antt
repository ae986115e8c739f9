-- The first of the alternatives is preferred.
use Rattle.std.proofs.Common.{◌∙◌, ◌<◌, length, arith}
use Rattle.pod_text.proofs.ChoiceLemmas.{enum_sound}
use Rattle.pod_text.proofs.choices.one_of.Goals as goal

pub returns-in_ok-pick-in-len1-up-clause-sound : goal.returns-in_ok-pick-in-len1-up-clause-sound
returns-in_ok-pick-in-len1-up-clause-sound c =
    let some : 0 < length c.as_slice.result.now = omega arith in
    enum_sound c.in_ok-pick-in-len1-up.pick c.as_slice.result.now c.args.values _ c.as_slice.ensures some
    (c.in_ok-pick-in-len1-up.ensures ∙ c.first-item-2.is) c.requires
