-- The type of a number.
use Rattle.std.proofs.Common.{ℤ, rules}
use Rattle.pod_codec.specs.declared.pod.Pod.TheFolds.{the_lemmas}
use Rattle.pod_codec.specs.SoundChoices.{IsOfType}
use Rattle.format_filter.specs.declared.choice.Wide.TheVariants.{Int, Long}
use Rattle.format_filter.specs.Members.{number_of}

pub int_type : (n : ℤ) → IsOfType 4 (number_of Int n)
int_type n = search (rules, the_lemmas)

pub long_type : (n : ℤ) → IsOfType 5 (number_of Long n)
long_type n = simp the_lemmas
