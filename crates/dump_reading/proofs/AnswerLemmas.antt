-- What a reader answers.
use Rattle.std.proofs.Common.{◌≡◌, ◌⊎◌, inl, inr, Some, None, Err}
use Rattle.std.specs.Prelude.{Option}
use Rattle.pod_codec.specs.declared.pod.Pod.{Pod}
use Rattle.dump_reading.specs.Answers.{IsReadBack, IsToldAs}
use Rattle.dump_reading.specs.declared.fault.Stop.{Stop}
use Rattle.dump_reading.specs.declared.fault.Stop.TheVariants as S
use Rattle.dump_reading.specs.declared.fault.DumpFault.{DumpFault}
use Rattle.dump_reading.specs.declared.fault.DumpFault.TheVariants as F

-- of what was read, no line is at fault
pub told_back : (stop : Stop) (fault : DumpFault) (said : Option Pod) (pod : Pod) → (stop ≡ S.Memory) ⊎ (said ≡ None)
    → IsToldAs stop fault → said ≡ Some pod → IsReadBack pod (Err fault)
told_back stop F.Memory said pod h told e = tt
told_back S.Memory (F.Line number why) said pod h told e = absurd cc
told_back (S.Line left what) (F.Line number why) said pod h told e = elim h [ inl m ↦ absurd cc | inr none ↦ absurd cc ]

-- the same is read only once
pub one_pod : (said : Option Pod) (pod other : Pod) → said ≡ Some pod → said ≡ Some other → pod ≡ other
one_pod said pod other h k = cc
