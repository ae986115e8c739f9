-- The numbers of the faults of PODs in printed lines. Source: this project's own.
use Rattle.std.specs.Prelude.{ℕ}
use Rattle.pod_codec.specs.declared.fault.PodFault.{PodFault}
use Rattle.pod_codec.specs.declared.fault.PodFault.TheVariants as p
use Rattle.pod_codec.specs.declared.fault.WriteFault.{WriteFault}
use Rattle.pod_codec.specs.declared.fault.WriteFault.TheVariants as w

-- of bytes that are no POD
abbrev pub pod_fault_number : PodFault → ℕ
pod_fault_number (p.Short _) = 1
pod_fault_number (p.TypeUnknown _ _) = 2
pod_fault_number (p.Size _) = 3
pod_fault_number (p.Uneven _) = 4
pod_fault_number (p.Deep _) = 5
pod_fault_number (p.Large _) = 6
pod_fault_number (p.Nul _) = 7
pod_fault_number p.Memory = 8

-- of a value that is not written
abbrev pub write_fault_number : WriteFault → ℕ
write_fault_number w.Unwritable = 1
write_fault_number w.Memory = 2
