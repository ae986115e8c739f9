-- The numbers of the faults of a control sequence. Source: this project's own.
use Rattle.std.specs.Prelude.{ℕ}
use Rattle.control_sequence.specs.declared.fault.ControlFault.{ControlFault}
use Rattle.control_sequence.specs.declared.fault.ControlFault.TheVariants as f

abbrev pub control_fault_number : ControlFault → ℕ
control_fault_number f.NotSequence = 1
control_fault_number (f.OffsetFalls index) = 2
control_fault_number (f.NotProps index) = 3
control_fault_number (f.GainForm index) = 4
control_fault_number f.Memory = 5
