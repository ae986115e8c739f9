-- Numbers of the WAV faults, as they are printed. Source: this project's own.
use Rattle.std.specs.Prelude.{ℕ}
use Rattle.wav_files.specs.declared.fault.WavFault.{WavFault}
use Rattle.wav_files.specs.declared.fault.WavFault.TheVariants as F

abbrev pub wav_fault_number : WavFault → ℕ
wav_fault_number F.NotRiff = 1
wav_fault_number F.NoFmt = 2
wav_fault_number F.BadFmt = 3
wav_fault_number F.NotPcm16 = 4
wav_fault_number F.NoData = 5
wav_fault_number F.Truncated = 6
wav_fault_number F.Uneven = 7
wav_fault_number F.ChannelsOrRate = 8
wav_fault_number F.Memory = 9
