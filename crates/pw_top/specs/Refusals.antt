-- Refusals: what a script and the wave of a source give, or the status of their fault.
-- Source: this project's.
use Rattle.std.specs.Prelude.{ℕ, Result, Ok, Err}
use Rattle.wav_files.specs.declared.wav.Wav.{Wav}
use Rattle.wav_files.specs.declared.fault.WavFault.{WavFault}
use Rattle.wav_files.specs.declared.fault.WavFault.TheVariants as F
use Rattle.graph_script.specs.declared.script.Script.{Script}
use Rattle.graph_script.specs.declared.fault.ScriptFault.{ScriptFault}
use Rattle.graph_script.specs.declared.fault.ScriptFault.TheVariants as G
use Rattle.run_results.specs.declared.status.Status.{Status}
use Rattle.run_results.specs.declared.status.Status.TheVariants as S

-- the source's file is a wave, or refused at its line
abbrev pub wave_outcome : ℕ → Result Wav WavFault → Result Wav Status
wave_outcome place (Ok wav) = Ok wav
wave_outcome place (Err F.Memory) = Err S.Memory
wave_outcome place (Err fault) = Err (S.Wav place fault)

-- the script, or its first fault
abbrev pub script_outcome : Result Script ScriptFault → Result Script Status
script_outcome (Ok script) = Ok script
script_outcome (Err (G.At line why)) = Err (S.Script line why)
script_outcome (Err G.Memory) = Err S.Memory
