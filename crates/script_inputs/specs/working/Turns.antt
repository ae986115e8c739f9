-- How the waves of lines are taken one after the other.
-- Source: this project's own.
use Rattle.std.specs.Prelude.{◌≡◌, List, drop, Option, None, slice_get}
use Rattle.wav_files.specs.declared.wav.Wav.{Wav}
use Rattle.graph_script.specs.declared.command.Command.{Command}
use Rattle.graph_script.specs.declared.command.Command.TheVariants as C

-- a `source` line takes the first of the waves that are left, if there is one; the others take none
abbrev pub TakesWave : Command → List Wav → Option Wav → List Wav → Type 0
TakesWave (C.Source node file) waves wave left =
    (wave ≡ slice_get waves 0) × (left ≡ drop 1 waves)
TakesWave other waves wave left = (wave ≡ None) × (left ≡ waves)
