-- The expected answer of `automate IN SEQ OUT`: a wave and a control sequence are loaded and read,
-- one after the other; the wave by the sequence's gains is stored. Source: this project's;
-- PipeWire's documentation, "SPA POD".
use Rattle.std.specs.Prelude.{◌≡◌, ℕ, ◌/◌, List, [], ◌∷◌, ◌++◌, length, codes, Result, Ok, Err}
use Rattle.pw_outside.specs.Files.{Names}
use Rattle.pw_lists.specs.Limits.{wav_bytes_limit}
use Rattle.pw_lists.specs.declared.limit.Which.TheVariants as W
use Rattle.pod_codec.specs.declared.pod.Pod.{Pod}
use Rattle.pod_codec.specs.declared.pod.Pod.TheViews.{out-Pod}
use Rattle.control_sequence.specs.declared.points.Point.{Point}
use Rattle.control_sequence.specs.declared.points.Points.{Points}
use Rattle.control_sequence.specs.declared.fault.ControlFault.{ControlFault}
use Rattle.control_sequence.specs.declared.fault.ControlFault.TheVariants as F
use Rattle.control_sequence.specs.Points.{points_in}
use Rattle.control_sequence.specs.Automation.{automated}
use Rattle.wav_files.specs.declared.wav.Wav.{Wav}
use Rattle.wav_files.specs.WavReading.{wav_of}
use Rattle.run_results.specs.declared.status.Status.{Status}
use Rattle.run_results.specs.declared.status.Status.TheVariants as S
use Rattle.run_results.specs.declared.status.PodWhy.TheVariants as P
use Rattle.command_frame.specs.declared.work.Content.TheVariants.{Wave}
use Rattle.command_frame.specs.declared.work.Work.{Work}
use Rattle.run_results.specs.StatusLine.{numbers_line}
use Rattle.pw_top.specs.Answer.{Answer}
use Rattle.pw_top.specs.Allowed.{Binds, Reads, IsLoad}
use Rattle.pw_top.specs.Refusals.{wave_outcome}
use Rattle.pw_top.specs.PodFile.{pod_file_limit, HoldsAs}

-- the refusal of a value that gives no points
abbrev pub control_refusal : ℕ → ControlFault → Status
control_refusal place F.NotSequence = S.Pod place P.NotSequence
control_refusal place (F.OffsetFalls index) = S.Pod place (P.OffsetFalls index)
control_refusal place (F.NotProps index) = S.Pod place (P.NotProps index)
control_refusal place (F.GainForm index) = S.Pod place (P.GainForm index)
control_refusal place F.Memory = S.Memory

abbrev pub points_outcome : ℕ → Result (List Point) ControlFault → Result Points Status
points_outcome place (Ok points) = Ok (record { items = points })
points_outcome place (Err fault) = Err (control_refusal place fault)

-- THE POINTS in a file's bytes
abbrev pub GivesPoints : ℕ → Pod → Result Points Status → Type 0
GivesPoints place pod outcome = outcome ≡ points_outcome place (points_in (out-Pod pod))

abbrev pub HoldsPoints : ℕ → List ℕ → Result Points Status → Type 0
HoldsPoints place bytes = HoldsAs (GivesPoints place) place bytes

-- the wave by the gains of the points, stored in OUT, and its frames
abbrev pub automated_wave : Wav → List Point → Wav
automated_wave wav points = record wav { samples = automated points wav.channels 0 wav.samples }

abbrev pub automate_work : List ℕ → Wav → List Point → Work
automate_work out wav points = record {
  stores = record { place = 3; name = out; content = Wave (automated_wave wav points) } ∷ [];
  text = codes "wrote" ++ numbers_line (length wav.samples / wav.channels ∷ []);
}

-- THE ANSWER: the sequence is loaded only where the first file is a wave
abbrev pub AutomatesWave : List ℕ → Wav → Points → Answer → Type 0
AutomatesWave out wav points = Reads
    (λ outcome. outcome ≡ Ok (automate_work out wav points.items))

abbrev pub ReadsPoints : List ℕ → Wav → List ℕ → Answer → Type 0
ReadsPoints out wav bytes = Binds (Reads (HoldsPoints 2 bytes)) (AutomatesWave out wav)

abbrev pub LoadsPoints : Names → List ℕ → List ℕ → Wav → Answer → Type 0
LoadsPoints names seq out wav = Binds (IsLoad names 2 seq pod_file_limit W.PodBytes)
    (ReadsPoints out wav)

abbrev pub ReadsWave : Names → List ℕ → List ℕ → List ℕ → Answer → Type 0
ReadsWave names seq out bytes =
    Binds (Reads (λ outcome. outcome ≡ wave_outcome 1 (wav_of bytes)))
    (LoadsPoints names seq out)

abbrev pub IsAutomateAnswer : Names → List ℕ → List ℕ → List ℕ → Answer → Type 0
IsAutomateAnswer names input seq out = Binds (IsLoad names 1 input wav_bytes_limit W.WavBytes)
    (ReadsWave names seq out)
