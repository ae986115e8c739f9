-- Laws of `specs/Automate.antt`: what a read value says of the points, and that the stored wave can be written.
use Rattle.std.proofs.Common.{◌≡◌, ℕ, zero, suc, ◌%◌, List, [], refl, sym, ap, subst, ◌∙◌, arith}
use Rattle.std.specs.Prelude.{Ok, Err}
use Rattle.pod_codec.specs.declared.pod.Pod.{Pod}
use Rattle.control_sequence.specs.declared.points.Points.{Points}
use Rattle.control_sequence.specs.declared.fault.ControlFault.{ControlFault}
use Rattle.control_sequence.specs.declared.fault.ControlFault.TheVariants as F
use Rattle.control_sequence.specs.Points.{IsPointsOf}
use Rattle.run_results.specs.declared.status.Status.{Status}
use Rattle.control_sequence.proofs.AutomationLemmas.{length-automated}
use Rattle.wav_files.specs.declared.wav.Wav.{Wav}
use Rattle.wav_files.specs.WavWriting.{IsWave}
use Rattle.command_frame.proofs.AllowedLemmas.{IsPlain}
use Rattle.run_results.specs.Statuses.{means}
use Rattle.pw_top.specs.working.Ending.{Ends, IsDeliverable}
use Rattle.pw_top.specs.Allowed.{Reads}
use Rattle.pw_top.specs.Automate.{control_refusal, points_outcome, GivesPoints, automated_wave, automate_work}
use Rattle.pw_top.proofs.AllowedLemmas.{part_gives, part_refuses, part_memory}

pub given : (place : ℕ) (pod : Pod) (points : Points) → IsPointsOf pod (Ok points) → Ends (Reads (GivesPoints place pod)) (Ok points)
given place pod points h = part_gives [] (GivesPoints place pod) points (sym (ap (points_outcome place) h))

pub refused : (place : ℕ) (pod : Pod) (fault : ControlFault) (status : Status) → status ≡ control_refusal place fault
    → IsPointsOf pod (Err fault) → Ends (Reads (GivesPoints place pod)) (Err status)
refused place pod F.Memory status e h =
    subst (λ s. Ends (Reads (GivesPoints place pod)) (Err s)) (sym e) (part_memory [] (GivesPoints place pod))
refused place pod F.NotSequence status e h = part_refuses [] (GivesPoints place pod) status
    (ap Err e ∙ sym (ap (points_outcome place) h)) (subst (λ s. IsPlain (means s)) (sym e) tt)
refused place pod (F.OffsetFalls index) status e h = part_refuses [] (GivesPoints place pod) status
    (ap Err e ∙ sym (ap (points_outcome place) h)) (subst (λ s. IsPlain (means s)) (sym e) tt)
refused place pod (F.NotProps index) status e h = part_refuses [] (GivesPoints place pod) status
    (ap Err e ∙ sym (ap (points_outcome place) h)) (subst (λ s. IsPlain (means s)) (sym e) tt)
refused place pod (F.GainForm index) status e h = part_refuses [] (GivesPoints place pod) status
    (ap Err e ∙ sym (ap (points_outcome place) h)) (subst (λ s. IsPlain (means s)) (sym e) tt)

-- the stored wave can be written
automated_is_wave : (wav : Wav) (points : Points) → IsWave wav → IsWave (automated_wave wav points.items)
automated_is_wave wav points h =
    let long = length-automated points.items wav.channels 0 wav.samples in
    record {
      rate = h.rate;
      channels = h.channels;
      whole = ap (λ n. n % wav.channels) long ∙ h.whole;
      small = omega (arith, long, h.small);
    }

pub automate_storable : (out : List ℕ) (wav : Wav) (points : Points) → IsWave wav
    → IsDeliverable (automate_work out wav points.items)
automate_storable out wav points h zero d l = record { placed = refl; content = automated_is_wave wav points h }
automate_storable out wav points h (suc k) d l = absurd (omega (arith, l))
