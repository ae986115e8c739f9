-- Laws of `specs/PodFile.antt`: what a read POD says of the file that held it.
use Rattle.std.proofs.Common.{◌≡◌, ℕ, ◌≤◌, ◌<◌, List, length, [], refl, sym, ap, subst, inl, inr, ⊎_elim, arith, ◌∙◌}
use Rattle.std.specs.Prelude.{◌⊎◌, Result, Ok, Err}
use Rattle.pod_codec.specs.declared.pod.Pod.{Pod}
use Rattle.pod_codec.specs.declared.fault.PodFault.{PodFault}
use Rattle.pod_codec.specs.declared.fault.PodFault.TheVariants as F
use Rattle.pod_codec.specs.Spelling.{FrontSpells}
use Rattle.pod_codec.specs.FirstFault.{IsFirstFault}
use Rattle.pod_codec.proofs.PodReadings.{front_fits}
use Rattle.run_results.specs.declared.status.Status.{Status}
use Rattle.run_results.specs.declared.status.Status.TheVariants as S
use Rattle.run_results.specs.declared.status.PodWhy.TheVariants as P
use Rattle.command_frame.proofs.AllowedLemmas.{IsPlain}
use Rattle.run_results.specs.Statuses.{means}
use Rattle.pw_top.specs.working.Ending.{Ends}
use Rattle.pw_top.specs.Allowed.{Reads}
use Rattle.pw_top.specs.PodFile.{pod_refusal, HoldsPod, HoldsAs}
use Rattle.pw_top.proofs.AllowedLemmas.{part_gives, part_refuses, part_memory, part_more, reads_gives, reads_refuses}

-- the file ends with its POD
pub read_whole : (place : ℕ) (bytes : List ℕ) (pod : Pod) (size : ℕ) → FrontSpells bytes pod size → size ≡ length bytes
    → Ends (Reads (HoldsPod place bytes)) (Ok pod)
read_whole place bytes pod size h e = part_gives [] (HoldsPod place bytes) pod (subst (λ n. FrontSpells bytes pod n) e h)

-- it goes on after it
pub read_rest : (place : ℕ) (bytes : List ℕ) (pod : Pod) (size : ℕ) → FrontSpells bytes pod size → (size ≡ length bytes → ⊥)
    → Ends (Reads (HoldsPod place bytes)) (Err (S.Pod place (P.Rest size)))
read_rest place bytes pod size h n =
    let within : size ≤ length bytes = (front_fits bytes pod size h).0 in
    let less : size < length bytes = grind (arith, within, n) in
    part_refuses [] (HoldsPod place bytes) (S.Pod place (P.Rest size)) (inr (pod, size, h, less, refl)) tt

plain : (place : ℕ) (fault : PodFault) → IsPlain (means (pod_refusal place fault))
plain place (F.Short o) = tt
plain place (F.TypeUnknown o n) = tt
plain place (F.Size o) = tt
plain place (F.Uneven o) = tt
plain place (F.Deep o) = tt
plain place (F.Large o) = tt
plain place (F.Nul o) = tt
plain place F.Memory = tt

-- a first fault, or lack of memory
pub refused : (place : ℕ) (bytes : List ℕ) (fault : PodFault) (status : Status) → status ≡ pod_refusal place fault
    → (fault ≡ F.Memory) ⊎ IsFirstFault bytes fault → Ends (Reads (HoldsPod place bytes)) (Err status)
refused place bytes fault status e (inl memory) =
    subst (λ s. Ends (Reads (HoldsPod place bytes)) (Err s)) (sym (e ∙ ap (pod_refusal place) memory))
    (part_memory [] (HoldsPod place bytes))
refused place bytes fault status e (inr h) =
    part_refuses [] (HoldsPod place bytes) status (inl (fault, h, e)) (subst (λ s. IsPlain (means s)) (sym e) (plain place fault))

-- the file holds a value, which is read
module _ {T : Type 0} (As : Pod → Result T Status → Type 0) (place : ℕ) (bytes : List ℕ) where
  pub holds : (pod : Pod) (r : Result T Status) → Ends (Reads (HoldsPod place bytes)) (Ok pod) → Ends (Reads (As pod)) r
      → Ends (Reads (HoldsAs As place bytes)) r
  holds pod r held read =
      let value = reads_gives (HoldsPod place bytes) pod held in
      part_more [] (As pod) (HoldsAs As place bytes) r (λ outcome p. (Ok pod, value, p)) read

  -- it holds no value
  pub holds_none : (status : Status) → Ends (Reads (HoldsPod place bytes)) (Err status) → Ends (Reads (HoldsAs As place bytes)) (Err status)
  holds_none status h = ⊎_elim
      (λ refusal. part_refuses [] (HoldsAs As place bytes) status (Err status, refusal.0, refl) refusal.1)
      (λ memory. subst (λ s. Ends (Reads (HoldsAs As place bytes)) (Err s)) (sym memory) (part_memory [] (HoldsAs As place bytes)))
      (reads_refuses (HoldsPod place bytes) status h)
