-- Laws of `specs/Allowed.antt` and `specs/working/Ending.antt`: those of the frame, at the statuses of `pipegraph`; a part by a wider
-- relation, and a part without a load.
use Rattle.std.proofs.Common.{◌≡◌, ℕ, ◌∙◌, Bool, true, false, List, [], length, refl, sym, ap, subst, inl, inr, ⊎_elim, arith}
use Rattle.std.specs.Prelude.{◌⊎◌, Option, Some, None, Result, Ok, Err, Contains, nat_le, if◌then◌else◌}
use Rattle.pw_lists.specs.declared.limit.Which.{Which}
use Rattle.pw_outside.specs.Files.{Names}
use Rattle.command_frame.specs.declared.ending.End.{End}
use Rattle.command_frame.specs.declared.ending.End.TheVariants as E
use Rattle.command_frame.specs.Answer.{load_outcome, load_of_some}
use Rattle.command_frame.specs.Ending.{IsEndOf, StopsAt, IsLateRefusal}
use Rattle.command_frame.specs.Ending.IsEndOf.{is_end}
use Rattle.command_frame.proofs.AllowedLemmas as frame
use Rattle.command_frame.proofs.AllowedLemmas.{IsPlain}
use Rattle.command_frame.proofs.LoadLemmas as load
use Rattle.run_results.specs.declared.status.Status.{Status}
use Rattle.run_results.specs.declared.status.Status.TheVariants as S
use Rattle.run_results.specs.Statuses.{means, statuses}
use Rattle.run_results.proofs.StatusLemmas.{one_memory}
use Rattle.pw_top.specs.Answer.{Expected}
use Rattle.pw_top.specs.Allowed.{Part, IsLoad, Binds}
use Rattle.pw_top.specs.working.Ending.{Ends, CommandCause}

pub outcome_is : {T : Type 0} (a : Expected T) (x : T) → IsEndOf statuses a (Ok x) → a.outcome ≡ Ok x
outcome_is a x h = frame.outcome_is statuses a x h

module _ {T U : Type 0} (P : Expected T → Type 0) (next : T → Expected U → Type 0) where
  -- the first part gives something, and the next ends
  pub binds_goes : (x : T) (r : Result U Status) → Ends P (Ok x) → Ends (next x) r → Ends (Binds P next) r
  binds_goes x r f h = frame.binds_goes statuses P next x r f h

  -- the first part ends all
  pub binds_stops : (status : Status) → Ends P (Err status) → Ends (Binds P next) (Err status)
  binds_stops status f = frame.binds_stops statuses P next status f

-- a part by itself
module _ {T : Type 0} (loads : List ℕ) (P : Result T Status → Type 0) where
  pub part_gives : (x : T) → P (Ok x) → Ends (Part loads P) (Ok x)
  part_gives x h = frame.part_gives statuses loads P x h

  pub part_memory : Ends (Part loads P) (Err S.Memory)
  part_memory = frame.part_memory statuses loads P S.Memory refl

  pub part_refuses : (status : Status) → P (Err status) → IsPlain (means status) → Ends (Part loads P) (Err status)
  part_refuses status h plain = frame.part_refuses statuses loads P status h plain

-- the same result by a wider relation
pub part_more : {T : Type 0} (loads : List ℕ) (P Q : Result T Status → Type 0) (r : Result T Status)
    → ((outcome : Result T Status) → P outcome → Q outcome) → Ends (Part loads P) r → Ends (Part loads Q) r
part_more loads P Q r more h = record {
  answer = h.answer;
  allowed = (h.allowed.0, ⊎_elim (λ p. inl (more h.answer.outcome p)) (λ memory. inr memory) h.allowed.1);
  ends = h.ends;
}

-- what a part without a load gives, and how it refuses
pub reads_gives : {T : Type 0} (P : Result T Status → Type 0) (x : T) → Ends (Part [] P) (Ok x) → P (Ok x)
reads_gives P x h = let is = outcome_is h.answer x h.ends in
    ⊎_elim (λ p. subst P is p) (λ memory. cc) h.allowed.1

abbrev status_in : {T : Type 0} → Result T Status → Status
status_in (Ok x) = S.Memory
status_in (Err status) = status

pub reads_refuses : {T : Type 0} (P : Result T Status → Type 0) (status : Status) → Ends (Part [] P) (Err status)
    → (P (Err status) × IsPlain (means status)) ⊎ (status ≡ S.Memory)
reads_refuses {T} P status h = of_end h.ends
  where
    allowed : IsPlain (means status) → h.answer.outcome ≡ Err status → (P (Err status) × IsPlain (means status)) ⊎ (status ≡ S.Memory)
    allowed plain is = ⊎_elim (λ p. inl (subst P is p, plain)) (λ memory. inr (ap status_in (sym is ∙ memory))) h.allowed.1

    none : (place : ℕ) → Contains h.answer.loads place → ⊥
    none place there = omega (arith, subst (λ ls. Contains ls place) h.allowed.0 there)

    by_end : (end : End) → means status ≡ end → StopsAt h.answer status end → (P (Err status) × IsPlain (means status)) ⊎ (status ≡ S.Memory)
    by_end E.Done is e = allowed (subst IsPlain (sym is) tt) e
    by_end (E.Usage word) is e = allowed (subst IsPlain (sym is) tt) e
    by_end (E.ReadFault place) is e = absurd (none place e)
    by_end (E.StoreFault place) is e = allowed (subst IsPlain (sym is) tt) e
    by_end E.PutFault is e = allowed (subst IsPlain (sym is) tt) e
    by_end E.Memory is e = inr (one_memory status is)
    by_end E.Refused is e = allowed (subst IsPlain (sym is) tt) e

    of_end : IsEndOf statuses h.answer (Err status) → (P (Err status) × IsPlain (means status)) ⊎ (status ≡ S.Memory)
    of_end (is_end e) = by_end (means status) refl e

-- a load of this name at this place, by what the files hold
module _ (names : Names) (place : ℕ) (name : List ℕ) (limit : ℕ) (which : Which) where
  pub load_failed : Ends (IsLoad names place name limit which) (Err (S.ReadFault place))
  load_failed = load.load_failed statuses names place name limit (S.Limit place which) (S.ReadFault place) refl

  pub load_memory : {U : Type 0} (next : List ℕ → Expected U → Type 0)
      → Ends (Binds (IsLoad names place name limit which) next) (Err S.Memory)
  load_memory next = binds_stops (IsLoad names place name limit which) next S.Memory
      (load.load_memory statuses names place name limit (S.Limit place which) S.Memory refl)

  -- bytes that were loaded are those that were stored
  short_enough : (b c : List ℕ) (small : Bool) → (if small then Ok c else Err (S.Limit place which)) ≡ Ok b → c ≡ b
  short_enough b c true e = cc
  short_enough b c false e = cc

  some_loaded : (held : Option (List ℕ)) (b : List ℕ) → load_of_some statuses held limit place (S.Limit place which) ≡ Ok b → held ≡ Some b
  some_loaded None b e = cc
  some_loaded (Some c) b e = ap Some (short_enough b c (nat_le (length c) limit) e)

  pub load_gave : (b : List ℕ) → Ends (IsLoad names place name limit which) (Ok b) → names name ≡ Some b
  unfolding load_outcome
  load_gave b h = let is = outcome_is h.answer b h.ends in
      some_loaded (names name) b (⊎_elim (λ e. sym e ∙ is) (λ memory. cc) h.allowed.1)

-- a part without a load has no fault of a load
quiet_end : (n : ℕ) (end : End) → IsLateRefusal 0 0 end → IsLateRefusal n n end
quiet_end n E.Done h = h
quiet_end n (E.Usage word) h = h
quiet_end n (E.ReadFault place) h = absurd (omega (arith, h))
quiet_end n (E.StoreFault place) h = h
quiet_end n E.PutFault h = h
quiet_end n E.Memory h = h
quiet_end n E.Refused h = h

pub quiet_cause : {T U : Type 0} (P : T → Type 0) (Q : U → Type 0) (n : ℕ) (status : Status) → CommandCause P 0 0 (Err status)
    → CommandCause Q n n (Err status)
quiet_cause P Q n status h = quiet_end n (means status) h

pub ruleset parts = (binds_goes, binds_stops, part_gives, part_refuses, part_memory, load_failed, load_memory)
