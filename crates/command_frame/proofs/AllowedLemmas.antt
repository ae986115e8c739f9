-- Laws of `specs/Allowed.antt` and `specs/Ending.antt`: how a part ends, and how it ends with what comes next.
use Rattle.std.proofs.Common.{◌≡◌, ℕ, ◌+◌, List, ◌++◌, length, refl, sym, subst, inl, inr, arith}
use Rattle.std.specs.Prelude.{Result, Ok, Err, Contains}
use Rattle.std.proofs.lemmas.Grind.{common_steps}
use Rattle.command_frame.specs.declared.ending.End.{End}
use Rattle.command_frame.specs.declared.ending.End.TheVariants as E
use Rattle.command_frame.specs.Answer.{Expected, ended, gone_on}
use Rattle.command_frame.specs.Statuses.{Statuses}
use Rattle.command_frame.specs.Ending.{Ends, IsEndOf, StopsAt, CommandCause, IsLateRefusal}
use Rattle.command_frame.specs.Ending.IsEndOf.{is_end}
use Rattle.command_frame.specs.Allowed.{Part, Binds}
use Rattle.command_frame.specs.Allowed.Binds.{short, stops, goes}

in_second : (xs ys : List ℕ) (x : ℕ) → Contains ys x → Contains (xs ++ ys) x
in_second xs ys x h = (length xs + h.0, grind (arith, common_steps, h.1), grind (arith, common_steps, h.1, h.2))

-- a refusal, which is no fault of a load
abbrev pub IsPlain : End → Type 0
IsPlain (E.ReadFault place) = ⊥
IsPlain end = Unit {0}

later_stop : {S U : Type 0} (loads : List ℕ) (rest : Expected S U) (status : S) (end : End) → StopsAt rest status end
    → StopsAt (gone_on loads rest) status end
later_stop loads rest status E.Done h = h
later_stop loads rest status (E.Usage word) h = h
later_stop loads rest status (E.ReadFault place) h = in_second loads rest.loads place h
later_stop loads rest status (E.StoreFault place) h = h
later_stop loads rest status E.PutFault h = h
later_stop loads rest status E.Memory h = tt
later_stop loads rest status E.Refused h = h

module _ {S : Type 0} (m : Statuses S) where
  -- an end of the rest, after more loads
  pub later : {U : Type 0} (loads : List ℕ) (rest : Expected S U) (r : Result U S) → IsEndOf m rest r → IsEndOf m (gone_on loads rest) r
  later loads rest (Ok x) (is_end h) = is_end h
  later loads rest (Err status) (is_end h) = is_end (later_stop loads rest status (m.means status) h)

  pub outcome_is : {T : Type 0} (a : Expected S T) (x : T) → IsEndOf m a (Ok x) → a.outcome ≡ Ok x
  outcome_is a x (is_end h) = h

  module _ {T U : Type 0} (P : Expected S T → Type 0) (next : T → Expected S U → Type 0) where
    -- the first part gives something, and the next ends
    pub binds_goes : (x : T) (r : Result U S) → Ends m P (Ok x) → Ends m (next x) r → Ends m (Binds m P next) r
    binds_goes x r f h = record {
      answer = gone_on f.answer.loads h.answer;
      allowed = goes f.answer x h.answer f.allowed (outcome_is f.answer x f.ends) h.allowed refl;
      ends = later f.answer.loads h.answer r h.ends;
    }

    -- an answer of the first part by which all ends, with its end
    abbrev Stopped : S → End → Type 0
    Stopped status end = (a : Expected S U) × Binds m P next a × StopsAt a status end

    refused : (a : Expected S T) (status : S) (end : End) → P a → a.outcome ≡ Err status → StopsAt (ended {T = U} a.loads status) status end
        → Stopped status end
    refused a status end h e stop = (ended a.loads status, stops a status h e refl, stop)

    stopped : (a : Expected S T) (status : S) (end : End) → P a → StopsAt a status end → Stopped status end
    stopped a status E.Done h e = refused a status E.Done h e refl
    stopped a status (E.Usage word) h e = refused a status (E.Usage word) h e refl
    stopped a status (E.ReadFault place) h e = (ended a.loads m.memory, short a h refl, e)
    stopped a status (E.StoreFault place) h e = refused a status (E.StoreFault place) h e refl
    stopped a status E.PutFault h e = refused a status E.PutFault h e refl
    stopped a status E.Memory h e = (ended a.loads m.memory, short a h refl, tt)
    stopped a status E.Refused h e = refused a status E.Refused h e refl

    -- the first part ends all
    stopped_by : (a : Expected S T) (status : S) → P a → IsEndOf m a (Err status) → Ends m (Binds m P next) (Err status)
    stopped_by a status h (is_end e) =
        let s = stopped a status (m.means status) h e in
        record { answer = s.0; allowed = s.1; ends = is_end s.2 }

    pub binds_stops : (status : S) → Ends m P (Err status) → Ends m (Binds m P next) (Err status)
    binds_stops status f = stopped_by f.answer status f.allowed f.ends

  -- a part by itself
  module _ {T : Type 0} (loads : List ℕ) (P : Result T S → Type 0) where
    pub part_gives : (x : T) → P (Ok x) → Ends m (Part m loads P) (Ok x)
    part_gives x h = record { answer = record { loads = loads; outcome = Ok x }; allowed = (refl, inl h); ends = is_end refl }

    pub part_memory : (status : S) → m.means status ≡ E.Memory → Ends m (Part m loads P) (Err status)
    part_memory status is = record {
      answer = ended loads m.memory;
      allowed = (refl, inr refl);
      ends = is_end (subst (λ end. StopsAt (ended {T = T} loads m.memory) status end) (sym is) tt);
    }

    refuses : (status : S) (end : End) → IsPlain end → StopsAt (ended {T = T} loads status) status end
    refuses status E.Done plain = refl
    refuses status (E.Usage word) plain = refl
    refuses status (E.ReadFault place) plain = absurd plain
    refuses status (E.StoreFault place) plain = refl
    refuses status E.PutFault plain = refl
    refuses status E.Memory plain = tt
    refuses status E.Refused plain = refl

    pub part_refuses : (status : S) → P (Err status) → IsPlain (m.means status) → Ends m (Part m loads P) (Err status)
    part_refuses status h plain = record {
      answer = ended loads status;
      allowed = (refl, inl h);
      ends = is_end (refuses status (m.means status) plain);
    }

-- what has no fault of a load is a refusal
quiet_plain : (end : End) → IsLateRefusal 0 0 end → IsPlain end
quiet_plain E.Done h = tt
quiet_plain (E.Usage word) h = tt
quiet_plain (E.ReadFault place) h = absurd (omega (arith, h))
quiet_plain (E.StoreFault place) h = tt
quiet_plain E.PutFault h = tt
quiet_plain E.Memory h = tt
quiet_plain E.Refused h = tt

module _ {S T : Type 0} (m : Statuses S) where
  pub part_quiet : (loads : List ℕ) (P : Result T S → Type 0) (Q : T → Type 0) (r : Result T S) → P r
      → CommandCause m Q 0 0 r → Ends m (Part m loads P) r
  part_quiet loads P Q (Ok x) h c = part_gives m loads P x h
  part_quiet loads P Q (Err status) h c = part_refuses m loads P status h (quiet_plain (m.means status) c)
