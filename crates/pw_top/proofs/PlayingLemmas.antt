-- Laws of `specs/Playing.antt`: what happened, by how a part ends, and by the status.
use Rattle.std.proofs.Common.{◌≡◌, ℕ, zero, suc, sym, subst, refl, inl, inr, ap}
use Rattle.std.specs.Prelude.{◌⊎◌, Result, Ok, Err}
use Rattle.pw_outside.specs.Output.{Given}
use Rattle.command_frame.specs.declared.work.Work.{Work}
use Rattle.command_frame.specs.Allowed.Binds.{goes}
use Rattle.command_frame.specs.Answer.{gone_on}
use Rattle.command_frame.specs.Delivery.{LineEnds}
use Rattle.command_frame.specs.Ending.{IsEndOf, IsRefusal, PrepareCause}
use Rattle.command_frame.specs.Ending.IsEndOf.{is_end}
use Rattle.command_frame.specs.Finishing.{IsWorkEnd, Finished}
use Rattle.command_frame.specs.Outside.{Outside}
use Rattle.command_frame.proofs.AllowedLemmas.{later}
use Rattle.run_results.specs.declared.status.Status.{Status}
use Rattle.run_results.specs.declared.status.Status.TheVariants as S
use Rattle.run_results.specs.Statuses.{means, statuses}
use Rattle.run_results.proofs.StatusLemmas.{one_memory}
use Rattle.pw_top.specs.Answer.{Answer, Expected, status_of}
use Rattle.pw_top.specs.Allowed.{Binds}
use Rattle.pw_top.specs.working.Ending.{Ends, IsDeliverable}
use Rattle.pw_top.specs.Playing.{Happened, IsNothing, Idly, PlayEnds, PlayFollows, Plays}
use Rattle.pw_top.proofs.AllowedLemmas.{binds_stops, outcome_is}

-- nothing happened, and that may be so
nothing_then : (outcome : Result Work Status) (h : Happened) (status : Status) → IsNothing h → PlayEnds outcome h (Err status)
nothing_then outcome h S.Ok n = n
nothing_then outcome h (S.Usage w) n = n
nothing_then outcome h (S.Absent w) n = n
nothing_then outcome h (S.Script w v) n = n
nothing_then outcome h (S.Wav w v) n = n
nothing_then outcome h (S.Pod w v) n = n
nothing_then outcome h (S.Limit w v) n = n
nothing_then outcome h (S.ReadFault w) n = n
nothing_then outcome h (S.WriteFault w) n = n
nothing_then outcome h S.Memory n = inl n

nothing_ends : (outcome : Result Work Status) (h : Happened) (r : Result Work Status) → IsNothing h → PlayEnds outcome h r
nothing_ends outcome h (Ok w) n = tt
nothing_ends outcome h (Err status) n = nothing_then outcome h status n

module _ {T : Type 0} (P : Expected T → Type 0) (next : T → Answer → Type 0) (h : Happened) where
  -- the first part gives something, and what comes next plays
  pub plays_goes : (x : T) (r : Result Work Status) → Ends P (Ok x) → Plays (next x) h r → Plays (Binds P next) h r
  plays_goes x r f p = record {
    answer = gone_on f.answer.loads p.answer;
    allowed = goes f.answer x p.answer f.allowed (outcome_is f.answer x f.ends) p.allowed refl;
    ends = later statuses f.answer.loads p.answer r p.ends;
    played = p.played;
  }

  -- the first part ends all
  pub plays_stops : (status : Status) → Ends P (Err status) → IsNothing h → Plays (Binds P next) h (Err status)
  plays_stops status f n =
      let e = binds_stops P next status f in
      record { answer = e.answer; allowed = e.allowed; ends = e.ends; played = nothing_then e.answer.outcome h status n }

-- a command that runs nothing, and words that are refused
pub plays_idly : (P : Answer → Type 0) (h : Happened) (r : Result Work Status) → Ends P r → IsNothing h → Plays (Idly P h) h r
plays_idly P h r e n = record { answer = e.answer; allowed = (n, e.allowed); ends = e.ends; played = nothing_ends e.answer.outcome h r n }

pub plays_not : (P : Answer → Type 0) (h : Happened) (status : Status) → Ends P (Err status) → IsNothing h → Plays P h (Err status)
plays_not P h status e n =
    record { answer = e.answer; allowed = e.allowed; ends = e.ends; played = nothing_then e.answer.outcome h status n }

-- BY THE STATUS, once what was made is finished
module _ (outcome : Result Work Status) (h : Happened) where
  refusal_played : (f f' : ℕ) (r : Status) → IsRefusal f f' (means r) → PlayEnds outcome h (Err r)
      → PlayFollows outcome h r × PlayFollows outcome h S.Memory
  refusal_played f f' S.Ok c p = absurd c
  refusal_played f f' (S.Usage w) c p = (p, inl p)
  refusal_played f f' (S.Absent w) c p = (p, inl p)
  refusal_played f f' (S.Script w v) c p = (p, inl p)
  refusal_played f f' (S.Wav w v) c p = (p, inl p)
  refusal_played f f' (S.Pod w v) c p = (p, inl p)
  refusal_played f f' (S.Limit w v) c p = (p, inl p)
  refusal_played f f' (S.ReadFault w) c p = (p, inl p)
  refusal_played f f' (S.WriteFault zero) c p = absurd c
  refusal_played f f' (S.WriteFault (suc n)) c p = absurd c
  refusal_played f f' S.Memory c p = (p, p)

  work_played : (b n : Outside) (status : Status) → status_of outcome ≡ S.Ok → IsWorkEnd b n (means status) → PlayFollows outcome h status
  work_played b n S.Ok ok e = ok
  work_played b n (S.WriteFault place) ok e = ok
  work_played b n S.Memory ok e = inr ok
  work_played b n (S.Usage w) ok e = absurd e
  work_played b n (S.Absent w) ok e = absurd e
  work_played b n (S.Script w v) ok e = absurd e
  work_played b n (S.Wav w v) ok e = absurd e
  work_played b n (S.Pod w v) ok e = absurd e
  work_played b n (S.Limit w v) ok e = absurd e
  work_played b n (S.ReadFault w) ok e = absurd e

-- the status of a refusal is its own, or memory was short for its line
pub line_end : (r : Status) (before now : ℕ) (old new : Given) (status : Status) → LineEnds statuses r before now old new status
    → (status ≡ r) ⊎ (status ≡ S.Memory)
line_end r before now old new status (inl x) = inl x.0
line_end r before now old new status (inr x) = inr (one_memory status x.0)

followed : (outcome : Result Work Status) (h : Happened) (r status : Status) → PlayFollows outcome h r × PlayFollows outcome h S.Memory
    → (status ≡ r) ⊎ (status ≡ S.Memory) → PlayFollows outcome h status
followed outcome h r status both (inl e) = subst (PlayFollows outcome h) (sym e) both.0
followed outcome h r status both (inr e) = subst (PlayFollows outcome h) (sym e) both.1

pub run_played : (a : Answer) (h : Happened) (b n : Outside) (made : Result Work Status) (f f' : ℕ) (status : Status)
    → PrepareCause statuses IsDeliverable f f' made → IsEndOf statuses a made
    → PlayEnds a.outcome h made → Finished statuses made b n status → PlayFollows a.outcome h status
run_played a h b n (Ok w) f f' status c (is_end m) q d = work_played a.outcome h b n status (ap status_of m) d.end
run_played a h b n (Err r) f f' status c m q d = followed a.outcome h r status (refusal_played a.outcome h f f' r c q)
    (line_end r b.put_faults n.put_faults b.given n.given status d.1)
