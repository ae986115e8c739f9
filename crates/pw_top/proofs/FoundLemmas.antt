-- Laws of `specs/Found.antt`, of what it names and of `specs/working/Seen.antt`: what is seen of a trace is found of it, by the
-- parts of a check, by its words, and by the status; the script that was read; and the work that was done.
use Rattle.std.proofs.Common.{◌≡◌, ℕ, List, map, refl, sym, subst, inl, inr}
use Rattle.std.specs.Prelude.{◌⊎◌, Option, Some, None, Result, Ok, Err, OnOk, IsSome}
use Rattle.pw_lists.specs.declared.limit.Which.{Which}
use Rattle.pw_lists.specs.declared.limit.Which.TheVariants as L
use Rattle.pw_graph.specs.declared.event.Event.{Event}
use Rattle.pw_graph.specs.declared.shape.Shape.{Shape}
use Rattle.pw_outside.specs.Files.{Held, names_in}
use Rattle.trace_check.specs.declared.reasons.Reason.{Reason}
use Rattle.trace_check.specs.Finding.{IsFindingOn}
use Rattle.trace_check.specs.FirstIllegal.{IsVerdictOn}
use Rattle.trace_check.specs.Reasons.{IsReasonOn}
use Rattle.command_frame.specs.declared.work.Work.{Work}
use Rattle.command_frame.specs.Allowed.{IsLoadStop}
use Rattle.command_frame.specs.Ending.{IsRefusal, PrepareCause}
use Rattle.command_frame.specs.Finishing.{Finished}
use Rattle.command_frame.specs.Outside.{Outside}
use Rattle.command_frame.specs.Words.{Words}
use Rattle.pw_top.specs.declared.commands.check_traces.Seen.{Seen}
use Rattle.pw_top.specs.declared.commands.check_traces.Seen.TheVariants.{Line, Events}
use Rattle.run_results.specs.declared.found.Found.{Found}
use Rattle.run_results.specs.declared.found.What.{What}
use Rattle.pw_top.specs.declared.planned.Planned.{Planned}
use Rattle.run_results.specs.declared.status.Status.{Status}
use Rattle.run_results.specs.declared.status.Status.TheVariants as S
use Rattle.pw_top.specs.declared.usage.CommandLine.{CommandLine}
use Rattle.pw_top.specs.declared.usage.CommandLine.TheVariants as C
use Rattle.pw_top.specs.Answer.{Expected}
use Rattle.pw_top.specs.Allowed.{IsLoad, Gives}
use Rattle.run_results.specs.Places.{trace_place}
use Rattle.pw_top.specs.Check.{trace_bytes_limit}
use Rattle.pw_top.specs.CheckFound.{IsFoundIn, IsFoundUnder, IsFoundByCheck}
use Rattle.pw_top.specs.Found.{IsFound, found_after}
use Rattle.pw_top.specs.ScriptFile.{PlansFile}
use Rattle.pw_top.specs.ScriptFound.{end_of, EndsAtLoad, IsScriptUnder, IsScriptBy, IsScriptOf}
use Rattle.run_results.specs.Statuses.{means, statuses}
use Rattle.pw_top.specs.Usage.{command_of}
use Rattle.pw_top.specs.WhatFound.{IsWhatBy, IsWhatOf, IsWhat}
use Rattle.pw_top.specs.WorkFound.{IsDone, IsWorkFound, work_in}
use Rattle.pw_top.specs.working.Ending.{Ends, IsDeliverable, Tells}
use Rattle.pw_top.specs.working.Seen.{IsSeenOn, verdict_by, finding_by, what_by}
use Rattle.pw_top.proofs.AllowedLemmas.{outcome_is}
use Rattle.pw_top.proofs.LoadsLemmas.{told_before}
use Rattle.pw_top.proofs.PlayingLemmas.{line_end}

-- ONE PASS: the verdict has the place of the reason
pub reason_verdict : (shapes : List Shape) (events : List Event) (reason : Option Reason) → IsReasonOn shapes events reason
    → IsVerdictOn shapes events (verdict_by reason)
reason_verdict shapes events None h = h
reason_verdict shapes events (Some reason) h = h.0

module _ (names : List (List ℕ)) (shapes : List Shape) (bytes : List ℕ) where
  pub seen_finding : (seen : Seen) → IsSeenOn names shapes bytes seen → IsFindingOn names shapes bytes (finding_by seen)
  seen_finding (Line number) h = h
  seen_finding (Events reason event) h = (h.0, h.1, reason_verdict shapes h.0 reason h.2)

  pub seen_found : (seen : Seen) → IsSeenOn names shapes bytes seen → IsFoundIn names shapes bytes (what_by names seen)
  seen_found (Line number) h = h
  seen_found (Events reason event) h = (refl, h.0, h.1, h.2, h.3)

-- what a part gave
pub part_gives_it : {T : Type 0} (P : Expected T → Type 0) (x : T) → Ends P (Ok x) → Gives P x
part_gives_it P x e = record { part = e.answer; allowed = e.allowed; gives = outcome_is e.answer x e.ends }

-- of a result, whatever it is
pub ok_always : {T E : Type 0} (r : Result T E) (P : Type 0) → P → OnOk r P
ok_always (Ok x) P p = p
ok_always (Err e) P p = tt

pub ok_then : {T E : Type 0} (r : Result T E) (P Q : Type 0) → (P → Q) → OnOk r P → OnOk r Q
ok_then (Ok x) P Q f h = f h
ok_then (Err e) P Q f h = h

-- the trace is loaded, and the plan is there
pub trace_found : (held : Held) (trace : List ℕ) (p : Planned) (bytes : List ℕ) (what : What) (r : Result Work Status)
    → Tells held (λ names. IsLoad names trace_place trace trace_bytes_limit L.TraceBytes) (Ok bytes)
    → OnOk r (IsFoundIn p.script.names (map (λ e. e.shape) p.plan.epochs) bytes what)
    → OnOk r (IsSome held → IsFoundUnder (names_in held) trace p what)
trace_found held trace p bytes what r told found =
    ok_then r (IsFoundIn p.script.names (map (λ e. e.shape) p.plan.epochs) bytes what)
    (IsSome held → IsFoundUnder (names_in held) trace p what)
    (λ f h. record {
      bytes = bytes;
      load = part_gives_it (IsLoad (names_in held) trace_place trace trace_bytes_limit L.TraceBytes) bytes (told h);
      found = f;
    })
    found

pub check_found : (held now : Held) (script trace : List ℕ) (p : Planned) (what : What) (r : Result Work Status)
    → now ≡ held
    → Tells held (λ names. PlansFile names script) (Ok p)
    → OnOk r (IsSome now → IsFoundUnder (names_in now) trace p what)
    → OnOk r (IsSome held → IsFoundByCheck (names_in held) script trace what)
check_found held now script trace p what r same told found =
    ok_then r (IsSome now → IsFoundUnder (names_in now) trace p what) (IsSome held → IsFoundByCheck (names_in held) script trace what)
    (λ f h. record {
      planned = p;
      plan = part_gives_it (PlansFile (names_in held) script) p (told h);
      found = told_before (λ names. IsFoundUnder names trace p what) held now same f h;
    })
    found

-- the words were read
pub what_read : (expected : Result CommandLine ℕ) (held : Held) (c : CommandLine) (what : What) (r : Result Work Status)
    → expected ≡ Ok c → OnOk r (IsWhatBy c held what) → OnOk r (IsWhatOf expected held what)
what_read expected held c what r e h = subst (λ (x : Result CommandLine ℕ). OnOk r (IsWhatOf x held what)) (sym e) h

pub script_read : (expected : Result CommandLine ℕ) (held : Held) (c : CommandLine) (status : Status) (script : Option (List ℕ))
    → expected ≡ Ok c → IsScriptBy c held status script → IsScriptOf expected held status script
script_read expected held c status script e h = subst (λ (x : Result CommandLine ℕ). IsScriptOf x held status script) (sym e) h

-- they were not: they are refused, or memory was short
none_short : (expected : Result CommandLine ℕ) (held : Held) → IsScriptOf expected held S.Memory None
none_short (Err refusal) held = refl
none_short (Ok (C.Run c)) held = tt
none_short (Ok (C.Check c)) held = tt
none_short (Ok (C.Groups c)) held = tt
none_short (Ok (C.Dump c)) held = refl
none_short (Ok (C.Filter c)) held = refl
none_short (Ok (C.Automate c)) held = refl
none_short (Ok (C.Soak c)) held = refl

pub script_refused : (expected : Result CommandLine ℕ) (held : Held) (word : ℕ) (status : Status) (script : Option (List ℕ))
    → expected ≡ Err word → script ≡ None → IsScriptOf expected held status script
script_refused expected held word status script e h = subst (λ (x : Result CommandLine ℕ). IsScriptOf x held status script) (sym e) h

pub script_short : (expected : Result CommandLine ℕ) (held : Held) (script : Option (List ℕ)) → script ≡ None
    → IsScriptOf expected held S.Memory script
script_short expected held script h =
    subst (λ (s : Option (List ℕ)). IsScriptOf expected held S.Memory s) (sym h) (none_short expected held)

-- the load of a script ends a command at its place
pub load_stops : (place : ℕ) (which : Which) (status : Status) → IsLoadStop statuses place (S.Limit place which) status
    → EndsAtLoad place status
load_stops place which status (inl e) = subst (EndsAtLoad place) (sym e) refl
load_stops place which status (inr (inl e)) = subst (EndsAtLoad place) (sym e) refl
load_stops place which status (inr (inr (inl e))) = subst (EndsAtLoad place) (sym e) refl
load_stops place which status (inr (inr (inr e))) = subst (EndsAtLoad place) (sym e) tt

-- HOW A COMMAND GOES ON: it was not ended by the load of its script, or ends as it would have, or memory is short
abbrev pub GoesOn : Status → Status → Type 0
GoesOn status later = (status ≡ S.Ok) ⊎ ((later ≡ status) ⊎ (later ≡ S.Memory))

-- and the script stays
pub script_later : (held : Held) (name : List ℕ) (script : Option (List ℕ)) (status later : Status) → GoesOn status later
    → IsScriptUnder held name status script → IsScriptUnder held name later script
script_later held name (Some bytes) status later e h = h
script_later held name None status later (inl ok) h = absurd (subst (EndsAtLoad 0) ok h)
script_later held name None status later (inr (inl same)) h = subst (EndsAtLoad 0) (sym same) h
script_later held name None status later (inr (inr short)) h = subst (EndsAtLoad 0) (sym short) tt

script_by : (c : CommandLine) (held : Held) (script : Option (List ℕ)) (status later : Status) → GoesOn status later
    → IsScriptBy c held status script → IsScriptBy c held later script
script_by (C.Run c) held script status later e h = script_later held c.script script status later e h
script_by (C.Check c) held script status later e h = script_later held c.script script status later e h
script_by (C.Groups c) held script status later e h = script_later held c.script script status later e h
script_by (C.Dump c) held script status later e h = h
script_by (C.Filter c) held script status later e h = h
script_by (C.Automate c) held script status later e h = h
script_by (C.Soak c) held script status later e h = h

script_of_words : (expected : Result CommandLine ℕ) (held : Held) (script : Option (List ℕ)) (status later : Status)
    → GoesOn status later → IsScriptOf expected held status script → IsScriptOf expected held later script
script_of_words (Ok c) held script status later e h = script_by c held script status later e h
script_of_words (Err refusal) held script status later e h = h

-- BY THE STATUS: where that is Ok, work was prepared
module _ (f f' : ℕ) (b n : Outside) where
  none_ok : (e : Status) → IsRefusal f f' (means e) → (S.Ok ≡ e) ⊎ (S.Ok ≡ S.Memory) → ⊥
  none_ok e c (inl same) = subst (λ (s : Status). IsRefusal f f' (means s)) (sym same) c
  none_ok e c (inr short) = cc

  refusal_ends : (e status : Status) → Finished statuses (Err e) b n status → (status ≡ e) ⊎ (status ≡ S.Memory)
  refusal_ends e status d = line_end e b.put_faults n.put_faults b.given n.given status d.1

  what_ends : (words : Words) (held : Held) (what : What) (made : Result Work Status) → PrepareCause statuses IsDeliverable f f' made
      → Finished statuses made b n S.Ok → OnOk made (IsWhatOf (command_of words) held what) → IsWhat words held S.Ok what
  what_ends words held what (Ok work) c d h = h
  what_ends words held what (Err e) c d h = absurd (none_ok e c (refusal_ends e S.Ok d))

  goes_on : (made : Result Work Status) (status : Status) → Finished statuses made b n status → GoesOn (end_of made) status
  goes_on (Ok work) status d = inl refl
  goes_on (Err e) status d = inr (refusal_ends e status d)

  script_ends : (expected : Result CommandLine ℕ) (held : Held) (script : Option (List ℕ)) (made : Result Work Status) (status : Status)
      → Finished statuses made b n status → IsScriptOf expected held (end_of made) script → IsScriptOf expected held status script
  script_ends expected held script made status d h =
      script_of_words expected held script (end_of made) status (goes_on made status d) h

  -- the work that was done
  work_ends : (made : Result Work Status) → PrepareCause statuses IsDeliverable f f' made → Finished statuses made b n S.Ok
      → IsDone b.held n.held b.given n.given (work_in made)
  work_ends (Ok work) c d = record { work = work; there = refl; stored = d.follows.files; put = d.follows.text }
  work_ends (Err e) c d = absurd (none_ok e c (refusal_ends e S.Ok d))

  -- all that was found, by the status at the end
  module _ (words : Words) (held : Held) (found : Found) (made : Result Work Status) where
    abbrev AllFound : Status → Type 0
    AllFound status = IsFound words held status (found_after status made found)
        × IsWorkFound status b.held n.held b.given n.given (found_after status made found).work

    pub found_ends : (status : Status) → PrepareCause statuses IsDeliverable f f' made → Finished statuses made b n status
        → IsScriptOf (command_of words) held (end_of made) found.script
        → OnOk made (IsWhatOf (command_of words) held found.what) → AllFound status
    found_ends S.Ok c d x h = (
      record {
        script = script_ends (command_of words) held found.script made S.Ok d x;
        what = what_ends words held found.what made c d h;
      },
      work_ends made c d,
    )
    found_ends (S.Usage w) c d x h = (record { script = script_ends (command_of words) held found.script made (S.Usage w) d x; what = refl }, refl)
    found_ends (S.Script w v) c d x h =
        (record { script = script_ends (command_of words) held found.script made (S.Script w v) d x; what = refl }, refl)
    found_ends (S.Wav w v) c d x h = (record { script = script_ends (command_of words) held found.script made (S.Wav w v) d x; what = refl }, refl)
    found_ends (S.Pod w v) c d x h = (record { script = script_ends (command_of words) held found.script made (S.Pod w v) d x; what = refl }, refl)
    found_ends (S.Absent w) c d x h = (record { script = script_ends (command_of words) held found.script made (S.Absent w) d x; what = refl }, refl)
    found_ends (S.ReadFault w) c d x h =
        (record { script = script_ends (command_of words) held found.script made (S.ReadFault w) d x; what = refl }, refl)
    found_ends (S.WriteFault w) c d x h =
        (record { script = script_ends (command_of words) held found.script made (S.WriteFault w) d x; what = refl }, refl)
    found_ends (S.Limit w v) c d x h =
        (record { script = script_ends (command_of words) held found.script made (S.Limit w v) d x; what = refl }, refl)
    found_ends S.Memory c d x h = (record { script = script_ends (command_of words) held found.script made S.Memory d x; what = refl }, refl)
