-- Laws of `specs/CommandLine.antt`: from the words to the answer of their command.
use Rattle.std.proofs.Common.{◌≡◌, ℕ, refl, sym, subst, inr, [], ◌∷◌}
use Rattle.std.specs.Prelude.{Result, Ok, Err}
use Rattle.run_results.specs.declared.status.Status.{Status}
use Rattle.run_results.specs.declared.status.Status.TheVariants as S
use Rattle.command_frame.specs.declared.work.Work.{Work}
use Rattle.command_frame.specs.Ending.IsEndOf.{is_end}
use Rattle.command_frame.specs.Words.{Words}
use Rattle.command_frame.specs.Answer.{ended, refused}
use Rattle.command_frame.specs.Allowed.Binds.{short}
use Rattle.pw_top.specs.declared.usage.CommandLine.{CommandLine}
use Rattle.pw_top.specs.declared.usage.CommandLine.TheVariants as C
use Rattle.pw_outside.specs.Files.{Names}
use Rattle.pw_top.specs.working.Ending.{Ends}
use Rattle.pw_top.specs.Usage.{command_of}
use Rattle.pw_top.specs.Playing.{Happened, IsNothing, Plays}
use Rattle.pw_top.specs.Answer.{Answer, Expected}
use Rattle.pw_top.specs.CommandLine.{IsAnswer, IsAnswerTo, IsReadAnswer}
use Rattle.pw_top.proofs.PlayingLemmas.{plays_not}

-- an answer of the command is one of its words
pub answer_read : (words : Words) (h : Happened) (names : Names) (c : CommandLine) (r : Result Work Status) → command_of words ≡ Ok c
    → Plays (IsAnswerTo c h names) h r → Plays (IsAnswer words h names) h r
unfolding IsAnswer
answer_read words h names c r e p = rw e p

-- memory is short after the load of a script
abbrev first_short : {T : Type 0} → Expected T
first_short = ended (0 ∷ []) S.Memory

-- there is an answer to each line of words, where nothing happened
some_answer : (c : Result CommandLine ℕ) (h : Happened) (names : Names) → IsNothing h → (a : Answer) × IsReadAnswer c h names a
some_answer (Ok (C.Run c)) h names n = (first_short, short first_short (short first_short (short first_short (refl, inr refl) refl) refl) refl)
some_answer (Ok (C.Dump c)) h names n = (ended (1 ∷ []) S.Memory, (n, short (ended (1 ∷ []) S.Memory) (refl, inr refl) refl))
some_answer (Ok (C.Filter c)) h names n = (ended (1 ∷ []) S.Memory, (n, short (ended (1 ∷ []) S.Memory) (refl, inr refl) refl))
some_answer (Ok (C.Automate c)) h names n = (ended (1 ∷ []) S.Memory, (n, short (ended (1 ∷ []) S.Memory) (refl, inr refl) refl))
some_answer (Ok (C.Check c)) h names n = (first_short, (n, short first_short (short first_short (short first_short (refl, inr refl) refl) refl) refl))
some_answer (Ok (C.Groups c)) h names n = (first_short, short first_short (short first_short (short first_short (refl, inr refl) refl) refl) refl)
some_answer (Ok (C.Soak c)) h names n = (ended [] S.Memory, short (ended [] S.Memory) (short (ended [] S.Memory) (refl, inr refl) refl) refl)
some_answer (Err word) h names n = (refused (S.Usage word), refl)

-- the words are not in the grammar, or memory was short
word_end : (words : Words) (h : Happened) (names : Names) (word : ℕ) → command_of words ≡ Err word
    → Ends (IsAnswer words h names) (Err (S.Usage word))
unfolding IsAnswer
word_end words h names word e = rw e (record { answer = refused (S.Usage word); allowed = refl; ends = is_end refl })

short_end : (words : Words) (h : Happened) (names : Names) → IsNothing h → Ends (IsAnswer words h names) (Err S.Memory)
unfolding IsAnswer
short_end words h names n =
    let some = some_answer (command_of words) h names n in
    record { answer = some.0; allowed = some.1; ends = is_end tt }

pub word_stops : (words : Words) (h : Happened) (names : Names) (word : ℕ) (status : Status) → status ≡ S.Usage word → IsNothing h
    → command_of words ≡ Err word → Plays (IsAnswer words h names) h (Err status)
word_stops words h names word status is n e = subst (λ (s : Status). Plays (IsAnswer words h names) h (Err s)) (sym is)
    (plays_not (IsAnswer words h names) h (S.Usage word) (word_end words h names word e) n)

pub short_stops : (words : Words) (h : Happened) (names : Names) → IsNothing h → Plays (IsAnswer words h names) h (Err S.Memory)
short_stops words h names n = plays_not (IsAnswer words h names) h S.Memory (short_end words h names n) n
