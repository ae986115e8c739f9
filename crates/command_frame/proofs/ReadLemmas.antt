-- Laws of an answer to words: by how they were read.
use Rattle.std.proofs.Common.{◌≡◌, ℕ, [], sym, subst, ap, ◌∙◌}
use Rattle.std.specs.Prelude.{Result, Ok, Err}
use Rattle.pw_outside.specs.Files.{Names}
use Rattle.command_frame.specs.declared.ending.End.TheVariants as E
use Rattle.command_frame.specs.declared.work.Work.{Work}
use Rattle.command_frame.specs.Allowed.{Reads}
use Rattle.command_frame.specs.Answer.{Answer}
use Rattle.command_frame.specs.Headline.{IsAnswer, read_as}
use Rattle.command_frame.specs.Statuses.{Statuses}
use Rattle.command_frame.specs.Ending.{Ends}
use Rattle.command_frame.proofs.AllowedLemmas.{IsPlain, binds_goes, binds_stops, part_gives, part_memory, part_refuses}

module _ {S Q : Type 0} (m : Statuses S) (asked : Result Q ℕ) (answers : Q → Names → Answer S → Type 0) (names : Names) where
  abbrev Of : Result Q S → Type 0
  Of outcome = outcome ≡ read_as m asked

  abbrev next : Q → Answer S → Type 0
  next request a = answers request names a

  -- a word is at fault
  pub word_answer : (word : ℕ) (status : S) → asked ≡ Err word → status ≡ m.usage word → m.means status ≡ E.Usage word
      → Ends m (IsAnswer m asked answers names) (Err status)
  word_answer word status is value end =
      binds_stops m (Reads m Of) next status
      (part_refuses m [] Of status (ap Err value ∙ sym (ap (read_as m) is)) (subst IsPlain (sym end) tt))

  -- memory was short
  pub short_answer : (status : S) → m.means status ≡ E.Memory → Ends m (IsAnswer m asked answers names) (Err status)
  short_answer status end = binds_stops m (Reads m Of) next status (part_memory m [] Of status end)

  -- the request is answered
  pub asked_answer : (request : Q) (r : Result Work S) → asked ≡ Ok request → Ends m (answers request names) r
      → Ends m (IsAnswer m asked answers names) r
  asked_answer request r is h = binds_goes m (Reads m Of) next request r (part_gives m [] Of request (sym (ap (read_as m) is))) h
