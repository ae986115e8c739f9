-- THE HEADLINE: the words have an answer, which is followed to its end, or as far as the status
-- says. Source: this project's own.
use Rattle.std.specs.Prelude.{◌≡◌, ◌⊎◌, ℕ, Result, Ok, Err, IsSome}
use Rattle.pw_outside.specs.Files.{Names, names_in}
use Rattle.command_frame.specs.declared.ending.End.{End}
use Rattle.command_frame.specs.declared.ending.End.TheVariants as E
use Rattle.command_frame.specs.Allowed.{Reads, Binds}
use Rattle.command_frame.specs.Answer.{Answer}
use Rattle.command_frame.specs.FaultCauses.{HadNoFault}
use Rattle.command_frame.specs.Following.{status_of, stores_of, text_of, StatusFollows, FilesFollow, TextFollows}
use Rattle.command_frame.specs.Outside.{Outside}
use Rattle.command_frame.specs.Statuses.{Statuses}

-- what words are read as: their request, or the refusal of the first at fault
abbrev pub read_as : {S Q : Type 0} → Statuses S → Result Q ℕ → Result Q S
read_as statuses (Ok request) = Ok request
read_as statuses (Err word) = Err (statuses.usage word)

-- AN ANSWER to words: they are read, and then it is one to their request
abbrev pub IsAnswer : {S Q : Type 0} → Statuses S → Result Q ℕ
    → (Q → Names → Answer S → Type 0) → Names → Answer S → Type 0
IsAnswer statuses asked answers names =
    Binds statuses (Reads statuses (λ outcome. outcome ≡ read_as statuses asked))
    (λ request. answers request names)

-- what an end says of a status, of the answer, of the files and of the text holds
pub record FollowsTo {S : Type 0} (statuses : Statuses S) (a : Answer S) (before now : Outside)
    (status : S) (end : End) : Type 0 where
  pub stop : StatusFollows statuses.done a status end
  pub files : FilesFollow statuses (stores_of a.outcome) (text_of a.outcome)
      before.store_faults now.store_faults before.held now.held end
  pub text : TextFollows (text_of a.outcome) (statuses.line status) before.put_faults
      now.put_faults before.given now.given end

abbrev pub Follows : {S : Type 0} → Statuses S → Answer S → Outside → Outside → S → Type 0
Follows statuses a before now status =
    FollowsTo statuses a before now status (statuses.means status)

-- REPORTED: where the files report what they hold, there is an answer that is allowed by that;
-- files, output and status follow it
abbrev pub IsTold : {S : Type 0} → Statuses S → (Names → Answer S → Type 0) → Outside
    → Outside → S → Type 0
IsTold {S} statuses allowed before now status = IsSome before.held → (a : Answer S)
    × allowed (names_in before.held) a
    × Follows statuses a before now status

-- no fault of a load, of a store or of a put
abbrev pub IsNoFault : End → Type 0
IsNoFault (E.ReadFault place) = ⊥
IsNoFault (E.StoreFault place) = ⊥
IsNoFault E.PutFault = ⊥
IsNoFault end = Unit {0}

-- COMPLETE: where no fault was counted, the status is no fault's; and where besides the files
-- report what they hold, it is that of an answer that is allowed, or memory was short
pub record Completes {S : Type 0} (statuses : Statuses S) (allowed : Names → Answer S → Type 0)
    (before now : Outside) (status : S) : Type 0 where
  pub no_fault : IsNoFault (statuses.means status)
  pub answer : IsSome before.held → (a : Answer S) × allowed (names_in before.held) a
      × ((status ≡ status_of statuses.done a.outcome) ⊎ (statuses.means status ≡ E.Memory))

abbrev pub IsComplete : {S : Type 0} → Statuses S → (Names → Answer S → Type 0) → Outside
    → Outside → S → Type 0
IsComplete statuses allowed before now status = HadNoFault before now
    → Completes statuses allowed before now status
