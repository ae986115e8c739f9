-- Laws of a load: each of its ends is one of the answer that is expected of it.
use Rattle.std.proofs.Common.{◌≡◌, ℕ, ◌<◌, ◌≤◌, true, false, List, [], ◌∷◌, length, refl, sym, subst, inr, arith, rules}
use Rattle.std.specs.Prelude.{Some, None, Result, Ok, Err, nat_le}
use Rattle.pw_outside.specs.Files.{Names}
use Rattle.command_frame.specs.declared.ending.End.TheVariants as E
use Rattle.command_frame.specs.Answer.{ended, load_outcome}
use Rattle.command_frame.specs.Statuses.{Statuses}
use Rattle.command_frame.specs.Ending.{Ends, StopsAt}
use Rattle.command_frame.specs.Ending.IsEndOf.{is_end}
use Rattle.command_frame.specs.Allowed.{IsLoad}
use Rattle.command_frame.proofs.AllowedLemmas.{IsPlain, part_gives, part_memory, part_refuses}

module _ {S : Type 0} (m : Statuses S) (names : Names) (place : ℕ) (name : List ℕ) (limit : ℕ) (long : S) where
  abbrev Of : Result (List ℕ) S → Type 0
  Of outcome = outcome ≡ load_outcome m names place name limit long

  pub load_whole : (b : List ℕ) → names name ≡ Some b → length b ≤ limit → Ends m (IsLoad m names place name limit long) (Ok b)
  unfolding load_outcome
  load_whole b e l =
      let small : nat_le (length b) limit ≡ true = search (rules, l) in
      part_gives m (place ∷ []) Of b (rw e (rw small refl))

  plain : (status : S) → m.means status ≡ E.Refused → IsPlain (m.means status)
  plain status is = subst IsPlain (sym is) tt

  pub load_absent : (status : S) → m.means status ≡ E.Refused → status ≡ m.absent place → names name ≡ None
      → Ends m (IsLoad m names place name limit long) (Err status)
  unfolding load_outcome
  load_absent status is value e = part_refuses m (place ∷ []) Of status (rw e (rw value refl)) (plain status is)

  pub load_long : (b : List ℕ) → m.means long ≡ E.Refused → names name ≡ Some b → limit < length b
      → Ends m (IsLoad m names place name limit long) (Err long)
  unfolding load_outcome
  load_long b is e l =
      let over : nat_le (length b) limit ≡ false = search (rules, l) in
      part_refuses m (place ∷ []) Of long (rw e (rw over refl)) (plain long is)

  pub load_failed : (status : S) → m.means status ≡ E.ReadFault place → Ends m (IsLoad m names place name limit long) (Err status)
  load_failed status is = record {
    answer = ended (place ∷ []) m.memory;
    allowed = (refl, inr refl);
    ends = is_end (subst (λ end. StopsAt (ended {T = List ℕ} (place ∷ []) m.memory) status end) (sym is) (0, grind arith, refl));
  }

  pub load_memory : (status : S) → m.means status ≡ E.Memory → Ends m (IsLoad m names place name limit long) (Err status)
  load_memory status is = part_memory m (place ∷ []) Of status is
