-- Rows that are long enough for all nodes of a loop.
use Rattle.std.proofs.Common.{◌≡◌, ℕ, ◌+◌, ◌<◌, ◌≤◌, List, length, get_or, take, sym, subst, arith, ⊎_elim}
use Rattle.std.specs.Prelude.{All}
use Rattle.std.proofs.lemmas.Bool.{cases_lt}
use Rattle.std.proofs.lemmas.List.{get_or_default, get_or-take, length-take-le, take_all}
use Rattle.data_loop.specs.declared.member.Member.{Member}
use Rattle.data_loop.specs.declared.rows.Rows.{Rows}
use Rattle.data_loop.specs.declared.epoch_state.EpochState.{EpochState}
use Rattle.data_loop.specs.Rooms.{HasRowsFor, IsWithin, AreAsLong}
use Rattle.data_loop.specs.EpochStateParts.{HasRoomIn, IsEpochStateWithin}

pub within_le : (a b : ℕ) (m : Member) → a ≤ b → IsWithin a m → IsWithin b m
within_le a b m low h = let x = h.first in let y = h.second in let z = h.left in let w = h.right in record {
  first = omega (arith, x, low);
  second = omega (arith, y, low);
  left = omega (arith, z, low);
  right = omega (arith, w, low);
}

pub all_within_le : (a b : ℕ) (ms : List Member) → a ≤ b → All (IsWithin a) ms → All (IsWithin b) ms
all_within_le a b ms low h k d lt = within_le a b (get_or ms k d) low (h k d lt)

pub epoch_state_within_le : (a b : ℕ) (g : EpochState) → a ≤ b → IsEpochStateWithin a g → IsEpochStateWithin b g
epoch_state_within_le a b g low h = (all_within_le a b g.members low h.0, all_within_le a b g.driver low h.1)

-- one element more
pub taken_more : {X : Type 0} (P Q : X → Type 0) (xs : List X) (i : ℕ) (e : X) → i < length xs → ((x : X) → P x → Q x)
    → All P (take i xs) → Q (get_or xs i e) → All Q (take (i + 1) xs)
taken_more P Q xs i e low grows before here k d lt =
    let long = length-take-le (i + 1) xs (omega (arith, low)) in let less = length-take-le i xs (omega (arith, low)) in
    let in_range : k < i + 1 = omega (arith, lt, long) in
    let at : get_or (take (i + 1) xs) k d ≡ get_or xs k d = get_or-take (i + 1) xs k d in_range in
    subst Q (sym at) (⊎_elim
    (λ (early : k < i). grows (get_or xs k d) (subst P (get_or-take i xs k d early) (before k d (omega (arith, early, less)))))
    (λ (last : i ≤ k). let is : k ≡ i = omega (arith, last, in_range) in
    subst (λ j. Q (get_or xs j d)) (sym is) (subst Q (get_or_default xs i e d low) here))
    (cases_lt k i))

pub rows_fit : (width : ℕ) (rows : Rows) (m : Member) → AreAsLong width rows → IsWithin width m → HasRowsFor rows m
rows_fit width rows m long h = record {
  sum_a = subst (λ n. m.first_width ≤ n) (sym long.sum_a) h.first;
  sum_b = subst (λ n. m.second_width ≤ n) (sym long.sum_b) h.second;
  a = subst (λ n. m.first_width ≤ n) (sym long.a) h.first;
  b = subst (λ n. m.second_width ≤ n) (sym long.b) h.second;
  left = subst (λ n. m.left_width ≤ n) (sym long.left) h.left;
  right = subst (λ n. m.right_width ≤ n) (sym long.right) h.right;
}

pub epoch_state_fits : (width : ℕ) (rows : Rows) (g : EpochState) → AreAsLong width rows → IsEpochStateWithin width g → HasRoomIn rows g
epoch_state_fits width rows g long h = (
  λ k d lt. rows_fit width rows (get_or g.members k d) long (h.0 k d lt),
  λ k d lt. rows_fit width rows (get_or g.driver k d) long (h.1 k d lt),
)

pub taken_all : {X : Type 0} (P : X → Type 0) (xs : List X) (i : ℕ) → length xs ≤ i → All P (take i xs) → All P xs
taken_all P xs i high h = subst (All P) (take_all i xs high) h
