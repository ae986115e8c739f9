-- Type numbers of PODs, and which types arrays and choices may hold. Source: SPA POD, "Types";
-- spa/utils/type.h.
use Rattle.std.specs.Prelude.{◌≡◌, ◌⊎◌, ℕ, ◌==◌, ◌&&◌, ◌||◌, Bool, nat_le, if◌then◌else◌}
use Rattle.pod_codec.specs.declared.pod.ChoiceKind.{ChoiceKind}
use Rattle.pod_codec.specs.declared.pod.ChoiceKind.TheVariants as k

-- KNOWN TYPE: None to Sequence, Fd and Choice; a Pointer, 17, is not known
abbrev pub is_known_type : ℕ → Bool
is_known_type n = (nat_le 1 n && nat_le n 16) || ((n == 18) || (n == 19))

-- types of 4 bytes: Bool, Id, Int, Float
abbrev pub has_four_bytes : ℕ → Bool
has_four_bytes n = ((n == 2) || (n == 3)) || ((n == 4) || (n == 6))

-- types of 8 bytes: Long, Double, Rectangle, Fraction, Fd
abbrev pub has_eight_bytes : ℕ → Bool
has_eight_bytes n = ((n == 5) || (n == 7)) || ((n == 10) || ((n == 11) || (n == 18)))

-- the bytes of an allowed child type; 0 of a type that no array or choice may hold
abbrev pub child_size : ℕ → ℕ
child_size n = if has_four_bytes n then 4 else (if has_eight_bytes n then 8 else 0)

-- a known type without a size of its own
abbrev pub IsOther : ℕ → Type 0
IsOther n = (n ≡ 1) ⊎ ((n ≡ 8)
    ⊎ ((n ≡ 9) ⊎ ((n ≡ 12) ⊎ ((n ≡ 13)
    ⊎ ((n ≡ 14) ⊎ ((n ≡ 15) ⊎ ((n ≡ 16) ⊎ (n ≡ 19))))))))

-- the number of a choice's kind
abbrev pub choice_number : ChoiceKind → ℕ
choice_number k.None = 0
choice_number k.Range = 1
choice_number k.Step = 2
choice_number k.Enum = 3
choice_number k.Flags = 4
