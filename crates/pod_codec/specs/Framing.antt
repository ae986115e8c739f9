-- The parts of a written POD: size, type, body and zeros up to a multiple of 8, and elements
-- without padding. Source: SPA POD, "Types"; spa/pod/pod.h. Numbers are little-endian.
use Rattle.std.specs.Prelude.{ℕ, ◌+◌, ◌*◌, ◌-◌, ◌/◌, ◌==◌, ◌&&◌, ◌||◌, max, nat_lt, Bool, true, List, [], ◌∷◌, ◌++◌}
use Rattle.std.specs.Prelude.{length, replicate}
use Rattle.std.specs.List.{flat_map, list_all}
use Rattle.std.specs.Int.{w32, w64, to_le_bytes}
use Rattle.pod_codec.specs.PodType.{child_size}

-- the number of a type, the bytes of the body, the levels of values, and whether all inside is
-- allowed
pub record Form : Type 0 where
  pub number : ℕ
  pub body : List ℕ
  pub depth : ℕ
  pub sound : Bool

-- a value after two numbers: key and flags of a property, offset and kind of a control
pub record Keyed : Type 0 where
  pub first : ℕ
  pub second : ℕ
  pub value : Form

-- a number in four bytes, and in eight, the lowest first
unfoldable pub u32_bytes : ℕ → List ℕ
u32_bytes n = to_le_bytes w32 n

unfoldable pub u64_bytes : ℕ → List ℕ
u64_bytes n = to_le_bytes w64 n

-- the least multiple of 8 that is not below n
abbrev pub pad8 : ℕ → ℕ
pad8 n = 8 * ((n + 7) / 8)

-- a whole POD: size, type, body, zeros up to a multiple of 8
abbrev pub framed : Form → List ℕ
framed f = (u32_bytes (length f.body) ++ u32_bytes f.number) ++ f.body ++ replicate
    (pad8 (length f.body) - length f.body) 0

abbrev pub keyed_bytes : Keyed → List ℕ
keyed_bytes k = (u32_bytes k.first ++ u32_bytes k.second) ++ framed k.value

-- the greatest depth
abbrev pub deepest : List Form → ℕ
deepest [] = 0
deepest (f ∷ fs) = max f.depth (deepest fs)

abbrev pub deepest_keyed : List Keyed → ℕ
deepest_keyed [] = 0
deepest_keyed (k ∷ ks) = max k.value.depth (deepest_keyed ks)

-- size and type of the children, then their bodies without padding
abbrev pub child_bytes : ℕ → List Form → List ℕ
child_bytes child values = (u32_bytes (child_size child) ++ u32_bytes child)
    ++ flat_map (λ v. v.body) values

-- each value is of the child type; without one, the child type may be 1
abbrev pub are_children : ℕ → List Form → Bool
are_children child [] = nat_lt 0 (child_size child) || (child == 1)
are_children child (v ∷ vs) = nat_lt 0 (child_size child)
    && list_all (λ f. f.number == child) (v ∷ vs)

abbrev pub leaf : ℕ → List ℕ → Form
leaf number body = record { number = number; body = body; depth = 1; sound = true }
