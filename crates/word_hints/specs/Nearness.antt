-- Whether two words are within one letter, or two, of each other: letters that are put in, left out
-- or changed, or two neighbours that changed places. Source: Levenshtein's distance, and Damerau's
-- for one letter.
use Rattle.std.specs.Prelude.{ℕ, ◌==◌, ◌&&◌, ◌||◌, Bool, false, List, [], ◌∷◌, length, nat_le, bytes_eq, if◌then◌else◌}

-- the same first letter, and then within one; or one letter is put in, left out or changed
abbrev pub is_one_near : List ℕ → List ℕ → Bool
is_one_near [] ys = nat_le (length ys) 1
is_one_near (x ∷ xs) [] = nat_le (length (x ∷ xs)) 1
is_one_near (x ∷ xs) (y ∷ ys) = ((x == y) && is_one_near xs ys)
    || (bytes_eq xs (y ∷ ys) || (bytes_eq (x ∷ xs) ys || bytes_eq xs ys))

-- the first two letters in each other's place, and then the same
abbrev pub is_first_swapped : ℕ → List ℕ → ℕ → List ℕ → Bool
is_first_swapped x [] y ys = false
is_first_swapped x (a ∷ xs) y [] = false
is_first_swapped x (a ∷ xs) y (b ∷ ys) = (x == b) && ((a == y) && bytes_eq xs ys)

abbrev pub is_swapped : List ℕ → List ℕ → Bool
is_swapped [] ys = false
is_swapped (x ∷ xs) [] = false
is_swapped (x ∷ xs) (y ∷ ys) = ((x == y) && is_swapped xs ys) || is_first_swapped x xs y ys

abbrev pub is_two_near : List ℕ → List ℕ → Bool
is_two_near [] ys = nat_le (length ys) 2
is_two_near (x ∷ xs) [] = nat_le (length (x ∷ xs)) 2
is_two_near (x ∷ xs) (y ∷ ys) = ((x == y) && is_two_near xs ys)
    || (is_one_near xs (y ∷ ys) || (is_one_near (x ∷ xs) ys || is_one_near xs ys))

-- within one letter, or within two
abbrev pub is_near : ℕ → List ℕ → List ℕ → Bool
is_near k xs ys = if k == 1 then is_one_near xs ys || is_swapped xs ys else is_two_near xs ys
