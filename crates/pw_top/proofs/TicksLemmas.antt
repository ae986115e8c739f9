-- Laws of `specs/Usage.antt`: commands other than `run` ask for no ticks.
use Rattle.std.proofs.Common.{◌≡◌, ◌≤◌, ℕ, Bool, true, false, cond, List, [], ◌∷◌, length, get_or, map, refl, sym, arith, codes}
use Rattle.std.specs.Prelude.{bytes_eq, Option, Some, None, Result, Ok, Err}
use Rattle.graph_script.specs.Arguments.{number_of}
use Rattle.command_frame.specs.Words.{Words}
use Rattle.pw_top.specs.declared.usage.CommandLine.{CommandLine}
use Rattle.pw_top.specs.declared.usage.FileWords.{FileWords}
use Rattle.pw_top.specs.declared.usage.FilePair.{FilePair}
use Rattle.pw_top.specs.Usage.{dump_of, filter_of, automate_of, check_of, soak_with, soak_of, groups_of, command_of, ticks_in}

either : (b : Bool) (x y : Result CommandLine ℕ) → ticks_in x ≡ 0 → ticks_in y ≡ 0 → ticks_in (cond b x y) ≡ 0
either true x y h k = h
either false x y h k = k

of_dump : (r : Result (List ℕ) ℕ) → ticks_in (dump_of r) ≡ 0
of_dump (Ok file) = refl
of_dump (Err word) = refl

of_filter : (r : Result FileWords ℕ) → ticks_in (filter_of r) ≡ 0
of_filter (Ok w) = refl
of_filter (Err word) = refl

of_automate : (r : Result FileWords ℕ) → ticks_in (automate_of r) ≡ 0
of_automate (Ok w) = refl
of_automate (Err word) = refl

of_check : (r : Result FilePair ℕ) → ticks_in (check_of r) ≡ 0
of_check (Ok w) = refl
of_check (Err word) = refl

of_groups : (r : Result (List ℕ) ℕ) → ticks_in (groups_of r) ≡ 0
of_groups (Ok script) = refl
of_groups (Err word) = refl

with_number : (n : Option ℕ) (rest : Words) → ticks_in (soak_with n rest) ≡ 0
with_number None rest = refl
with_number (Some n) [] = refl
with_number (Some n) (more ∷ rest) = refl

of_soak : (words : Words) → ticks_in (soak_of words) ≡ 0
unfolding soak_of
of_soak [] = refl
of_soak (word ∷ rest) = with_number (number_of 0 4294967295 word) rest

-- the words after a name that is not `run`
pub no_ticks : (name : List ℕ) (rest : Words) → bytes_eq name (codes "run") ≡ false → ticks_in (command_of (name ∷ rest)) ≡ 0
unfolding command_of
no_ticks name rest other =
    rw other (either (bytes_eq name (codes "dump")) _ _ (of_dump _)
    (either (bytes_eq name (codes "filter")) _ _ (of_filter _)
    (either (bytes_eq name (codes "automate")) _ _ (of_automate _)
    (either (bytes_eq name (codes "check")) _ _ (of_check _)
    (either (bytes_eq name (codes "soak")) _ _ (of_soak rest)
    (either (bytes_eq name (codes "groups")) _ _ (of_groups _) refl))))))

pub else_ticks : {X : Type 0} (f : X → List ℕ) (words : List X) (d : X) → 1 ≤ length words
    → bytes_eq (f (get_or words 0 d)) (codes "run") ≡ false → 0 ≡ ticks_in (command_of (map f words))
else_ticks f [] d some other = absurd (omega (arith, some))
else_ticks f (name ∷ rest) d some other = sym (no_ticks (f name) (map f rest) other)
