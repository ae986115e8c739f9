-- The checks of a POD in their order, each with its fault. Source: SPA POD, "Types";
-- spa/pod/pod.h; the order of the checks is this project's.
use Rattle.std.specs.Prelude.{◌≡◌, ℕ, ◌+◌, ◌-◌, ◌%◌, ◌==◌, ◌&&◌, not, nat_lt, nat_le, Bool, true, List, [], ◌∷◌, length}
use Rattle.std.specs.Prelude.{slice_index, Option, Some, None, Result, Ok, Err, if◌then◌else◌}
use Rattle.pw_lists.specs.Limits.{pod_bytes_limit}
use Rattle.pod_codec.specs.declared.fault.PodFault.{PodFault}
use Rattle.pod_codec.specs.declared.fault.PodFault.TheVariants.{Short, TypeUnknown, Size, Uneven, Large, Nul, Memory}
use Rattle.pod_codec.specs.PodType.{is_known_type, child_size}
use Rattle.pod_codec.specs.Framing.{pad8}
use Rattle.pod_codec.specs.Places.{u32_at}

-- a check: whether it fails, and its fault
abbrev pub Check : Type 0
Check = Bool × PodFault

-- the fault of the first check that fails
abbrev pub first_failed : List Check → Option PodFault
first_failed [] = None
first_failed (check ∷ checks) = if check.0 then Some check.1 else first_failed checks

-- the answer is a fault just where one is found, and it is that one, unless memory runs out
abbrev pub Answers : {X : Type 0} → Result X PodFault → Option PodFault → Type 0
Answers (Ok x) found = found ≡ None
Answers (Err Memory) found = Unit {0}
Answers (Err fault) found = found ≡ Some fault

-- the header at p within e: it is there, and so is the body with its padding
abbrev pub header_checks : List ℕ → ℕ → ℕ → List Check
header_checks bytes p e =
    (nat_lt e (p + 8), Short p)
    ∷ (nat_lt e (p + 8 + pad8 (u32_at bytes p)), Short p) ∷ []

-- of an array or choice at p, the size and type of the children at c, and the elements up to e
abbrev pub children_checks : List ℕ → ℕ → ℕ → ℕ → List Check
children_checks bytes p c e =
    let size = u32_at bytes c in
    let child = u32_at bytes (c + 4) in
    if (size == 0) && nat_le child 1
    then (not (e == c + 8), Uneven p) ∷ []
    else (child_size child == 0, TypeUnknown (c + 4) child)
    ∷ (not (size == child_size child), Size c) ∷
    (not ((e - (c + 8)) % child_size child == 0), Uneven p) ∷ []

-- of an array and of a choice at p, whose body is so long
abbrev pub array_checks : List ℕ → ℕ → ℕ → List Check
array_checks bytes p size = (nat_lt 0 size && nat_lt size 8, Size p) ∷
    (if size == 0 then [] else children_checks bytes p (p + 8) (p + 8 + size))

abbrev pub choice_checks : List ℕ → ℕ → ℕ → List Check
choice_checks bytes p size =
    let kind = u32_at bytes (p + 8) in
    (nat_lt size 16, Size p) ∷ (nat_lt 4 kind, TypeUnknown (p + 8) kind)
    ∷ children_checks bytes p (p + 16)
    (p + 8 + size)

-- of a string: it has a nul, and ends in one
abbrev pub text_checks : List ℕ → ℕ → ℕ → List Check
text_checks bytes p size = (size == 0, Nul p)
    ∷ (not (slice_index bytes (p + 8 + size - 1) == 0), Nul p) ∷ []

-- of a POD at p, whose header is there, by its type t
abbrev pub body_checks : List ℕ → ℕ → ℕ → ℕ → List Check
body_checks bytes p size t =
    if not (is_known_type t) then (true, TypeUnknown (p + 4) t) ∷ []
    else (if nat_lt 0 (child_size t) then (not (size == child_size t), Size p) ∷ []
    else (if t == 1 then (not (size == 0), Size p) ∷ []
    else (if t == 8 then text_checks bytes p size
    else (if t == 13 then array_checks bytes p size
    else (if t == 15 then (nat_lt size 8, Size p) ∷ []
    else (if t == 16 then (nat_lt size 8, Size p) ∷ []
    else (if t == 19 then choice_checks bytes p size
    else [])))))))

-- of all bytes: a header is there, and its size is not too great
abbrev pub outer_checks : List ℕ → List Check
outer_checks bytes = (nat_lt (length bytes) 8, Short 0)
    ∷ (nat_lt pod_bytes_limit (u32_at bytes 0), Large (u32_at bytes 0)) ∷ []
