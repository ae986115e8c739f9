-- Causes: a count of faults that only its object's own failures raise. Source: this project's own.
use Rattle.std.specs.Prelude.{◌≡◌, ℕ, ◌+◌, ◌-◌, ◌^◌, ◌≤◌, min, Result, Ok, Err}
use Rattle.pw_outside.specs.declared.files.FileFail.{FileFail}
use Rattle.pw_outside.specs.declared.files.FileFail.TheVariants.{Failed, Memory}

-- the count, a number of 64 bits, is greater, or is at its end
abbrev pub Rose : ℕ → ℕ → Type 0
Rose before now = min (before + 1) (2 ^ 64 - 1) ≤ now

-- the count rises with a failure, and only then; it stays where memory runs out
abbrev pub HasCause : {T : Type 0} → ℕ → ℕ → Result T FileFail → Type 0
HasCause before now (Ok x) = now ≡ before
HasCause before now (Err Failed) = Rose before now
HasCause before now (Err Memory) = now ≡ before
