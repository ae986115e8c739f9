-- What a load reads from a file, and a store or a put writes, where the bytes of the one or the
-- other are known.
-- Source: POSIX, read() and write(): each may take fewer bytes than it is asked for.
use Rattle.std.specs.Prelude.{◌≡◌, ℕ, ◌<◌, List, length, take, Option, Some, None, Result, Ok, Err}
use Rattle.std.specs.Io.KnownBytes.{Appends}
use Rattle.pw_outside.specs.declared.files.Loaded.{Loaded}
use Rattle.pw_outside.specs.declared.files.Loaded.TheVariants.{Whole, Absent, TooLong}
use Rattle.pw_outside.specs.declared.files.FileFail.{FileFail}

-- all bytes of the file, in order; or too long, exactly where they are more than the limit
abbrev pub IsWholeOrLong : List ℕ → ℕ → Result Loaded FileFail → Type 0
IsWholeOrLong held limit (Ok (Whole bytes)) = bytes ≡ held
IsWholeOrLong held limit (Ok Absent) = ⊥
IsWholeOrLong held limit (Ok TooLong) = limit < length held
IsWholeOrLong held limit (Err fail) = Unit {0}

abbrev pub ReadsFile : Option (List ℕ) → ℕ → Result Loaded FileFail → Type 0
ReadsFile None limit result = Unit {0}
ReadsFile (Some held) limit result = IsWholeOrLong held limit result

-- all bytes are written, in order; after a failure, the first of them
abbrev pub WritesWhole : Option (List ℕ) → Option (List ℕ) → List ℕ
    → Result (Unit {0}) FileFail → Type 0
WritesWhole old new bytes (Ok done) = Appends old new bytes
WritesWhole old new bytes (Err fail) = (kept : ℕ) × Appends old new (take kept bytes)
