-- What a disk says of its files where it reports what it holds: of one that is opened, made anew or
-- given back; and what a store by it has done.
-- Source: POSIX, open(), read() and write().
use Rattle.std.specs.Prelude.{◌≡◌, ◌⊎◌, ℕ, List, [], take, Option, Some, None, Result, Ok, Err, IsSome}
use Rattle.std.specs.declared.io.Error.{Error}
use Rattle.std.specs.declared.io.ErrorKind.TheVariants.{NotFound}
use Rattle.std.specs.IoError.{error_kind}
use Rattle.pw_outside.specs.Files.{Names, Held, stored}
use Rattle.pw_outside.specs.declared.files.FileFail.{FileFail}

-- a file that is opened has all bytes left that are stored under its name; one that is not found is
-- not there
abbrev pub IsOpened : {T : Type 0} → (T → Option (List ℕ)) → Option (List ℕ) → Result T Error
    → Type 0
IsOpened left stands (Ok file) = IsSome stands × (left file ≡ stands)
IsOpened left stands (Err error) = error_kind error ≡ NotFound → stands ≡ None

-- a file that is made anew has no bytes
abbrev pub IsMade : {T : Type 0} → (T → Option (List ℕ)) → Result T Error → Type 0
IsMade written (Ok file) = written file ≡ Some []
IsMade written (Err error) = Unit {0}

-- when a file is given back, its bytes are stored under its name
abbrev pub IsGivenBack : List ℕ → Option (List ℕ) → Held → Held → Type 0
IsGivenBack name written None new = Unit {0}
IsGivenBack name None (Some names) new = Unit {0}
IsGivenBack name (Some bytes) (Some names) new = new ≡ Some (stored name bytes names)

-- after a store by its result: all bytes are stored under the name; or the first of them, or all is
-- as before
abbrev pub IsStoredIn : List ℕ → List ℕ → Names → Held → Result (Unit {0}) FileFail → Type 0
IsStoredIn name bytes names new (Ok done) = new ≡ Some (stored name bytes names)
IsStoredIn name bytes names new (Err fail) = (new ≡ Some names)
    ⊎ ((kept : ℕ) × (new ≡ Some (stored name (take kept bytes) names)))

-- AFTER A STORE, where the disk reports it
abbrev pub HasStored : List ℕ → List ℕ → Held → Held → Result (Unit {0}) FileFail → Type 0
HasStored name bytes None new result = Unit {0}
HasStored name bytes (Some names) new result = IsStoredIn name bytes names new result
