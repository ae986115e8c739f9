-- Output: the bytes written so far, if the object reports them. Source: this project's own.
use Rattle.std.specs.Prelude.{◌≡◌, ℕ, List, ◌++◌, take, Option, option_map, Result, Ok, Err}
use Rattle.pw_outside.specs.declared.files.FileFail.{FileFail}
use Rattle.pw_outside.specs.declared.files.FileFail.TheVariants.{Failed, Memory}

abbrev pub Given : Type 0
Given = Option (List ℕ)

-- all of the text was given, and nothing else
abbrev pub Gave : List ℕ → Given → Given → Type 0
Gave text old new = new ≡ option_map (λ given. given ++ text) old

-- a prefix of the text was given
abbrev pub GavePart : List ℕ → Given → Given → Type 0
GavePart text old new = (kept : ℕ) × Gave (take kept text) old new

-- after a put: all bytes, a prefix of them, or no byte
abbrev pub IsPut : List ℕ → Given → Given → Result (Unit {0}) FileFail → Type 0
IsPut bytes old new (Ok done) = Gave bytes old new
IsPut bytes old new (Err Failed) = GavePart bytes old new
IsPut bytes old new (Err Memory) = new ≡ old
