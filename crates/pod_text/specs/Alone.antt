-- A request whose words are all of a command line. Source: this project's own.
use Rattle.std.specs.Prelude.{ℕ, List, [], ◌∷◌, Result, Ok, Err}
use Rattle.pod_text.specs.declared.words.Request.{Request}

-- a request after whose words nothing is from an index on
abbrev pub alone : ℕ → List (List ℕ) → Request → Result Request ℕ
alone index [] request = Ok request
alone index (more ∷ rest) request = Err index
