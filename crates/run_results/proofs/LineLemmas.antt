-- Laws of `specs/Statuses.antt`: which statuses have a line that is put.
use Rattle.std.proofs.Common.{◌≡◌, ℕ, true, false, [], List, ◌∷◌, refl}
use Rattle.std.specs.Prelude.{◌≢◌}
use Rattle.run_results.specs.declared.status.Status.{Status}
use Rattle.run_results.specs.declared.status.Status.TheVariants as S
use Rattle.run_results.specs.StatusLine.{line_of, has_line}
use Rattle.run_results.specs.Statuses.{line_put}

-- a list with a first element
abbrev IsCons : List ℕ → Type 0
IsCons [] = ⊥
IsCons (x ∷ xs) = Unit {0}

no_cons : (xs : List ℕ) → IsCons xs → xs ≢ []
no_cons [] h e = h
no_cons (x ∷ xs) h e = cc

-- each status but Ok has a line, which may not be put
line_cons : (status : Status) → has_line status ≡ true → IsCons (line_of status)
line_cons S.Ok h = cc
line_cons (S.Usage word) h = tt
line_cons (S.Script line why) h = tt
line_cons (S.Wav place why) h = tt
line_cons (S.Pod place why) h = tt
line_cons (S.Absent place) h = tt
line_cons (S.ReadFault place) h = tt
line_cons (S.WriteFault place) h = tt
line_cons (S.Limit place which) h = tt
line_cons S.Memory h = tt

pub line_is : (status : Status) → has_line status ≡ true → line_of status ≡ line_put status
line_is status h = rw h refl

pub line_some : (status : Status) → has_line status ≡ true → line_of status ≢ []
line_some status h = no_cons (line_of status) (line_cons status h)

pub put_some : (status : Status) → has_line status ≡ true → line_put status ≢ []
put_some status h = rw h (line_some status h)

pub line_none : (status : Status) → has_line status ≡ false → line_put status ≡ []
line_none status h = rw h refl

pub ruleset lines = (line_is, line_some, put_some, line_none)
