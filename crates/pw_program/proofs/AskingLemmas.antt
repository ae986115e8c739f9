-- Laws of `specs/Asking.antt`: a ticker keeps its period, and what is said of it between its counts.
use Rattle.std.proofs.Common.{◌≡◌, ◌∙◌, ◌==◌, ◌-◌, ◌^◌, ℕ, Bool, true, false, refl, ap, subst}
use Rattle.std.proofs.Math.Logic.{∥∥₁_elim, ∥∥₁_map}
use Rattle.std.proofs.Props.{props}
use Rattle.std.specs.Prelude.{nat_lt, if◌then◌else◌}
use Rattle.command_frame.specs.Outside.{Outside}
use Rattle.command_frame.specs.Words.{Words}
use Rattle.pw_outside.specs.declared.every.Every.{Every}
use Rattle.pw_outside.specs.Every.{asked}
use Rattle.run_results.specs.declared.status.Status.{Status}
use Rattle.pw_program.specs.Program.{IsToldOf}

-- an ask keeps the period
kept_by : (b c : Bool) (x y z : Every) (n : ℕ) → x.period ≡ n → y.period ≡ n → z.period ≡ n
    → (if b then x else (if c then y else z)).period ≡ n
kept_by true c x y z n p q r = p
kept_by false true x y z n p q r = q
kept_by false false x y z n p q r = r

asked_period : (every : Every) → (asked every).period ≡ every.period
asked_period every = kept_by (every.ticks == 2 ^ 64 - 1) (nat_lt 1 every.left) every _ _ every.period refl refl refl

pub tied_asked : (every after : Every) (n : ℕ) → ∥ every.period ≡ n ∥₁ → after ≡ asked every → ∥ after.period ≡ n ∥₁
tied_asked every after n tied next =
    ∥∥₁_map tied (λ (e : every.period ≡ n). ap (λ (x : Every). x.period) next ∙ asked_period every ∙ e)

pub tied_period : (m n : ℕ) → ∥ m ≡ n ∥₁ → m ≡ n
tied_period m n tied = ∥∥₁_elim tied (Prim.hlevel props) (λ (e : m ≡ n). e)

-- what is said between counts is said between equal ones
pub told_as : (words : Words) (before now : Outside) (a a' b b' : ℕ) (status : Status) → a ≡ a' → b ≡ b'
    → IsToldOf words before now a b status → IsToldOf words before now a' b' status
told_as words before now a a' b b' status first second told =
    subst (λ (n : ℕ). IsToldOf words before now a' n status) second
    (subst (λ (n : ℕ). IsToldOf words before now n b status) first told)
