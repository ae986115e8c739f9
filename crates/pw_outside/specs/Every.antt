-- A ticker that is due at each nth ask: its state at the start and after each ask.
-- Source: this project's.
use Rattle.std.specs.Prelude.{◌≡◌, ℕ, ◌+◌, ◌-◌, ◌^◌, ◌==◌, nat_lt, if◌then◌else◌}
use Rattle.pw_outside.specs.declared.every.Every.{Every}

pub record IsNewEvery (n : ℕ) (every : Every) : Type 0 where
  pub period : every.period ≡ n
  pub left : every.left ≡ n
  pub ticks : every.ticks ≡ 0

-- after an ask: at the end of its count it stays; else one ask less is left, or it is due and
-- begins anew
abbrev pub asked : Every → Every
asked every =
    if every.ticks == 2 ^ 64 - 1 then every
    else if nat_lt 1 every.left then record every { left = every.left - 1 }
    else record every { left = every.period; ticks = every.ticks + 1 }
