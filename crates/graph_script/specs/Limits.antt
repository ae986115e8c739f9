-- Limits of a script: the greatest numbers that its commands may have. Source: this project's own.
use Rattle.std.specs.Prelude.{ℕ}
pub use Rattle.pw_lists.specs.Limits.{nodes_limit, period_limit, delay_limit, amp_limit, gain_limit}

-- the lines `cycles` and `drain` of a script
abbrev pub epochs_limit : ℕ
epochs_limit = 1024

-- the cycles of a line
abbrev pub cycles_limit : ℕ
cycles_limit = 1000000

-- a driver's priority, a data loop's number
abbrev pub priority_limit : ℕ
priority_limit = 1000000

abbrev pub loop_limit : ℕ
loop_limit = 15

-- the bytes of a file word, and those of a node's name after its first
abbrev pub file_bytes_limit : ℕ
file_bytes_limit = 255

abbrev pub name_rest_limit : ℕ
name_rest_limit = 30
