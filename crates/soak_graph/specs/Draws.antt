-- Draws from a linear congruential generator modulo 2^64. Source: the multiplier and the increment
-- are those of Knuth's MMIX; The Art of Computer Programming, volume 2, section 3.3.4.
use Rattle.std.specs.Prelude.{ℕ, ◌+◌, ◌*◌, ◌/◌, ◌%◌, ◌^◌, List, map, ℤ, pos, ◌-ℤ◌}
use Rattle.std.specs.Fn.{iterate}
use Rattle.std.specs.List.{range_with_len}

abbrev pub multiplier : ℕ
multiplier = 6364136223846793005

abbrev pub increment : ℕ
increment = 1442695040888963407

-- the state after one more step
abbrev pub stepped : ℕ → ℕ
stepped x = (x * multiplier + increment) % 2 ^ 64

-- the state after `count` steps from the first one
unfoldable pub state_after : ℕ → ℕ → ℕ
state_after count first = iterate stepped count first

-- what a state gives: a number below n, by all of the state but its low 33 bits
abbrev pub given : ℕ → ℕ → ℕ
given x n = x / 2 ^ 33 % n

-- THE DRAW at a place, from 0 on, from the first state on: a number below n
abbrev pub draw : ℕ → ℕ → ℕ → ℕ
draw first place n = given (state_after (place + 1) first) n

-- a draw as a sample of 16 bits, and the samples of `count` draws from a place on
abbrev pub sample_at : ℕ → ℕ → ℤ
sample_at first place = pos (draw first place 65536) -ℤ pos 32768

unfoldable pub samples : ℕ → ℕ → ℕ → List ℤ
samples first place count = map (λ t. sample_at first (place + t)) (range_with_len 0 count)
