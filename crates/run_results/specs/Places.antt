-- Places that are neither a line of a script nor the index of a word. Source: this project's own.
use Rattle.std.specs.Prelude.{ℕ}

-- the place of the trace of a check
abbrev pub trace_place : ℕ
trace_place = 4294967295
