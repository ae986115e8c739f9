-- The line that a host prints for a sink.
-- Source: this project's own.
use Rattle.std.specs.Prelude.{ℕ, List, ◌++◌, codes, decimal, flat_map}
use Rattle.std.specs.Fmt.{signed_decimal}
use Rattle.wav_files.specs.declared.outcome.Kept.{Kept}

-- the number of its node, and each of its samples after a blank
abbrev pub sink_line : Kept → List ℕ
sink_line kept = codes "node " ++ decimal kept.node ++ codes ":"
    ++ flat_map (λ s. codes " " ++ signed_decimal s) kept.wav.samples
