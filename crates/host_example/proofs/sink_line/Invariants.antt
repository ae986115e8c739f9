-- The line so far has the samples so far.
use Rattle.std.specs.Prelude.{◌≡◌, ◌++◌, codes, decimal, flat_map, string_bytes, take}
use Rattle.std.specs.Fmt.{signed_decimal}
use Rattle.host_example.proofs.sink_line.Given as goal

abbrev pub invariant-loop-sample : goal.invariant-loop-sample
invariant-loop-sample l = string_bytes l.line ≡ codes "node " ++ decimal l.kept.node ++ codes ":"
    ++ flat_map (λ s. codes " " ++ signed_decimal s) (take l.sample-index l.sample-items)
