use Rattle.std.proofs.Common.{◌≡◌, ◌+◌, take, drop, map, ◌++◌}
use Rattle.pw_lists.specs.Samples.{sample_at}
use Rattle.s16_mixer.proofs.plain.channels.pick_frame.Given as goal

abbrev pub invariant-loop-j : goal.invariant-loop-j
invariant-loop-j l = l.to ≡ take l.start l.fn.to ++ map (λ c. sample_at l.channels l.s l.i c) (take l.j l.list) ++ drop
    (l.start + l.j) l.fn.to
