-- Channels that a kind may have are 1 to 8; sums that pass no limit are within each.
use Rattle.std.proofs.Common.{◌≡◌, ℕ, zero, suc, ◌≤◌, Bool, true, false, Option, Some, None, refl, subst, sym, arith}
use Rattle.std.specs.Prelude.{nat_lt, if◌then◌else◌}
use Rattle.std.proofs.lemmas.Bool.{ltb-false}
use Rattle.std.proofs.lemmas.Option.{none-some}
use Rattle.pw_graph.specs.declared.kind.Kind.{Kind}
use Rattle.pw_graph.specs.declared.kind.Kind.TheVariants.{Source, Square, Gain, Mix2, Delay, Map, Split, Sink, Meter, Dummy}
use Rattle.pw_lists.specs.declared.limit.Which.{Which}
use Rattle.pw_lists.specs.declared.limit.Which.TheVariants as W
use Rattle.pw_graph.specs.KindRanges.{IsInRange, IsChannels, MayHaveChannels}
use Rattle.graph_lines.specs.declared.limits.Sums.{Sums}
use Rattle.graph_lines.specs.Sums.{passed}

pub few_channels : (kind : Kind) (port n : ℕ) → IsInRange kind → MayHaveChannels kind port n → IsChannels n
few_channels (Square rate channels period amp) port n h m = subst IsChannels (sym m) h.1
few_channels (Map channels list) zero n h m = subst IsChannels (sym m) h.0
few_channels (Map channels list) (suc port) n h m = subst IsChannels (sym m) h.1
few_channels Split zero n h m = (omega (arith, m), omega (arith, m))
few_channels Split (suc port) n h m = (omega (arith, m), omega (arith, m))
few_channels Source port n h m = m
few_channels (Gain g) port n h m = m
few_channels (Mix2 ga gb) port n h m = m
few_channels (Delay frames) port n h m = m
few_channels Sink port n h m = m
few_channels Meter port n h m = m
few_channels Dummy port n h m = absurd h

-- what passes no limit
none_first : (b : Bool) (w : Which) (o : Option Which) → (if b then Some w else o) ≡ None → (b ≡ false) × (o ≡ None)
none_first true w o e = absurd (none-some w (sym e))
none_first false w o e = (refl, e)

pub within_limits : (s : Sums) → passed s ≡ None → (s.events ≤ 4194304) × (s.samples ≤ 134217728) × (s.bytes ≤ 268435456)
within_limits s e =
    let a = none_first (nat_lt 4194304 s.events) W.Events (if nat_lt 134217728 s.samples then Some W.SinkSamples
    else (if nat_lt 268435456 s.bytes then Some W.BlockBytes else None)) e in
    let b = none_first (nat_lt 134217728 s.samples) W.SinkSamples (if nat_lt 268435456 s.bytes then Some W.BlockBytes else None) a.1 in
    let c = none_first (nat_lt 268435456 s.bytes) W.BlockBytes None b.1 in
    (ltb-false 4194304 s.events a.0, ltb-false 134217728 s.samples b.0, ltb-false 268435456 s.bytes c.0)
