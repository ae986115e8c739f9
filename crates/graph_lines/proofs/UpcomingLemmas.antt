-- The epoch that a line would make.
use Rattle.std.proofs.Common.{◌≡◌, ℕ, zero, suc, ◌<◌, refl, arith}
use Rattle.std.specs.Prelude.{Option, Some, None, List, Result, Ok, Err, IfOk}
use Rattle.pw_lists.specs.declared.memory.Memory.{Memory}
use Rattle.pw_graph.specs.declared.plan.Epoch.{Epoch}
use Rattle.wav_files.specs.declared.wav.WavIn.{WavIn}
use Rattle.graph_script.specs.declared.command.Command.TheVariants as C
use Rattle.graph_lines.specs.declared.graph.Graph.{Graph}
use Rattle.graph_lines.specs.Epochs.{IsEpochOf}
use Rattle.graph_lines.specs.Gathering.{DrainsUpTo}
use Rattle.graph_lines.specs.Upcoming.{IsEpochFor, IsUpcoming}

pub epoch_none : (g : Graph) (cycles : ℕ) → cycles ≡ 0 → IsEpochFor g cycles None
epoch_none g zero e = refl
epoch_none g (suc n) e = absurd (omega (arith, e))

pub epoch_some : (g : Graph) (cycles : ℕ) (e : Epoch) → 0 < cycles → IsEpochOf g cycles e → IsEpochFor g cycles (Some e)
epoch_some g zero e some is = absurd (omega (arith, some))
epoch_some g (suc n) e some is = (e, is, refl)

pub drain_epoch_is : (waves : List WavIn) (g : Graph) (cycles : ℕ) (r : Result (Option Epoch) Memory) → DrainsUpTo 4194305 waves g cycles
    → IfOk r (IsEpochFor g cycles) → IfOk r (IsUpcoming waves g C.Drain)
drain_epoch_is waves g cycles (Ok made) d h = (cycles, d, h)
drain_epoch_is waves g cycles (Err m) d h = h
