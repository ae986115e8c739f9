use Rattle.std.proofs.Common.{◌-◌, ◌≡◌, ◌≤◌, ◌<◌, ◌+◌, ◌*◌, ◌%◌, drop, ◌++◌}
use Rattle.pw_lists.specs.Samples.{of_frames}
use Rattle.pw_graph.specs.KindFunction.{square_at}
use Rattle.node_state.proofs.kinds.square.SquareWave.write.Given as goal

abbrev pub invariant-loop-done : goal.invariant-loop-done
invariant-loop-done l = record {
  inside : l.done ≤ l.frames;
  place : l.done < l.frames → l.place ≡ (l.phase + l.done) % l.self.period;
  row : l.to ≡ of_frames l.done l.self.channels (λ i j. square_at l.self.period l.self.amp (l.phase + i)) ++ drop
      (l.done * l.self.channels) l.fn.to;
}

abbrev pub decreases-loop-done : goal.decreases-loop-done
decreases-loop-done l = l.frames - l.done
