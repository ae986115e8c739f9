-- A run of a plan on its boards: what happened in it, and what is left of the boards.
-- Source: PipeWire's documentation, "Graph Scheduling"; boards, and that a check is made when a
-- ticker says so, are this project's own.
use Rattle.std.specs.Prelude.{◌≡◌, ℕ, ◌-◌, ◌<◌, ◌≤◌, List, length, map, count_by}
use Rattle.std.specs.List.{flat_map, range_with_len}
use Rattle.pw_graph.specs.declared.event.Event.{Event}
use Rattle.pw_graph.specs.declared.plan.Plan.{Plan}
use Rattle.pw_graph.specs.History.{is_tick, IsLegalHistory}
use Rattle.wav_files.specs.declared.wav.WavIn.{WavIn}
use Rattle.cycle_model.specs.Expected.{expected_samples}
use Rattle.board_rule.specs.declared.closed.Closed.{Closed}
use Rattle.board_rule.specs.events.Closing.{expected}
use Rattle.graph_run.specs.Seating.{epoch_board}

-- THE RUN of a plan by a seating of `loops` loops: one closed board an epoch, of the epoch's shape
-- and with the seats of the seating, on which each link gave the samples of the cycle function. The
-- history is their events one after the other, and legal. It has no more ticks than the ticker's
-- count grew by, from m to n, and at least one where it grew
pub record IsRunOf (plan : Plan) (waves : List WavIn) (f : ℕ → ℕ) (loops : ℕ)
    (history : List Event) (closed : List Closed) (m n : ℕ) : Type 0 where
  pub boards : map (λ x. x.board_shape) closed ≡ map (epoch_board f loops) plan.epochs
  pub tables : map expected closed
      ≡ map (expected_samples plan waves) (range_with_len 0 (length plan.epochs))
  pub events : history ≡ flat_map (λ x. x.events) closed
  pub legal : IsLegalHistory (map (λ e. e.shape) plan.epochs) history
  pub most : count_by is_tick history ≤ n - m
  pub some : m < n → 0 < count_by is_tick history
