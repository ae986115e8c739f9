-- The boards of a plan: one an epoch, whose samples are those of the cycle function, with a seat
-- for each loop and one for the driver.
-- Source: PipeWire's documentation, "Graph Scheduling"; boards are this project's own.
use Rattle.std.specs.Prelude.{◌≡◌, ℕ, ◌+◌, ◌-◌, List, [], ◌∷◌, ◌++◌, map, Some, option_map, slice_get}
use Rattle.std.specs.List.{enumerate_from, range_with_len}
use Rattle.pw_lists.specs.Listed.{Listed}
use Rattle.pw_graph.specs.declared.plan.Plan.{Plan}
use Rattle.wav_files.specs.declared.wav.WavIn.{WavIn}
use Rattle.cycle_model.specs.Expected.{expected_samples}
use Rattle.board_rule.specs.declared.board.Board.{Board}
use Rattle.board_rule.specs.Known.{Known}
use Rattle.board_rule.specs.OnBoard.{table_of, layout}
use Rattle.board_rule.specs.View.{loop_view, driver_view}
use Rattle.graph_run.specs.Seating.{epoch_board}

-- THE BOARDS of the plan's epochs in order: each has its epoch's shape, with the seats of a seating
abbrev pub AreBoardsBy : Plan → (ℕ → ℕ) → ℕ → List Board → Type 0
AreBoardsBy plan f loops boards =
    map (λ b. b.board_shape) boards ≡ map (epoch_board f loops) plan.epochs

-- a list with room, and one more in it
abbrev pub dealt : Listed Known × Known → Listed Known
dealt d = record { list = d.0.list ++ d.1 ∷ []; spare = d.0.spare - 1 }

module _ (plan : Plan) (waves : List WavIn) (loops : ℕ) where
  -- the seats of the board of epoch k, as the board gave them: the driver's, and that of a loop
  abbrev pub driver_of : ℕ × Board → Known
  driver_of b = record {
    table = table_of b.1;
    knows = driver_view (layout b.1) (expected_samples plan waves b.0) (loops + 1);
  }

  abbrev pub seat_of : ℕ → ℕ × Board → Known
  seat_of i b = record {
    table = table_of b.1;
    knows = loop_view (layout b.1) (expected_samples plan waves b.0) i;
  }

  -- the seats of one board by loop; the last is for the driver's own loop
  abbrev pub seats_on : ℕ × Board → List Known
  seats_on b = map (λ i. seat_of i b) (range_with_len 0 (loops + 1))

  -- the seats of one loop by board, and those of all loops
  abbrev pub seats_of : List Board → ℕ → List Known
  seats_of boards i = map (seat_of i) (enumerate_from 0 boards)

  abbrev pub all_seats : List Board → List (List Known)
  all_seats boards = map (seats_of boards) (range_with_len 0 (loops + 1))

  -- THE BOARD of epoch k with its seats, by a seating
  abbrev pub IsBoardMade : (ℕ → ℕ) → ℕ → Board × Known × List Known → Type 0
  IsBoardMade f k made = (option_map (epoch_board f loops) (slice_get plan.epochs k)
      ≡ Some made.0.board_shape)
      × (made.1 ≡ driver_of (k, made.0)) × (made.2 ≡ seats_on (k, made.0))
