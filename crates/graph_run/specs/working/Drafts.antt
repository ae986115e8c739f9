-- The loops of a plan while their epochs are added.
-- Source: this project's own.
use Rattle.std.specs.Prelude.{◌≡◌, ℕ, ◌+◌, ◌<◌, ◌≤◌, List, [], length, slice_index_or}
use Rattle.pw_graph.specs.declared.plan.Plan.{Plan}
use Rattle.wav_files.specs.declared.wav.WavIn.{WavIn}
use Rattle.board_rule.specs.Known.{Known}
use Rattle.data_loop.specs.declared.draft.LoopDraft.{LoopDraft}
use Rattle.data_loop.specs.declared.loop_state.LoopState.{LoopState}
use Rattle.data_loop.specs.Drafts.{HasFirst, seats_of}
use Rattle.data_loop.specs.LoopStart.{IsLoopOf}
use Rattle.graph_run.specs.Seating.{nodes_of_loop}

-- one for each list of seats, by its number, with the first n epochs
pub record AreDrafts (plan : Plan) (f : ℕ → ℕ) (rows : List (List Known)) (n : ℕ)
    (drafts : List LoopDraft) : Type 0 where
  pub count : length drafts ≡ length rows
  pub each : (i : ℕ) (d : LoopDraft) → i < length rows
      → HasFirst plan (nodes_of_loop f plan i) (slice_index_or rows i []) n
      (slice_index_or drafts i d)

-- one epoch more; of a list the first i have one more, and the others are as they were
abbrev pub IsGrown : Plan → LoopDraft → LoopDraft → Type 0
IsGrown plan a b = (nodes : List ℕ) (seats : List Known) (n : ℕ)
    → HasFirst plan nodes seats n a → HasFirst plan nodes seats (n + 1) b

pub record AreGrown (plan : Plan) (i : ℕ) (olds news : List LoopDraft) : Type 0 where
  pub count : length news ≡ length olds
  pub grown : (k : ℕ) (d : LoopDraft) → k < i
      → IsGrown plan (slice_index_or olds k d) (slice_index_or news k d)
  pub same : (k : ℕ) (d : LoopDraft) → i ≤ k
      → slice_index_or news k d ≡ slice_index_or olds k d

-- the loop is that of the draft
abbrev pub IsLoopFrom : Plan → List WavIn → LoopDraft → LoopState → Type 0
IsLoopFrom plan waves d s = IsLoopOf plan waves d.nodes (seats_of d) s
