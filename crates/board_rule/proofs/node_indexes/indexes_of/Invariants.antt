use Rattle.std.proofs.Common.{◌≡◌, ◌<◌, ℕ, length, slice_index}
use Rattle.board_rule.specs.Layout.{index_in}
use Rattle.board_rule.proofs.node_indexes.indexes_of.Given as goal

abbrev pub invariant-loop-n : goal.invariant-loop-n
invariant-loop-n l = (length l.indexes ≡ 64) × ((i : ℕ) → i < l.n → slice_index l.indexes i ≡ index_in l.shape i)
