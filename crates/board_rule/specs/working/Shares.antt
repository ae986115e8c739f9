-- What seats of a board begin with, by their numbers.
-- Source: this project's own.
use Rattle.std.specs.Prelude.{ℕ, length, map, replicate}
use Rattle.board_rule.specs.declared.shares.Shares.{Shares}
use Rattle.board_rule.specs.Layout.{BoardLayout, nodes, first}
use Rattle.board_rule.specs.start.Owners.{owners_of}
use Rattle.board_rule.specs.working.Dealing.{AreDealt}
use Rattle.board_rule.specs.start.StartViews.{idle, unread, first_write, first_blocks}
use Rattle.board_rule.specs.working.Progress.{progress_of}

-- the shares of the seats from `low` to the one before `high`
pub record HasShares (p : BoardLayout) (low high : ℕ) (shares : Shares) : Type 0 where
  pub nodes_are : AreDealt (owners_of p).nodes
      (replicate (nodes p) (progress_of (idle (first p)))) low high
      (map (λ v. v.items) shares.nodes.items)
  pub writes_are : AreDealt (owners_of p).writes (map (first_write (first p)) p.shape.links)
      low high (map (λ v. v.items) shares.writes.items)
  pub reads_are : AreDealt (owners_of p).reads
      (replicate (length p.shape.links) (unread (first p))) low high
      (map (λ v. v.items) shares.reads.items)
  pub blocks_are : AreDealt (owners_of p).blocks (first_blocks p.shape) low high
      (map (λ v. v.items) shares.blocks.items)
