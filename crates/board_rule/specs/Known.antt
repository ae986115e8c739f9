-- A seat, as contracts see it: the table that it belongs to, and what it knows. What it keeps to
-- step by is part of that.
-- Source: this project's own.
use Rattle.std.specs.Prelude.{◌≡◌, ℕ, List, map}
use Rattle.atomic_table.specs.Seated.{TableId}
use Rattle.board_rule.specs.declared.progress.NodeProgress.{NodeProgress}
use Rattle.board_rule.specs.declared.lead.DriverProgress.{DriverProgress}
use Rattle.board_rule.specs.declared.view.WriteView.{WriteView}
use Rattle.board_rule.specs.declared.view.ReadView.{ReadView}
use Rattle.board_rule.specs.declared.view.BlockView.{BlockView}
use Rattle.board_rule.specs.declared.view.View.{View}
use Rattle.board_rule.specs.events.Bits.{woke_of}
use Rattle.board_rule.specs.start.Owners.{own}
use Rattle.board_rule.specs.working.Progress.{progress_of}
use Rattle.board_rule.specs.working.DriverProgress.{lead_progress_of}

pub record Known : Type 0 where
  pub table : TableId
  pub knows : View

-- a loop's keeps only its own nodes, ends of links and blocks
pub record IsLoopSeat (v : View) (nodes : List NodeProgress) (writes : List WriteView)
    (reads : List ReadView)
    (blocks : List BlockView) (woke : ℕ) : Type 0 where
  pub nodes_are : own v.number v.owners.nodes (map progress_of v.nodes) ≡ nodes
  pub writes_are : own v.number v.owners.writes v.writes ≡ writes
  pub reads_are : own v.number v.owners.reads v.reads ≡ reads
  pub blocks_are : own v.number v.owners.blocks v.blocks ≡ blocks
  pub woke_is : woke_of v.trail.told ≡ woke

-- the driver's keeps only its own ends of links
pub record IsDriverSeat (v : View) (lead : DriverProgress) (reads : List ReadView)
    (woke : ℕ) : Type 0 where
  pub lead_is : lead_progress_of v.lead ≡ lead
  pub reads_are : own v.number v.owners.reads v.reads ≡ reads
  pub woke_is : woke_of v.trail.told ≡ woke
