-- The views that a board begins with: of the driver's seat, and of each seat that is split off it.
-- Source: this project's own; the phases are those of src/view.rt.
use Rattle.std.specs.Prelude.{ℕ, ℤ, ◌+◌, false, cond, eqb, List, [], length, map, replicate}
use Rattle.board_rule.specs.declared.view.Phase.TheVariants.{Idle}
use Rattle.board_rule.specs.declared.view.DriverPhase.TheVariants.{Between}
use Rattle.board_rule.specs.declared.view.NodeView.{NodeView}
use Rattle.board_rule.specs.declared.view.DriverView.{DriverView}
use Rattle.board_rule.specs.declared.view.Trail.{Trail}
use Rattle.board_rule.specs.declared.view.View.{View}
use Rattle.pw_graph.specs.Pools.{pools_of}
use Rattle.board_rule.specs.Layout.{BoardLayout, nodes, first}
use Rattle.board_rule.specs.start.Owners.{owners_of}
pub use Rattle.board_rule.specs.start.FirstEnds.{unwritten, first_write, unread, is_delayed, first_block, blocks_at_first, first_blocks}

-- the samples that are expected: by cycle of the epoch, by pool, by index in the quantum
abbrev pub Samples : Type 0
Samples = List (List (List ℤ))

-- at the start, in the cycle c: a follower, and the driver's seat
abbrev pub idle : ℕ → NodeView
idle c = record { next = c; phase = Idle; start = 0; finish = 0 }

abbrev pub resting : ℕ → DriverView
resting c = record {
  cycle = c;
  drive = Between;
  checked = false;
  checks = 0;
  lates = [];
  ticket = 0;
  start = 0;
  finish = 0;
}

abbrev pub no_trail : Trail
no_trail = record { tries = []; told = []; looks = [] }

module _ (p : BoardLayout) where
  -- the driver's view before any seat is split off: no table of samples is named yet
  abbrev pub first_view : View
  first_view = record {
    number = p.seats;
    split = 0;
    lead = resting (first p);
    nodes = [];
    writes = [];
    reads = replicate (length p.shape.links) (unread (first p));
    words_read = replicate (length p.shape.links) 0;
    blocks = [];
    reclaimed = [];
    owners = owners_of p;
    trail = no_trail;
    expect = [];
  }

  -- after k splits, the first of which names the table of samples e
  abbrev pub driver_view : Samples → ℕ → View
  driver_view e k = record first_view { split = k; expect = cond (eqb k 0) [] e }

  -- the view of the loop's seat k when it is split off
  abbrev pub loop_view : Samples → ℕ → View
  loop_view e k = record {
    number = k;
    split = 0;
    lead = resting 0;
    nodes = replicate (nodes p) (idle (first p));
    writes = map (first_write (first p)) p.shape.links;
    reads = replicate (length p.shape.links) (unread (first p));
    words_read = replicate (length p.shape.links) 0;
    blocks = first_blocks p.shape;
    reclaimed = replicate (length (pools_of p.shape)) (first p + 1);
    owners = owners_of p;
    trail = no_trail;
    expect = e;
  }
