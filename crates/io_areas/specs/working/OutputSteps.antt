-- From step to step of the turn of a node on a pool: the writer's ends of its links, and its
-- blocks.
-- Source: PipeWire's documentation, "SPA Buffers"; one pool an output port is this project's own.
use Rattle.std.specs.Prelude.{◌≡◌, ℕ, ◌+◌, List, Contains, length}
use Rattle.board_rule.specs.declared.view.WriteView.{WriteView}
use Rattle.board_rule.specs.declared.view.View.{View}
use Rattle.board_rule.specs.Layout.{BoardLayout}
use Rattle.board_rule.specs.buffers.EndViews.{write_of}
use Rattle.board_rule.specs.buffers.WriterSteps.{write_cycle}

-- the ends of these links are others, each as `Made` says, and nothing else is
pub record AreMade (Made : ℕ → WriteView → WriteView → Type 0) (v : View) (links : List ℕ)
    (w : View) : Type 0 where
  pub same : w ≡ record v { writes = w.writes }
  pub long : length w.writes ≡ length v.writes
  pub made : (l : ℕ) → Contains links l → Made l (write_of v l) (write_of w l)
  pub left : (l : ℕ) → (Contains links l → ⊥) → write_of w l ≡ write_of v l

module _ (p : BoardLayout) (v : View) where
  -- a link is loaded in its writer's cycle
  abbrev pub IsLoadedNow : ℕ → WriteView → WriteView → Type 0
  IsLoadedNow l y z = z ≡ record y { loaded = write_cycle p v l + 1 }

  -- the block b is published on a link in its writer's cycle
  abbrev pub IsPublishedNow : ℕ → ℕ → WriteView → WriteView → Type 0
  IsPublishedNow b l y z = z ≡ record y { stored = write_cycle p v l + 1; id = b; last = y.id }
