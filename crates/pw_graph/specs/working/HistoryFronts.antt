-- Fronts, prefixes of a history: cycles whose parts are first in a row of events, and what is
-- left after them.
-- Source: this project's; a part ends with its first End, so that a row of events is cut in just
-- one way.
use Rattle.std.specs.Prelude.{ℕ, List, ◌++◌, Bool, true, false, ◌↔◌}
use Rattle.pw_graph.specs.declared.event.Event.{Event}
use Rattle.pw_graph.specs.declared.event.Event.TheVariants.{End}
use Rattle.pw_graph.specs.declared.shape.Shape.{Shape}
use Rattle.pw_graph.specs.History.{AreJoined}

abbrev pub is_end : Event → Bool
is_end (End c) = true
is_end _ = false

-- with whatever cycles after them, they are joined in the events exactly where those are joined in
-- the rest
pub record LeavesOver (front : List (Shape × ℕ)) (events rest : List Event) : Type 0 where
  pub same : (more : List (Shape × ℕ))
      → AreJoined (front ++ more) events ↔ AreJoined more rest

-- whatever cycles follow them, they are not joined in the events
pub record IsNoFront (front : List (Shape × ℕ)) (events : List Event) : Type 0 where
  pub never : (more : List (Shape × ℕ)) → ¬ AreJoined (front ++ more) events
