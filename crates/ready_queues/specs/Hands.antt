-- Hands: what one way has done with the queue of one loop, as its view of that queue.
-- Source: this project's own.
use Rattle.std.specs.Prelude.{ℕ, List, [], ◌∷◌, ◌++◌, true, false}
use Rattle.ready_queues.specs.declared.hand.Hand.{Hand}

-- a hand of the queue of a loop, where `owner` has the loop of each node
abbrev pub hand : List ℕ → ℕ → List ℕ → List ℕ → Hand
hand owner number pushed received = record {
  named = true;
  owner = owner;
  number = number;
  pushed = pushed;
  received = received;
}

-- the one hand of a queue that has not been named for its loop
abbrev pub unnamed : Hand
unnamed = record { named = false; owner = []; number = 0; pushed = []; received = [] }

-- a number more was pushed
abbrev pub with_pushed : Hand → ℕ → Hand
with_pushed h node = record h { pushed = h.pushed ++ node ∷ [] }

-- a number more was received
abbrev pub with_received : Hand → ℕ → Hand
with_received h node = record h { received = h.received ++ node ∷ [] }
