-- A turn of a loop: its followers are tried in order, those furthest behind first, until one has
-- run.
-- Source: PipeWire's documentation, "Graph Scheduling"; the order is this project's own.
use Rattle.std.specs.Prelude.{◌≡◌, ◌≢◌, ℕ, ◌+◌, min, Bool, not, eqb, List, ◌∷◌, ◌++◌, All, Contains, fold, map, filter}
use Rattle.pw_graph.specs.Words.{triggered_word}
use Rattle.board_rule.specs.declared.view.Found.{Found}
use Rattle.board_rule.specs.declared.view.View.{View}
use Rattle.board_rule.specs.Layout.{BoardLayout, last}
use Rattle.board_rule.specs.View.{node_of}
use Rattle.data_loop.specs.declared.did.Did.{Did}
use Rattle.data_loop.specs.declared.did.Did.TheVariants.{Ran, Idle}
use Rattle.data_loop.specs.declared.member.Member.{Member}
use Rattle.data_loop.specs.declared.epoch_state.EpochState.{EpochState}

-- the next cycle of a node, and whether it has cycles left
abbrev pub next_in : BoardLayout → View → ℕ → ℕ
next_in p v n = (node_of v (p.index n)).next

abbrev pub has_left : BoardLayout → View → Member → Bool
has_left p v m = not (eqb (next_in p v m.node) (last p))

-- THE ORDER of a turn: the members whose next cycle is the least, as they stand, then the others
abbrev pub least_next : BoardLayout → View → List Member → ℕ
least_next p v members = fold (λ c m. min c (next_in p v m.node)) (last p) members

abbrev pub is_behind : BoardLayout → View → List Member → Member → Bool
is_behind p v members m = eqb (next_in p v m.node) (least_next p v members)

abbrev pub turn_order : BoardLayout → View → List Member → List Member
turn_order p v members = filter (is_behind p v members) members
    ++ filter (λ m. not (is_behind p v members m)) members

-- what a seat remembers of its tries after these, each a node and the word that was found, newest
-- first
abbrev pub tries_after : List Found → List (ℕ × ℕ) → List Found
tries_after old found = fold (λ tries t. record { node = t.0; word = t.1 } ∷ tries) old found

-- each of the members with cycles left was tried once, in order; each word is another than
-- TRIGGERED of the node's next cycle; but for what the seat remembers of these tries, the view is
-- as before
pub record HaveTried (p : BoardLayout) (v : View) (members : List Member)
    (found : List (ℕ × ℕ))
    (w : View) : Type 0 where
  pub nodes : map (λ t. t.0) found ≡ map (λ m. m.node) (filter (has_left p v) members)
  pub words : All (λ t. t.1 ≢ triggered_word (next_in p v t.0)) found
  pub still : w ≡ record v { trail = record v.trail { tries = tries_after v.trail.tries found } }

-- of these members, in this order, one has run: those before it that had cycles left were tried,
-- and it is a cycle later; every other one is as before
pub record HasRun (p : BoardLayout) (g : EpochState) (order : List Member) (n : ℕ)
    (found : List (ℕ × ℕ))
    (h : EpochState) : Type 0 where
  pub first : List Member
  pub member : Member
  pub rest : List Member
  pub split : order ≡ first ++ member ∷ rest
  pub node : member.node ≡ n
  pub before : View
  pub tried : HaveTried p g.seat.knows first found before
  pub later : next_in p h.seat.knows n ≡ next_in p g.seat.knows n + 1
  pub others : (x : Member) → Contains g.members x → x.node ≢ n
      → next_in p h.seat.knows x.node ≡ next_in p g.seat.knows x.node

-- so it is of a turn in this order, or of a part of one
abbrev pub HasGone : BoardLayout → EpochState → List Member → Did → List (ℕ × ℕ)
    → EpochState → Type 0
HasGone p g order (Ran node) found h = HasRun p g order node found h
HasGone p g order Idle found h = HaveTried p g.seat.knows order found h.seat.knows

-- THE ANSWER of a turn, with the tries that it found to be too early
abbrev pub IsDid : BoardLayout → EpochState → Did → List (ℕ × ℕ) → EpochState → Type 0
IsDid p g did found h = HasGone p g (turn_order p g.seat.knows g.members) did found h
