-- One visit of a cell.
-- Source: PipeWire's documentation, "Data loops"; that any thread runs any node is this project's
-- own.
use Rattle.std.specs.Prelude.{◌≡◌, ◌⊎◌, ℕ, ◌∷◌, Bool, true, slice_index_or}
use Rattle.data_loop.specs.declared.loop_state.LoopState.{LoopState}
use Rattle.driver_cycle.specs.Waking.{HasSent}
use Rattle.steal_shelf.specs.declared.shelf.ShelfSeat.{ShelfSeat}
use Rattle.steal_shelf.specs.declared.token.Token.{Token}
use Rattle.steal_shelf.specs.working.CellSteps.{HasStepped}
use Rattle.steal_shelf.specs.Fetching.{HasFoundOut, AreOthersLeft}
use Rattle.steal_shelf.specs.Seats.{IsAllowed, LacksCell, took_at, left_at, tries_at}
use Rattle.steal_loops.specs.declared.cell_steps.Step.{Step}
use Rattle.steal_loops.specs.declared.shared.Shared.{Shared}
use Rattle.steal_loops.specs.declared.claimant.Claimant.{Claimant}
use Rattle.steal_loops.specs.declared.visiting.Visited.{Visited}
use Rattle.steal_loops.specs.declared.visiting.Visited.TheVariants.{Out, Ended, Stepped}
use Rattle.steal_loops.specs.working.Cells.{IsFinished, HasFinished}
use Rattle.steal_loops.specs.working.NodeSets.{IsKept}
use Rattle.steal_loops.specs.working.Steps.{HasMade}

-- ONCE: from the seat a to the seat b it fetched the cell i one time, in the state found, and put
-- it back one time, in the state back; no other try of it failed, and no other cell was tried
pub record HasHadOnce (i : ℕ) (found back : LoopState) (a b : ShelfSeat) : Type 0 where
  pub took : (d : Token) → took_at b i d ≡ found ∷ took_at a i d
  pub left : (d : Token) → left_at b i d ≡ back ∷ left_at a i d
  pub tries : (d : Token) → tries_at b i d ≡ tries_at a i d
  pub lacks : LacksCell b i
  pub others : AreOthersLeft i a b

-- A STEP: the seat had the cell once, and the cell made one step meanwhile; what the step woke was
-- sent, but for the node that the thread keeps, which was woken and has a cell
pub record HasMadeStep (shared : Shared) (i : ℕ) (did : Step) (a b : Claimant) : Type 0 where
  pub found : LoopState
  pub back : LoopState
  pub once : HasHadOnce i found back a.seat b.seat
  pub allowed : IsAllowed shared.shelf i found
  pub stepped : HasStepped shared.boards found back
  pub made : HasMade shared.boards did found back
  pub others : ℕ
  pub kept : IsKept shared.signs.celled b.kept back.woke others
  pub sent : HasSent shared.ways others a.way b.way

-- AN END: the seat had left the cell at its end before, and nothing was done; or the seat had the
-- cell once, at its end, and left it so, and nothing was sent
abbrev pub HasFoundEnd : Shared → ℕ → Claimant → Claimant → Type 0
HasFoundEnd shared i a b = (HasFinished shared a.seat i × (b ≡ a))
    ⊎ ((s : LoopState) × HasHadOnce i s s a.seat b.seat × IsFinished shared i s
    × (b.way ≡ a.way))

-- THE VISIT of the cell i, by what became of it: one try found that another has it; the cell is at
-- its end, which is noted; or a step was made
abbrev pub HasVisited : Shared → ℕ → Visited → Claimant → Claimant → Type 0
HasVisited shared i Out a b = HasFoundOut i a.seat b.seat × AreOthersLeft i a.seat b.seat
    × (b.way ≡ a.way)
HasVisited shared i Ended a b = HasFoundEnd shared i a b
    × ((d : Bool) → slice_index_or b.ended.items i d ≡ true)
HasVisited shared i (Stepped did) a b = HasMadeStep shared i did a b
