-- The advances on activations and events: each kind of step of a board, where it comes nearer to
-- the end. Nodes are indexes; `b` is true for the driver's seat.
-- Source: PipeWire's documentation, "Graph Scheduling"; the kinds are this project's.
use Rattle.std.specs.Prelude.{◌≡◌, ℕ, ◌+◌, ◌-◌, Bool, List, slice_index}
use Rattle.pw_graph.specs.EventWords.{event_word_of}
use Rattle.pw_graph.specs.Layout.{ticket_place, pending_place, status_place, late_place, event_place}
use Rattle.pw_graph.specs.Words.{not_triggered_word, triggered_word, awake_word, finished_word}
use Rattle.board_rule.specs.declared.view.View.{View}
use Rattle.board_rule.specs.Layout.{BoardLayout, first}
use Rattle.board_rule.specs.Steps.{reset_of, StoresPending, pending_stored, StoresStatus, status_stored}
use Rattle.board_rule.specs.Steps.{taken, cycle_of, Lowers, lowered, Triggers, triggered, Claims, woken}
use Rattle.board_rule.specs.Steps.{IsReadyToFinish, finished}
use Rattle.board_rule.specs.events.EventSteps.{Draws, draws, StoresEvent, event_due, ticket_of, event_stored}
use Rattle.board_rule.specs.events.EventSteps.{Looks, looked, StoresLate, late_stored}
use Rattle.board_progress.specs.Moves.{Move}

-- the target that the node m lowers next, and the one that it lowered last
abbrev pub next_target : Bool → BoardLayout → View → ℕ → ℕ
next_target b p v m = slice_index (p.targets m) (taken b v m)

abbrev pub last_target : Bool → BoardLayout → View → ℕ → ℕ
last_target b p v m = slice_index (p.targets m) (taken b v m - 1)

-- A STEP ON ACTIVATIONS OR EVENTS that the view v allows, and that is no try in vain: a claim finds
-- its node TRIGGERED
pub data NodeAdvances (p : BoardLayout) (words : List ℕ) (v : View) (x : Move) : Type 0 where
  stores_pending : StoresPending p v → x ≡ record {
    place = pending_place p.shape (reset_of v.lead.drive);
    word = p.required (reset_of v.lead.drive);
    view = pending_stored v;
  } → NodeAdvances p words v x
  stores_status : StoresStatus p v → x ≡ record {
    place = status_place p.shape (reset_of v.lead.drive);
    word = not_triggered_word v.lead.cycle;
    view = status_stored p v;
  } → NodeAdvances p words v x
  lowers : (b : Bool) (m found : ℕ) → Lowers b p v m
      → found ≡ slice_index words (pending_place p.shape (next_target b p v m)) → x ≡ record {
        place = pending_place p.shape (next_target b p v m);
        word = found - 1;
        view = lowered b p v m found;
      } → NodeAdvances p words v x
  triggers : (b : Bool) (m : ℕ) → Triggers b p v m → x ≡ record {
    place = status_place p.shape (last_target b p v m);
    word = triggered_word (cycle_of b v m);
    view = triggered b p v m;
  } → NodeAdvances p words v x
  claims : (b : Bool) (m : ℕ) → Claims b p v m
      → slice_index words (status_place p.shape m) ≡ triggered_word (cycle_of b v m) → x ≡ record {
        place = status_place p.shape m;
        word = awake_word (cycle_of b v m);
        view = woken b v m;
      } → NodeAdvances p words v x
  finishes : (b : Bool) (m : ℕ) → IsReadyToFinish b p v m → x ≡ record {
    place = status_place p.shape m;
    word = finished_word (cycle_of b v m);
    view = finished b v m;
  } → NodeAdvances p words v x
  draws_ticket : (b : Bool) (m ticket : ℕ) → Draws b p v m → ticket ≡ slice_index words ticket_place
      → x ≡ record { place = ticket_place; word = ticket + 1; view = draws b v m ticket }
      → NodeAdvances p words v x
  stores_event : (b : Bool) (m : ℕ) → StoresEvent b p v m → x ≡ record {
    place = event_place p.shape (ticket_of b v m);
    word = event_word_of (event_due b p v m);
    view = event_stored b v m;
  } → NodeAdvances p words v x
  looks : (n found : ℕ) → Looks p v n → found ≡ slice_index words (status_place p.shape n)
      → x ≡ record { place = status_place p.shape n; word = found; view = looked p v n found }
      → NodeAdvances p words v x
  stores_late : (late : ℕ) → StoresLate p v late → x ≡ record {
    place = late_place p.shape (v.lead.cycle - first p);
    word = late;
    view = late_stored v;
  } → NodeAdvances p words v x
