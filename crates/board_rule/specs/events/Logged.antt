-- The events of a board in the order of their tickets, against its words and the tickets that the
-- phases keep.
-- Source: PipeWire's documentation, "Graph Scheduling": a node runs once a cycle, after what it
-- depends on; tickets and events are this project's.
use Rattle.std.specs.Prelude.{◌≡◌, ℕ, ◌-◌, ◌<◌, ◌≤◌, ◌⊎◌, true, cond, List, length, slice_get, Some}
use Rattle.pw_lists.specs.Limits.{dummy_node}
use Rattle.std.specs.Prelude.{count_by, All, Contains, IsBitSet}
use Rattle.pw_graph.specs.declared.event.Event.{Event}
use Rattle.pw_graph.specs.declared.event.Event.TheVariants.{Start, Finish, Tick}
use Rattle.pw_graph.specs.Dependencies.{nodes_of, Precedes}
use Rattle.pw_graph.specs.EventWords.{event_cycle, event_node, event_word_of}
use Rattle.pw_graph.specs.History.{is_start, is_finish, is_tick, start_place, finish_place, tick_place, IsLate, epoch_cycles, AreJoined}
use Rattle.pw_graph.specs.Layout.{event_count}
use Rattle.pw_graph.specs.Words.{finished_word}
use Rattle.board_rule.specs.Layout.{BoardLayout, nodes, first, last}
use Rattle.board_rule.specs.events.Records.{Records, Counts, Marks}

module _ (p : BoardLayout) where
  -- an event between Begin and End, where a Tick of the cycle has the late set `late`
  abbrev pub IsSoFar : ℕ → ℕ → Event → Type 0
  IsSoFar c late (Start k n) = (k ≡ c) × Contains (nodes_of p.shape) n
  IsSoFar c late (Finish k n) = (k ≡ c) × Contains (nodes_of p.shape) n
  IsSoFar c late (Tick k set) = (k ≡ c) × (set ≡ late)
  IsSoFar c late _ = ⊥

  -- a phase has drawn the ticket and not yet stored its event
  abbrev pub IsHeld : Marks → ℕ → Type 0
  IsHeld s t = ((n : ℕ) × (n < nodes p) × Contains (s.holds n) t)
      ⊎ ((e : Event) × Contains s.tells (t, e))

  -- TICKETS: `log` has the events of all tickets drawn so far, of which those below `base` are of
  -- earlier cycles
  pub record Tickets (c base : ℕ) (s : Marks) (log : List Event) (r : Records) : Type 0 where
    pub drawn : r.ticket ≡ length log
    pub stored : (t : ℕ) (e : Event) → slice_get log t ≡ Some e
        → (r.event t ≡ event_word_of e)
        ⊎ ((r.event t ≡ 0) × IsHeld s t)
    pub unused : (t : ℕ) → length log ≤ t → t < event_count p.shape → r.event t ≡ 0
    pub starts_kept : (n : ℕ) → n < nodes p → s.counts.started n ≡ 1 → (base < s.start n)
        × (slice_get log (s.start n) ≡ Some (Start c (p.number n)))
    pub finishes_kept : (n : ℕ) → n < nodes p → s.counts.finished n ≡ 1
        → (base < s.finish n)
        × (slice_get log (s.finish n) ≡ Some (Finish c (p.number n)))
    pub told_kept : (t : ℕ) (e : Event) → Contains s.tells (t, e)
        → (base ≤ t) × (slice_get log t ≡ Some e)

  -- EARLIER CYCLES are a legal history, and each late set is in its word
  pub record Earlier (c late : ℕ) (past : List Event) (r : Records) : Type 0 where
    pub legal : AreJoined (epoch_cycles p.shape (c - first p)) past
    pub before : All (λ e. (first p ≤ event_cycle e) × (event_cycle e < c)
        × (event_node e ≤ dummy_node)) past
    pub lates : (k set : ℕ) → Contains past (Tick k set) → r.late (k - first p) ≡ set
    pub late_now : c < last p → r.late (c - first p) ≡ late
    pub late_later : (k : ℕ) → c < k → k < last p → r.late (k - first p) ≡ 0

  -- THE CYCLE: the events between Begin and End, by the phases, each after those that precede it
  pub record Inside (c late : ℕ) (k : Counts) (inside : List Event) : Type 0 where
    pub only : All (IsSoFar c late) inside
    pub starts : (n : ℕ) → n < nodes p
        → count_by (is_start c (p.number n)) inside ≡ k.started n
    pub finishes : (n : ℕ) → n < nodes p
        → count_by (is_finish c (p.number n)) inside ≡ k.finished n
    pub ticks : count_by is_tick inside ≡ cond k.checked 1 0
    pub order : (n : ℕ) → n < nodes p → k.finished n ≡ 1
        → start_place inside c (p.number n) < finish_place inside c (p.number n)
    pub waits : (m n : ℕ) → m < nodes p → n < nodes p
        → Precedes p.shape (p.number m) (p.number n) → k.started n ≡ 1
        → finish_place inside c (p.number m) < start_place inside c (p.number n)
    pub tick : k.checked ≡ true → tick_place inside < start_place inside c (p.number p.driver)
    pub late_ones : (n : ℕ) → n < 64 → IsBitSet late n → IsLate p.shape inside c n
    pub seen : All (λ f. ¬ (f.word ≡ finished_word c) → IsLate p.shape inside c f.node) k.sees
