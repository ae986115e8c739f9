-- The rule of the word that says whether a loop's own thread runs it.
-- Source: this project's own.
use Rattle.std.specs.Prelude.{◌≡◌, ℕ, zero, suc, ◌+◌, Bool, true, false, length, slice_index}
use mathlib.Core.Option.{some}
use lib.ListN.{get_elem?}
use Rattle.atomic_table.specs.Table.{Me, State}
use Rattle.ready_queues.specs.declared.start_view.StartView.{StartView}

abbrev pub StartState : Type 0
StartState = State (Unit {0}) StartView

abbrev pub StartMe : Type 0
StartMe = Me (Unit {0}) StartView

-- the word of a loop whose own way was started, or was not
abbrev pub word_of : Bool → ℕ
word_of true = 1
word_of false = 0

-- THE RULE: one seat is that of the loop's own way, the word says whether this was started, and no
-- seat has seen a start that was none
pub record Holds (s : StartState) : Type 0 where
  pub words : length s.words ≡ 1
  pub owner : ℕ
  pub view : StartView
  pub there : get_elem? s.views owner ≡ some view
  pub own : view.own ≡ true
  pub says : slice_index s.words 0 ≡ word_of view.runs
  pub alone : (id : ℕ) (v : StartView) → get_elem? s.views id ≡ some v → v.own ≡ true
      → id ≡ owner
  pub seen : (id : ℕ) (v : StartView) → get_elem? s.views id ≡ some v → v.seen ≡ true
      → view.runs ≡ true

-- WHILE THE OWN WAY WAS NOT STARTED the word is 0, and no seat has seen a start
abbrev pub IsHonest : StartState → Type 0
IsHonest s = (id : ℕ) (v : StartView) → get_elem? s.views id ≡ some v → v.own ≡ true
    → v.runs ≡ false → (slice_index s.words 0 ≡ 0)
    × ((jd : ℕ) (w : StartView) → get_elem? s.views jd ≡ some w → w.seen ≡ false)

-- the view of a loop's own way that was not started, and of another that has not looked yet
abbrev pub unstarted : StartView
unstarted = record { own = true; runs = false; seen = false; misses = 0 }

abbrev pub unseen : StartView
unseen = record { own = false; runs = false; seen = false; misses = 0 }

-- what is dealt from a seat knows of the start what the seat knew
abbrev pub dealt : StartView → StartView
dealt v = record unseen { seen = v.seen }

abbrev pub running : StartView → StartView
running v = record v { runs = true }

abbrev pub sighted : StartView → StartView
sighted v = record v { seen = true }

abbrev pub missed : StartView → StartView
missed v = record v { misses = v.misses + 1 }

-- the start
abbrev pub HasBegun : StartMe → StartMe → Type 0
HasBegun me m = (m.0 ≡ running me.0) × (m.1 ≡ me.1)

-- a look, which saw the start or missed it; where the seat had seen it before, it is seen again
abbrev pub HasLooked : StartMe → ℕ → StartMe → Type 0
HasLooked me zero m = (me.0.seen ≡ false) × (m.0 ≡ missed me.0) × (m.1 ≡ me.1)
HasLooked me (suc n) m = (n ≡ 0) × (m.0 ≡ sighted me.0) × (m.1 ≡ me.1)
