-- A late check: what its loads and its store ask of the view of the driver's seat, and the view
-- after them. Nodes are indexes.
-- Source: this project's own.
use Rattle.std.specs.Prelude.{◌≡◌, ◌≢◌, ℕ, ◌<◌, true, cond, eqb, List, [], ◌∷◌, ◌++◌, map, Contains}
use Rattle.board_rule.specs.declared.view.DriverPhase.TheVariants as drives
use Rattle.board_rule.specs.declared.view.DriverView.{DriverView}
use Rattle.board_rule.specs.declared.view.Found.{Found}
use Rattle.pw_graph.specs.declared.event.Event.TheVariants.{Tick}
use Rattle.board_rule.specs.declared.view.View.{View}
use Rattle.pw_graph.specs.Words.{finished_word}
use Rattle.board_rule.specs.Layout.{BoardLayout, nodes}
use Rattle.board_rule.specs.View.{view_lead, view_trail}
use Rattle.board_rule.specs.Steps.{HasNode}
use Rattle.board_rule.specs.events.Bits.{with_bit}

-- A CHECK loads the status of each follower once, in any order, and stores the set of those whose
-- word was not FINISHED of its cycle
abbrev pub looked_at : List Found → List ℕ
looked_at looks = map (λ f. f.node) looks

abbrev pub Looks : BoardLayout → View → ℕ → Type 0
Looks p v n = HasNode true p v p.driver × (v.lead.drive ≡ drives.Checking) × (n < nodes p)
    × (n ≢ p.driver)
    × (Contains (looked_at v.trail.looks) (p.number n) → ⊥)

abbrev pub looked : BoardLayout → View → ℕ → ℕ → View
looked p v n found = view_trail v (record v.trail
    { looks = record { node = p.number n; word = found } ∷ v.trail.looks })

abbrev pub late_of : ℕ → List Found → ℕ
late_of cycle [] = 0
late_of cycle (f ∷ fs) = cond (eqb f.word (finished_word cycle)) (late_of cycle fs)
    (with_bit (late_of cycle fs) f.node)

abbrev pub StoresLate : BoardLayout → View → ℕ → Type 0
StoresLate p v late = HasNode true p v p.driver × (v.lead.drive ≡ drives.Checking)
    × (late ≡ late_of v.lead.cycle v.trail.looks)
    × ((n : ℕ) → n < nodes p → n ≢ p.driver
    → Contains (looked_at v.trail.looks) (p.number n))

-- the driver's seat keeps a Tick with the late set
abbrev pub late_kept : DriverView → List Found → DriverView
late_kept l looks = record l {
  drive = drives.LateStored;
  lates = l.lates ++ Tick l.cycle (late_of l.cycle looks) ∷ [];
}

abbrev pub late_stored : View → View
late_stored v = view_lead v (late_kept v.lead v.trail.looks) v.trail
