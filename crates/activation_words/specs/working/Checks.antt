-- A late check, load by load. Nodes are indexes.
-- Source: this project's own.
use Rattle.std.specs.Prelude.{◌≡◌, ◌≢◌, ℕ, ◌+◌, true, cond, eqb, [], map}
use Rattle.board_rule.specs.declared.view.DriverPhase.TheVariants.{Checking}
use Rattle.board_rule.specs.declared.view.View.{View}
use Rattle.pw_graph.specs.Words.{finished_word}
use Rattle.board_rule.specs.Layout.{BoardLayout}
use Rattle.board_rule.specs.View.{view_lead, view_trail}
use Rattle.board_rule.specs.events.Bits.{with_bit}
use Rattle.board_rule.specs.events.EventSteps.{looked, late_of}
use Rattle.activation_words.specs.CycleCalls.{followers}

abbrev pub tick_drawn : View → ℕ → View
tick_drawn v ticket = view_lead v (record v.lead
    { drive = Checking; checked = true; checks = v.lead.checks + 1; ticket = ticket })
    (record v.trail { looks = [] })

-- the node at an index is looked at, or is the driver
abbrev pub LooksAt : BoardLayout → View → ℕ → ℕ → ℕ → View → ℕ → Type 0
LooksAt p v at late cycle w now = (at ≡ p.driver → (w ≡ v) × (now ≡ late))
    × (at ≢ p.driver → (found : ℕ) × (w ≡ looked p v at found)
    × (now ≡ cond (eqb found (finished_word cycle)) late (with_bit late (p.number at))))

-- from the view v to the view w, the followers among the first k indexes are looked at
pub record IsLooking (p : BoardLayout) (v : View) (k late : ℕ) (w : View) : Type 0 where
  pub looks : map (λ f. f.node) w.trail.looks ≡ followers p k
  pub late_is : late ≡ late_of v.lead.cycle w.trail.looks
  pub is : w ≡ view_trail v (record v.trail { looks = w.trail.looks })
