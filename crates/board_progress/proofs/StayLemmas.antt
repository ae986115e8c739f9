-- After an advance all seats are there as before.
use Rattle.std.proofs.Common.{◌≡◌, ℕ, ⊎_elim, true, false, List, set, refl, sym, ap, ◌∙◌, subst}
use mathlib.Core.Logic.{dite}
use mathlib.Core.Option.{some, some-injective}
use native.Mathlib.Decide.{ℕ_discrete}
use lib.ListN.{get_elem?}
use Rattle.atomic_table.proofs.Lists.{set_else}
use Rattle.board_rule.specs.declared.view.View.{View}
use Rattle.board_rule.specs.Layout.{BoardLayout}
use Rattle.board_rule.proofs.start.SeatLemmas.{set_there}
use Rattle.board_progress.specs.Moves.{Move}
use Rattle.board_progress.specs.NodeAdvances.{NodeAdvances}
use Rattle.board_progress.specs.NodeAdvances.NodeAdvances.{stores_pending, stores_status, lowers, triggers, claims, finishes, draws_ticket, stores_event}
use Rattle.board_progress.specs.NodeAdvances.NodeAdvances.{looks, stores_late}
use Rattle.board_progress.specs.BufferAdvances.{BufferAdvances}
use Rattle.board_progress.specs.BufferAdvances.BufferAdvances.{loads_as_writer, loads_readers, stores_sample, stores_readers, stores_have}
use Rattle.board_progress.specs.BufferAdvances.BufferAdvances.{loads_as_reader, loads_sample, lowers_readers, stores_need}
use Rattle.board_progress.specs.VainSteps.{VainSteps}
use Rattle.board_progress.specs.VainSteps.VainSteps.{claims_early, loads_again}
use Rattle.board_progress.specs.Progress.{Advances, IsStaffed}

module _ (p : BoardLayout) (words : List ℕ) (v : View) where
  -- the view after an advance is of the same seat, which has split off as many
  abbrev Stays : Move → Type 0
  Stays x = (x.view.number ≡ v.number) × (x.view.split ≡ v.split)

  node_stays : (x : Move) → NodeAdvances p words v x → Stays x
  node_stays x (stores_pending h e) = subst Stays (sym e) (refl, refl)
  node_stays x (stores_status h e) = subst Stays (sym e) (refl, refl)
  node_stays x (lowers true m f h is e) = subst Stays (sym e) (refl, refl)
  node_stays x (lowers false m f h is e) = subst Stays (sym e) (refl, refl)
  node_stays x (triggers true m h e) = subst Stays (sym e) (refl, refl)
  node_stays x (triggers false m h e) = subst Stays (sym e) (refl, refl)
  node_stays x (claims true m h is e) = subst Stays (sym e) (refl, refl)
  node_stays x (claims false m h is e) = subst Stays (sym e) (refl, refl)
  node_stays x (finishes true m h e) = subst Stays (sym e) (refl, refl)
  node_stays x (finishes false m h e) = subst Stays (sym e) (refl, refl)
  node_stays x (draws_ticket true m t h is e) = subst Stays (sym e) (refl, refl)
  node_stays x (draws_ticket false m t h is e) = subst Stays (sym e) (refl, refl)
  node_stays x (stores_event true m h e) = subst Stays (sym e) (refl, refl)
  node_stays x (stores_event false m h e) = subst Stays (sym e) (refl, refl)
  node_stays x (looks m f h is e) = subst Stays (sym e) (refl, refl)
  node_stays x (stores_late late h e) = subst Stays (sym e) (refl, refl)

  buffer_stays : (x : Move) → BufferAdvances p words v x → Stays x
  buffer_stays x (loads_as_writer l f h is e) = subst Stays (sym e) (refl, refl)
  buffer_stays x (loads_readers q n h is e) = subst Stays (sym e) (refl, refl)
  buffer_stays x (stores_sample q n i word h e) = subst Stays (sym e) (refl, refl)
  buffer_stays x (stores_readers q n h e) = subst Stays (sym e) (refl, refl)
  buffer_stays x (stores_have l id h e) = subst Stays (sym e) (refl, refl)
  buffer_stays x (loads_as_reader b l f h is e) = subst Stays (sym e) (refl, refl)
  buffer_stays x (loads_sample b l id f h short is e) = subst Stays (sym e) (refl, refl)
  buffer_stays x (lowers_readers b l id f h is e) = subst Stays (sym e) (refl, refl)
  buffer_stays x (stores_need b l id h e) = subst Stays (sym e) (refl, refl)

  pub advance_stays : (x : Move) → Advances p words v x → Stays x
  advance_stays x a = ⊎_elim (node_stays x) (buffer_stays x) a

  -- so is one after a step in vain
  pub vain_stays : (x : Move) (back : ℕ) → VainSteps p words v x back → Stays x
  vain_stays x back (claims_early b m found h is late none e) = (ap (λ (y : Move). y.view.number) e, ap (λ (y : Move). y.view.split) e)
  vain_stays x back (loads_again b l id i found h low is more e) = (ap (λ (y : Move). y.view.number) e, ap (λ (y : Move). y.view.split) e)

-- a view of the seats becomes another of the same seat
pub staffed : (p : BoardLayout) (views : List View) (id : ℕ) (v w : View) → get_elem? views id ≡ some v → w.number ≡ v.number → w.split ≡ v.split
    → IsStaffed p views → IsStaffed p (set views id w)
staffed p views id v w at number split staff = dite (ℕ_discrete staff.0 id)
    (λ e. let is : staff.1 ≡ v = some-injective _ _ (sym staff.2 ∙ ap (get_elem? views) e ∙ at) in (
      id,
      w,
      set_there views id w v at,
      number ∙ ap (λ (z : View). z.number) (sym is) ∙ staff.3,
      split ∙ ap (λ (z : View). z.split) (sym is) ∙ staff.4,
    ))
    (λ e. (staff.0, staff.1, set_else views id staff.0 w e ∙ staff.2, staff.3, staff.4))
