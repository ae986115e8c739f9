-- The driver's thread from step to step.
use Rattle.std.proofs.Common.{◌≡◌, ℕ, Bool, false, List, [], ◌∷◌, ◌++◌, Some, length, get_or, slice_get, set, sym, ap, ◌∙◌, subst, arith}
use Rattle.std.proofs.Common.{length-append}
use Rattle.std.proofs.lemmas.List.{get_or_push}
use Rattle.std.proofs.lemmas.Option.{slice_get-get_or}
use Rattle.std.proofs.lemmas.List.Elements.{All-set}
use Rattle.board_rule.specs.declared.board.Board.{Board}
use Rattle.board_rule.specs.Known.{Known}
use Rattle.board_rule.specs.OnBoard.{layout, table_of}
use Rattle.data_loop.specs.declared.loop_state.LoopState.{LoopState}
use Rattle.data_loop.specs.LoopsOnBoards.{IsOnBoard}
use Rattle.driver_cycle.specs.Leading.{IsDriving}
use Rattle.driver_cycle.specs.Epochs.{IsThread}
use Rattle.graph_run.specs.LoopsOnPlan.{AreReady, AreFirstLeads, IsFirstLead}
use Rattle.graph_run.proofs.EpochLemmas.{none_passed, each_none, thread_begins}
use Rattle.graph_run.proofs.ReadyLemmas.{own_has, own_ready, others_ready}
use Rattle.loop_tests.specs.declared.crew.Crew.{Crew}
use Rattle.loop_tests.specs.Crew.{IsCrewOn}

-- the last of a list of one is its first
module _ {X : Type 0} (all xs : List X) (x : X) (is : all ≡ xs ++ x ∷ []) (one : length all ≡ 1) where
  none : length xs ≡ 0
  none = let a = ap (λ (l : List X). length l) is in let b = length-append xs (x ∷ []) in omega (arith, a, b, one)

  pub only_at : get_or all 0 x ≡ x
  only_at = ap (λ (l : List X). get_or l 0 x) is ∙ get_or_push xs x x 0 none

  pub only_get : slice_get all 0 ≡ Some x
  only_get = slice_get-get_or all 0 x (omega (arith, one)) ∙ ap Some only_at

-- a plan of one epoch before its first cycle
module _ (boards bs : List Board) (b : Board) (boards_are : boards ≡ bs ++ b ∷ []) (one : length boards ≡ 1) (drivers ds : List Known) (seat : Known)
    (drivers_are : drivers ≡ ds ++ seat ∷ []) (loops : ℕ) (xs : List LoopState) (own : LoopState) (ready : AreReady boards loops (xs ++ own ∷ []))
    (leads : AreFirstLeads own.run_model boards drivers) where
  here : slice_get boards 0 ≡ Some b
  here = only_get boards bs b boards_are one

  lead : IsFirstLead own.run_model 0 b seat
  lead = let n = leads.count in subst (IsFirstLead own.run_model 0 b) (only_at drivers ds seat drivers_are (omega (arith, n, one))) (leads.each 0 b seat here)

  pub first_thread : IsThread b seat own xs
  first_thread = let mine = own_ready boards loops xs own ready in let others = others_ready boards loops xs own ready in
      thread_begins boards 0 b here own own mine (none_passed boards own mine) xs xs others (each_none boards xs others)
      (own_has boards loops xs own ready) seat lead

  pub first_crew : (crew : Crew) → crew.seat ≡ seat → crew.own ≡ own → crew.others.items ≡ xs → crew.waits ≡ false → crew.checked ≡ false
      → IsCrewOn b crew
  first_crew crew seat_is own_is xs_are waits checked = record {
    thread = subst (λ (t : Known × LoopState × List LoopState). IsThread b t.0 t.1 t.2)
        (λ i. (sym seat_is i, sym own_is i, sym xs_are i)) first_thread;
    driving = subst (λ (t : Known × Bool). IsDriving (layout b) t.0.knows t.1) (λ i. (sym seat_is i, sym waits i)) lead.between;
    checked = checked ∙ sym (ap (λ (k : Known). k.knows.lead.checked) seat_is ∙ lead.between.unchecked);
  }

module _ (board : Board) (s : Known) (own : LoopState) (others : List LoopState) (h : IsThread board s own others) where
  -- one of the others had a try
  pub one_tried : (k : ℕ) (x : LoopState) → IsOnBoard (layout board) (table_of board) x → IsThread board s own (set others k x)
  one_tried k x on = record {
    leads = h.leads;
    stands = h.stands;
    driver = h.driver;
    led_so_far = h.led_so_far;
    adopted_stand = All-set (IsOnBoard (layout board) (table_of board)) others k x on h.adopted_stand;
  }
