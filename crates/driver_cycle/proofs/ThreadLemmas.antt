-- The driver's thread from round to round.
use Rattle.std.proofs.Common.{◌≡◌, ℕ, ◌+◌, ◌||◌, Bool, true, false, true≢false, List, get_or, refl, sym, ap, ◌∙◌, subst, arith}
use Rattle.std.proofs.Common.{Option, Some, None}
use Rattle.std.specs.Prelude.{All, Contains, ◌⊎◌}
use Rattle.atomic_table.specs.Seated.{TableId}
use Rattle.pw_lists.specs.Limits.{dummy_node}
use Rattle.std.proofs.lemmas.Option.{same_Some}
use Rattle.cycle_model.specs.Expected.{epoch_rows}
use Rattle.board_rule.specs.declared.board.Board.{Board}
use Rattle.board_rule.specs.declared.view.View.{View}
use Rattle.board_rule.specs.Layout.{BoardLayout, first, last}
use Rattle.board_rule.specs.OnBoard.{layout, table_of}
use Rattle.board_rule.specs.Known.{Known}
use Rattle.activation_words.specs.CycleCalls.{HasBegun}
use Rattle.node_progress.specs.declared.run_model.RunModel.{RunModel}
use Rattle.data_loop.specs.declared.loop_state.LoopState.{LoopState}
use Rattle.data_loop.specs.LoopsOnBoards.{IsOnBoard, IsSameBut}
use Rattle.data_loop.specs.LoopDriver.{DrivesFrom, HasLedSoFar}
use Rattle.driver_cycle.specs.Leading.{IsLeading}
use Rattle.driver_cycle.specs.Rounds.{HasLooked, IsLook}
use Rattle.driver_cycle.specs.Concluding.{LooksOnce, IsClaimed}
use Rattle.driver_cycle.specs.Settling.{HasLedAll, HasHadTurns, HasSettled, AreEach}
use Rattle.driver_cycle.specs.Epochs.{IsThread, HasGoneOn}
use Rattle.driver_cycle.proofs.LeadingLemmas.{looked_on, none_looked}
use Rattle.driver_cycle.proofs.SettlingLemmas.{same_but_refl, same_but_on, no_turns, more_turns, same_driver, settled_after}

-- where one or the other is false, both are
pub neither : (a b : Bool) → (a || b) ≡ false → (a ≡ false) × (b ≡ false)
neither true b e = absurd (true≢false e)
neither false b e = (refl, e)

-- after a look the seat is in the same cycle
looked_cycle : (b : Bool) (p : BoardLayout) (v : View) (m n : ℕ) (w : View) → LooksOnce b p v m n w → w.lead.cycle ≡ v.lead.cycle
looked_cycle true p v m n w h = ap (λ (x : View). x.lead.cycle) h.1
looked_cycle false p v m n w h = by h.0 h.1
  where
    by : (late : Option ℕ) → IsLook p v m n late w → w.lead.cycle ≡ v.lead.cycle
    by (Some late) l = ap (λ (x : View). x.lead.cycle) l.1.is
    by None l = ap (λ (x : View). x.lead.cycle) l.1

-- and after a claim that was too early; the turn and the end lead to the next
pub early_cycle : (p : BoardLayout) (v : View) (m n : ℕ) (w : View) → IsClaimed false p v m n w → w.lead.cycle ≡ v.lead.cycle
early_cycle p v m n w h = looked_cycle v.lead.checked p _ m n w h.look

pub concluded_cycle : (p : BoardLayout) (v : View) (m n : ℕ) (w : View) → IsClaimed true p v m n w → w.lead.cycle ≡ v.lead.cycle + 1
concluded_cycle p v m n w h = ap (λ (x : View). x.lead.cycle) h.1.end.2 ∙ ap (λ c. c + 1) h.1.turn.cycle

-- a loop that is the same but for turns
pub leads_same : (board : Board) (s : Known) (x y : LoopState) → IsSameBut x y → IsLeading x.run_model x.epoch board s → IsLeading y.run_model y.epoch board s
leads_same board s x y same h = subst (λ (z : RunModel × ℕ). IsLeading z.0 z.1 board s) (λ i. (sym same.run_model i, sym same.epoch i)) h

pub drives_same : (p : BoardLayout) (x y : LoopState) → IsSameBut x y → DrivesFrom p x → DrivesFrom p y
drives_same p x y same h = subst (λ (nodes : List ℕ). (p.shape.driver ≡ dummy_node) ⊎ Contains nodes p.shape.driver) (sym same.nodes) h

pub led_so_far_same : (p : BoardLayout) (t : TableId) (x y : LoopState) (v w : View) → IsOnBoard p t x → HasHadTurns p t x y → w.lead.cycle ≡ v.lead.cycle
    → HasLedSoFar p x v → HasLedSoFar p y w
led_so_far_same p t x y v w on h cycle led_so_far g here some =
    ap (λ n. first p + n) h.led
    ∙ led_so_far on.epoch_state on.here (λ none. some (same_driver p t x y on h.on h.same on.epoch_state g on.here here ∙ none))
    ∙ sym cycle

-- the loops of a thread
module _ (p : BoardLayout) (t : TableId) where
  pub each_none : (old : List LoopState) → All (IsOnBoard p t) old → AreEach (HasHadTurns p t) old old
  each_none old on = record {
    count = refl;
    each = λ k d low. no_turns p t (get_or old k d) (on k d low);
  }

  pub each_more : (old now new : List LoopState) → AreEach (HasHadTurns p t) old now → AreEach (HasHadTurns p t) now new
      → AreEach (HasHadTurns p t) old new
  each_more old now new a b = let n = a.count in record {
    count = b.count ∙ a.count;
    each = λ k d low. more_turns p t (get_or old k d) (get_or now k d) (get_or new k d) (a.each k d low) (b.each k d (omega (arith, low, n)));
  }

  pub each_stand : (old new : List LoopState) → AreEach (HasHadTurns p t) old new → All (IsOnBoard p t) new
  each_stand old new h k d low = let n = h.count in (h.each k d (omega (arith, low, n))).on

-- rounds one after the other
module _ (board : Board) (s : Known) (own : LoopState) (adopted : List LoopState) (m : ℕ) where
  pub no_round : IsThread board s own adopted → HasGoneOn board s own adopted m s own adopted m
  no_round h = record {
    thread = h;
    same = same_but_refl own;
    turned = each_none (layout board) (table_of board) adopted h.adopted_stand;
    looked = none_looked s s m m refl refl;
  }

  module _ (t : Known) (next : LoopState) (after : List LoopState) (n : ℕ) (a : HasGoneOn board s own adopted m t next after n) where
    pub more_rounds : (u : Known) (third : LoopState) (later : List LoopState) (o : ℕ)
        → HasGoneOn board t next after n u third later o → HasGoneOn board s own adopted m u third later o
    more_rounds u third later o b = record {
      thread = b.thread;
      same = same_but_on own next third a.same b.same;
      turned = each_more (layout board) (table_of board) adopted after later a.turned b.turned;
      looked = looked_on s t u m n o a.looked b.looked;
    }

-- a cycle is begun
pub begun_on : (board : Board) (s t : Known) (own : LoopState) (adopted : List LoopState) (m : ℕ) → IsThread board s own adopted
    → IsLeading own.run_model own.epoch board t → HasBegun (layout board) s.knows t.knows → HasGoneOn board s own adopted m t own adopted m
begun_on board s t own adopted m h leads begun = record {
  thread = record {
    leads = leads;
    stands = h.stands;
    driver = h.driver;
    led_so_far = λ g here some. h.led_so_far g here some ∙ sym (ap (λ (x : View). x.lead.cycle) begun.is);
    adopted_stand = h.adopted_stand;
  };
  same = same_but_refl own;
  turned = each_none (layout board) (table_of board) adopted h.adopted_stand;
  looked = none_looked s t m m (ap (λ (x : View). x.lead.checks) begun.is) refl;
}

-- one round
pub gone_round : (board : Board) (s t : Known) (own next third : LoopState) (adopted after : List LoopState) (m n : ℕ)
    → IsThread board s own adopted → HasHadTurns (layout board) (table_of board) own next
    → AreEach (HasHadTurns (layout board) (table_of board)) adopted after
    → IsLeading next.run_model next.epoch board t → IsOnBoard (layout board) (table_of board) third → IsSameBut next third
    → HasLedSoFar (layout board) third t.knows → HasLooked s t m n → HasGoneOn board s own adopted m t third after n
gone_round board s t own next third adopted after m n h a b leads stands same led_so_far looked = record {
  thread = record {
    leads = leads_same board t next third same leads;
    stands = stands;
    driver = drives_same (layout board) own third (same_but_on own next third a.same same) h.driver;
    led_so_far = led_so_far;
    adopted_stand = each_stand (layout board) (table_of board) adopted after b;
  };
  same = same_but_on own next third a.same same;
  turned = b;
  looked = looked;
}

-- the end of the epoch: the loop has led all its cycles
pub led_all : (p : BoardLayout) (x : LoopState) (v : View) → HasLedSoFar p x v → v.lead.cycle ≡ last p → HasLedAll p x
led_all p x v led_so_far end g here some = let t = led_so_far g here some in omega (arith, t, end)

-- each loop has settled after the turns before it
pub each_settled : (p : BoardLayout) (t : TableId) (old now new : List LoopState) → All (IsOnBoard p t) old
    → AreEach (HasHadTurns p t) old now → AreEach (HasSettled p t) now new → AreEach (HasSettled p t) old new
each_settled p t old now new on a b = let n = a.count in record {
  count = b.count ∙ a.count;
  each = λ k d low. settled_after p t (get_or old k d) (get_or now k d) (get_or new k d) (on k d low) (a.each k d low)
      (b.each k d (omega (arith, low, n)));
}

-- a seat that leads the same epoch expects the same samples
pub same_expect : (run_model : RunModel) (k : ℕ) (board : Board) (s t : Known) → IsLeading run_model k board s → IsLeading run_model k board t
    → t.knows.expect ≡ s.knows.expect
same_expect run_model k board s t a b = b.expect
    ∙ ap (epoch_rows run_model.plan.value run_model.waves.value) (same_Some b.epoch a.epoch (sym b.at ∙ a.at))
    ∙ sym a.expect

pub leads_back : (board : Board) (s : Known) (x y : LoopState) → IsSameBut x y → IsLeading y.run_model y.epoch board s → IsLeading x.run_model x.epoch board s
leads_back board s x y same h = subst (λ (z : RunModel × ℕ). IsLeading z.0 z.1 board s) (λ i. (same.run_model i, same.epoch i)) h
