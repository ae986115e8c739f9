-- From call to call of the driver's seat.
use Rattle.std.proofs.Common.{◌≡◌, ◌≢◌, ℕ, ◌+◌, ◌<◌, ◌≤◌, true, List, length, refl, sym, ap, ◌∙◌, subst, arith, ⊎_elim}
use Rattle.std.specs.Prelude.{slice_index_or}
use Rattle.std.proofs.lemmas.Bool.{cases_lt}
use Rattle.board_rule.specs.declared.board.Board.{Board}
use Rattle.board_rule.specs.declared.view.ReadView.{ReadView}
use Rattle.board_rule.specs.declared.view.View.{View}
use Rattle.board_rule.specs.Layout.{BoardLayout, last}
use Rattle.board_rule.specs.OnBoard.{layout}
use Rattle.board_rule.specs.View.{unread}
use Rattle.board_rule.specs.Known.{Known}
use Rattle.board_rule.specs.activation.SeatNodes.{HasNode}
use Rattle.board_rule.specs.activation.WorkSteps.{woken, tried}
use Rattle.activation_words.specs.CycleCalls.{HasBegun, HasChecked, HasEnded}
use Rattle.io_areas.specs.Ends.{IsReadUpTo}
use Rattle.node_progress.specs.declared.run_model.RunModel.{RunModel}
use Rattle.data_loop.proofs.turns.ReadingInputsLemmas.{read_moves}
use Rattle.data_loop.specs.Driving.{IsDriverRead, MayDrive, HasDriven}
use Rattle.driver_cycle.specs.Leading.{IsLeading, IsBetween, IsWaiting, HasEndedAll}
use Rattle.driver_cycle.specs.Rounds.{HasLooked}

-- a view with the same reading ends
pub read_up_moves : (p : BoardLayout) (v w : View) (c d : ℕ) → w.reads ≡ v.reads → w.words_read ≡ v.words_read → d ≡ c → IsDriverRead p v c
    → IsDriverRead p w d
read_up_moves p v w c d rs hs e h l low is = subst (IsReadUpTo w l) (sym e)
    (read_moves v w l c (ap (λ (x : List ReadView). length x) rs) (ap (λ (x : List ℕ). length x) hs)
    (ap (λ (x : List ReadView). slice_index_or x l (unread 0)) rs) (h l low is))

-- a seat whose cycle, samples and reading ends are the same
pub leads_on : (run_model : RunModel) (k : ℕ) (board : Board) (s t : Known) → t.table ≡ s.table → t.knows.expect ≡ s.knows.expect
    → t.knows.reads ≡ s.knows.reads → t.knows.words_read ≡ s.knows.words_read → t.knows.lead.cycle ≡ s.knows.lead.cycle
    → IsLeading run_model k board s → IsLeading run_model k board t
leads_on run_model k board s t table expect rs hs cycle h = record {
  epoch = h.epoch;
  at = h.at;
  shape = h.shape;
  pooled = h.pooled;
  table = table ∙ h.table;
  expect = expect ∙ h.expect;
  even = read_up_moves (layout board) s.knows t.knows s.knows.lead.cycle t.knows.lead.cycle rs hs cycle h.even;
}

-- from a beginning, and from a check
module _ (run_model : RunModel) (k : ℕ) (board : Board) (s t : Known) (table : t.table ≡ s.table) (h : IsLeading run_model k board s) where
  pub begun_leads : HasBegun (layout board) s.knows t.knows → IsLeading run_model k board t
  begun_leads b = leads_on run_model k board s t table (ap (λ (x : View). x.expect) b.is) (ap (λ (x : View). x.reads) b.is)
      (ap (λ (x : View). x.words_read) b.is) (ap (λ (x : View). x.lead.cycle) b.is) h

  pub checked_leads : (late : ℕ) → HasChecked (layout board) s.knows late t.knows → IsLeading run_model k board t
  checked_leads late b = leads_on run_model k board s t table (ap (λ (x : View). x.expect) b.is) (ap (λ (x : View). x.reads) b.is)
      (ap (λ (x : View). x.words_read) b.is) (ap (λ (x : View). x.lead.cycle) b.is) h

  -- from a claim
  pub woken_leads : t.knows ≡ woken true s.knows (layout board).driver → IsLeading run_model k board t
  woken_leads e = leads_on run_model k board s t table (ap (λ (x : View). x.expect) e) (ap (λ (x : View). x.reads) e)
      (ap (λ (x : View). x.words_read) e) (ap (λ (x : View). x.lead.cycle) e) h

  pub tried_leads : (found : ℕ) → t.knows ≡ tried (layout board) s.knows (layout board).driver found → IsLeading run_model k board t
  tried_leads found e = leads_on run_model k board s t table (ap (λ (x : View). x.expect) e) (ap (λ (x : View). x.reads) e)
      (ap (λ (x : View). x.words_read) e) (ap (λ (x : View). x.lead.cycle) e) h

  pub same_leads : t.knows ≡ s.knows → IsLeading run_model k board t
  same_leads e = leads_on run_model k board s t table (ap (λ (x : View). x.expect) e) (ap (λ (x : View). x.reads) e)
      (ap (λ (x : View). x.words_read) e) (ap (λ (x : View). x.lead.cycle) e) h

module _ (p : BoardLayout) (v w : View) where
  -- between two cycles, with cycles left
  pub may_begin : IsBetween p v → v.lead.cycle ≢ last p → HasNode true p v p.driver
  may_begin b o = let m = b.member in let low = m.1.0 in let high = m.1.1 in (m.0, (low, omega (arith, high, o)), m.2)

  pub begun_waits : HasNode true p v p.driver → HasBegun p v w → IsWaiting p w
  begun_waits h b = record {
    node = subst (λ (x : View). HasNode true p x p.driver) (sym b.is) h;
    waits = ap (λ (x : View). x.lead.drive) b.is;
  }

  pub checked_waits : (late : ℕ) → IsWaiting p v → HasChecked p v late w → IsWaiting p w
  checked_waits late h b = record {
    node = subst (λ (x : View). HasNode true p x p.driver) (sym b.is) h.node;
    waits = ap (λ (x : View). x.lead.drive) b.is ∙ h.waits;
  }

  pub tried_waits : (found : ℕ) → IsWaiting p v → w ≡ tried p v p.driver found → IsWaiting p w
  tried_waits found h e = record {
    node = subst (λ (x : View). HasNode true p x p.driver) (sym e) h.node;
    waits = ap (λ (x : View). x.lead.drive) e ∙ h.waits;
  }

  -- a claim that found the node awake
  pub woken_may : IsWaiting p v → IsDriverRead p v v.lead.cycle → w ≡ woken true v p.driver → MayDrive p w v.lead.cycle
  woken_may h even e = record {
    node = subst (λ (x : View). HasNode true p x p.driver) (sym e) h.node;
    awake = ap (λ (x : View). x.lead.drive) e;
    cycle = ap (λ (x : View). x.lead.cycle) e;
    even = read_up_moves p v w v.lead.cycle v.lead.cycle (ap (λ (x : View). x.reads) e) (ap (λ (x : View). x.words_read) e) refl even;
  }

-- the end of a cycle after its driver's turn
module _ (p : BoardLayout) (v : View) (c : ℕ) (may : MayDrive p v c) (w : View) (driven : HasDriven p v c w) where
  pub driven_has : HasNode true p w p.driver
  driven_has = subst (λ (x : View). HasNode true p x p.driver) (sym driven.is) may.node

  module _ (x : View) (ended : HasEnded p w x) where
    pub ended_cycle : x.lead.cycle ≡ c + 1
    ended_cycle = ap (λ (y : View). y.lead.cycle) ended.2 ∙ ap (λ m. m + 1) driven.cycle

    pub ended_even : IsDriverRead p x x.lead.cycle
    ended_even = read_up_moves p w x (c + 1) x.lead.cycle (ap (λ (y : View). y.reads) ended.2) (ap (λ (y : View). y.words_read) ended.2)
        ended_cycle driven.even

    pub ended_between : IsBetween p x
    ended_between = let n = driven_has in let low = n.1.0 in let high = n.1.1 in let e = ended_cycle in let now = driven.cycle in record {
      member = (
        (refl, ap (λ (y : View). y.number) ended.2 ∙ n.0.1, ap (λ (y : View). y.owners) ended.2 ∙ n.0.2),
        (omega (arith, low, e, now), omega (arith, high, e, now)),
        n.2,
      );
      between = ap (λ (y : View). y.lead.drive) ended.2;
      unchecked = ap (λ (y : View). y.lead.checked) ended.2;
    }

-- and it leads on the same board, in the next cycle
pub concluded_leads : (run_model : RunModel) (k : ℕ) (board : Board) (s t u : Known) (c : ℕ) → MayDrive (layout board) s.knows c
    → HasDriven (layout board) s.knows c t.knows → HasEnded (layout board) t.knows u.knows → u.table ≡ s.table
    → IsLeading run_model k board s → IsLeading run_model k board u
concluded_leads run_model k board s t u c may driven ended table h = record {
  epoch = h.epoch;
  at = h.at;
  shape = h.shape;
  pooled = h.pooled;
  table = table ∙ h.table;
  expect = ap (λ (y : View). y.expect) ended.2 ∙ ap (λ (y : View). y.expect) driven.is ∙ h.expect;
  even = ended_even (layout board) s.knows c may t.knows driven u.knows ended;
}

pub between_ended : (p : BoardLayout) (v : View) → IsBetween p v → v.lead.cycle ≡ last p → HasEndedAll p v
between_ended p v b e = (b.member.0, e)

-- looks one after the other
module _ (s t u : Known) (m n o : ℕ) where
  pub looked_on : HasLooked s t m n → HasLooked t u n o → HasLooked s u m o
  looked_on a b = let a₁ = a.later in let a₂ = a.kept in let a₃ = a.most in let b₁ = b.later in let b₂ = b.kept in let b₃ = b.most in record {
    later = omega (arith, a₁, b₁);
    kept = omega (arith, a₂, b₂);
    most = omega (arith, a₁, a₃, b₁, b₃);
    some = λ more. ⊎_elim
        (λ (first : m < n). let x = a.some first in omega (arith, x, b₂))
        (λ (none : n ≤ m). let x = b.some (omega (arith, more, none)) in omega (arith, x, a₂))
        (cases_lt m n);
  }

-- none where the seat made no check and nobody asked
pub none_looked : (s t : Known) (m n : ℕ) → t.knows.lead.checks ≡ s.knows.lead.checks → n ≡ m → HasLooked s t m n
none_looked s t m n e same = record {
  later = omega (arith, same);
  kept = omega (arith, e);
  most = omega (arith, e);
  some = λ more. absurd (omega (arith, more, same));
}
