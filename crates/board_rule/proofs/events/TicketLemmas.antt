-- Laws of `specs/EventRule.antt`: how many tickets are drawn.
use Rattle.std.proofs.Common.{◌≡◌, ◌≢◌, ℕ, zero, suc, ◌+◌, ◌*◌, ◌<◌, ◌≤◌, Bool, true, false, true≢false, cond, eqb, List}
use Rattle.std.proofs.Common.{length, set, get_or, refl, sym, ap, ◌∙◌, subst, arith, eq-eqb, ne_eqb, suc-mul, get_or-set_other}
use mathlib.Core.Logic.{dite}
use native.Mathlib.Decide.{ℕ_discrete}
use Rattle.board_rule.specs.declared.view.NodeView.{NodeView}
use Rattle.board_rule.specs.declared.view.DriverView.{DriverView}
use Rattle.board_rule.specs.declared.view.DriverPhase.{DriverPhase}
use Rattle.board_rule.specs.declared.view.DriverPhase.TheVariants as drives
use Rattle.board_rule.specs.declared.view.Phase.{Phase}
use Rattle.board_rule.specs.declared.view.Phase.TheVariants.{Idle, Awake, StartDrawn, Running, Done, FinishDrawn, Telling}
use Rattle.pw_graph.specs.Layout.{event_count}
use Rattle.board_rule.specs.Layout.{BoardLayout, IsSound, nodes, first, last}
use Rattle.board_rule.specs.Sums.{total}
use Rattle.board_rule.specs.activation.Phases.{is_between, is_resetting, phase_drawn, drive_drawn, PhaseOk}
use Rattle.board_rule.specs.View.{Whole, with_node, with_lead}
use Rattle.board_rule.specs.activation.ActivationRule.{Activations}
use Rattle.std.specs.Prelude.{count_by}
use Rattle.pw_graph.specs.History.{is_tick}
use Rattle.board_rule.specs.events.EventRule.{Events, node_drawn, lead_drawn, drawn, drawn_before, Marks, Records, marks, records}
use Rattle.board_rule.proofs.events.DrawLemmas.{Logs}
use Rattle.board_rule.proofs.events.TickLemmas.{ticks_stay}
use Rattle.board_rule.proofs.events.MarkLemmas.{words_quiet, QuietNode, QuietLead, marks_node, marks_lead}
use Rattle.board_rule.proofs.SumLemmas.{total_change}
use Rattle.board_rule.proofs.start.SeatLemmas.{put_here, put_else}

total_most : (f g : ℕ → ℕ) (k : ℕ) → ((n : ℕ) → n < k → f n ≤ g n) → total f k ≤ total g k
total_most f g zero h = omega arith
total_most f g (suc k) h = let a = total_most f g k (λ n l. h n (omega arith)) in let b = h k (omega arith) in omega arith

total_sum : (f g : ℕ → ℕ) (k : ℕ) → total (λ n. f n + g n) k ≡ total f k + total g k
total_sum f g zero = refl
total_sum f g (suc k) = let a = total_sum f g k in omega arith

total_all : (b k : ℕ) → total (λ n. b) k ≡ k * b
total_all b zero = omega arith
total_all b (suc k) = let a = total_all b k in let e : suc k * b ≡ k * b + b = suc-mul k b in omega arith

-- the same number at all indexes but one
total_but : (b m k : ℕ) → m < k → total (λ n. cond (eqb n m) 0 b) k + b ≡ k * b
total_but b m k h = let a = total_change (λ n. b) (λ n. cond (eqb n m) 0 b) m k h (λ i o. ap (λ c. cond c 0 b) (ne_eqb i m o)) in
    let c : cond (eqb m m) 0 b ≡ 0 = ap (λ c. cond c 0 b) (eq-eqb m m refl) in let d = total_all b k in omega arith

drive_most : (d : DriverPhase) → drive_drawn d ≤ 4
drive_most drives.Between = omega arith
drive_most drives.BeginDrawn = omega arith
drive_most (drives.Reset i) = omega arith
drive_most (drives.Half i) = omega arith
drive_most (drives.Kick i o) = omega arith
drive_most drives.Waiting = omega arith
drive_most drives.Checking = omega arith
drive_most drives.LateStored = omega arith
drive_most drives.Awake = omega arith
drive_most drives.StartDrawn = omega arith
drive_most drives.Running = omega arith
drive_most drives.Done = omega arith
drive_most drives.FinishDrawn = omega arith
drive_most drives.FinishStored = omega arith
drive_most drives.EndDrawn = omega arith

one_most : (b : Bool) → cond b 1 0 ≤ 1
one_most true = omega arith
one_most false = omega arith

phase_most : (n c next l : ℕ) (f : Phase) → PhaseOk n c next f → (f ≡ Idle → next ≤ l) → ((f ≡ Idle → ⊥) → c < l)
    → 2 * next + phase_drawn f ≤ 2 * l
phase_most n c next l Idle ok i o = let a = i refl in omega arith
phase_most n c next l Awake ok i o = let a = o (λ e. (cc)) in omega arith
phase_most n c next l StartDrawn ok i o = let a = o (λ e. (cc)) in omega arith
phase_most n c next l Running ok i o = let a = o (λ e. (cc)) in omega arith
phase_most n c next l Done ok i o = let a = o (λ e. (cc)) in omega arith
phase_most n c next l FinishDrawn ok i o = let a = o (λ e. (cc)) in omega arith
phase_most n c next l (Telling j d) ok i o = let a = o (λ e. (cc)) in let b = ok.0 in omega arith

pub between_resets : (d : DriverPhase) → is_between d ≡ true → is_resetting d ≡ true
between_resets drives.Between t = refl
between_resets drives.BeginDrawn t = refl
between_resets (drives.Reset i) t = refl
between_resets (drives.Half i) t = refl
between_resets (drives.Kick i o) t = absurd (true≢false (sym t))
between_resets drives.Waiting t = absurd (true≢false (sym t))
between_resets drives.Checking t = absurd (true≢false (sym t))
between_resets drives.LateStored t = absurd (true≢false (sym t))
between_resets drives.Awake t = absurd (true≢false (sym t))
between_resets drives.StartDrawn t = absurd (true≢false (sym t))
between_resets drives.Running t = absurd (true≢false (sym t))
between_resets drives.Done t = absurd (true≢false (sym t))
between_resets drives.FinishDrawn t = absurd (true≢false (sym t))
between_resets drives.FinishStored t = absurd (true≢false (sym t))
between_resets drives.EndDrawn t = absurd (true≢false (sym t))

product : (n c : ℕ) → c * (2 * n + 3) ≡ n * (2 * c) + 3 * c
product n c = grind arith

module _ (p : BoardLayout) where
  drawn_here : (g : Whole) (m : ℕ) (y : NodeView) → m ≢ p.driver → drawn p (with_node g m y) m ≡ node_drawn y
  drawn_here g m y o = ap (λ (z : NodeView). cond (eqb m p.driver) 0 (node_drawn z)) (put_here g.nodes m y)
      ∙ ap (λ b. cond b 0 (node_drawn y)) (ne_eqb m p.driver o)

  drawn_at : (g : Whole) (m : ℕ) (x : NodeView) → m ≢ p.driver → g.nodes m ≡ x → drawn p g m ≡ node_drawn x
  drawn_at g m x o e = ap (λ b. cond b 0 (node_drawn (g.nodes m))) (ne_eqb m p.driver o) ∙ ap node_drawn e

  change : (g : Whole) (m : ℕ) (x y : NodeView) → m < nodes p → m ≢ p.driver → g.nodes m ≡ x
      → total (drawn p (with_node g m y)) (nodes p) + node_drawn x ≡ total (drawn p g) (nodes p) + node_drawn y
  change g m x y inside follows same = let a = total_change (drawn p g) (drawn p (with_node g m y)) m (nodes p) inside
      (λ i o. ap (λ (z : NodeView). cond (eqb i p.driver) 0 (node_drawn z)) (put_else g.nodes m i y o)) in
      let b = drawn_here g m y follows in let c = drawn_at g m x follows same in omega arith

  -- all parts of the rule but the counts
  pub logs_of : (g : Whole) (ws : List ℕ) → Events p g ws → Logs p g.lead.cycle g.late g.past g.inside (marks p g) (records p ws)
  logs_of g ws e = record { tickets = e.tickets; earlier = e.earlier; inside = e.inside }

  -- no more tickets are drawn than the phases say
  abbrev pub Counted : Whole → ℕ → Type 0
  Counted g w = w + (total (drawn_before p) (nodes p) + 5 * first p) ≤ total (drawn p g) (nodes p) + lead_drawn g.lead

  pub count_node : (g : Whole) (w k m : ℕ) (x y : NodeView) → m < nodes p → m ≢ p.driver → g.nodes m ≡ x → node_drawn x + k ≤ node_drawn y
      → Counted g w → Counted (with_node g m y) (w + k)
  count_node g w k m x y inside follows same more a = let b = change g m x y inside follows same in omega arith

  pub count_lead : (g : Whole) (w k : ℕ) (x : DriverView) → lead_drawn g.lead + k ≤ lead_drawn x → Counted g w
      → Counted (with_lead g x) (w + k)
  count_lead g w k x more a = omega arith

  -- a step on an activation word: of a follower, and of the driver's seat
  pub events_node : (g : Whole) (ws : List ℕ) (i v m : ℕ) (x y : NodeView) → m < nodes p → m ≢ p.driver → g.nodes m ≡ x
      → node_drawn x ≤ node_drawn y → QuietNode g.lead.cycle x y → 0 < i → i ≤ nodes p + nodes p → Events p g ws
      → Events p (with_node g m y) (set ws i v)
  events_node g ws i v m x y inside follows same more quiet low high e =
      let word = words_quiet p ws v i low high in let mark = marks_node p g m x y same quiet in
      let logs = subst (λ (k : Marks × Records). Logs p g.lead.cycle g.late g.past g.inside k.0 k.1) (λ j. (sym mark j, sym word j))
      (logs_of g ws e) in record {
        count = let a = count_node g (get_or ws 0 0) 0 m x y inside follows same (omega arith) e.count in
            let b = get_or-set_other ws i 0 v 0 (λ z. omega arith) in omega arith;
        checks = e.checks;
        lates = e.lates;
        checking = e.checking;
        fresh = e.fresh;
        tickets = logs.tickets;
        earlier = logs.earlier;
        inside = logs.inside;
      }

  pub events_lead : (g : Whole) (ws : List ℕ) (i v : ℕ) (x : DriverView) → lead_drawn g.lead ≤ lead_drawn x → QuietLead g.lead x → 0 < i
      → i ≤ nodes p + nodes p → Events p g ws → Events p (with_lead g x) (set ws i v)
  events_lead g ws i v x more quiet low high e =
      let word = words_quiet p ws v i low high in let mark = marks_lead p g x quiet in
      let logs = subst (λ (k : ℕ × Marks × Records). Logs p k.0 g.late g.past g.inside k.1 k.2)
      (λ j. (sym quiet.cycle j, sym mark j, sym word j)) (logs_of g ws e) in record {
        count = let a = count_lead g (get_or ws 0 0) 0 x (omega arith) e.count in let b = get_or-set_other ws i 0 v 0 (λ z. omega arith) in
            omega arith;
        checks = (λ j. count_by is_tick g.past + cond (quiet.checked j) 1 0) ∙ e.checks ∙ sym quiet.checks;
        lates = ticks_stay p g e.lates g.lead.drive x refl quiet.looking quiet.checked quiet.cycle quiet.lates;
        checking = λ z. quiet.checked ∙ e.checking (sym quiet.checking ∙ z);
        fresh = λ z. e.fresh (sym quiet.begun ∙ z);
        tickets = logs.tickets;
        earlier = logs.earlier;
        inside = logs.inside;
      }

  -- there is a word for each ticket
  pub few_tickets : (g : Whole) (w : ℕ) (vs : List ℕ) → IsSound p → Activations p g vs → Counted g w → w ≤ event_count p.shape
  few_tickets g w vs sound a count =
      let early = a.early in let later = a.later in
      let n : ℕ = nodes p in let c : ℕ = p.shape.cycles in
      let extra : ℕ → ℕ = λ k. cond (eqb k p.driver) 0 (2 * c) in
      let most = total_most (drawn p g) (λ k. drawn_before p k + extra k) n each in
      let sum = total_sum (drawn_before p) extra n in
      let but = total_but (2 * c) p.driver n sound.driver_in in
      let lead = lead_most g.lead.drive refl in
      let prod = product n c in
      omega arith
    where
      in_cycle : (d : DriverPhase) → g.lead.drive ≡ d → (is_between d ≡ true → ⊥) → g.lead.cycle < last p
      in_cycle d e o = a.within (not_true (is_between g.lead.drive) (λ t. o (sym (ap is_between e) ∙ t)))
        where
          not_true : (b : Bool) → (b ≡ true → ⊥) → b ≡ false
          not_true true h = absurd (h refl)
          not_true false h = refl

      lead_most : (d : DriverPhase) → g.lead.drive ≡ d → lead_drawn g.lead ≤ 5 * last p
      lead_most d e = by (is_between g.lead.drive) refl
        where
          by : (b : Bool) → is_between g.lead.drive ≡ b → 5 * g.lead.cycle + cond b 0
              (drive_drawn g.lead.drive + cond g.lead.checked 1 0) ≤ 5 * last p
          by true q = let z = a.early in omega arith
          by false q = let z = a.within q in let h = drive_most g.lead.drive in let k = one_most g.lead.checked in omega arith

      each : (k : ℕ) → k < nodes p → drawn p g k ≤ drawn_before p k + cond (eqb k p.driver) 0 (2 * p.shape.cycles)
      each k h = dite (ℕ_discrete k p.driver)
          (λ q. let z : drawn p g k ≡ 0 = ap (λ b. cond b 0 (node_drawn (g.nodes k))) (eq-eqb k p.driver q) in omega arith)
          (λ q. let z : drawn p g k ≡ node_drawn (g.nodes k) = ap (λ b. cond b 0 (node_drawn (g.nodes k))) (ne_eqb k p.driver q) in
          let y : drawn_before p k ≡ 2 * first p = ap (λ b. cond b 0 (2 * first p)) (ne_eqb k p.driver q) in
          let x : cond (eqb k p.driver) 0 (2 * p.shape.cycles) ≡ 2 * p.shape.cycles =
          ap (λ b. cond b 0 (2 * p.shape.cycles)) (ne_eqb k p.driver q) in
          let m = follower k h q in omega arith)
        where
          follower : (k : ℕ) → k < nodes p → k ≢ p.driver → node_drawn (g.nodes k) ≤ 2 * last p
          follower k h q = phase_most (length (p.targets k)) g.lead.cycle (g.nodes k).next (last p) (g.nodes k).phase (a.followers k h q)
              (λ e. idle_most e) (λ busy. busy_most busy)
            where
              busy_most : ((g.nodes k).phase ≡ Idle → ⊥) → g.lead.cycle < last p
              busy_most busy = in_cycle g.lead.drive refl (λ t. busy (a.resting (between_resets g.lead.drive t) k h q).1)

              idle_most : (g.nodes k).phase ≡ Idle → (g.nodes k).next ≤ last p
              idle_most e = by (is_between g.lead.drive) refl
                where
                  by : (b : Bool) → is_between g.lead.drive ≡ b → (g.nodes k).next ≤ last p
                  by true t = let z = (a.resting (between_resets g.lead.drive t) k h q).0 in let y = a.early in omega arith
                  by false t = let z = a.within t in let ok : PhaseOk (length (p.targets k)) g.lead.cycle (g.nodes k).next Idle =
                      subst (λ (f : Phase). PhaseOk (length (p.targets k)) g.lead.cycle (g.nodes k).next f) e (a.followers k h q) in
                      let w = ok.1 in omega arith
