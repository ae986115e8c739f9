-- What the driver's seat knows from load to load of a check.
use Rattle.std.proofs.Common.{◌≡◌, ◌+◌, ◌≢◌, ℕ, zero, suc, ◌<◌, ◌≤◌, Bool, true, false, cond, eqb, List, [], ◌∷◌, ◌++◌, map, refl, sym}
use Rattle.std.proofs.Common.{ap, ◌∙◌, subst, arith, eq-eqb, ne_eqb}
use Rattle.std.specs.Prelude.{Contains}
use mathlib.Core.Logic.{dite}
use native.Mathlib.Decide.{ℕ_discrete}
use Rattle.board_rule.specs.declared.view.DriverPhase.TheVariants as drives
use Rattle.board_rule.specs.declared.view.Found.{Found}
use Rattle.board_rule.specs.declared.view.View.{View}
use Rattle.pw_graph.specs.Words.{finished_word}
use Rattle.pw_graph.specs.declared.event.Event.TheVariants.{Tick}
use Rattle.pw_graph.specs.Layout.{event_count}
use Rattle.board_rule.specs.Layout.{BoardLayout, IsSound, nodes}
use Rattle.board_rule.specs.View.{view_trail, view_lead}
use Rattle.board_rule.specs.events.Bits.{with_bit}
use Rattle.board_rule.specs.Steps.{HasNode}
use Rattle.board_rule.specs.events.EventSteps.{Draws, draws, CanDrawLead, lead_draws, draw_trail, Looks, late_of, StoresLate, late_stored}
use Rattle.board_rule.specs.events.EventSteps.{StoresEvent, event_stored}
use Rattle.activation_words.specs.CycleCalls.{followers, HasChecked}
use Rattle.activation_words.specs.working.Checks.{tick_drawn, LooksAt, IsLooking}

front : {A : Type 0} (xs : List A) (x y : A) → Contains xs y → Contains (x ∷ xs) y
front xs x y c = (suc c.0, (let h = c.1 in omega arith), c.2)

here : {A : Type 0} (xs : List A) (x : A) → Contains (x ∷ xs) x
here xs x = (zero, omega arith, refl)

cases : (x : ℕ) (xs : List ℕ) (y : ℕ) → Contains (x ∷ xs) y → (x ≡ y → ⊥) → Contains xs y
cases x xs y (zero, h, e) o = absurd (o e)
cases x xs y (suc k, h, e) o = (k, omega arith, e)

module _ (p : BoardLayout) (sound : IsSound p) where
  -- the followers among the first indexes have their indexes there
  pub placed : (k n : ℕ) → k ≤ nodes p → Contains (followers p k) n → p.index n < k
  placed zero n h c = absurd (let l = c.1 in omega arith)
  placed (suc k) n h c = by (eqb k p.driver) c (λ d. placed k n (omega arith) d)
    where
      by : (b : Bool) → Contains (cond b (followers p k) (p.number k ∷ followers p k)) n → (Contains (followers p k) n → p.index n < k)
          → p.index n < suc k
      by true d less = let l = less d in omega arith
      by false d less = dite (ℕ_discrete (p.number k) n)
          (λ (q : p.number k ≡ n). let e : p.index n ≡ k = ap p.index (sym q) ∙ sound.at k (omega arith) in omega arith)
          (λ q. let l = less (cases (p.number k) (followers p k) n d q) in omega arith)

  pub not_yet : (k : ℕ) → k < nodes p → Contains (followers p k) (p.number k) → ⊥
  not_yet k h c = let l = placed k (p.number k) (omega arith) c in let e = sound.at k h in omega arith

  -- each follower is among them in the end
  pub all_there : (k n : ℕ) → n < k → n ≢ p.driver → Contains (followers p k) (p.number n)
  all_there zero n h o = absurd (omega arith)
  all_there (suc k) n h o = dite (ℕ_discrete n k)
      (λ (q : n ≡ k). subst (λ b. Contains (cond b (followers p k) (p.number k ∷ followers p k)) (p.number n))
      (sym (ne_eqb k p.driver (λ e. o (q ∙ e)))) (subst (λ j. Contains (p.number k ∷ followers p k) (p.number j)) (sym q)
      (here (followers p k) (p.number k))))
      (λ (q : n ≢ k). by (eqb k p.driver) (all_there k n (omega arith) o))
    where
      by : (b : Bool) → Contains (followers p k) (p.number n) → Contains (cond b (followers p k) (p.number k ∷ followers p k)) (p.number n)
      by true c = c
      by false c = front (followers p k) (p.number k) (p.number n) c

  module _ (v : View) where
    pub tick_draws : HasNode true p v p.driver → v.lead.drive ≡ drives.Waiting → v.lead.checked ≡ false → Draws true p v p.driver
    tick_draws has waits free = (has, subst (CanDrawLead v.lead.checked) (sym waits) free)

    pub tick_is : (t : ℕ) → v.lead.drive ≡ drives.Waiting → draws true v p.driver t ≡ tick_drawn v t
    tick_is t waits = λ j. view_lead v (lead_draws v.lead t (waits j)) (draw_trail v.trail (waits j))

    pub can_look : (k late : ℕ) (w : View) → k < nodes p → HasNode true p v p.driver → v.lead.drive ≡ drives.Checking
        → IsLooking p v k late w → k ≢ p.driver → Looks p w k
    can_look k late w h has checking r other = subst (λ (z : View). Looks p z k) (sym r.is)
        (has, checking, h, other, (λ c. not_yet k h (subst (λ (l : List ℕ). Contains l (p.number k)) r.looks c)))

    pub look_next : (k late now : ℕ) (w u : View) → IsLooking p v k late w → LooksAt p w k late v.lead.cycle u now
        → IsLooking p v (suc k) now u
    look_next k late now w u r l = dite (ℕ_discrete k p.driver)
        (λ e. let a = l.0 e in record {
          looks = ap (λ (z : View). map (λ (f : Found). f.node) z.trail.looks) a.0 ∙ r.looks
              ∙ sym (ap (λ b. cond b (followers p k) (p.number k ∷ followers p k)) (eq-eqb k p.driver e));
          late_is = a.1 ∙ r.late_is ∙ sym (ap (λ (z : View). late_of v.lead.cycle z.trail.looks) a.0);
          is = a.0 ∙ r.is ∙ sym (ap (λ (z : View). view_trail v (record v.trail { looks = z.trail.looks })) a.0);
        })
        (λ o. let a = l.1 o in let found : ℕ = a.0 in let s : List Found = record { node = p.number k; word = found } ∷ w.trail.looks in
        let looks : u.trail.looks ≡ s = ap (λ (z : View). z.trail.looks) a.1 in record {
          looks = ap (λ l. map (λ (f : Found). f.node) l) looks ∙ ap (λ l. p.number k ∷ l) r.looks
              ∙ sym (ap (λ b. cond b (followers p k) (p.number k ∷ followers p k)) (ne_eqb k p.driver o));
          late_is = a.2 ∙ ap (λ j. cond (eqb found (finished_word v.lead.cycle)) j (with_bit j (p.number k))) r.late_is
              ∙ sym (ap (late_of v.lead.cycle) looks);
          is = a.1 ∙ ap (λ (z : View). view_trail z (record z.trail { looks = record { node = p.number k; word = found } ∷ z.trail.looks }))
              r.is ∙ sym (ap (λ l. view_trail v (record v.trail { looks = l })) looks);
        })

    pub stores : (late : ℕ) (w : View) → HasNode true p v p.driver → v.lead.drive ≡ drives.Checking → IsLooking p v (nodes p) late w
        → StoresLate p w late
    stores late w has checking r = let a : late ≡ late_of w.lead.cycle w.trail.looks = r.late_is
        ∙ sym (ap (λ (z : View). late_of z.lead.cycle w.trail.looks) r.is) in (
          subst (λ (z : View). HasNode true p z p.driver) (sym r.is) has,
          ap (λ (z : View). z.lead.drive) r.is ∙ checking,
          a,
          (λ n h o. subst (λ (l : List ℕ). Contains l (p.number n)) (sym r.looks) (all_there (nodes p) n h o)),
        )

  module _ (v : View) (t : ℕ) (low : t < event_count p.shape) where
    -- the event of the Tick
    pub tick_stores : (late : ℕ) (w : View) → HasNode true p v p.driver → IsLooking p (tick_drawn v t) (nodes p) late w
        → StoresEvent true p (late_stored w) p.driver
    tick_stores late w has r = subst (λ (z : View). StoresEvent true p (late_stored z) p.driver) (sym r.is) (has, tt, low)

    pub checked : (late : ℕ) (w u : View) → v.lead.drive ≡ drives.Waiting → IsLooking p (tick_drawn v t) (nodes p) late w
        → u ≡ event_stored true (late_stored w) p.driver → HasChecked p v late u
    checked late w u waits r is =
        let whole : u ≡ view_lead v (record v.lead {
          checked = true;
          checks = v.lead.checks + 1;
          drive = drives.Waiting;
          lates = v.lead.lates ++ Tick v.lead.cycle (late_of v.lead.cycle w.trail.looks) ∷ [];
          ticket = t;
        }) (record v.trail { looks = w.trail.looks }) = is ∙ ap (λ (z : View). event_stored true (late_stored z) p.driver) r.is in
        let looks : u.trail.looks ≡ w.trail.looks = ap (λ (z : View). z.trail.looks) whole in record {
          ticket = t;
          drawn = low;
          looks = ap (λ l. map (λ (f : Found). f.node) l) looks ∙ r.looks;
          late_is = r.late_is ∙ sym (ap (late_of v.lead.cycle) looks);
          is = whole ∙ (λ j. view_lead v (record v.lead {
            checked = true;
            checks = v.lead.checks + 1;
            drive = sym waits j;
            lates = v.lead.lates ++ Tick v.lead.cycle (sym r.late_is j) ∷ [];
            ticket = t;
          }) (record v.trail { looks = sym looks j }));
        }
