-- The activation rule and the event rule after a step on a word of the buffer rule, which leaves their words and all phases.
use Rattle.std.proofs.Common.{◌≡◌, ◌≢◌, ℕ, suc, ◌+◌, ◌-◌, ◌<◌, ◌≤◌, ◌⊎◌, ⊎_elim, List, set, get_or, sym, ◌∙◌}
use Rattle.std.proofs.Common.{subst, arith, get_or-set_other}
use Rattle.std.proofs.lemmas.Option.{slice_get_within}
use Rattle.std.proofs.lemmas.List.Elements.{All-contains}
use Rattle.atomic_table.specs.Table.{State, keeps, stepped}
use Rattle.pw_graph.specs.declared.event.Event.TheVariants.{Tick}
use Rattle.pw_graph.specs.EventWords.{event_cycle, event_node, event_word_of}
use Rattle.pw_graph.specs.Layout.{pending_place, status_place, late_place, event_place, event_count}
use Rattle.board_rule.specs.declared.view.DriverPhase.{DriverPhase}
use Rattle.board_rule.specs.declared.view.DriverPhase.TheVariants as drives
use Rattle.board_rule.specs.declared.view.View.{View}
use Rattle.board_rule.specs.Layout.{BoardLayout, IsSound, nodes, first}
use Rattle.board_rule.specs.View.{Whole}
use Rattle.board_rule.specs.activation.ActivationRule.{Progress, NodeOk, Activations, Runs, Resets, Words, progress, left, debts}
use Rattle.board_rule.specs.events.EventRule.{Events, IsHeld, marks}
use Rattle.board_rule.specs.buffers.BufferRule.{Buffers}
use Rattle.board_rule.specs.buffers.BlockReadings.{Ends}
use Rattle.board_rule.specs.buffers.Spans.{spans}
use Rattle.board_rule.specs.BoardRule.{Seated, Holds}
use Rattle.board_rule.proofs.events.TicketLemmas.{few_tickets}
use Rattle.board_rule.proofs.buffers.BuffersStayLemmas.{IsBufferWord}
use Rattle.board_rule.proofs.buffers.HolderLemmas.{with_ends}

module _ (p : BoardLayout) where
  module _ (ws after : List ℕ) (pending : (n : ℕ) → n < nodes p
      → get_or after (pending_place p.shape n) 0 ≡ get_or ws (pending_place p.shape n) 0)
      (status : (n : ℕ) → n < nodes p → get_or after (status_place p.shape n) 0 ≡ get_or ws (status_place p.shape n) 0) where
    runs_stay : (c : ℕ) (s : Progress) → Runs p c s ws → Runs p c s after
    runs_stay c s r = record {
      node = λ n h. subst (λ (k : ℕ × ℕ). NodeOk c k.0 k.1 (s.stage n) (left p s n) (debts p s n))
          (λ i. (sym (pending n h) i, sym (status n h) i)) (r.node n h);
    }

    resets_stay : (c i k : ℕ) → Resets p c i k ws → Resets p c i k after
    resets_stay c i k r = record {
      pending_new = λ n h l. pending n h ∙ r.pending_new n h l;
      pending_old = λ n h l. pending n h ∙ r.pending_old n h l;
      status_new = λ n h l. status n h ∙ r.status_new n h l;
      status_old = λ n h l. status n h ∙ r.status_old n h l;
    }

    words_stay : (c : ℕ) (s : Progress) (d : DriverPhase) → Words p c s d ws → Words p c s d after
    words_stay c s drives.Between w = resets_stay c 0 0 w
    words_stay c s drives.BeginDrawn w = resets_stay c 0 0 w
    words_stay c s (drives.Reset i) w = resets_stay c i i w
    words_stay c s (drives.Half i) w = resets_stay c (suc i) i w
    words_stay c s (drives.Kick i o) w = runs_stay c s w
    words_stay c s drives.Waiting w = runs_stay c s w
    words_stay c s drives.Checking w = runs_stay c s w
    words_stay c s drives.LateStored w = runs_stay c s w
    words_stay c s drives.Awake w = runs_stay c s w
    words_stay c s drives.StartDrawn w = runs_stay c s w
    words_stay c s drives.Running w = runs_stay c s w
    words_stay c s drives.Done w = runs_stay c s w
    words_stay c s drives.FinishDrawn w = runs_stay c s w
    words_stay c s drives.FinishStored w = runs_stay c s w
    words_stay c s drives.EndDrawn w = runs_stay c s w

  -- a word of the buffer rule is no other rule's
  far : (i : ℕ) → IsBufferWord p i → nodes p + nodes p < i
  far i h = ⊎_elim (λ a. let b = a.0 in omega arith) (λ a. omega arith) h

  no_event : (i t : ℕ) → IsBufferWord p i → t < event_count p.shape → event_place p.shape t ≢ i
  no_event i t h l e = ⊎_elim (λ a. let b = a.1 in omega arith) (λ a. omega arith) h

  no_late_set : (i k : ℕ) → IsBufferWord p i → k < p.shape.cycles → late_place p.shape k ≢ i
  no_late_set i k h l e = ⊎_elim (λ a. let b = a.1 in omega arith) (λ a. omega arith) h

  active_ends : (g : Whole) (ends : Ends) (ws : List ℕ) (i x : ℕ) → IsBufferWord p i → Activations p g ws
      → Activations p (with_ends p g ends) (set ws i x)
  active_ends g ends ws i x word a = let up = far i word in record {
    later = a.later;
    early = a.early;
    within = a.within;
    drive = a.drive;
    followers = a.followers;
    resting = a.resting;
    laid = words_stay ws (set ws i x) (λ n h. get_or-set_other ws i (pending_place p.shape n) x 0 (λ z. omega arith))
        (λ n h. get_or-set_other ws i (status_place p.shape n) x 0 (λ z. omega arith)) g.lead.cycle (progress p g) g.lead.drive a.laid;
  }

  events_ends : (g : Whole) (ends : Ends) (ws : List ℕ) (i x : ℕ) → IsSound p → IsBufferWord p i → Activations p g ws → Events p g ws
      → Events p (with_ends p g ends) (set ws i x)
  events_ends g ends ws i x sound word a e = let k = e.tickets in let l = e.earlier in
      let ticket = get_or-set_other ws i 0 x 0 (λ z. let up = far i word in omega arith) in let drawn = k.drawn in
      let few = few_tickets p g (get_or ws 0 0) ws sound a e.count in let low = a.later in let high = a.early in record {
        count = let c = e.count in omega arith;
        checks = e.checks;
        lates = e.lates;
        checking = e.checking;
        fresh = e.fresh;
        tickets = record {
          drawn = ticket ∙ k.drawn;
          stored = λ t y h. let near = slice_get_within _ t y h in
              subst (λ w. (w ≡ event_word_of y) ⊎ ((w ≡ 0) × IsHeld p (marks p g) t))
              (sym (get_or-set_other ws i (event_place p.shape t) x 0 (no_event i t word (omega arith)))) (k.stored t y h);
          unused = λ t h l. get_or-set_other ws i (event_place p.shape t) x 0 (no_event i t word l) ∙ k.unused t h l;
          starts_kept = k.starts_kept;
          finishes_kept = k.finishes_kept;
          told_kept = k.told_kept;
        };
        earlier = record {
          legal = l.legal;
          before = l.before;
          lates = λ j y h. let b = All-contains (λ z. (first p ≤ event_cycle z) × (event_cycle z < g.lead.cycle) × (event_node z ≤ 63))
              g.past (Tick j y) l.before h in let b₀ = b.0 in let b₁ = b.1 in
              get_or-set_other ws i (late_place p.shape (j - first p)) x 0 (no_late_set i (j - first p) word (omega arith)) ∙ l.lates j y h;
          late_now = λ h. get_or-set_other ws i (late_place p.shape (g.lead.cycle - first p)) x 0
              (no_late_set i (g.lead.cycle - first p) word (omega arith)) ∙ l.late_now h;
          late_later = λ j h m. get_or-set_other ws i (late_place p.shape (j - first p)) x 0
              (no_late_set i (j - first p) word (omega arith)) ∙ l.late_later j h m;
        };
        inside = e.inside;
      }

  module _ {S : Type 0} where
    -- a step on a word i of the buffer rule: what the rule has to show
    pub holds_ends : (s : State S View) (r : Holds p s) (id i n : ℕ) (v : View) (carry : List (ℕ × S)) (ends : Ends) → IsBufferWord p i
        → Seated p (with_ends p r.whole ends) (set s.words i n) (set s.views id v)
        → Buffers p (spans p r.whole) ends r.whole.expect (set s.words i n)
        → Holds p (stepped s i n id carry v keeps)
    holds_ends s r id i n v carry ends word seated buffers = record {
      whole = with_ends p r.whole ends;
      seated = seated;
      activations = active_ends r.whole ends s.words i n word r.activations;
      events = events_ends r.whole ends s.words i n r.seated.sound word r.activations r.events;
      buffers = buffers;
    }
