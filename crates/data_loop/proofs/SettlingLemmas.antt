-- A loop on the board of its epoch, from turn to turn, and its end.
use Rattle.std.proofs.Common.{◌≡◌, ◌≢◌, ℕ, zero, suc, ◌<◌, Bool, true, false, true≢false, not, List, [], ◌∷◌, ◌++◌, cond, length, map, filter, get_or, refl, sym, ap, ◌∙◌, subst, arith, ⊎_elim}
use Rattle.std.proofs.Common.{slice_get}
use Rattle.std.specs.Prelude.{All, eqb}
use Rattle.std.proofs.lemmas.List.Elements.{All-cons, All-nil}
use Rattle.std.proofs.lemmas.Bool.{cases_Bool, cases_eq, ne_eqb, cond-true, cond-false}
use Rattle.atomic_table.specs.Seated.{TableId}
use Rattle.pw_graph.specs.declared.plan.Epoch.{Epoch}
use Rattle.pw_graph.specs.PlanFresh.{IsEpoch}
use Rattle.board_rule.specs.declared.view.View.{View}
use Rattle.board_rule.specs.Layout.{BoardLayout, last}
use Rattle.data_loop.specs.declared.loop_state.LoopState.{LoopState}
use Rattle.data_loop.specs.declared.member.Member.{Member}
use Rattle.data_loop.specs.declared.epoch_state.EpochState.{EpochState}
use Rattle.data_loop.specs.LoopTurn.{next_in, has_left, is_behind, turn_order, HaveTried}
use Rattle.data_loop.specs.Members.{members_of, drivers_of}
use Rattle.data_loop.specs.Loops.{plan_of, HasEpochState}
use Rattle.data_loop.specs.LoopsOnBoards.{IsOnBoard, IsSameBut, HasTurnedOnce}
use Rattle.data_loop.specs.declared.did.Did.TheVariants.{Idle}
use Rattle.data_loop.specs.Settling.{HasLedAll, HasHadTurns, HasSettled}

pub same_but_refl : (s : LoopState) → IsSameBut s s
same_but_refl s = record {
  run_model = refl;
  nodes = refl;
  epoch = refl;
  epoch_states = λ k ne. refl;
}

pub same_but_on : (s t u : LoopState) → IsSameBut s t → IsSameBut t u → IsSameBut s u
same_but_on s t u a b = record {
  run_model = b.run_model ∙ a.run_model;
  nodes = b.nodes ∙ a.nodes;
  epoch = b.epoch ∙ a.epoch;
  epoch_states = λ k ne. b.epoch_states k (λ is. ne (is ∙ a.epoch)) ∙ a.epoch_states k ne;
}

module _ (p : BoardLayout) (t : TableId) where
  pub no_turns : (s : LoopState) → IsOnBoard p t s → HasHadTurns p t s s
  no_turns s on = record {
    on = on;
    same = same_but_refl s;
    led = refl;
  }

  abbrev pub more_turns : (s u w : LoopState) → HasHadTurns p t s u → HasHadTurns p t u w → HasHadTurns p t s w
  more_turns s u w a b = record {
    on = b.on;
    same = same_but_on s u w a.same b.same;
    led = b.led ∙ a.led;
  }

  -- what a loop has in the epoch stays
  module _ (s u : LoopState) (a : IsOnBoard p t s) (b : IsOnBoard p t u) (same : IsSameBut s u) where
    abbrev e : Epoch
    e = a.stands.epoch

    at : IsEpoch (plan_of u) u.epoch e
    at = (λ i. slice_get (same.run_model i).plan.value.epochs (same.epoch i)) ∙ a.stands.at

    pub same_driver : (g h : EpochState) → HasEpochState s s.epoch g → HasEpochState u u.epoch h → h.driver ≡ g.driver
    same_driver g h here there = (b.loop.parts u.epoch e h at there).driver
        ∙ (λ i. drivers_of (same.run_model i).plan.value (same.nodes i) e) ∙ sym (a.loop.parts s.epoch e g a.stands.at here).driver

    pub same_members : (g h : EpochState) → HasEpochState s s.epoch g → HasEpochState u u.epoch h → h.members ≡ g.members
    same_members g h here there = (b.loop.parts u.epoch e h at there).members
        ∙ (λ i. members_of (same.run_model i).plan.value (same.nodes i) e) ∙ sym (a.loop.parts s.epoch e g a.stands.at here).members

    pub led_all_on : u.led ≡ s.led → HasLedAll p s → HasLedAll p u
    led_all_on led all h there some = led ∙ all a.epoch_state a.here (λ none. some (same_driver a.epoch_state h a.here there ∙ none))

-- no member has cycles left where none was tried
none_passes : (q : Member → Bool) (ms : List Member) → length (filter q ms) ≡ 0 → All (λ m. q m ≡ false) ms
none_passes q [] none k d low = absurd (omega (arith, low))
none_passes q (m ∷ ms) none k d low = ⊎_elim
    (λ (yes : q m ≡ true). let some = sym (ap (λ (l : List Member). length l) (cond-true (q m) (m ∷ filter q ms) (filter q ms) yes)) ∙ none in
    absurd (omega (arith, some)))
    (λ (off : q m ≡ false). let rest = sym (ap (λ (l : List Member). length l) (cond-false (q m) (m ∷ filter q ms) (filter q ms) off)) ∙ none in
    by (λ i. none_passes q ms rest i d) k off low)
    (cases_Bool (q m))
  where
    by : ((i : ℕ) → i < length ms → q (get_or ms i d) ≡ false) → (k : ℕ) → q m ≡ false → k < suc (length ms) → q (get_or (m ∷ ms) k d) ≡ false
    by rest zero off low = off
    by rest (suc k) off low = rest k (omega (arith, low))

ended_is : (a b : ℕ) → not (eqb a b) ≡ false → a ≡ b
ended_is a b off = ⊎_elim
    (λ (is : a ≡ b). is)
    (λ (ne : a ≢ b). absurd (true≢false (sym (ap not (ne_eqb a b ne)) ∙ off)))
    (cases_eq a b)

pub none_left : (p : BoardLayout) (v w : View) (ms : List Member) → HaveTried p v ms [] w → All (λ m. next_in p w m.node ≡ last p) ms
none_left p v w ms h k d low = let m : Member = get_or ms k d in
    ap (λ (x : View). next_in p x m.node) h.still
    ∙ ended_is (next_in p v m.node) (last p)
    (none_passes (has_left p v) ms (by (filter (has_left p v) ms) h.nodes) k d low)
  where
    by : (l : List Member) → map (λ (t : ℕ × ℕ). t.0) [] ≡ map (λ m. m.node) l → length l ≡ 0
    by [] is = refl
    by (m ∷ l) is = absurd (omega (arith, ap (λ (x : List ℕ). length x) is))

all_left : (P : Member → Type 0) (a b : List Member) → All P (a ++ b) → All P a
all_left P [] b h = All-nil P
all_left P (m ∷ ms) b h = All-cons P m ms (h 0 m (omega arith)) (all_left P ms b (λ k d low. h (suc k) d (omega (arith, low))))

all_right : (P : Member → Type 0) (a b : List Member) → All P (a ++ b) → All P b
all_right P [] b h = h
all_right P (m ∷ ms) b h = all_right P ms b (λ k d low. h (suc k) d (omega (arith, low)))

-- what holds of all in the order of a turn holds of all
all_parts : (q : Member → Bool) (P : Member → Type 0) (ms : List Member) → All P (filter q ms) → All P (filter (λ m. not (q m)) ms) → All P ms
all_parts q P [] a b = All-nil P
all_parts q P (m ∷ ms) a b = by (q m) a b (λ c e. all_parts q P ms c e)
  where
    by : (t : Bool) → All P (cond t (m ∷ filter q ms) (filter q ms))
        → All P (cond (not t) (m ∷ filter (λ x. not (q x)) ms) (filter (λ x. not (q x)) ms))
        → (All P (filter q ms) → All P (filter (λ x. not (q x)) ms) → All P ms) → All P (m ∷ ms)
    by true a b rest = All-cons P m ms (a 0 m (omega arith)) (rest (λ k d low. a (suc k) d (omega (arith, low))) b)
    by false a b rest = All-cons P m ms (b 0 m (omega arith)) (rest a (λ k d low. b (suc k) d (omega (arith, low))))

pub all_ordered : (p : BoardLayout) (v : View) (ms : List Member) (P : Member → Type 0) → All P (turn_order p v ms) → All P ms
all_ordered p v ms P h = let one = filter (is_behind p v ms) ms in let two = filter (λ m. not (is_behind p v ms m)) ms in
    all_parts (is_behind p v ms) P ms (all_left P one two h) (all_right P one two h)

-- an idle turn that found no try too early
module _ (p : BoardLayout) (t : TableId) (s u : LoopState) (before : IsOnBoard p t s) (turned : HasHadTurns p t s u) where
  pub settled_by : All (λ m. next_in p turned.on.epoch_state.seat.knows m.node ≡ last p) before.epoch_state.members → HasSettled p t s u
  settled_by h = let e = ended_here in record {
    turned = turned;
    ended = e;
    end = λ all. record {
      on = turned.on;
      ended = e;
      led = led_all_on p t s u before turned.on turned.same turned.led all turned.on.epoch_state turned.on.here;
    };
  }
    where
      ended_here : All (λ m. next_in p turned.on.epoch_state.seat.knows m.node ≡ last p) turned.on.epoch_state.members
      ended_here = subst (All (λ m. next_in p turned.on.epoch_state.seat.knows m.node ≡ last p))
          (sym (same_members p t s u before turned.on turned.same before.epoch_state turned.on.epoch_state before.here turned.on.here))
          h

-- and after turns before it
pub settled_after : (p : BoardLayout) (t : TableId) (s u w : LoopState) → IsOnBoard p t s → HasHadTurns p t s u → HasSettled p t u w → HasSettled p t s w
settled_after p t s u w on a b = record {
  turned = more_turns p t s u w a b.turned;
  ended = b.ended;
  end = λ all. b.end (led_all_on p t s u on a.on a.same a.led all);
}

-- an idle turn that found no try too early, by the number of its tries
pub nothing : (l : List (ℕ × ℕ)) → length l ≡ 0 → l ≡ []
nothing [] none = refl
nothing (x ∷ l) none = absurd (omega (arith, none))

pub settled_idle : (p : BoardLayout) (t : TableId) (s u : LoopState) → IsOnBoard p t s → HasHadTurns p t s u → HasTurnedOnce p s Idle u
    → length u.found.items ≡ 0 → HasSettled p t s u
settled_idle p t s u before turned did none = settled_by p t s u before turned
    (all_ordered p before.epoch_state.seat.knows before.epoch_state.members (λ m. next_in p turned.on.epoch_state.seat.knows m.node ≡ last p)
    (none_left p before.epoch_state.seat.knows turned.on.epoch_state.seat.knows (turn_order p before.epoch_state.seat.knows before.epoch_state.members)
    (subst (λ l. HaveTried p before.epoch_state.seat.knows (turn_order p before.epoch_state.seat.knows before.epoch_state.members) l turned.on.epoch_state.seat.knows)
    (nothing u.found.items none) (did before.epoch_state turned.on.epoch_state before.here turned.on.here))))
