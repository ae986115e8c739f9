-- One pass over the members of a loop, and the two of a turn.
use Rattle.std.proofs.Common.{◌≡◌, ◌≢◌, ℕ, zero, suc, ◌+◌, ◌<◌, ◌≤◌, Bool, true, false, not, eqb, List, [], ◌∷◌, ◌++◌, length, length-append, filter, get_or, take, drop}
use Rattle.std.proofs.Common.{refl, sym, ap, ◌∙◌, subst, arith, cond, ⊎_elim}
use Rattle.std.specs.Prelude.{Contains}
use Rattle.std.proofs.lemmas.Bool.{cases_eq, eq-eqb, ne_eqb}
use Rattle.std.proofs.lemmas.List.{length-map, append_assoc}
use Rattle.std.proofs.lemmas.List.Filters.{length-filter_both}
use Rattle.board_rule.specs.declared.view.View.{View}
use Rattle.board_rule.specs.Layout.{BoardLayout, first}
use Rattle.data_loop.specs.declared.did.Did.{Did}
use Rattle.data_loop.specs.declared.did.Did.TheVariants.{Ran, Idle}
use Rattle.data_loop.specs.declared.progress.Progress.{Progress}
use Rattle.data_loop.specs.declared.member.Member.{Member}
use Rattle.data_loop.specs.declared.epoch_state.EpochState.{EpochState}
use Rattle.data_loop.specs.Progress.{is_chosen, chosen_in, HasPassed}
use Rattle.data_loop.specs.Tries.{no_member}
use Rattle.data_loop.specs.LoopTurn.{next_in, has_left, least_next, is_behind, turn_order, HaveTried, HasRun, IsDid}
use Rattle.data_loop.proofs.HaveTriedLemmas.{tried_on}

-- no more tries than members
pub few_pass : (q : Member → Bool) (l : List Member) → length (filter q l) ≤ length l
few_pass q [] = omega arith
few_pass q (m ∷ ms) = by (q m) (few_pass q ms)
  where
    by : (b : Bool) → length (filter q ms) ≤ length ms → length (cond b (m ∷ filter q ms) (filter q ms)) ≤ suc (length ms)
    by true low = omega (arith, low)
    by false low = omega (arith, low)

pub few_tried : (p : BoardLayout) (v w : View) (l : List Member) (found : List (ℕ × ℕ)) → HaveTried p v l found w
    → length found ≤ length l
few_tried p v w l found h = let few = few_pass (has_left p v) l in
    let same = sym (length-map found (λ t. t.0)) ∙ ap (λ (x : List ℕ). length x) h.nodes
    ∙ length-map (filter (has_left p v) l) (λ m. m.node) in
    omega (arith, few, same)

-- a list that is gone over, at one that passes
pub split_at : (q : Member → Bool) (l : List Member) (i : ℕ) → i < length l → q (get_or l i no_member) ≡ true
    → filter q l ≡ filter q (take i l) ++ get_or l i no_member ∷ filter q (drop (suc i) l)
split_at q [] i low passes = absurd (omega (arith, low))
split_at q (m ∷ ms) zero low passes = ap (λ b. cond b (m ∷ filter q ms) (filter q ms)) passes
split_at q (m ∷ ms) (suc i) low passes = by (q m) (split_at q ms i (omega (arith, low)) passes)
  where
    by : (b : Bool) → filter q ms ≡ filter q (take i ms) ++ get_or ms i no_member ∷ filter q (drop (suc i) ms)
        → cond b (m ∷ filter q ms) (filter q ms)
        ≡ cond b (m ∷ filter q (take i ms)) (filter q (take i ms)) ++ get_or ms i no_member ∷ filter q (drop (suc i) ms)
    by true is = ap (λ l. m ∷ l) is
    by false is = is

-- what the code tests
pub chosen_is : (p : BoardLayout) (v : View) (m : Member) (least ended : ℕ) (at : Bool) → first p + ended ≡ next_in p v m.node
    → cond at (eqb ended least) (not (eqb ended least)) ≡ is_chosen p v least at m
chosen_is p v m least ended at is = ap (λ b. cond at b (not b)) (⊎_elim
    (λ (e : ended ≡ least). eq-eqb ended least e ∙ sym (eq-eqb (next_in p v m.node) (first p + least) (omega (arith, is, e))))
    (λ (ne : ended ≢ least). ne_eqb ended least ne
    ∙ sym (ne_eqb (next_in p v m.node) (first p + least) (λ e. ne (omega (arith, is, e)))))
    (cases_eq ended least))

-- the two passes of a turn
module _ (p : BoardLayout) (g : EpochState) (least : ℕ) (exact : first p + least ≡ least_next p g.seat.knows g.members) where
  abbrev v : View
  v = g.seat.knows

  behind : chosen_in p g least true ≡ filter (is_behind p v g.members) g.members
  behind = ap (λ c. filter (λ m. eqb (next_in p v m.node) c) g.members) exact

  ahead : chosen_in p g least false ≡ filter (λ m. not (is_behind p v g.members m)) g.members
  ahead = ap (λ c. filter (λ m. not (eqb (next_in p v m.node) c)) g.members) exact

  order : turn_order p v g.members ≡ chosen_in p g least true ++ chosen_in p g least false
  order = ap (λ (l : List Member × List Member). l.0 ++ l.1) (λ i. (sym behind i, sym ahead i))

  -- the first one ran a node
  pub ran_first : (f : Progress) (n : ℕ) (found : List (ℕ × ℕ)) (h : EpochState)
      → HasRun p (record g { progress = f }) (chosen_in p g least true) n found h → HasRun p g (turn_order p v g.members) n found h
  ran_first f n found h r = record {
    first = r.first;
    member = r.member;
    rest = r.rest ++ chosen_in p g least false;
    split = order ∙ ap (λ l. l ++ chosen_in p g least false) r.split ∙ append_assoc r.first (r.member ∷ r.rest) (chosen_in p g least false);
    node = r.node;
    before = r.before;
    tried = r.tried;
    later = r.later;
    others = r.others;
  }

  -- the second one, after a first one that found none awake
  module _ (g1 : EpochState) (members : g1.members ≡ g.members) (one : List (ℕ × ℕ))
      (tried_one : HaveTried p v (chosen_in p g least true) one g1.seat.knows) where
    chosen_same : chosen_in p g1 least false ≡ chosen_in p g least false
    chosen_same i = filter (is_chosen p (tried_one.still i) least false) (members i)

    pub ran_second : (n : ℕ) (found : List (ℕ × ℕ)) (h : EpochState) → HasRun p g1 (chosen_in p g1 least false) n found h
        → HasRun p g (turn_order p v g.members) n (one ++ found) h
    ran_second n found h r = record {
      first = chosen_in p g least true ++ r.first;
      member = r.member;
      rest = r.rest;
      split = order ∙ ap (λ l. chosen_in p g least true ++ l) (sym chosen_same ∙ r.split)
          ∙ sym (append_assoc (chosen_in p g least true) r.first (r.member ∷ r.rest));
      node = r.node;
      before = r.before;
      tried = tried_on p v g1.seat.knows r.before (chosen_in p g least true) r.first one found tried_one r.tried;
      later = r.later ∙ ap (λ (x : View). next_in p x n + 1) tried_one.still;
      others = λ x own other. r.others x (subst (λ l. Contains l x) (sym members) own) other
          ∙ ap (λ (y : View). next_in p y x.node) tried_one.still;
    }

    pub idle_second : (found : List (ℕ × ℕ)) (u : View) → HaveTried p g1.seat.knows (chosen_in p g1 least false) found u
        → HaveTried p v (turn_order p v g.members) (one ++ found) u
    idle_second found u t = subst (λ l. HaveTried p v l (one ++ found) u) (sym order)
        (tried_on p v g1.seat.knows u (chosen_in p g least true) (chosen_in p g least false) one found tried_one
        (subst (λ l. HaveTried p g1.seat.knows l found u) chosen_same t))

    pub did_second : (did : Did) (new : List (ℕ × ℕ)) (h : EpochState) → HasPassed p least false g1 did one new h → IsDid p g did new h
    did_second (Ran n) new h x = subst (λ l. HasRun p g (turn_order p v g.members) n l h) (sym x.1) (ran_second n x.0 h x.2)
    did_second Idle new h x = subst (λ l. HaveTried p v (turn_order p v g.members) l h.seat.knows) (sym x.1)
        (idle_second x.0 h.seat.knows x.2)

    -- there is room for the second one's tries
    pub room_second : length one + length (chosen_in p g1 least false) ≤ length g.members
    room_second = let few = few_tried p v g1.seat.knows (chosen_in p g least true) one tried_one in
        let same = ap (λ (l : List Member). length l) chosen_same in
        let both = length-filter_both (is_chosen p v least true) (is_chosen p v least false) (λ m. refl) g.members in
        omega (arith, few, same, both)

-- a turn makes at most one try of each member
pub few_did : (p : BoardLayout) (g : EpochState) (did : Did) (found : List (ℕ × ℕ)) (h : EpochState) → IsDid p g did found h
    → length found ≤ length g.members
few_did p g did found h is = by did is
  where
    order : List Member
    order = turn_order p g.seat.knows g.members

    all : length order ≡ length g.members
    all = let a = is_behind p g.seat.knows g.members in
        length-append (filter a g.members) (filter (λ m. not (a m)) g.members) ∙ length-filter_both a (λ m. not (a m)) (λ m. refl) g.members

    by : (d : Did) → IsDid p g d found h → length found ≤ length g.members
    by (Ran n) r = let few = few_tried p g.seat.knows r.before r.first found r.tried in
        let long = ap (λ (l : List Member). length l) r.split ∙ length-append r.first (r.member ∷ r.rest) in
        let same = all in
        omega (arith, few, long, same)
    by Idle t = let few = few_tried p g.seat.knows h.seat.knows order found t in let same = all in omega (arith, few, same)
