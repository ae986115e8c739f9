-- How far the members of a loop are.
use Rattle.std.proofs.Common.{◌≡◌, ◌≢◌, ℕ, zero, suc, ◌+◌, ◌<◌, ◌≤◌, min, true, List, [], ◌∷◌, ◌++◌, length, fold, filter, get_or, take}
use Rattle.std.proofs.Common.{refl, sym, ap, ◌∙◌, subst, arith, cond}
use Rattle.std.specs.Prelude.{All}
use Rattle.std.proofs.lemmas.Bool.{ne_eqb}
use Rattle.std.proofs.lemmas.List.{take_more, take_all}
use Rattle.std.proofs.lemmas.List.Elements.{All-append, All-cons, All-nil}
use Rattle.atomic_table.specs.Seated.{TableId}
use Rattle.board_rule.specs.declared.view.View.{View}
use Rattle.board_rule.specs.Layout.{BoardLayout, first, last}
use Rattle.node_state.specs.declared.node_state.NodeState.{NodeState}
use Rattle.node_progress.specs.declared.run_model.RunModel.{RunModel}
use Rattle.data_loop.specs.declared.progress.Progress.{Progress}
use Rattle.data_loop.specs.declared.member.Member.{Member}
use Rattle.data_loop.specs.declared.rows.Rows.{Rows}
use Rattle.data_loop.specs.declared.epoch_state.EpochState.{EpochState}
use Rattle.data_loop.specs.Progress.{first_progress, AreOwn, NoneAt, IsProgressOf, is_chosen}
use Rattle.data_loop.specs.EpochStates.{IsStanding}
use Rattle.data_loop.specs.Tries.{no_member}
use Rattle.data_loop.specs.LoopTurn.{next_in, least_next}

-- all have ended no cycle
pub progress_first : (p : BoardLayout) (v : View) (members : List Member) → All (λ m. next_in p v m.node ≡ first p) members
    → IsProgressOf p v members first_progress
progress_first p v members all = record {
  floor = λ k d low. let is = all k d low in omega (arith, is);
  past = λ k d low. absurd (omega (arith, low));
}

-- in a part of the list
within : (X : Type 0) (P : X → Type 0) (l : List X) (n : ℕ) → All P l → All P (take n l)
within X P [] zero h k d low = absurd (omega (arith, low))
within X P [] (suc n) h k d low = absurd (omega (arith, low))
within X P (x ∷ l) zero h k d low = absurd (omega (arith, low))
within X P (x ∷ l) (suc n) h zero d low = h zero d (omega arith)
within X P (x ∷ l) (suc n) h (suc k) d low = within X P l n (λ i e less. h (suc i) e (omega (arith, less))) k d (omega (arith, low))

-- nobody has gone back
pub progress_on : (p : BoardLayout) (v w : View) (members : List Member) (f : Progress)
    → All (λ m. next_in p v m.node ≤ next_in p w m.node) members → IsProgressOf p v members f → IsProgressOf p w members f
progress_on p v w members f on h = record {
  floor = λ k d low. let a = h.floor k d low in let b = on k d low in omega (arith, a, b);
  past = λ k d low is.
      let a = within Member (λ m. first p + f.least ≤ next_in p v m.node) members f.from h.floor k d low in
      let b = within Member (λ m. next_in p v m.node ≤ next_in p w m.node) members f.from on k d low in
      h.past k d low (omega (arith, a, b, is));
}

-- one member more that is not there
pub none_more : (p : BoardLayout) (v : View) (members : List Member) (least i : ℕ) → i < length members
    → next_in p v (get_or members i no_member).node ≢ first p + least → NoneAt p v members least i → NoneAt p v members least (i + 1)
none_more p v members least i low ne h = subst (All (λ m. next_in p v m.node ≢ first p + least)) (sym (take_more members i no_member low))
    (All-append (λ m. next_in p v m.node ≢ first p + least) (take i members) (get_or members i no_member ∷ []) h
    (All-cons (λ m. next_in p v m.node ≢ first p + least) (get_or members i no_member) [] ne (All-nil (λ m. next_in p v m.node ≢ first p + least))))

-- the least is at most each of them, and at most the start
least_low : (p : BoardLayout) (v : View) (c : ℕ) (members : List Member)
    → (fold (λ c m. min c (next_in p v m.node)) c members ≤ c)
    × All (λ m. fold (λ c m. min c (next_in p v m.node)) c members ≤ next_in p v m.node) members
least_low p v c [] = (omega arith, λ k d low. absurd (omega (arith, low)))
least_low p v c (m ∷ ms) = let rest = least_low p v (min c (next_in p v m.node)) ms in let a = rest.0 in (
  omega (arith, a),
  λ k d low. by a rest.1 k d low,
)
  where
    by : fold (λ c m. min c (next_in p v m.node)) (min c (next_in p v m.node)) ms ≤ min c (next_in p v m.node)
        → All (λ x. fold (λ c m. min c (next_in p v m.node)) (min c (next_in p v m.node)) ms ≤ next_in p v x.node) ms → (k : ℕ) (d : Member)
        → k < suc (length ms) → fold (λ c m. min c (next_in p v m.node)) (min c (next_in p v m.node)) ms ≤ next_in p v (get_or (m ∷ ms) k d).node
    by a all zero d low = omega (arith, a)
    by a all (suc k) d low = all k d (omega (arith, low))

-- and not below what all of them reach
least_high : (p : BoardLayout) (v : View) (c floor : ℕ) (members : List Member) → floor ≤ c → All (λ m. floor ≤ next_in p v m.node) members
    → floor ≤ fold (λ c m. min c (next_in p v m.node)) c members
least_high p v c floor [] start all = start
least_high p v c floor (m ∷ ms) start all = let a = all 0 m (omega arith) in
    least_high p v (min c (next_in p v m.node)) floor ms (omega (arith, start, a)) (λ k d low. all (suc k) d (omega (arith, low)))

pub least_is : (p : BoardLayout) (v : View) (members : List Member) (n i : ℕ) → All (λ m. first p + n ≤ next_in p v m.node) members
    → i < length members → next_in p v (get_or members i no_member).node ≡ first p + n
    → next_in p v (get_or members i no_member).node ≤ last p → first p + n ≡ least_next p v members
least_is p v members n i floor low is high =
    let a = (least_low p v (last p) members).1 i no_member low in
    let b = least_high p v (last p) (first p + n) members (omega (arith, is, high)) floor in
    omega (arith, a, b, is)

pub least_floor : (p : BoardLayout) (v : View) (members : List Member) → All (λ m. least_next p v members ≤ next_in p v m.node) members
least_floor p v members = (least_low p v (last p) members).1

-- one member more
pub least_more : (p : BoardLayout) (v : View) (members : List Member) (i : ℕ) → i < length members
    → fold (λ c m. min c (next_in p v m.node)) (last p) (take (i + 1) members)
    ≡ min (fold (λ c m. min c (next_in p v m.node)) (last p) (take i members)) (next_in p v (get_or members i no_member).node)
least_more p v members i low = ap (fold (λ c m. min c (next_in p v m.node)) (last p)) (take_more members i no_member low)
    ∙ by (last p) (take i members)
  where
    by : (c : ℕ) (l : List Member) → fold (λ c m. min c (next_in p v m.node)) c (l ++ get_or members i no_member ∷ [])
        ≡ min (fold (λ c m. min c (next_in p v m.node)) c l) (next_in p v (get_or members i no_member).node)
    by c [] = refl
    by c (m ∷ ms) = by (min c (next_in p v m.node)) ms

-- no member in the whole list
pub none_all : (p : BoardLayout) (v : View) (members : List Member) (least i n : ℕ) → length members ≤ i → n ≡ length members
    → NoneAt p v members least i → NoneAt p v members least n
none_all p v members least i n past is h = subst (All (λ m. next_in p v m.node ≢ first p + least))
    (take_all i members past ∙ sym (take_all n members (omega (arith, is)))) h

-- those before the index of the progress are not chosen
pub none_chosen : (p : BoardLayout) (v : View) (members : List Member) (least : ℕ)
    → All (λ m. next_in p v m.node ≢ first p + least) members → filter (is_chosen p v least true) members ≡ []
none_chosen p v [] least none = refl
none_chosen p v (m ∷ ms) least none = ap (λ b. cond b (m ∷ filter (is_chosen p v least true) ms) (filter (is_chosen p v least true) ms))
    (ne_eqb (next_in p v m.node) (first p + least) (none 0 m (omega arith)))
    ∙ none_chosen p v ms least (λ k d low. none (suc k) d (omega (arith, low)))

-- the progress moves on
pub with_progress : (run_model : RunModel) (k : ℕ) (p : BoardLayout) (t : TableId) (g : EpochState) (states : List NodeState) (rows : Rows) (f : Progress)
    → IsProgressOf p g.seat.knows g.members f → IsStanding run_model k p t g states rows → IsStanding run_model k p t (record g { progress = f }) states rows
with_progress run_model k p t g states rows f h st = record {
  sound = st.sound;
  waves = st.waves;
  epoch = st.epoch;
  at = st.at;
  shape = st.shape;
  table = st.table;
  expect = st.expect;
  equipped = st.equipped;
  members = st.members;
  apart = st.apart;
  rests = st.rests;
  each = st.each;
  room = st.room;
  progress = h;
}

-- all members are the seat's
pub all_own : (run_model : RunModel) (k : ℕ) (p : BoardLayout) (t : TableId) (g : EpochState) (states : List NodeState) (rows : Rows)
    → IsStanding run_model k p t g states rows → AreOwn p g.seat.knows g.members
all_own run_model k p t g states rows st i d low = (st.rests i d low).0.member
