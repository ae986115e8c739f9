-- A try of one node: of the members it is one, or none.
use Rattle.std.proofs.Common.{◌≡◌, ◌≢◌, ℕ, zero, suc, ◌+◌, ◌<◌, ◌==◌, List, [], ◌∷◌, ◌++◌, length, filter, get_or}
use Rattle.std.proofs.Common.{refl, sym, ap, ◌∙◌, subst, arith}
use Rattle.std.specs.Prelude.{All, AllPairs}
use Rattle.std.proofs.lemmas.Bool.{eq-eqb, ne_eqb, cond-true, cond-false}
use Rattle.atomic_table.specs.Seated.{TableId}
use Rattle.pw_graph.specs.Words.{triggered_word}
use Rattle.board_rule.specs.declared.view.NodeView.{NodeView}
use Rattle.board_rule.specs.declared.view.View.{View}
use Rattle.board_rule.specs.Layout.{BoardLayout, nodes, last}
use Rattle.board_rule.specs.Steps.{tried}
use Rattle.node_state.specs.declared.node_state.NodeState.{NodeState}
use Rattle.node_progress.specs.declared.run_model.RunModel.{RunModel}
use Rattle.data_loop.specs.declared.member.Member.{Member}
use Rattle.data_loop.specs.declared.rows.Rows.{Rows}
use Rattle.data_loop.specs.declared.epoch_state.EpochState.{EpochState}
use Rattle.data_loop.specs.turns.Turning.{IsAtRest, HasTurned}
use Rattle.data_loop.specs.EpochStates.{AreApart, IsStanding}
use Rattle.data_loop.specs.Tries.{no_member, member_at}
use Rattle.data_loop.specs.LoopTurn.{next_in, HaveTried}
use Rattle.data_loop.specs.LoopTries.{members_at, HasRunAt}
use Rattle.data_loop.proofs.turns.EndsLemmas.{same_node}
use Rattle.data_loop.proofs.HaveTriedLemmas.{none_tried, one_ended, one_tried}

members_none : (n : ℕ) (ms : List Member) → All (λ m. m.node ≢ n) ms → members_at n ms ≡ []
members_none n [] h = refl
members_none n (m ∷ ms) h = cond-false (m.node == n) (m ∷ filter (λ x. x.node == n) ms) (filter (λ x. x.node == n) ms)
    (ne_eqb m.node n (h 0 m (omega arith)))
    ∙ members_none n ms (λ k d low. h (suc k) d (omega (arith, low)))

members_one : (n : ℕ) (ms : List Member) (i : ℕ) → AllPairs AreApart ms → i < length ms → (get_or ms i no_member).node ≡ n
    → members_at n ms ≡ get_or ms i no_member ∷ []
members_one n [] i apart low is = absurd (omega (arith, low))
members_one n (m ∷ ms) zero apart low is = cond-true (m.node == n) (m ∷ filter (λ x. x.node == n) ms) (filter (λ x. x.node == n) ms)
    (eq-eqb m.node n is)
    ∙ ap (λ l. m ∷ l) (members_none n ms (λ k d below e. (apart 0 (suc k) d (omega arith) (omega (arith, below))).1 (is ∙ sym e)))
members_one n (m ∷ ms) (suc i) apart low is = cond-false (m.node == n) (m ∷ filter (λ x. x.node == n) ms) (filter (λ x. x.node == n) ms)
    (ne_eqb m.node n (λ e. (apart 0 (suc i) no_member (omega arith) low).1 (e ∙ sym is)))
    ∙ members_one n ms i (λ a b d less high. apart (suc a) (suc b) d (omega (arith, less)) (omega (arith, high))) (omega (arith, low)) is

-- a node that is no member
pub none_at : (p : BoardLayout) (v : View) (n : ℕ) (ms : List Member) (found : List (ℕ × ℕ)) → found ≡ [] → All (λ m. m.node ≢ n) ms
    → HaveTried p v (members_at n ms) found v
none_at p v n ms found empty h = subst (λ l. HaveTried p v l found v) (sym (members_none n ms h)) (none_tried p v found empty)

-- the member at an index
module _ (run_model : RunModel) (k : ℕ) (p : BoardLayout) (t : TableId) (g : EpochState) (states : List NodeState) (rows : Rows)
    (st : IsStanding run_model k p t g states rows) (i : ℕ) (low : i < length g.members) (n : ℕ) (is : (member_at g i).node ≡ n)
    (found : List (ℕ × ℕ)) (empty : found ≡ []) where
  abbrev m : Member
  m = member_at g i

  abbrev v : View
  v = g.seat.knows

  one : members_at n g.members ≡ m ∷ []
  one = members_one n g.members i st.apart low is

  none_yet : HaveTried p v [] found v
  none_yet = none_tried p v found empty

  inside : p.index m.node < nodes p
  inside = (st.rests i no_member low).0.member.2

  pub ended_at : next_in p v m.node ≡ last p → (w : View) → w ≡ v → HaveTried p v (members_at n g.members) found w
  ended_at ended w same = subst (λ (x : List Member × View). HaveTried p v x.0 found x.1) (λ j. (sym one j, sym same j))
      (one_ended p v [] m found v none_yet ended)

  pub tried_at : next_in p v m.node ≢ last p → (x : ℕ) → x ≢ triggered_word (next_in p v m.node) → (u : View)
      → u ≡ tried p v (p.index m.node) x → HaveTried p v (members_at n g.members) (found ++ (n, x) ∷ []) u
  tried_at some x other u after = subst (λ (y : List Member × ℕ). HaveTried p v y.0 (found ++ (y.1, x) ∷ []) u) (λ j. (sym one j, is j))
      (one_tried p v [] m found v none_yet st.equipped.plain inside some x other u after)

  pub ran_at : (h : EpochState) → HasTurned p v g.own (p.index m.node) h.seat.knows h.own → HasRunAt p g n h
  ran_at h turned = record {
    index = i;
    inside = low;
    node = is;
    later = subst (λ a. next_in p h.seat.knows a ≡ next_in p v a + 1) is turned.later;
    others = λ x own other.
        let rest : IsAtRest p v g.own (p.index x.node) = subst (λ y. IsAtRest p v g.own (p.index y.node)) own.2 (st.rests own.0 x own.1) in
        let apart : p.index x.node ≢ p.index m.node = λ e. other (same_node p st.equipped.plain m.node inside x.node
        (subst (λ a. a < nodes p) (sym e) inside) e ∙ is) in
        ap (λ (y : NodeView). y.next) (turned.others (p.index x.node) apart rest).1;
  }
