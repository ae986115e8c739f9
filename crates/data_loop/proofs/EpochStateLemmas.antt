-- A try of a member of a loop.
use Rattle.std.proofs.Common.{◌≡◌, ◌≢◌, ℕ, suc, ◌+◌, ◌<◌, ◌≤◌, false, List, length, get_or, set, refl, sym, ap, ◌∙◌, subst, arith}
use Rattle.std.proofs.Common.{⊎_elim, length-set, get_or-set_same, get_or-set_other}
use Rattle.std.specs.Prelude.{All}
use Rattle.std.proofs.lemmas.Bool.{cases_eq, cases_lt}
use Rattle.std.proofs.lemmas.List.{get_or_default}
use Rattle.atomic_table.specs.Seated.{TableId}
use Rattle.pw_graph.specs.declared.shape.Shape.{Shape}
use Rattle.board_rule.specs.declared.view.Phase.TheVariants.{Awake}
use Rattle.board_rule.specs.declared.view.NodeView.{NodeView}
use Rattle.board_rule.specs.declared.view.View.{View}
use Rattle.board_rule.specs.Layout.{BoardLayout, last, nodes}
use Rattle.board_rule.specs.View.{node_of}
use Rattle.board_rule.specs.Steps.{HasNode, woken, tried}
use Rattle.activation_words.proofs.ViewLemmas.{again}
use Rattle.activation_words.proofs.MemberLemmas.{may_claim, woken_has, woken_awake, tried_rests}
use Rattle.node_state.specs.declared.node_state.NodeState.{NodeState}
use Rattle.data_loop.specs.declared.own_pools.OwnPools.{OwnPools}
use Rattle.data_loop.specs.declared.progress.Progress.{Progress}
use Rattle.data_loop.specs.declared.member.Member.{Member}
use Rattle.data_loop.specs.declared.rows.Rows.{Rows}
use Rattle.node_progress.specs.declared.run_model.RunModel.{RunModel}
use Rattle.data_loop.specs.declared.epoch_state.EpochState.{EpochState}
use Rattle.data_loop.specs.turns.Turning.{IsEquipped, IsAtRest, MayTurn, HasTurned}
use Rattle.node_progress.specs.NodeStates.{IsNodeState}
use Rattle.data_loop.specs.Rooms.{HasRowsFor, IsSameRoom}
use Rattle.data_loop.specs.working.Standings.{IsPlayer}
use Rattle.data_loop.specs.EpochStates.{IsMemberIn, StandsAt, AreApart, IsStanding}
use Rattle.data_loop.specs.Progress.{IsProgressOf}
use Rattle.data_loop.specs.LoopTurn.{next_in}
use Rattle.data_loop.specs.Tries.{no_member, member_at}
use Rattle.data_loop.proofs.ProgressLemmas.{progress_on}
use Rattle.data_loop.proofs.turns.EndsLemmas.{same_node}
use Rattle.data_loop.proofs.turns.TurningLemmas.{even_moves, turned_whole}
use Rattle.data_loop.proofs.turns.WritingLemmas.{equipped_moves}

-- rows as long as before have room for the same
pub rows_stay : (old new : Rows) (m : Member) → IsSameRoom old new → HasRowsFor old m → HasRowsFor new m
rows_stay old new m same h = record {
  sum_a = subst (λ n. m.first_width ≤ n) (sym same.sum_a) h.sum_a;
  sum_b = subst (λ n. m.second_width ≤ n) (sym same.sum_b) h.sum_b;
  a = subst (λ n. m.first_width ≤ n) (sym same.a) h.a;
  b = subst (λ n. m.second_width ≤ n) (sym same.b) h.b;
  left = subst (λ n. m.left_width ≤ n) (sym same.left) h.left;
  right = subst (λ n. m.right_width ≤ n) (sym same.right) h.right;
}

module _ (run_model : RunModel) (k : ℕ) (p : BoardLayout) (t : TableId) (g : EpochState) (states : List NodeState) (rows : Rows)
    (st : IsStanding run_model k p t g states rows) (i : ℕ) (low : i < length g.members) where
  abbrev m : Member
  m = member_at g i

  abbrev v : View
  v = g.seat.knows

  abbrev pools : OwnPools
  pools = g.own

  abbrev mi : ℕ
  mi = p.index m.node

  pub rest : IsAtRest p v pools mi
  rest = st.rests i no_member low

  pub member_is : IsMemberIn run_model st.epoch m
  member_is = st.members i no_member low

  pub own_state : StandsAt run_model k p v states m
  own_state = st.each i no_member low

  pub own_rows : HasRowsFor rows m
  own_rows = st.room i no_member low

  inside : mi < nodes p
  inside = rest.0.member.2

  -- it has cycles left
  module _ (some : (node_of v mi).next ≢ last p) where
    pub has : HasNode false p v mi
    has = let r = rest.0 in let high = r.member.1.1 in (may_claim p v mi r (omega arith)).0

    pub may_turn : (w : View) → w ≡ woken false v mi → MayTurn p w pools mi
    may_turn w e = subst (λ (x : View). MayTurn p x pools mi) (sym e) record {
      has = woken_has p v mi has;
      awake = woken_awake p v mi has;
      even = even_moves p v (woken false v mi) pools mi (node_of v mi).next (node_of (woken false v mi) mi).next refl refl refl refl refl
          (ap (λ (x : NodeView). x.next) (again p v mi (record (node_of v mi) { phase = Awake }) v.trail has.0.there)) rest.1;
    }

    pub player : (w : View) (c : ℕ) → w ≡ woken false v mi → c ≡ (node_of v mi).next → IsPlayer run_model p w k c m
    player w c e at = let r = has.1 in let from = r.0 in let to = r.1 in
        let starts = ap (λ (s : Shape). s.first) st.shape in let cycles = ap (λ (s : Shape). s.cycles) st.shape in
        record {
          works = record {
            sound = st.sound;
            waves = st.waves;
            place = member_is.place;
            epoch = st.epoch;
            at = st.at;
            from = omega (arith, from, at, starts);
            to = omega (arith, to, at, starts, cycles);
            works = member_is.works;
          };
          shape = st.shape;
          expect = ap (λ (x : View). x.expect) e ∙ st.expect;
          now = ap (λ (x : View). (node_of x mi).next) e
              ∙ ap (λ (x : NodeView). x.next) (again p v mi (record (node_of v mi) { phase = Awake }) v.trail has.0.there) ∙ sym at;
          member = member_is.is;
        }

    pub turned_before : (w x : View) (new : OwnPools) → w ≡ woken false v mi → HasTurned p w pools mi x new → HasTurned p v pools mi x new
    turned_before w x new e h = turned_whole p v mi (record (node_of v mi) { phase = Awake }) v.trail has.0.there refl pools x new
        (subst (λ (y : View). HasTurned p y pools mi x new) e h)

  -- another member is another node, at another place
  other : (j : ℕ) → j < length g.members → j ≢ i → AreApart (member_at g j) m
  other j lt ne = ⊎_elim
      (λ (less : j < i). st.apart j i no_member less low)
      (λ (more : i ≤ j). let h = st.apart i j no_member (omega (arith, more, ne)) lt in ((λ e. h.0 (sym e)), (λ e. h.1 (sym e))))
      (cases_lt j i)

  -- the loop after its turn, or after a try that was too early
  module _ (new : EpochState) (table : new.seat.table ≡ t) (members : new.members ≡ g.members) (progress : new.progress ≡ g.progress) where
    abbrev w : View
    w = new.seat.knows

    pub turned_stands : HasTurned p v pools mi w new.own → (later : List NodeState) (s : NodeState) → later ≡ set states m.at s
        → IsNodeState run_model k (suc (node_of v mi).next) m.node s → (wide : Rows) → IsSameRoom rows wide
        → IsStanding run_model k p t new later wide
    turned_stands h later s is own wide same = record {
      sound = st.sound;
      waves = st.waves;
      epoch = st.epoch;
      at = st.at;
      shape = st.shape;
      table = table;
      expect = h.expect ∙ st.expect;
      equipped = equipped_moves p v pools w new.own h.room h.kept st.equipped;
      members = subst (All (IsMemberIn run_model st.epoch)) (sym members) st.members;
      apart = subst (λ l. (a b : ℕ) (d : Member) → a < b → b < length l → AreApart (get_or l a d) (get_or l b d)) (sym members) st.apart;
      rests = subst (All (λ x. IsAtRest p w new.own (p.index x.node))) (sym members) (λ j d lt.
          at_index (λ x. IsAtRest p w new.own (p.index x.node)) j d lt (rests j lt));
      each = subst (All (StandsAt run_model k p w later)) (sym members) (λ j d lt. at_index (StandsAt run_model k p w later) j d lt (stands j lt));
      room = subst (All (HasRowsFor wide)) (sym members) (λ j d lt. rows_stay rows wide (get_or g.members j d) same (st.room j d lt));
      progress = subst (λ (x : List Member × Progress). IsProgressOf p w x.0 x.1) (λ a. (sym members a, sym progress a))
          (progress_on p v w g.members g.progress (λ j d lt. at_index (λ x. next_in p v x.node ≤ next_in p w x.node) j d lt (not_less j lt)) st.progress);
    }
      where
        at_index : (P : Member → Type 0) (j : ℕ) (d : Member) → j < length g.members → P (member_at g j) → P (get_or g.members j d)
        at_index P j d lt x = subst P (get_or_default g.members j no_member d lt) x

        apart_index : (j : ℕ) → j < length g.members → j ≢ i → p.index (member_at g j).node ≢ mi
        apart_index j lt ne e = (other j lt ne).1
            (same_node p st.equipped.plain m.node inside (member_at g j).node (subst (λ x. x < nodes p) (sym e) inside) e)

        rests : (j : ℕ) → j < length g.members → IsAtRest p w new.own (p.index (member_at g j).node)
        rests j lt = ⊎_elim
            (λ (e : j ≡ i). subst (λ x. IsAtRest p w new.own (p.index (member_at g x).node)) (sym e) h.rests)
            (λ (ne : j ≢ i). (h.others (p.index (member_at g j).node) (apart_index j lt ne) (st.rests j no_member lt)).0)
            (cases_eq j i)

        not_less : (j : ℕ) → j < length g.members → next_in p v (member_at g j).node ≤ next_in p w (member_at g j).node
        not_less j lt = ⊎_elim
            (λ (e : j ≡ i). subst (λ x. next_in p v (member_at g x).node ≤ next_in p w (member_at g x).node) (sym e)
            (let later = h.later in omega (arith, later)))
            (λ (ne : j ≢ i). let same : next_in p w (member_at g j).node ≡ next_in p v (member_at g j).node =
            ap (λ (y : NodeView). y.next) (h.others (p.index (member_at g j).node) (apart_index j lt ne) (st.rests j no_member lt)).1 in
            omega (arith, same))
            (cases_eq j i)

        one : suc (node_of v mi).next ≡ (node_of v mi).next + 1
        one = omega arith

        long : length later ≡ length states
        long = ap (λ (l : List NodeState). length l) is ∙ length-set states m.at s

        stands : (j : ℕ) → j < length g.members → StandsAt run_model k p w later (member_at g j)
        stands j lt = ⊎_elim
            (λ (e : j ≡ i). subst (λ x. StandsAt run_model k p w later (member_at g x)) (sym e) (
              subst (λ x. m.at < x) (sym long) own_state.0,
              λ d. subst (λ (x : ℕ × NodeState). IsNodeState run_model k x.0 m.node x.1)
                  (λ a. ((one ∙ sym h.later) a, sym (ap (λ (l : List NodeState). get_or l m.at d) is ∙ get_or-set_same states m.at s d own_state.0) a)) own,
            ))
            (λ (ne : j ≢ i). let x : Member = member_at g j in let old = st.each j no_member lt in (
              subst (λ y. x.at < y) (sym long) old.0,
              λ d. subst (λ (y : ℕ × NodeState). IsNodeState run_model k y.0 x.node y.1)
                  (λ a. (
                    ap (λ (y : NodeView). y.next) (sym (h.others (p.index x.node) (apart_index j lt ne) (st.rests j no_member lt)).1) a,
                    sym (ap (λ (l : List NodeState). get_or l x.at d) is
                        ∙ get_or-set_other states m.at x.at s d (λ e. (other j lt ne).0 e)) a,
                  ))
                  (old.1 d),
            ))
            (cases_eq j i)

    pub tried_stands : (found : ℕ) → new.own ≡ pools → w ≡ tried p v mi found → IsStanding run_model k p t new states rows
    tried_stands found still e = record {
      sound = st.sound;
      waves = st.waves;
      epoch = st.epoch;
      at = st.at;
      shape = st.shape;
      table = table;
      expect = ap (λ (x : View). x.expect) e ∙ st.expect;
      equipped = subst (IsEquipped p w) (sym still) (equipped_moves p v pools w pools (ap (λ (x : View). length x.blocks) e)
          (record { places = refl; shapes = refl; free = refl }) st.equipped);
      members = subst (All (IsMemberIn run_model st.epoch)) (sym members) st.members;
      apart = subst (λ l. (a b : ℕ) (d : Member) → a < b → b < length l → AreApart (get_or l a d) (get_or l b d)) (sym members) st.apart;
      rests = subst (All (λ x. IsAtRest p w new.own (p.index x.node))) (sym members) (λ j d lt.
          let n : ℕ = p.index (get_or g.members j d).node in let r = st.rests j d lt in
          subst (λ (x : View × OwnPools). IsAtRest p x.0 x.1 n) (λ a. (sym e a, sym still a)) (
            tried_rests p v mi n found r.0,
            even_moves p v (tried p v mi found) pools n (node_of v n).next (node_of v n).next refl refl refl refl refl refl r.1,
          ));
      each = subst (All (StandsAt run_model k p w states)) (sym members) (λ j d lt.
          subst (λ (x : View). StandsAt run_model k p x states (get_or g.members j d)) (sym e) (st.each j d lt));
      room = subst (All (HasRowsFor rows)) (sym members) st.room;
      progress = subst (λ (x : List Member × Progress × View). IsProgressOf p x.2 x.0 x.1) (λ a. (sym members a, sym progress a, sym e a))
          (progress_on p v (tried p v mi found) g.members g.progress (λ j d lt. omega arith) st.progress);
    }
