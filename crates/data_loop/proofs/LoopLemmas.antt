-- A loop on the board of its epoch, after a call that changes its epoch state there.
use Rattle.std.proofs.Common.{◌≡◌, ◌≢◌, ℕ, suc, ◌<◌, ◌≤◌, false, true, true≢false, List, [], length, get_or, set, sym, ap, ◌∙◌, subst, arith, ⊎_elim}
use Rattle.std.proofs.Common.{Some, slice_get, length-set, get_or-set_same, get_or-set_other}
use Rattle.std.specs.Prelude.{All, Contains}
use Rattle.std.specs.Prelude.{Vec}
use Rattle.std.specs.Vec.{with_item, with_items, vec_capacity}
use Rattle.std.proofs.lemmas.Bool.{cases_eq, cases_lt}
use Rattle.std.proofs.lemmas.List.{with_items_is, get_or_default}
use Rattle.std.proofs.lemmas.Option.{same_Some, slice_get-get_or, slice_get_past, slice_get_within}
use Rattle.atomic_table.specs.Seated.{TableId}
use Rattle.pw_graph.specs.declared.plan.Epoch.{Epoch}
use Rattle.pw_graph.specs.declared.plan.Plan.{Plan}
use Rattle.pw_graph.specs.PlanFresh.{IsEpoch}
use Rattle.board_rule.specs.Layout.{BoardLayout}
use Rattle.node_state.specs.declared.node_state.NodeState.{NodeState}
use Rattle.node_progress.specs.NodeStates.{IsNodeState}
use Rattle.data_loop.specs.declared.loop_state.LoopState.{LoopState}
use Rattle.data_loop.specs.declared.member.Member.{Member}
use Rattle.data_loop.specs.declared.rows.Rows.{Rows}
use Rattle.data_loop.specs.declared.epoch_state.EpochState.{EpochState}
use Rattle.data_loop.specs.Members.{follows}
use Rattle.data_loop.specs.Rooms.{HasRowsFor, IsSameRoom}
use Rattle.data_loop.specs.EpochStateParts.{IsEpochStateOf, IsSameEpochState, IsUnbegun, HasRoomIn}
use Rattle.data_loop.specs.EpochStates.{IsStanding, StandsAt, AreLeft}
use Rattle.data_loop.specs.Tables.{AreTables}
use Rattle.data_loop.specs.Loops.{plan_of, node_at}
use Rattle.data_loop.specs.LoopsOnBoards.{stands_at, IsOnBoard}
use Rattle.data_loop.proofs.MemberLemmas.{ComesFrom, comes_from, few}
use Rattle.data_loop.proofs.EpochStateLemmas.{rows_stay}

-- an element that a write elsewhere leaves
pub get_other : {X : Type 0} (xs : List X) (i k : ℕ) (x : X) → k ≢ i → slice_get (set xs i x) k ≡ slice_get xs k
get_other xs i k x apart = ⊎_elim
    (λ (low : k < length xs). let long = length-set xs i x in
    slice_get-get_or (set xs i x) k x (omega (arith, low, long)) ∙ ap Some (get_or-set_other xs i k x x apart)
    ∙ sym (slice_get-get_or xs k x low))
    (λ (high : length xs ≤ k). let long = length-set xs i x in
    slice_get_past (set xs i x) k (omega (arith, high, long)) ∙ sym (slice_get_past xs k high))
    (cases_lt k (length xs))

pub get_same : {X : Type 0} (xs : List X) (i : ℕ) (x : X) → i < length xs → slice_get (set xs i x) i ≡ Some x
get_same xs i x low = let long = length-set xs i x in
    slice_get-get_or (set xs i x) i x (omega (arith, low, long)) ∙ ap Some (get_or-set_same xs i x x low)

-- an epoch state with the same parts
pub same_parts : (plan : Plan) (nodes : List ℕ) (k : ℕ) (e : Epoch) (g h : EpochState) → IsSameEpochState g h → IsEpochStateOf plan nodes k e g
    → IsEpochStateOf plan nodes k e h
same_parts plan nodes k e g h same of = record {
  members = same.members ∙ of.members;
  driver = same.driver ∙ of.driver;
  restarts = same.restarts ∙ of.restarts;
  places = same.places ∙ of.places;
  shapes = same.shapes ∙ of.shapes;
}

pub all_rows_stay : (old new : Rows) (ms : List Member) → IsSameRoom old new → All (HasRowsFor old) ms → All (HasRowsFor new) ms
all_rows_stay old new ms same h k d low = rows_stay old new (get_or ms k d) same (h k d low)

pub room_stays : (old new : Rows) (g : EpochState) → IsSameRoom old new → HasRoomIn old g → HasRoomIn new g
room_stays old new g same h = (all_rows_stay old new g.members same h.0, all_rows_stay old new g.driver same h.1)

same_room : (rows : Rows) (g h : EpochState) → IsSameEpochState g h → HasRoomIn rows g → HasRoomIn rows h
same_room rows g h same r = (subst (All (HasRowsFor rows)) (sym same.members) r.0, subst (All (HasRowsFor rows)) (sym same.driver) r.1)

module _ (p : BoardLayout) (tb : TableId) (s : LoopState) (on : IsOnBoard p tb s) where
  abbrev plan : Plan
  plan = plan_of s

  abbrev g : EpochState
  g = on.epoch_state

  pub low : s.epoch < length s.epoch_states.items
  low = slice_get_within s.epoch_states.items s.epoch g on.here

  -- what the loop has in the epoch
  pub parts : IsEpochStateOf plan s.nodes s.epoch on.stands.epoch g
  parts = on.loop.parts s.epoch on.stands.epoch g on.stands.at on.here

  pub few_members : length g.members ≤ length s.nodes
  few_members = subst (λ (ms : List Member). length ms ≤ length s.nodes) (sym parts.members) (few plan s.nodes on.stands.epoch false)

  pub from : (m : Member) → Contains g.members m → ComesFrom plan s.nodes on.stands.epoch false m
  from m c = comes_from plan s.nodes on.stands.epoch false m (subst (λ (ms : List Member). Contains ms m) parts.members c)

  -- another epoch state in the epoch, with the same parts
  module _ (h : EpochState) (same : IsSameEpochState g h) where
    abbrev epoch_states : List EpochState
    epoch_states = set s.epoch_states.items s.epoch h

    parts_on : (k : ℕ) (e : Epoch) (x : EpochState) → IsEpoch plan k e → slice_get epoch_states k ≡ Some x → IsEpochStateOf plan s.nodes k e x
    parts_on k e x at here = ⊎_elim
        (λ (is : k ≡ s.epoch).
        let own : h ≡ x = same_Some h x (sym (get_same s.epoch_states.items s.epoch h low) ∙ ap (slice_get epoch_states) (sym is) ∙ here) in
        subst (IsEpochStateOf plan s.nodes k e) own (same_parts plan s.nodes k e g h same
        (on.loop.parts k e g at (ap (slice_get s.epoch_states.items) is ∙ on.here))))
        (λ (ne : k ≢ s.epoch). on.loop.parts k e x at (sym (get_other s.epoch_states.items s.epoch k h ne) ∙ here))
        (cases_eq k s.epoch)

    rooms_on : (rows : Rows) → IsSameRoom s.rows rows → (k : ℕ) (x : EpochState) → slice_get epoch_states k ≡ Some x → HasRoomIn rows x
    rooms_on rows room k x here = ⊎_elim
        (λ (is : k ≡ s.epoch).
        let own : h ≡ x = same_Some h x (sym (get_same s.epoch_states.items s.epoch h low) ∙ ap (slice_get epoch_states) (sym is) ∙ here) in
        subst (HasRoomIn rows) own (same_room rows g h same (room_stays s.rows rows g room (on.loop.room s.epoch g on.here))))
        (λ (ne : k ≢ s.epoch). room_stays s.rows rows x room (on.loop.room k x (sym (get_other s.epoch_states.items s.epoch k h ne) ∙ here)))
        (cases_eq k s.epoch)

    later_on : (i : ℕ) (e : Epoch) (x : EpochState) → suc s.epoch ≤ i → IsEpoch plan i e → slice_get epoch_states i ≡ Some x → IsUnbegun e x
    later_on i e x past at here = on.later i e x past at
        (sym (get_other s.epoch_states.items s.epoch i h (λ is. omega (arith, is, past))) ∙ here)

    module _ (ss : List NodeState) (rows : Rows) (st : IsStanding s.run_model s.epoch p tb h ss rows) (long : length ss ≡ length s.states.items)
        (left : AreLeft g.members s.states.items ss) (room : IsSameRoom s.rows rows) where
      one_epoch : on.stands.epoch ≡ st.epoch
      one_epoch = same_Some on.stands.epoch st.epoch (sym on.stands.at ∙ st.at)

      items_are : (with_items s.states ss).items ≡ ss
      items_are = with_items_is s.states ss (long ∙ sym s.states.ok.0)

      others_on : (j : ℕ) → j < length s.nodes → follows st.epoch (node_at s j) ≡ false → (d : NodeState)
          → get_or (with_items s.states ss).items j d ≡ get_or s.states.items j d
      others_on j less none d = ap (λ (l : List NodeState). get_or l j d) items_are ∙ left j d (λ k m lt is.
          let x : Member = get_or g.members k m in
          let f = from x (k, lt, get_or_default g.members k x m lt) in
          let yes : follows on.stands.epoch (node_at s j) ≡ true = ap (λ i. follows on.stands.epoch (get_or s.nodes i 0)) (sym is)
          ∙ ap (follows on.stands.epoch) f.node ∙ f.role in
          true≢false (sym yes ∙ ap (λ e. follows e (node_at s j)) one_epoch ∙ none))

      -- the loop after a turn
      pub on_more : (found : Vec (ℕ × ℕ) _) (tables : List (List (ℕ × ℕ))) → length found.items ≤ length g.members
          → vec_capacity found ≡ vec_capacity s.found → AreTables tables → length tables ≡ length s.tables
          → get_or tables (length found.items) [] ≡ found.items → (woke : ℕ)
          → IsOnBoard p tb (record s { states = with_items s.states ss; epoch_states = with_item s.epoch_states s.epoch h; rows = rows; found = found; tables = tables; woke = woke })
      on_more found tables short capacity are count told woke = record {
        loop = record {
          sound = on.loop.sound;
          waves = on.loop.waves;
          ascend = on.loop.ascend;
          places = on.loop.places;
          states = ap (λ (l : List NodeState). length l) items_are ∙ long ∙ on.loop.states;
          epoch_states = length-set s.epoch_states.items s.epoch h ∙ on.loop.epoch_states;
          parts = parts_on;
          room = rooms_on rows room;
          found_room = subst (λ n. length s.nodes ≤ n) (sym capacity) on.loop.found_room;
          tables = (are, count ∙ on.loop.tables.1);
          few_found = let fewer = few_members in omega (arith, short, fewer);
          told = told;
        };
        epoch_state = h;
        here = get_same s.epoch_states.items s.epoch h low;
        stands = record {
          sound = st.sound;
          waves = st.waves;
          epoch = st.epoch;
          at = st.at;
          shape = st.shape;
          table = st.table;
          expect = st.expect;
          equipped = st.equipped;
          members = st.members;
          apart = st.apart;
          rests = st.rests;
          each = subst (λ (l : List NodeState). All (StandsAt s.run_model s.epoch p h.seat.knows l) h.members) (sym items_are) st.each;
          room = st.room;
          progress = st.progress;
        };
        later = later_on;
        led = on.led;
        others = λ j less none d.
            subst (λ (x : Epoch × NodeState). IsNodeState s.run_model s.epoch (stands_at s x.0 j) (node_at s j) x.1)
            (λ i. (one_epoch i, sym (others_on j less none d) i))
            (on.others j less (ap (λ e. follows e (node_at s j)) one_epoch ∙ none) d);
      }
