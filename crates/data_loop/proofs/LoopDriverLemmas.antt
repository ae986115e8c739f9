-- The driver's node in the loop that it belongs to.
use Rattle.std.proofs.Common.{◌≡◌, ◌≢◌, ℕ, suc, ◌+◌, ◌<◌, ◌≤◌, ◌==◌, ◌&&◌, ◌||◌, Bool, true, false, true≢false, not, cond, List, [], length, get_or, set, refl, sym, ap, ◌∙◌, subst, arith, ⊎_elim}
use Rattle.std.proofs.lemmas.Option.{slice_get_within, slice_get_past, get_or_from_slice_get}
use Rattle.pw_graph.specs.declared.plan.PlanNode.{PlanNode}
use Rattle.pw_graph.specs.PlanForms.{IsSoundForm}
use Rattle.std.proofs.Common.{Some, slice_get, option_map, unwrap_or, length-set, get_or-set_same, get_or-set_other}
use Rattle.std.specs.Prelude.{Contains}
use Rattle.std.specs.List.{list_any}
use Rattle.std.specs.Vec.{with_item}
use Rattle.std.proofs.lemmas.Bool.{cases_Bool, cases_eq, cases_lt, and_parts, and_from, eq-eqb, eqb-true}
use Rattle.std.proofs.lemmas.List.{get_or-map, get_or_default, length-map}
use Rattle.std.proofs.lemmas.List.Elements.{All-contains}
use Rattle.std.proofs.lemmas.List.Folds.{list_any_at}
use Rattle.atomic_table.specs.Seated.{TableId}
use Rattle.pw_graph.specs.declared.kind.Kind.{Kind}
use Rattle.pw_graph.specs.declared.kind.Kind.TheVariants.{Sink, Meter, Dummy}
use Rattle.pw_graph.specs.declared.plan.Epoch.{Epoch}
use Rattle.pw_graph.specs.declared.plan.Plan.{Plan}
use Rattle.pw_graph.specs.declared.plan.PortForm.{PortForm}
use Rattle.pw_graph.specs.declared.shape.Shape.{Shape}
use Rattle.pw_graph.specs.declared.shape.ShapeLink.{ShapeLink}
use Rattle.pw_graph.specs.declared.shape.ShapeNode.{ShapeNode}
use Rattle.pw_graph.specs.Dependencies.{nodes_of}
use Rattle.pw_graph.specs.KindPorts.{input_count}
use Rattle.pw_graph.specs.KindRanges.{IsSinkOrMeter}
use Rattle.pw_graph.specs.PlanForms.{kind_at, IsFormed}
use Rattle.pw_graph.specs.Pools.{is_same_port}
use Rattle.pw_graph.specs.SoundPlan.{IsSoundEpoch}
use Rattle.pw_graph.proofs.PoolLemmas.{port_same, port_is}
use Rattle.pw_graph.specs.PlanFresh.{IsEpoch}
use Rattle.wav_files.specs.declared.wav.WavIn.{WavIn}
use Rattle.cycle_model.specs.Epochs.{listed}
use Rattle.cycle_model.specs.Expected.{epoch_rows, expected_samples}
use Rattle.cycle_model.specs.Mixing.{takes_part}
use Rattle.board_rule.specs.declared.view.View.{View}
use Rattle.board_rule.specs.Layout.{BoardLayout, nodes, first, last}
use Rattle.board_rule.specs.buffers.EndViews.{link_at, no_link}
use Rattle.board_rule.proofs.buffers.HolderLemmas.{link_there}
use Rattle.node_state.specs.declared.node_state.NodeState.{NodeState}
use Rattle.node_progress.specs.Standing.{port_at, works_in}
use Rattle.node_progress.specs.NodeStates.{IsNodeState}
use Rattle.data_loop.specs.declared.loop_state.LoopState.{LoopState}
use Rattle.data_loop.specs.declared.member.Member.{Member}
use Rattle.data_loop.specs.declared.rows.Rows.{Rows}
use Rattle.data_loop.specs.Driving.{HasNoLinkIn, IsDriverPlayer}
use Rattle.data_loop.specs.Members.{follows, leads, drivers_of}
use Rattle.data_loop.specs.Rooms.{IsSameRoom}
use Rattle.data_loop.specs.EpochStates.{StandsAt}
use Rattle.data_loop.specs.Loops.{plan_of, node_at, StateIs}
use Rattle.data_loop.specs.LoopsOnBoards.{stands_at, IsOnBoard}
use Rattle.data_loop.specs.LoopDriver.{HasSamplesOf, DrivesFrom}
use Rattle.data_loop.proofs.turns.EndsLemmas.{all_wired, same_node}
use Rattle.data_loop.proofs.MemberLemmas.{ComesFrom, comes_from, has_it}
use Rattle.data_loop.proofs.LoopLemmas.{parts, from, all_rows_stay, room_stays}

-- what the pools of an epoch are expected to give
pub expected_is : (plan : Plan) (waves : List WavIn) (k : ℕ) (x : Epoch) → IsEpoch plan k x → expected_samples plan waves k ≡ epoch_rows plan waves x
unfolding expected_samples
expected_is plan waves k x at = ap (listed (epoch_rows plan waves)) at

-- who leads does not follow
pub leads_alone : (e : Epoch) (n : ℕ) → leads e n ≡ true → follows e n ≡ false
leads_alone e n role = ap (λ d. not d && takes_part e n) (and_parts (e.shape.driver == n) (works_in e n) role).0

one_input : (kd : Kind) (i : ℕ) → IsSinkOrMeter kd → i < input_count kd → i ≡ 0
one_input Sink i ends low = omega (arith, low)
one_input Meter i ends low = omega (arith, low)
one_input _ i ends low = absurd ends

module _ (p : BoardLayout) (t : TableId) (s : LoopState) (on : IsOnBoard p t s) where
  abbrev plan : Plan
  plan = plan_of s

  abbrev e : Epoch
  e = on.stands.epoch

  sound : IsSoundEpoch plan e
  sound = All-contains (IsSoundEpoch plan) plan.epochs e on.loop.sound.epochs (epoch_there plan.epochs s.epoch e on.stands.at)
    where
      epoch_there : (es : List Epoch) (k : ℕ) (x : Epoch) → slice_get es k ≡ Some x → Contains es x
      epoch_there es k x at = (k, slice_get_within es k x at, get_or_from_slice_get es k x x at)

  -- where the driver is formless, or the dummy, no link leads to it
  pub no_link_in : on.epoch_state.driver ≡ [] → DrivesFrom p s → HasNoLinkIn p
  no_link_in none from_here l low reads =
      let plain = on.stands.equipped.plain in
      let driver : p.shape.driver ≡ e.shape.driver = ap (λ (x : Shape). x.driver) on.stands.shape in
      let links : p.shape.links ≡ e.shape.links = ap (λ (x : Shape). x.links) on.stands.shape in
      let link : ShapeLink = link_at p l in
      let inside : link.to.node ≡ p.shape.driver =
      same_node p plain p.shape.driver driver_in link.to.node ((all_wired p plain).to_in l link (link_there p l low)) (reads ∙ sym driver_at) in
      let formed : IsFormed plan e link = subst (IsFormed plan e) (ap (λ ls. get_or ls l no_link) (sym links))
      (sound.forms.links l no_link (subst (λ ls. l < length ls) links low)) in
      ⊎_elim
      (λ (dummy : p.shape.driver ≡ 63).
      let few = on.loop.sound.few in
      let kind : kind_at plan link.to.node ≡ Dummy = ap (kind_at plan) (inside ∙ dummy)
      ∙ ap (λ o. unwrap_or (option_map (λ (x : PlanNode). x.kind) o) Dummy) (slice_get_past plan.nodes 63 few) in
      let input = formed.input in
      let zero : input_count (kind_at plan link.to.node) ≡ 0 = ap input_count kind in omega (arith, input, zero))
      (λ (own : Contains s.nodes p.shape.driver).
      let j : ℕ = own.0 in let less = own.1 in
      let at : node_at s j ≡ e.shape.driver = get_or_default s.nodes j 0 p.shape.driver less ∙ own.2 ∙ driver in
      let kind = sink_or_meter j less at in
      let port : link.to.port ≡ 0 = one_input (kind_at plan link.to.node) link.to.port
      (subst (λ n. IsSinkOrMeter (kind_at plan n)) (sym (inside ∙ driver)) kind) formed.input in
      let to : link.to ≡ port_at e.shape.driver 0 = port_is link.to (port_at e.shape.driver 0) (inside ∙ driver) port in
      let form : PortForm = record { port = link.to; rate = formed.rate; channels = link.channels } in
      let has = formed.to in
      let formed_port : list_any (λ f. is_same_port f.port (port_at e.shape.driver 0)) e.forms ≡ true =
      list_any_at (λ (f : PortForm). is_same_port f.port (port_at e.shape.driver 0)) e.forms has.0 form has.1
      (port_same (get_or e.forms has.0 form).port (port_at e.shape.driver 0)
      (ap (λ (f : PortForm). f.port) (get_or_default e.forms has.0 form form has.1 ∙ has.2) ∙ to)) in
      let active = (All-contains (IsSoundForm plan e) e.forms form sound.forms.each has).active in
      let part : takes_part e e.shape.driver ≡ true = taken_part e e.shape.driver (subst (λ n. Contains (nodes_of e.shape) n) (inside ∙ driver) active) in
      let works : works_in e e.shape.driver ≡ true = and_from (takes_part e e.shape.driver)
      (not (e.shape.driver == e.shape.driver) || list_any (λ f. is_same_port f.port (port_at e.shape.driver 0)) e.forms) part
      (or_true (not (e.shape.driver == e.shape.driver)) _ formed_port) in
      let role : leads e (node_at s j) ≡ true = ap (leads e) at ∙ and_from (e.shape.driver == e.shape.driver) (works_in e e.shape.driver)
      (eq-eqb e.shape.driver e.shape.driver refl) works in
      let there = has_it plan s.nodes e true j less role in
      let empty : drivers_of plan s.nodes e ≡ [] = sym (parts p t s on).driver ∙ none in
      let high = there.1 in let zero = ap (λ (l : List Member). length l) empty in omega (arith, high, zero))
      from_here
    where
      driver_at : p.index p.shape.driver ≡ p.driver
      driver_at = let sound = on.stands.equipped.plain.sound in ap p.index (sym sound.names_driver) ∙ sound.at p.driver sound.driver_in

      driver_in : p.index p.shape.driver < nodes p
      driver_in = subst (λ m. m < nodes p) (sym driver_at) on.stands.equipped.plain.sound.driver_in

      sink_or_meter : (j : ℕ) → j < length s.nodes → node_at s j ≡ e.shape.driver → IsSinkOrMeter (kind_at plan e.shape.driver)
      sink_or_meter j less at = ⊎_elim
          (λ (dummy : e.shape.driver ≡ 63). let few = on.loop.sound.few in let place = on.loop.places j 0 less in
          absurd (omega (arith, dummy, at, few, place)))
          (λ (ends : IsSinkOrMeter (kind_at plan e.shape.driver)). ends)
          sound.places.driver

      taken_part : (x : Epoch) (n : ℕ) → Contains (nodes_of x.shape) n → takes_part x n ≡ true
      taken_part x n c = let d : ShapeNode = record { node = n; required = 0; targets = [] } in
          let long = length-map x.shape.nodes (λ (y : ShapeNode). y.node) in let low = c.1 in
          let inside : c.0 < length x.shape.nodes = omega (arith, low, long) in
          list_any_at (λ (y : ShapeNode). y.node == n) x.shape.nodes c.0 d inside
          (eq-eqb (get_or x.shape.nodes c.0 d).node n (sym (get_or-map (λ (y : ShapeNode). y.node) x.shape.nodes c.0 d n inside) ∙ c.2))

      or_true : (a b : Bool) → b ≡ true → a || b ≡ true
      or_true true b is = refl
      or_true false b is = is

  -- the member of the driver's node
  module _ (m : Member) (own : Contains on.epoch_state.driver m) where
    pub of : ComesFrom plan s.nodes e true m
    of = comes_from plan s.nodes e true m (subst (λ (l : List Member). Contains l m) (parts p t s on).driver own)

    pub drives : m.node ≡ p.shape.driver
    drives = sym (eqb-true e.shape.driver m.node (and_parts (e.shape.driver == m.node) (works_in e m.node) of.role).0)
        ∙ ap (λ (x : Shape). x.driver) (sym on.stands.shape)

    pub inside : m.at < length s.states.items
    inside = let low = of.low in let long = on.loop.states in omega (arith, low, long)

    -- its state, in the cycle that it is to lead
    pub stands_so : (c : ℕ) → first p + s.led ≡ c → (d : NodeState) → IsNodeState s.run_model s.epoch c m.node (get_or s.states.items m.at d)
    stands_so c led_so_far d =
        let starts = ap (λ (x : Shape). x.first) on.stands.shape in
        let role : leads e (node_at s m.at) ≡ true = ap (leads e) of.node ∙ of.role in
        let at : stands_at s e m.at ≡ c = ap (λ b. e.shape.first + cond b s.led 0) role
        ∙ (let z : e.shape.first + s.led ≡ c = omega (arith, starts, led_so_far) in z) in
        subst (λ (x : ℕ × ℕ). IsNodeState s.run_model s.epoch x.0 x.1 (get_or s.states.items m.at d)) (λ i. (at i, of.node i))
        (on.others m.at of.low (ap (follows e) of.node ∙ leads_alone e m.node of.role) d)

    pub player_so : (v : View) → HasSamplesOf s v → (c : ℕ) → first p ≤ c → c < last p → IsDriverPlayer s.run_model p v s.epoch c m
    player_so v samples c low high =
        let starts = ap (λ (x : Shape). x.first) on.stands.shape in let cycles = ap (λ (x : Shape). x.cycles) on.stands.shape in
        record {
          works = record {
            sound = on.loop.sound;
            waves = on.loop.waves;
            place = subst (λ n. n < length plan.nodes) of.node (on.loop.places m.at 0 of.low);
            epoch = e;
            at = on.stands.at;
            from = omega (arith, starts, low);
            to = omega (arith, starts, cycles, high);
            works = (and_parts (e.shape.driver == m.node) (works_in e m.node) of.role).1;
          };
          shape = on.stands.shape;
          expect = samples ∙ expected_is plan s.run_model.waves.value s.epoch e on.stands.at;
          driver = drives;
          member = of.is;
        }

    -- another node's index
    other_at : (j : ℕ) → j < length s.nodes → leads e (node_at s j) ≡ true → j ≡ m.at
    other_at j less role = ⊎_elim
        (λ (is : j ≡ m.at). is)
        (λ (ne : j ≢ m.at).
        let same : node_at s j ≡ node_at s m.at = sym (eqb-true e.shape.driver (node_at s j) (and_parts (e.shape.driver == node_at s j) _ role).0)
        ∙ eqb-true e.shape.driver m.node (and_parts (e.shape.driver == m.node) _ of.role).0 ∙ sym of.node in
        ⊎_elim
        (λ (early : j < m.at). let less_node = on.loop.ascend j m.at 0 early of.low in absurd (omega (arith, same, less_node)))
        (λ (past : m.at ≤ j). let less_node = on.loop.ascend m.at j 0 (omega (arith, past, ne)) less in absurd (omega (arith, same, less_node)))
        (cases_lt j m.at))
        (cases_eq j m.at)

    module _ (c : ℕ) (led_so_far : first p + s.led ≡ c) (high : c < last p) (x : NodeState) (rows : Rows) (room : IsSameRoom s.rows rows)
        (state : IsNodeState s.run_model s.epoch (suc c) m.node x) where
      abbrev later : LoopState
      later = record s { states = with_item s.states m.at x; rows = rows; led = s.led + 1 }

      kept : (j : ℕ) (d : NodeState) → j ≢ m.at → get_or (set s.states.items m.at x) j d ≡ get_or s.states.items j d
      kept j d ne = get_or-set_other s.states.items m.at j x d ne

      member_kept : (y : Member) → Contains on.epoch_state.members y → StandsAt s.run_model s.epoch p on.epoch_state.seat.knows s.states.items y
          → StandsAt s.run_model s.epoch p on.epoch_state.seat.knows (set s.states.items m.at x) y
      member_kept y c old =
          let f = from p t s on y c in
          let apart : y.at ≢ m.at = λ is. true≢false (sym f.role ∙ ap (follows e) (sym f.node ∙ ap (node_at s) is ∙ of.node) ∙ leads_alone e m.node of.role) in
          let long = length-set s.states.items m.at x in let low = old.0 in (
            omega (arith, low, long),
            λ d. subst (IsNodeState s.run_model s.epoch _ y.node) (sym (kept y.at d apart)) (old.1 d),
          )

      others_later : (j : ℕ) → j < length s.nodes → follows e (node_at s j) ≡ false → StateIs later (stands_at later e j) j
      others_later j less none d = ⊎_elim
          (λ (is : j ≡ m.at).
          let starts = ap (λ (y : Shape). y.first) on.stands.shape in
          let role : leads e (node_at s j) ≡ true = ap (λ i. leads e (node_at s i)) is ∙ ap (leads e) of.node ∙ of.role in
          let at : stands_at later e j ≡ suc c = ap (λ b. e.shape.first + cond b (s.led + 1) 0) role
          ∙ (let z : e.shape.first + (s.led + 1) ≡ suc c = omega (arith, starts, led_so_far) in z) in
          let node : node_at s j ≡ m.node = ap (node_at s) is ∙ of.node in
          let value : get_or (set s.states.items m.at x) j d ≡ x = ap (λ i. get_or (set s.states.items m.at x) i d) is
          ∙ get_or-set_same s.states.items m.at x d inside in
          subst (λ (y : ℕ × (ℕ × NodeState)). IsNodeState s.run_model s.epoch y.0 y.1.0 y.1.1)
          (λ i. (sym at i, (sym node i, sym value i))) state)
          (λ (ne : j ≢ m.at).
          let off : leads e (node_at s j) ≡ false = ⊎_elim (λ (role : leads e (node_at s j) ≡ true). absurd (ne (other_at j less role)))
          (λ (f : leads e (node_at s j) ≡ false). f) (cases_Bool (leads e (node_at s j))) in
          let at : stands_at s e j ≡ stands_at later e j = ap (λ b. e.shape.first + cond b s.led 0) off
          ∙ sym (ap (λ b. e.shape.first + cond b (s.led + 1) 0) off) in
          subst (λ (y : ℕ × NodeState). IsNodeState s.run_model s.epoch y.0 (node_at s j) y.1)
          (λ i. (at i, sym (kept j d ne) i)) (on.others j less none d))
          (cases_eq j m.at)

      -- the loop after the turn
      pub driven_on : IsOnBoard p t later
      driven_on = record {
        loop = record {
          sound = on.loop.sound;
          waves = on.loop.waves;
          ascend = on.loop.ascend;
          places = on.loop.places;
          states = length-set s.states.items m.at x ∙ on.loop.states;
          epoch_states = on.loop.epoch_states;
          parts = on.loop.parts;
          room = λ k g here. room_stays s.rows rows g room (on.loop.room k g here);
          found_room = on.loop.found_room;
          tables = on.loop.tables;
          few_found = on.loop.few_found;
          told = on.loop.told;
        };
        epoch_state = on.epoch_state;
        here = on.here;
        stands = record {
          sound = on.stands.sound;
          waves = on.stands.waves;
          epoch = e;
          at = on.stands.at;
          shape = on.stands.shape;
          table = on.stands.table;
          expect = on.stands.expect;
          equipped = on.stands.equipped;
          members = on.stands.members;
          apart = on.stands.apart;
          rests = on.stands.rests;
          each = λ k d low. member_kept (get_or on.epoch_state.members k d) (k, low, get_or_default on.epoch_state.members k (get_or on.epoch_state.members k d) d low)
              (on.stands.each k d low);
          room = all_rows_stay s.rows rows on.epoch_state.members room on.stands.room;
          progress = on.stands.progress;
        };
        later = on.later;
        led = omega (arith, led_so_far, high);
        others = others_later;
      }
