use Rattle.std.proofs.Common.{◌≡◌, ◌<◌, ◌+◌, ◌∙◌, ℕ, suc, List, length, get_or, refl, sym, ap, subst, arith, inl, inr}
use Rattle.std.specs.Prelude.{Contains}
use Rattle.std.proofs.lemmas.Option.{get_or_from_slice_get}
use Rattle.std.proofs.lemmas.List.{nil_from_length}
use Rattle.std.proofs.lemmas.List.Elements.{All-contains}
use Rattle.pw_graph.specs.declared.shape.Shape.{Shape}
use Rattle.board_rule.specs.OnBoard.{layout, table_of}
use Rattle.board_rule.specs.Layout.{first}
use Rattle.node_state.specs.declared.node_state.NodeState.{NodeState}
use Rattle.node_progress.specs.NodeStates.{IsNodeState}
use Rattle.data_loop.specs.declared.member.Member.{Member}
use Rattle.data_loop.specs.declared.epoch_state.EpochState.{EpochState}
use Rattle.data_loop.specs.Driving.{IsDriverPlayer}
use Rattle.data_loop.specs.Rooms.{HasRowsFor}
use Rattle.data_loop.proofs.LoopDriverLemmas.{no_link_in, inside, stands_so, player_so, driven_on}
use Rattle.data_loop.proofs.loop_state.LoopState.run_driver.Goals as goal

some_in : (n : ℕ) → (n ≡ 0 → ⊥) → 0 < n
some_in n more = omega (arith, more)

pub pass_driver-requires-clause-alone : goal.pass_driver-requires-clause-alone
pass_driver-requires-clause-alone g' c = let on = c.requires.stands in let s = c.args.self.now in let p = layout c.args.board.now in let t = table_of c.args.board.now in
    let epoch_state : c.index-epoch_state.result.now ≡ on.epoch_state = c.index-epoch_state.ensures ∙ get_or_from_slice_get s.epoch_states.items s.epoch on.epoch_state _ on.here in
    let long = c.len.ensures ∙ ap (λ (g : EpochState). length g.driver) epoch_state in
    no_link_in p t s on (nil_from_length on.epoch_state.driver (sym long ∙ c.if-len-eq0.true)) c.requires.driver

pub returns-then-len-eq0-clause-led : goal.returns-then-len-eq0-clause-led
returns-then-len-eq0-clause-led g' c = λ g here.
    let epoch_state : c.index-epoch_state.result.now ≡ g = c.index-epoch_state.ensures ∙ get_or_from_slice_get c.args.self.now.epoch_states.items c.args.self.now.epoch g _ here in
    let long = c.len.ensures ∙ ap (λ (x : EpochState). length x.driver) epoch_state in
    inr (nil_from_length g.driver (sym long ∙ c.if-len-eq0.true), refl)

pub index_mut-requires : goal.index_mut-requires
index_mut-requires g' c = let on = c.requires.stands in let s = c.args.self.now in let p = layout c.args.board.now in let t = table_of c.args.board.now in
    let epoch_state : c.index-epoch_state.result.now ≡ on.epoch_state = c.index-epoch_state.ensures ∙ get_or_from_slice_get s.epoch_states.items s.epoch on.epoch_state _ on.here in
    let long = c.len.ensures ∙ ap (λ (g : EpochState). length g.driver) epoch_state in
    let m : Member = c.index-as_slice-0.result in
    let some : 0 < length on.epoch_state.driver = let more = c.if-len-eq0.false in some_in (length on.epoch_state.driver) (λ z. more (long ∙ z)) in
    let own : Contains on.epoch_state.driver m = (
      0,
      some,
      sym (c.index-as_slice-0.is
          ∙ ap (λ (l : List Member). get_or l 0 m) (c.as_slice.ensures ∙ ap (λ (g : EpochState). g.driver) epoch_state)),
    ) in
    let low = inside p t s on m own in let n = s.states.ok.0 in omega (arith, low, n)

pub play_driver-requires-clause-player : goal.play_driver-requires-clause-player
play_driver-requires-clause-player g' c = let on = c.requires.stands in let s = c.args.self.now in let p = layout c.args.board.now in let t = table_of c.args.board.now in
    let epoch_state : c.index-epoch_state.result.now ≡ on.epoch_state = c.index-epoch_state.ensures ∙ get_or_from_slice_get s.epoch_states.items s.epoch on.epoch_state _ on.here in
    let long = c.len.ensures ∙ ap (λ (g : EpochState). length g.driver) epoch_state in
    let m : Member = c.index-as_slice-0.result in
    let some : 0 < length on.epoch_state.driver = let more = c.if-len-eq0.false in some_in (length on.epoch_state.driver) (λ z. more (long ∙ z)) in
    let own : Contains on.epoch_state.driver m = (
      0,
      some,
      sym (c.index-as_slice-0.is
          ∙ ap (λ (l : List Member). get_or l 0 m) (c.as_slice.ensures ∙ ap (λ (g : EpochState). g.driver) epoch_state)),
    ) in
    let cycle : c.shape-2.result.now.first + c.ended.result ≡ c.args.seat.now.knows.lead.cycle =
    ap (λ (x : Shape). x.first + c.ended.result) c.shape-2.ensures ∙ c.ended.ensures in
    let led_so_far : first p + s.led ≡ c.args.seat.now.knows.lead.cycle = c.requires.each on.epoch_state on.here
    (λ none. let z = ap (λ (l : List Member). length l) none in omega (arith, z, some)) in
    let low = c.requires.awake.node.1.0 in let high = c.requires.awake.node.1.1 in
    subst (λ n. IsDriverPlayer s.run_model p c.args.seat.now.knows s.epoch n m) (sym cycle)
    (player_so p t s on m own c.args.seat.now.knows c.requires.samples c.args.seat.now.knows.lead.cycle low high)

pub play_driver-requires-clause-state : goal.play_driver-requires-clause-state
play_driver-requires-clause-state g' c = let on = c.requires.stands in let s = c.args.self.now in let p = layout c.args.board.now in let t = table_of c.args.board.now in
    let epoch_state : c.index-epoch_state.result.now ≡ on.epoch_state = c.index-epoch_state.ensures ∙ get_or_from_slice_get s.epoch_states.items s.epoch on.epoch_state _ on.here in
    let long = c.len.ensures ∙ ap (λ (g : EpochState). length g.driver) epoch_state in
    let m : Member = c.index-as_slice-0.result in
    let some : 0 < length on.epoch_state.driver = let more = c.if-len-eq0.false in some_in (length on.epoch_state.driver) (λ z. more (long ∙ z)) in
    let own : Contains on.epoch_state.driver m = (
      0,
      some,
      sym (c.index-as_slice-0.is
          ∙ ap (λ (l : List Member). get_or l 0 m) (c.as_slice.ensures ∙ ap (λ (g : EpochState). g.driver) epoch_state)),
    ) in
    let cycle : c.shape-2.result.now.first + c.ended.result ≡ c.args.seat.now.knows.lead.cycle =
    ap (λ (x : Shape). x.first + c.ended.result) c.shape-2.ensures ∙ c.ended.ensures in
    let led_so_far : first p + s.led ≡ c.args.seat.now.knows.lead.cycle = c.requires.each on.epoch_state on.here
    (λ none. let z = ap (λ (l : List Member). length l) none in omega (arith, z, some)) in
    let low = c.requires.awake.node.1.0 in let high = c.requires.awake.node.1.1 in
    subst (λ (x : ℕ × NodeState). IsNodeState s.run_model s.epoch x.0 m.node x.1) (λ i. (sym cycle i, sym c.index_mut.ensures.value i))
    (stands_so p t s on m own c.args.seat.now.knows.lead.cycle led_so_far c.index_mut.result.now)

pub play_driver-requires-clause-rows : goal.play_driver-requires-clause-rows
play_driver-requires-clause-rows g' c = let on = c.requires.stands in let s = c.args.self.now in let p = layout c.args.board.now in let t = table_of c.args.board.now in
    let epoch_state : c.index-epoch_state.result.now ≡ on.epoch_state = c.index-epoch_state.ensures ∙ get_or_from_slice_get s.epoch_states.items s.epoch on.epoch_state _ on.here in
    let long = c.len.ensures ∙ ap (λ (g : EpochState). length g.driver) epoch_state in
    let m : Member = c.index-as_slice-0.result in
    let some : 0 < length on.epoch_state.driver = let more = c.if-len-eq0.false in some_in (length on.epoch_state.driver) (λ z. more (long ∙ z)) in
    let own : Contains on.epoch_state.driver m = (
      0,
      some,
      sym (c.index-as_slice-0.is
          ∙ ap (λ (l : List Member). get_or l 0 m) (c.as_slice.ensures ∙ ap (λ (g : EpochState). g.driver) epoch_state)),
    ) in
    All-contains (HasRowsFor s.rows) on.epoch_state.driver m (on.loop.room s.epoch on.epoch_state on.here).1 own

pub returns-clause-stands : goal.returns-clause-stands
returns-clause-stands g' c = let on = c.requires.stands in let s = c.args.self.now in let p = layout c.args.board.now in let t = table_of c.args.board.now in
    let epoch_state : c.index-epoch_state.result.now ≡ on.epoch_state = c.index-epoch_state.ensures ∙ get_or_from_slice_get s.epoch_states.items s.epoch on.epoch_state _ on.here in
    let long = c.len.ensures ∙ ap (λ (g : EpochState). length g.driver) epoch_state in
    let m : Member = c.index-as_slice-0.result in
    let some : 0 < length on.epoch_state.driver = let more = c.if-len-eq0.false in some_in (length on.epoch_state.driver) (λ z. more (long ∙ z)) in
    let own : Contains on.epoch_state.driver m = (
      0,
      some,
      sym (c.index-as_slice-0.is
          ∙ ap (λ (l : List Member). get_or l 0 m) (c.as_slice.ensures ∙ ap (λ (g : EpochState). g.driver) epoch_state)),
    ) in
    let cycle : c.shape-2.result.now.first + c.ended.result ≡ c.args.seat.now.knows.lead.cycle =
    ap (λ (x : Shape). x.first + c.ended.result) c.shape-2.ensures ∙ c.ended.ensures in
    let led_so_far : first p + s.led ≡ c.args.seat.now.knows.lead.cycle = c.requires.each on.epoch_state on.here
    (λ none. let z = ap (λ (l : List Member). length l) none in omega (arith, z, some)) in
    let low = c.requires.awake.node.1.0 in let high = c.requires.awake.node.1.1 in
    driven_on p t s on m own c.args.seat.now.knows.lead.cycle led_so_far high c.play_driver.new.state c.play_driver.new.rows c.play_driver.ensures.rows
    (subst (λ n. IsNodeState s.run_model s.epoch (suc n) m.node c.play_driver.new.state) cycle c.play_driver.ensures.state)

pub returns-clause-led : goal.returns-clause-led
returns-clause-led g' c = λ g here.
    let epoch_state : c.index-epoch_state.result.now ≡ g = c.index-epoch_state.ensures ∙ get_or_from_slice_get c.args.self.now.epoch_states.items c.args.self.now.epoch g _ here in
    let long = c.len.ensures ∙ ap (λ (x : EpochState). length x.driver) epoch_state in
    inl (λ none. c.if-len-eq0.false (long ∙ ap (λ (l : List Member). length l) none), refl)
