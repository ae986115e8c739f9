use Rattle.std.proofs.Common.{◌≡◌, ◌≤◌, ℕ, List, [], length, get_or, set, refl, sym, ap, ◌∙◌, subst, arith}
use Rattle.std.specs.Vec.{vec_capacity}
use Rattle.std.proofs.lemmas.Option.{same_Some, get_or_from_slice_get}
use Rattle.board_rule.specs.OnBoard.{layout, table_of}
use Rattle.node_state.specs.declared.node_state.NodeState.{NodeState}
use Rattle.data_loop.specs.declared.epoch_state.EpochState.{EpochState}
use Rattle.data_loop.specs.LoopTurn.{IsDid}
use Rattle.data_loop.specs.LoopTries.{IsWoke}
use Rattle.data_loop.specs.EpochStateParts.{IsSameEpochState}
use Rattle.data_loop.specs.EpochStates.{AreLeft}
use Rattle.data_loop.proofs.LoopLemmas.{low, few_members, get_same, get_other, on_more}
use Rattle.data_loop.proofs.loop_state.LoopState.turn.Goals as goal

pub turn-did-requires-clause-room : goal.turn-did-requires-clause-room
turn-did-requires-clause-room g' c = let on = c.requires.stands in let p = layout c.args.board.now in let t = table_of c.args.board.now in
    let epoch_state : c.index_mut.result.now ≡ on.epoch_state = c.index_mut.ensures.value
    ∙ get_or_from_slice_get c.args.self.now.epoch_states.items c.args.self.now.epoch on.epoch_state _ on.here in
    let few = few_members p t c.args.self.now on in let room = on.loop.found_room in let cap = c.clear.ensures.capacity in
    subst (λ (g : EpochState). length g.members ≤ vec_capacity c.clear.new.self) (sym epoch_state) (omega (arith, few, room, cap))

pub tell-requires-clause-inside : goal.tell-requires-clause-inside
tell-requires-clause-inside g' c = let on = c.requires.stands in let p = layout c.args.board.now in let t = table_of c.args.board.now in
    let epoch_state : c.index_mut.result.now ≡ on.epoch_state = c.index_mut.ensures.value
    ∙ get_or_from_slice_get c.args.self.now.epoch_states.items c.args.self.now.epoch on.epoch_state _ on.here in
    let few = few_members p t c.args.self.now on in let tables = on.loop.tables.1 in
    let short : length c.turn-did.new.found.items ≤ length on.epoch_state.members = subst (λ (g : EpochState). length c.turn-did.new.found.items ≤ length g.members) epoch_state
    c.turn-did.ensures.few in
    let list = ap (λ (l : List (ℕ × ℕ)). length l) c.as_slice.ensures.value in
    omega (arith, few, tables, short, list)

pub returns-clause-stands : goal.returns-clause-stands
returns-clause-stands g' c = let on = c.requires.stands in let p = layout c.args.board.now in let t = table_of c.args.board.now in
    let epoch_state : c.index_mut.result.now ≡ on.epoch_state = c.index_mut.ensures.value
    ∙ get_or_from_slice_get c.args.self.now.epoch_states.items c.args.self.now.epoch on.epoch_state _ on.here in
    let list = c.as_slice.ensures.value in
    on_more p t c.args.self.now on c.turn-did.new.self (subst (λ (g : EpochState). IsSameEpochState g c.turn-did.new.self) epoch_state c.turn-did.ensures.same)
    c.turn-did.new.states c.turn-did.new.rows c.turn-did.ensures.stands
    (c.turn-did.auto.states ∙ c.as_mut_slice.ensures.len ∙ c.args.self.now.states.ok.0)
    (subst (λ (x : EpochState × List NodeState). AreLeft x.0.members x.1 c.turn-did.new.states) (λ i. (epoch_state i, c.as_mut_slice.ensures.value i))
    c.turn-did.ensures.states)
    c.turn-did.ensures.rows c.turn-did.new.found c.tell.new.tables
    (subst (λ (g : EpochState). length c.turn-did.new.found.items ≤ length g.members) epoch_state c.turn-did.ensures.few)
    (c.turn-did.ensures.capacity ∙ c.clear.ensures.capacity)
    c.tell.ensures.tables c.tell.ensures.count
    (subst (λ (l : List (ℕ × ℕ)). get_or c.tell.new.tables (length l) [] ≡ l) list c.tell.ensures.told)
    c.woke-self.result

pub returns-clause-did : goal.returns-clause-did
returns-clause-did g' c = λ g h here there. let on = c.requires.stands in let p = layout c.args.board.now in let t = table_of c.args.board.now in
    let epoch_state : c.index_mut.result.now ≡ g = c.index_mut.ensures.value
    ∙ get_or_from_slice_get c.args.self.now.epoch_states.items c.args.self.now.epoch g _ here in
    let after : c.turn-did.new.self ≡ h = same_Some c.turn-did.new.self h
    (sym (get_same c.args.self.now.epoch_states.items c.args.self.now.epoch c.turn-did.new.self (low p t c.args.self.now on)) ∙ there) in
    subst (λ (x : EpochState × EpochState). IsDid p x.0 c.turn-did.result c.turn-did.new.found.items x.1) (λ i. (epoch_state i, after i)) c.turn-did.ensures.did

pub returns-clause-woke : goal.returns-clause-woke
returns-clause-woke g' c = λ h there. let s = c.args.self.now in
    subst (λ (x : EpochState). IsWoke c.turn-did.result x c.woke-self.result)
    (c.index.ensures ∙ get_or_from_slice_get (set s.epoch_states.items s.epoch c.turn-did.new.self) s.epoch h _ there) c.woke-self.ensures

pub returns-clause-same : goal.returns-clause-same
returns-clause-same g' c = record {
  run_model = refl;
  nodes = refl;
  epoch = refl;
  epoch_states = λ k ne. get_other c.args.self.now.epoch_states.items c.args.self.now.epoch k c.turn-did.new.self ne;
}
