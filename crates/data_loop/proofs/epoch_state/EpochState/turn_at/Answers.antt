use Rattle.std.proofs.Common.{◌≡◌, ◌≢◌, ◌∙◌, ◌<◌, ℕ, List, length, get_or, refl, sym, ap, subst}
use Rattle.std.specs.Prelude.{All}
use Rattle.board_rule.specs.OnBoard.{layout, table_of}
use Rattle.data_loop.specs.declared.member.Member.{Member}
use Rattle.data_loop.specs.declared.epoch_state.EpochState.{EpochState}
use Rattle.data_loop.specs.Tries.{no_member}
use Rattle.data_loop.specs.LoopTurn.{HaveTried}
use Rattle.data_loop.specs.LoopTries.{members_at}
use Rattle.data_loop.proofs.LoopTriesLemmas.{none_at, ended_at, tried_at, ran_at}
use Rattle.data_loop.proofs.epoch_state.EpochState.turn_at.Goals as goal

pub returns-in-None-clause-did : goal.returns-in-None-clause-did
returns-in-None-clause-did g' c = let s : EpochState = c.args.self.now in
    none_at (layout c.args.epoch_context.now.board.now) s.seat.knows c.args.node s.members c.args.found.now.items c.requires.empty
    (subst (All (λ (m : Member). m.node ≢ c.args.node)) c.as_slice.ensures c.in-None.ensures.none)

pub returns-in-Ended-clause-did : goal.returns-in-Ended-clause-did
returns-in-Ended-clause-did g' c = let s : EpochState = c.args.self.now in let p = layout c.args.epoch_context.now.board.now in let t = table_of c.args.epoch_context.now.board.now in
    let i = c.in-Some.index in let at = c.in-Some.ensures.some in let e = c.in-Ended.ensures.tried in
    let low : i < length s.members = subst (λ (l : List Member). i < length l) c.as_slice.ensures at.0 in
    let is : (get_or s.members i no_member).node ≡ c.args.node = ap (λ (l : List Member). (get_or l i no_member).node) (sym c.as_slice.ensures) ∙ at.1 in
    ended_at c.args.epoch_context.now.run_model.now c.args.epoch_context.now.epoch p t s c.args.states.now c.args.rows.now c.requires.stands i low c.args.node is
    c.args.found.now.items c.requires.empty e.0 c.try_member.new.self.seat.knows e.1

pub returns-in-NotYet-clause-did : goal.returns-in-NotYet-clause-did
returns-in-NotYet-clause-did g' c = let s : EpochState = c.args.self.now in let p = layout c.args.epoch_context.now.board.now in let t = table_of c.args.epoch_context.now.board.now in
    let i = c.in-Some.index in let at = c.in-Some.ensures.some in let e = c.in-NotYet.ensures.tried in
    let low : i < length s.members = subst (λ (l : List Member). i < length l) c.as_slice.ensures at.0 in
    let is : (get_or s.members i no_member).node ≡ c.args.node = ap (λ (l : List Member). (get_or l i no_member).node) (sym c.as_slice.ensures) ∙ at.1 in
    subst (λ (l : List (ℕ × ℕ)). HaveTried p s.seat.knows (members_at c.args.node s.members) l c.try_member.new.self.seat.knows)
    (sym {A = List (ℕ × ℕ)} c.push_reserved.ensures.items)
    (tried_at c.args.epoch_context.now.run_model.now c.args.epoch_context.now.epoch p t s c.args.states.now c.args.rows.now c.requires.stands i low c.args.node is
    c.args.found.now.items c.requires.empty e.0 c.in-NotYet.word e.1 c.try_member.new.self.seat.knows e.2)

pub returns-in-Ran-clause-did : goal.returns-in-Ran-clause-did
returns-in-Ran-clause-did g' c = let s : EpochState = c.args.self.now in let p = layout c.args.epoch_context.now.board.now in let t = table_of c.args.epoch_context.now.board.now in
    let i = c.in-Some.index in let at = c.in-Some.ensures.some in
    let low : i < length s.members = subst (λ (l : List Member). i < length l) c.as_slice.ensures at.0 in
    let is : (get_or s.members i no_member).node ≡ c.args.node = ap (λ (l : List Member). (get_or l i no_member).node) (sym c.as_slice.ensures) ∙ at.1 in (
      refl,
      c.requires.empty,
      ran_at c.args.epoch_context.now.run_model.now c.args.epoch_context.now.epoch p t s c.args.states.now c.args.rows.now c.requires.stands i low c.args.node is
          c.args.found.now.items c.requires.empty c.try_member.new.self c.in-Ran.ensures.tried,
    )
