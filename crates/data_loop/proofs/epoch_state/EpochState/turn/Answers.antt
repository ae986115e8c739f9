use Rattle.std.proofs.Common.{ℕ, true, List, ◌++◌, length, take, sym, ap, ◌∙◌, subst, arith}
use Rattle.board_rule.specs.OnBoard.{layout}
use Rattle.board_rule.specs.declared.view.View.{View}
use Rattle.data_loop.specs.declared.did.Did.TheVariants.{Ran}
use Rattle.data_loop.specs.declared.epoch_state.EpochState.{EpochState}
use Rattle.data_loop.specs.Progress.{is_chosen, chosen_in}
use Rattle.data_loop.specs.LoopTurn.{turn_order, HaveTried, HasRun}
use Rattle.data_loop.proofs.ProgressLemmas.{none_chosen}
use Rattle.data_loop.proofs.PassLemmas.{few_pass, ran_first, did_second, room_second, few_did}
use Rattle.data_loop.proofs.epoch_state.EpochState.turn.Goals as goal

pub pass-requires-clause-past : goal.pass-requires-clause-past
pass-requires-clause-past g' c = let f = c.progress_now-self.result in
    none_chosen (layout c.args.epoch_context.now.board.now) c.args.self.now.seat.knows (take f.from c.args.self.now.members) f.least
    c.progress_now-self.ensures.progress.past

pub pass-requires-clause-room : goal.pass-requires-clause-room
pass-requires-clause-room g' c = let g : EpochState = c.args.self.now in
    let few = few_pass (is_chosen (layout c.args.epoch_context.now.board.now) g.seat.knows c.progress_now-self.result.least true) g.members in
    let empty = ap (λ (l : List (ℕ × ℕ)). length l) c.requires.empty in let room = c.requires.room in
    omega (arith, few, empty, room)

pub pass-requires-in-Idle-clause-room : goal.pass-requires-in-Idle-clause-room
pass-requires-in-Idle-clause-room g' c = let p = layout c.args.epoch_context.now.board.now in let g : EpochState = c.args.self.now in let v : View = g.seat.knows in
    let least = c.progress_now-self.result.least in let exact = c.progress_now-self.ensures.exact in
    let x = c.in-Idle.ensures.passed in
    let one : HaveTried p v (chosen_in p g least true) c.pass.new.found.items c.pass.new.self.seat.knows =
    subst (λ (l : List (ℕ × ℕ)). HaveTried p v (chosen_in p g least true) l c.pass.new.self.seat.knows)
    (sym (x.1 ∙ ap (λ (l : List (ℕ × ℕ)). l ++ x.0) c.requires.empty)) x.2 in
    let few = room_second p g least exact c.pass.new.self c.in-Idle.ensures.same.members c.pass.new.found.items one in
    let cap = c.in-Idle.ensures.capacity in let room = c.requires.room in
    omega (arith, few, cap, room)

pub returns-in-Ran-clause-did : goal.returns-in-Ran-clause-did
returns-in-Ran-clause-did g' c = let p = layout c.args.epoch_context.now.board.now in let g : EpochState = c.args.self.now in let v : View = g.seat.knows in
    let least = c.progress_now-self.result.least in let exact = c.progress_now-self.ensures.exact in
    let x = c.in-Ran.ensures.passed in
    subst (λ (l : List (ℕ × ℕ)). HasRun p g (turn_order p v g.members) c.in-Ran.node l c.pass.new.self)
    (sym (x.1 ∙ ap (λ (l : List (ℕ × ℕ)). l ++ x.0) c.requires.empty))
    (ran_first p g least exact c.progress_now-self.result c.in-Ran.node x.0 c.pass.new.self x.2)

pub returns-in-Ran-clause-few : goal.returns-in-Ran-clause-few
returns-in-Ran-clause-few g' c = let p = layout c.args.epoch_context.now.board.now in let g : EpochState = c.args.self.now in let v : View = g.seat.knows in
    let least = c.progress_now-self.result.least in let exact = c.progress_now-self.ensures.exact in
    few_did p g (Ran c.in-Ran.node) c.pass.new.found.items c.pass.new.self (returns-in-Ran-clause-did g' c)

pub returns-in-Idle-clause-did : goal.returns-in-Idle-clause-did
returns-in-Idle-clause-did g' c = let p = layout c.args.epoch_context.now.board.now in let g : EpochState = c.args.self.now in let v : View = g.seat.knows in
    let least = c.progress_now-self.result.least in let exact = c.progress_now-self.ensures.exact in
    let x = c.in-Idle.ensures.passed in
    let one : HaveTried p v (chosen_in p g least true) c.pass.new.found.items c.pass.new.self.seat.knows =
    subst (λ (l : List (ℕ × ℕ)). HaveTried p v (chosen_in p g least true) l c.pass.new.self.seat.knows)
    (sym (x.1 ∙ ap (λ (l : List (ℕ × ℕ)). l ++ x.0) c.requires.empty)) x.2 in
    did_second p g least exact c.pass.new.self c.in-Idle.ensures.same.members c.pass.new.found.items one c.pass-in-Idle.result
    c.pass-in-Idle.new.found.items c.pass-in-Idle.new.self c.pass-in-Idle.ensures.passed

pub returns-in-Idle-clause-few : goal.returns-in-Idle-clause-few
returns-in-Idle-clause-few g' c = few_did (layout c.args.epoch_context.now.board.now) c.args.self.now c.pass-in-Idle.result c.pass-in-Idle.new.found.items
    c.pass-in-Idle.new.self (returns-in-Idle-clause-did g' c)
