use Rattle.std.proofs.Common.{◌≡◌, ℕ, ◌+◌, Some, get_or, sym, ap, ◌∙◌, subst}
use Rattle.std.proofs.lemmas.Option.{get_or_from_slice_get}
use Rattle.board_rule.specs.declared.board.Board.{Board}
use Rattle.board_rule.specs.OnBoard.{layout, table_of}
use Rattle.data_loop.specs.LoopsOnBoards.{IsOnBoard}
use Rattle.data_loop.specs.LoopWay.{IsAmid}
use Rattle.data_loop.proofs.RunningLemmas.{amid, none_leads}
use Rattle.steal_loops.proofs.StepLemmas.{turned_step, next_step, made_step}
use Rattle.steal_loops.proofs.cell_steps.step_cell.Goals as goal

pub turn_cell-requires : goal.turn_cell-requires
turn_cell-requires g c = let s = c.args.state.now in
    let a : IsAmid c.args.boards.now s = amid c.args.boards.now s c.requires.under_way c.requires.left in
    let b : Board = c.index-as_slice-epoch.result in
    let is : b ≡ a.board = c.index-as_slice-epoch.is ∙ (λ i. get_or (c.as_slice.ensures i) (c.epoch.ensures i) b)
    ∙ get_or_from_slice_get c.args.boards.now s.epoch a.board b a.here in record {
      stands = subst (λ (x : Board). IsOnBoard (layout x) (table_of x) s) (sym is) a.on;
    }

pub next_epoch-requires : goal.next_epoch-requires
next_epoch-requires g c = let s = c.args.state.now in
    let a : IsAmid c.args.boards.now s = amid c.args.boards.now s c.requires.under_way c.requires.left in
    let b : Board = c.index-as_slice-epoch.result in
    let is : b ≡ a.board = c.index-as_slice-epoch.is ∙ (λ i. get_or (c.as_slice.ensures i) (c.epoch.ensures i) b)
    ∙ get_or_from_slice_get c.args.boards.now s.epoch a.board b a.here in
    let on : IsOnBoard (layout b) (table_of b) s = subst (λ (x : Board). IsOnBoard (layout x) (table_of x) s) (sym is) a.on in record {
      ended = (layout b, table_of b, c.in-None.ensures.settled.end (none_leads (layout b) (table_of b) s on c.requires.none));
    }

pub returns-in-Some : goal.returns-in-Some
returns-in-Some g c = let s = c.args.state.now in let u = c.turn_cell.new.state in
    let a : IsAmid c.args.boards.now s = amid c.args.boards.now s c.requires.under_way c.requires.left in
    let b : Board = c.index-as_slice-epoch.result in
    let is : b ≡ a.board = c.index-as_slice-epoch.is ∙ (λ i. get_or (c.as_slice.ensures i) (c.epoch.ensures i) b)
    ∙ get_or_from_slice_get c.args.boards.now s.epoch a.board b a.here in record {
      stepped = turned_step c.args.boards.now s u a c.turn_cell.ensures.turned.same
          (subst (λ (x : Board). IsOnBoard (layout x) (table_of x) u) is c.turn_cell.ensures.turned.on);
      made = made_step c.args.boards.now b s u c.in-Some.did (a.here ∙ ap (λ (x : Board). Some x) (sym is)) c.in-Some.ensures.made;
    }

pub returns-in-None : goal.returns-in-None
returns-in-None g c = let s = c.args.state.now in let u = c.turn_cell.new.state in
    let a : IsAmid c.args.boards.now s = amid c.args.boards.now s c.requires.under_way c.requires.left in record {
      stepped = next_step c.args.boards.now s u a c.turn_cell.ensures.turned.same c.next_epoch.new.self
          c.next_epoch.ensures.same c.next_epoch.ensures.next c.next_epoch.ensures.between;
      made = (c.next_epoch.ensures.next ∙ ap (λ (n : ℕ). n + 1) c.turn_cell.ensures.turned.same.epoch, c.next_epoch.ensures.woke);
    }
