use Rattle.std.proofs.Common.{◌≡◌, ◌+◌, Some, get_or, refl, sym, ap, ◌∙◌, subst}
use Rattle.std.proofs.lemmas.Option.{get_or_from_slice_get}
use Rattle.board_rule.specs.declared.board.Board.{Board}
use Rattle.board_rule.specs.OnBoard.{layout, table_of}
use Rattle.data_loop.specs.LoopsOnBoards.{IsOnBoard}
use Rattle.data_loop.specs.LoopWay.{IsAmid}
use Rattle.data_loop.proofs.RunningLemmas.{amid, none_leads, next_under_way, way_on}
use Rattle.data_loop.proofs.running.go_through.Goals as goal

pub go_round-requires-clause-stands : goal.go_round-requires-clause-stands
go_round-requires-clause-stands g c = let s = c.args.state.now in
    let a : IsAmid c.args.boards.now s = amid c.args.boards.now s c.requires.under_way c.requires.left in
    let b : Board = c.index-as_slice-epoch.result in
    let is : b ≡ a.board = c.index-as_slice-epoch.is ∙ (λ i. get_or (c.as_slice.ensures i) (c.epoch.ensures i) b)
    ∙ get_or_from_slice_get c.args.boards.now s.epoch a.board b a.here in
    subst (λ (x : Board). IsOnBoard (layout x) (table_of x) s) (sym is) a.on

pub next_epoch-requires : goal.next_epoch-requires
next_epoch-requires g c = let s = c.args.state.now in
    let a : IsAmid c.args.boards.now s = amid c.args.boards.now s c.requires.under_way c.requires.left in
    let b : Board = c.index-as_slice-epoch.result in
    let is : b ≡ a.board = c.index-as_slice-epoch.is ∙ (λ i. get_or (c.as_slice.ensures i) (c.epoch.ensures i) b)
    ∙ get_or_from_slice_get c.args.boards.now s.epoch a.board b a.here in
    let on : IsOnBoard (layout b) (table_of b) s = subst (λ (x : Board). IsOnBoard (layout x) (table_of x) s) (sym is) a.on in record {
      ended = (layout b, table_of b, c.go_round.ensures.settled.end (none_leads (layout b) (table_of b) s on c.requires.none));
    }

pub returns-clause-under_way : goal.returns-clause-under_way
returns-clause-under_way g c = let s = c.args.state.now in
    let a : IsAmid c.args.boards.now s = amid c.args.boards.now s c.requires.under_way c.requires.left in
    let same = c.go_round.ensures.settled.turned.same in
    next_under_way c.args.boards.now s c.go_round.new.state c.next_epoch.new.self same c.next_epoch.ensures.same a.boards_are
    c.next_epoch.ensures.between (c.next_epoch.ensures.next ∙ ap (λ n. n + 1) same.epoch)

pub returns-clause-through : goal.returns-clause-through
returns-clause-through g c = let s = c.args.state.now in
    let a : IsAmid c.args.boards.now s = amid c.args.boards.now s c.requires.under_way c.requires.left in
    let b : Board = c.index-as_slice-epoch.result in
    let is : b ≡ a.board = c.index-as_slice-epoch.is ∙ (λ i. get_or (c.as_slice.ensures i) (c.epoch.ensures i) b)
    ∙ get_or_from_slice_get c.args.boards.now s.epoch a.board b a.here in record {
      board = b;
      here = a.here ∙ ap Some (sym is);
      last = c.go_round.new.state;
      rounds = c.go_round.ensures.rounds;
      next = c.next_epoch.ensures.same;
      epoch = c.next_epoch.ensures.next ∙ ap (λ n. n + 1) c.go_round.ensures.settled.turned.same.epoch;
    }

pub returns-clause-way : goal.returns-clause-way
returns-clause-way g c = let way = c.go_round.ensures.way in way_on c.args.ways.now c.go_round.new.state c.next_epoch.new.self c.go_round.new.way
    c.go_round.new.way c.next_epoch.ensures.same.nodes refl way.answered way
