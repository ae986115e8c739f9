use Rattle.std.proofs.Common.{true≢false, sym, subst}
use Rattle.board_rule.specs.OnBoard.{layout, table_of}
use Rattle.data_loop.specs.Settling.{HasSettled}
use Rattle.data_loop.proofs.SettlingLemmas.{settled_after}
use Rattle.data_loop.proofs.settling.settle.Goals.{in-None, in-Some+then-is_settled}
use Rattle.data_loop.proofs.settling.settle.Goals as goal

pub returns : goal.returns
returns g c = let p = layout c.args.board.now in let t = table_of c.args.board.now in record {
  settled = elim c.match-next.branch [
    | in-None w ↦ absurd (true≢false (sym w.in-None.ensures.steps))
    | in-Some+then-is_settled w ↦ subst (HasSettled p t c.args.state.now) (sym w.state-is)
        (settled_after p t c.args.state.now c.loop.state w.is_settled.new.state c.requires.stands c.loop.invariant.2 (w.is_settled.ensures.settled w.if-is_settled.true))
  ];
}
