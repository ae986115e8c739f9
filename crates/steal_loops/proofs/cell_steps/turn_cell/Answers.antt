use Rattle.std.proofs.Common.{List, ℕ, length, sym, ap, ◌∙◌}
use Rattle.board_rule.specs.OnBoard.{layout, table_of}
use Rattle.data_loop.proofs.SettlingLemmas.{settled_idle}
use Rattle.steal_loops.proofs.cell_steps.turn_cell.Goals as goal

pub returns-then-len-eq0-clause-settled : goal.returns-then-len-eq0-clause-settled
returns-then-len-eq0-clause-settled g c = settled_idle (layout c.args.board.now) (table_of c.args.board.now) c.args.state.now c.turn.new.self
    c.requires.stands record {
      on = c.turn.ensures.stands;
      same = c.turn.ensures.same;
      led = c.turn.ensures.led;
    } c.in-Idle.ensures.did
    (sym (ap (λ (l : List (ℕ × ℕ)). length l) c.found.ensures) ∙ sym c.len.ensures ∙ c.if-len-eq0.true)
