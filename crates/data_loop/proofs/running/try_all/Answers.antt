use Rattle.std.proofs.Common.{ℕ, List, length, refl, sym, ap, ◌∙◌, inr}
use Rattle.board_rule.specs.OnBoard.{layout, table_of}
use Rattle.data_loop.proofs.SettlingLemmas.{settled_idle, nothing}
use Rattle.data_loop.proofs.RunningLemmas.{way_on, rested_on}
use Rattle.data_loop.proofs.running.try_all.Goals as goal

pub returns-then-len-eq0-clause-settled : goal.returns-then-len-eq0-clause-settled
returns-then-len-eq0-clause-settled g c = λ _. settled_idle (layout c.args.board.now) (table_of c.args.board.now) c.args.state.now c.turn.new.self
    c.requires.stands record {
      on = c.turn.ensures.stands;
      same = c.turn.ensures.same;
      led = c.turn.ensures.led;
    } c.in-Idle.ensures.did
    (sym (ap (λ (l : List (ℕ × ℕ)). length l) c.found.ensures) ∙ sym c.len.ensures ∙ c.if-len-eq0.true)

pub returns-else-len-eq0-clause-way : goal.returns-else-len-eq0-clause-way
returns-else-len-eq0-clause-way g c = way_on c.args.ways.now c.args.state.now c.turn.new.self c.args.way.now c.rest_unless_called.new.way
    c.turn.ensures.same.nodes c.rest_unless_called.ensures.number c.rest_unless_called.ensures.answered c.requires.way

-- none was tried
pub returns-then-len-eq0-clause-tried : goal.returns-then-len-eq0-clause-tried
returns-then-len-eq0-clause-tried g c = (
  c.in-Idle.ensures.did,
  nothing c.turn.new.self.found.items (sym (ap (λ (l : List (ℕ × ℕ)). length l) c.found.ensures) ∙ sym c.len.ensures ∙ c.if-len-eq0.true),
  refl,
)

-- some were too early
pub returns-else-len-eq0-clause-tried : goal.returns-else-len-eq0-clause-tried
returns-else-len-eq0-clause-tried g c = inr (
  c.in-Idle.ensures.did,
  (λ none. c.if-len-eq0.false (c.len.ensures ∙ ap (λ (l : List (ℕ × ℕ)). length l) (c.found.ensures ∙ none))),
  c.rest_unless_called.ensures.rested,
)

pub returns-else-len-eq0-clause-started : goal.returns-else-len-eq0-clause-started
returns-else-len-eq0-clause-started g c = rested_on c.args.way.now c.rest_unless_called.new.way c.rest_unless_called.ensures.rested c.requires.started
