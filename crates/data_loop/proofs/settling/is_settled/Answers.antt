use Rattle.std.proofs.Common.{◌≡◌, ◌≢◌, nat_eq, true, true≢false, ⊎_elim, List, ℕ, length, sym, ap, ◌∙◌}
use Rattle.std.proofs.lemmas.Bool.{cases_eq, ne_eqb}
use Rattle.board_rule.specs.OnBoard.{layout, table_of}
use Rattle.data_loop.proofs.SettlingLemmas.{settled_idle}
use Rattle.data_loop.proofs.settling.is_settled.Goals as goal

is_zero : (n : ℕ) → nat_eq n 0 ≡ true → n ≡ 0
is_zero n e = ⊎_elim
    (λ (is : n ≡ 0). is)
    (λ (ne : n ≢ 0). absurd (true≢false (sym e ∙ ne_eqb n 0 ne)))
    (cases_eq n 0)

pub returns-in-Idle-clause-settled : goal.returns-in-Idle-clause-settled
returns-in-Idle-clause-settled g c empty = settled_idle (layout c.args.board.now) (table_of c.args.board.now) c.args.state.now c.turn.new.self
    c.requires.stands record {
      on = c.turn.ensures.stands;
      same = c.turn.ensures.same;
      led = c.turn.ensures.led;
    } c.in-Idle.ensures.did
    (sym (ap (λ (l : List (ℕ × ℕ)). length l) c.found.ensures) ∙ sym c.len.ensures ∙ is_zero c.len.result empty)
