use Rattle.std.proofs.Common.{◌≡◌, ℕ, ◌<◌, cond, length, get_or, sym, subst}
use Rattle.cycle_model.specs.working.Known.{is_released, released}
use Rattle.cycle_model.specs.Progress.{nothing}
use Rattle.cycle_model.proofs.CycleLemmas.{released_all, idle_cycle}
use Rattle.cycle_model.proofs.cycles.next_cycle.Goals as goal

pub work_cycle-requires-clause-received : goal.work_cycle-requires-clause-received
work_cycle-requires-clause-received c =
    let old = c.args.received.now in
    released_all c.args.plan.now c.args.waves.now c.args.cycle old c.release.new.received c.requires.renderable.numbered c.requires.received
    c.release.ensures.long
    (subst (λ es. (n : ℕ) → n < length old → get_or c.release.new.received n nothing
    ≡ cond (is_released es c.args.cycle n) (released (get_or old n nothing)) (get_or old n nothing))
    c.as_slice.ensures c.release.ensures.each)

pub returns-in-None-clause-received : goal.returns-in-None-clause-received
returns-in-None-clause-received c =
    let old = c.args.received.now in
    idle_cycle c.args.plan.now c.args.waves.now c.args.cycle c.release.new.received (sym c.in-None.ensures)
    (released_all c.args.plan.now c.args.waves.now c.args.cycle old c.release.new.received c.requires.renderable.numbered
    c.requires.received c.release.ensures.long
    (subst (λ es. (n : ℕ) → n < length old → get_or c.release.new.received n nothing
    ≡ cond (is_released es c.args.cycle n) (released (get_or old n nothing)) (get_or old n nothing))
    c.as_slice.ensures c.release.ensures.each))
