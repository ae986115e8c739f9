use Rattle.std.proofs.Common.{◌≡◌, ◌++◌, ap₂, subst, ◌∙◌, get_or}
use Rattle.std.specs.Prelude.{OnOk}
use Rattle.std.proofs.lemmas.List.{get_or_default}
use Rattle.cycle_model.specs.Cycle.{wave_of}
use Rattle.cycle_model.specs.working.Known.{received_more, all_given_by}
use Rattle.cycle_model.specs.Progress.{nothing}
use Rattle.cycle_model.proofs.one_cycle.work.Goals as goal

pub returns-clause-now : goal.returns-clause-now
returns-clause-now c =
    let q = c.args.at.now.quantum in
    let e = c.args.at.now.epoch.now in
    let kind = c.args.kind.now in
    let node = c.args.node in
    let here = c.index-received-node.result in
    let old : get_or c.args.received.now node here ≡ get_or c.args.received.now node nothing =
    get_or_default c.args.received.now node here nothing c.requires.there in
    let more : c.receive.new.received ≡ received_more q c.args.at.now.first c.args.at.now.before.now c.args.now.now e kind node
    (get_or c.args.received.now node nothing) =
    c.in_ok-receive.ensures ∙ ap₂ (λ now r. received_more q c.args.at.now.first c.args.at.now.before.now now e kind node r)
    c.as_slice.ensures old in
    subst (λ r. OnOk c.give.result (c.give.new.now ≡ c.args.now.now ++ all_given_by q e kind (wave_of c.args.waves.now node) node r)) more
    (subst (λ w. OnOk c.give.result (c.give.new.now ≡ c.args.now.now ++ all_given_by q e kind w node c.receive.new.received))
    c.wave_of.ensures c.give.ensures)
