use Rattle.std.proofs.Common.{◌≡◌, ◌∙◌, ◌-◌, pos, length, take, drop, replicate, ap, arith}
use Rattle.std.proofs.lemmas.Grind.{common_steps}
use Rattle.node_state.proofs.RowLemmas.{filled_padded}
use Rattle.node_state.proofs.kinds.source.pad_end.Goals as goal

pub returns : goal.returns
returns c =
    let to = c.copy_front-n.new.to in
    let k = c.copy_front-n.result in
    let long : length (take (length to - k) (drop k to)) ≡ length to - k = grind (arith, common_steps) in
    filled_padded c.args.samples.now c.args.to.now to c.fill.new.self k (pos 0) c.copy_front-n.ensures.count c.copy_front-n.ensures.row
    (c.fill.ensures.after (λ y e. e) ∙ ap (λ n. replicate n (pos 0)) long)
