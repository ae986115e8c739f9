use Rattle.std.proofs.Common.{◌≡◌, ◌∙◌, ◌+◌, ◌-◌, ◌++◌, length, min, take, drop, length-append, ap, arith}
use Rattle.std.proofs.lemmas.Grind.{common_steps}
use Rattle.std.proofs.lemmas.List.{take_rest}
use borrow.Rule.Slice.PartMut.{put_mid}
use Rattle.node_state.proofs.RowLemmas.{filled_from, filled_long, filled_more}
use Rattle.node_state.proofs.kinds.delay.read_ring.Goals as goal

pub returns : goal.returns
returns c =
    let ys = c.args.to.now in
    let a = c.args.a.now in
    let x = take (length c.args.ring.now - c.args.oldest) (drop c.args.oldest c.args.ring.now) in
    let y = take c.args.oldest c.args.ring.now in
    let first = c.copy_front-first.result in
    let second = c.copy_front-second.result in
    let to1 = c.copy_front-first.new.to in
    let to2 = put_mid first (length to1 - first) to1 c.copy_front-second.new.to in
    let row2 : c.copy_front-second.new.to ≡ filled_from y (drop first to1) = c.copy_front-second.ensures.row
    ∙ ap (filled_from y) (take_rest to1 first) in
    let two : to2 ≡ filled_from (x ++ y) ys = filled_more x y ys to1 c.copy_front-second.new.to first
    (length to1 - first) c.copy_front-first.ensures.count c.copy_front-first.ensures.row row2 (omega arith) in
    let count : first + second ≡ min (length (x ++ y)) (length ys) =
    let long : length to1 ≡ length ys = ap length c.copy_front-first.ensures.row ∙ grind (arith, common_steps) in
    let one : first ≡ min (length x) (length ys) = c.copy_front-first.ensures.count in
    let after : second ≡ min (length y) (length ys - first) = c.copy_front-second.ensures.count
    ∙ ap (λ n. min (length y) n) (grind (arith, common_steps, long)) in
    let both : length (x ++ y) ≡ length x + length y = length-append x y in
    omega (arith, one, after, both) in
    let row3 : c.copy_front.new.to ≡ filled_from a (drop (first + second) to2) = c.copy_front.ensures.row
    ∙ ap (filled_from a) (take_rest to2 (first + second)) in
    let three = filled_more (x ++ y) a ys to2 c.copy_front.new.to (first + second) (length to2 - (first + second)) count two row3
    (omega arith) in
    three ∙ filled_long ((x ++ y) ++ a) ys (grind (arith, common_steps, c.requires.lengths))
    ∙ ap (λ t. take (length ys) ((t ++ y) ++ a)) (take_rest c.args.ring.now c.args.oldest)
