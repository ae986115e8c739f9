use Rattle.std.proofs.Common.{◌≡◌, ◌∙◌, ◌-◌, ◌++◌, ◌<◌, [], length, take, drop, drop-drop, length-drop, drop_of_length-le, append-nil}
use Rattle.std.proofs.Common.{ap, ap₂, sym, arith}
use Rattle.std.proofs.lemmas.Grind.{common_steps}
use Rattle.std.proofs.lemmas.List.{take_rest}
use Rattle.std.proofs.Math.Seq.{take-append_seam, drop-append_seam}
use borrow.Rule.Slice.PartMut.{put_mid}
use Rattle.node_state.specs.working.Line.{turned}
use Rattle.node_state.proofs.RowLemmas.{filled_from, filled_long, ring_replaced, ring_round}
use Rattle.node_state.proofs.kinds.delay.write_ring.Goals as goal

pub returns-then-a-size-clause-line : goal.returns-then-a-size-clause-line
returns-then-a-size-clause-line c =
    let start = length c.args.a.now - length c.args.ring.now in
    let row : take (length c.args.a.now - start) (drop start c.args.a.now) ≡ drop start c.args.a.now = take_rest c.args.a.now start in
    ring_replaced c.args.ring.now c.copy_from_slice.new.self c.args.a.now c.args.oldest c.requires.within c.if-a-size.true
    (c.copy_from_slice.ensures.after ∙ row)

pub returns-clause-line : goal.returns-clause-line
returns-clause-line c =
    let ring = c.args.ring.now in
    let a = c.args.a.now in
    let oldest = c.args.oldest in
    let first = c.copy_front-first.result in
    let size = length ring - oldest in
    let new = c.copy_front-first.new.to in
    let place : length (take oldest ring) ≡ oldest = grind (arith, common_steps, c.requires.within) in
    let space : length (take size (drop oldest ring)) ≡ size = grind (arith, common_steps) in
    let short : first < length a = omega (arith, c.copy_front-first.ensures.count, c.requires.over, space) in
    let count : first ≡ size = omega (arith, c.copy_front-first.ensures.count, space, short) in
    let row : new ≡ take first a = c.copy_front-first.ensures.row
    ∙ filled_long a (take size (drop oldest ring)) (omega (arith, space, count, short)) ∙ ap (λ n. take n a) (space ∙ sym count) in
    let none : drop size (drop oldest ring) ≡ [] = drop-drop size oldest ring ∙ drop_of_length-le ring (omega arith) in
    let whole : put_mid oldest size ring new ≡ take oldest ring ++ new = ap (λ t. take oldest ring ++ (new ++ t)) none
    ∙ ap (λ t. take oldest ring ++ t) (append-nil new) in
    let kept : take oldest (put_mid oldest size ring new) ≡ take oldest ring = ap (take oldest) whole
    ∙ ap (λ n. take n (take oldest ring ++ new)) (sym place) ∙ take-append_seam (take oldest ring) new in
    let front : drop oldest (put_mid oldest size ring new) ≡ take first a = ap (drop oldest) whole
    ∙ ap (λ n. drop n (take oldest ring ++ new)) (sym place) ∙ drop-append_seam (take oldest ring) new ∙ row in
    let back : c.copy_front.new.to ≡ filled_from (drop first a) (take oldest ring) = c.copy_front.ensures.row
    ∙ ap₂ filled_from (take_rest a first) kept in
    let left : length (take oldest (put_mid oldest size ring new)) ≡ oldest = ap length kept ∙ place in
    let rest : length (take (length a - first) (drop first a)) ≡ length a - first = ap length (take_rest a first) ∙ length-drop first a in
    let result : c.copy_front.result ≡ length a - first =
    omega (arith, c.copy_front.ensures.count, left, rest, c.if-a-size.false, count, short, c.requires.within) in
    ap (λ n. turned n (c.copy_front.new.to ++ drop oldest (put_mid oldest size ring new))) result
    ∙ ring_round ring (drop oldest (put_mid oldest size ring new))
    c.copy_front.new.to a oldest first c.requires.within c.if-a-size.false count (omega (arith, short)) front back
