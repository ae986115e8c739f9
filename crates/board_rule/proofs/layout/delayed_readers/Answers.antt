use Rattle.std.proofs.Common.{arith, ◌≡◌, ◌∙◌, ◌<◌, ◌≤◌, ℕ, List, cond, length, take, get_or, ap}
use Rattle.std.specs.Prelude.{count_by}
use Rattle.std.proofs.lemmas.List.{take_all}
use Rattle.pw_graph.specs.declared.shape.ShapeLink.{ShapeLink}
use Rattle.pw_graph.specs.Pools.{is_same_port}
use Rattle.board_rule.specs.buffers.EndViews.{no_link, link_in}
use Rattle.board_rule.proofs.activation.RowLemmas.{sum_more}
use Rattle.board_rule.proofs.PoolLinkLemmas.{counted_places, id_inside}
use Rattle.board_rule.proofs.layout.delayed_readers.Goals as goal

pub late_of-late-requires : goal.late_of-late-requires
late_of-late-requires c = id_inside c.args.shape.now c.args.pool.now c.requires c.loop-id.id-index c.as_slice-id-items.result.now
    c.as_slice-id-items.ensures c.loop-id-test.true

pub loop-id-preserved : goal.loop-id-preserved
loop-id-preserved c = let xs : List ℕ = c.as_slice-id-items.result.now in let i : ℕ = c.loop-id.id-index in let shape = c.args.shape.now in
    let f : ℕ → ℕ = λ l. cond (link_in shape l).delayed 1 0 in let near : i < length xs = c.loop-id-test.true in
    let inv = c.loop-id.invariant in let old = inv.0 in let low = inv.1 in
    let is : c.late_of-late.result ≡ f (get_or xs i 0) = c.late_of-late.ensures.is in let most = c.late_of-late.ensures.most in
    let more = sum_more f xs i 0 near in (omega arith, omega arith)

pub returns : goal.returns
returns c = let xs : List ℕ = c.as_slice-id-items.result.now in let shape = c.args.shape.now in let x = c.args.pool.now in
    let i : ℕ = c.loop-id.id-index in let long : length xs ≤ i = (let t = c.loop-id-test.false in omega arith) in
    let all : take i xs ≡ x.links = take_all i xs long ∙ c.as_slice-id-items.ensures in
    c.loop-id.invariant.0 ∙ ap (count_by (λ i. (link_in shape i).delayed)) (all ∙ c.requires)
    ∙ counted_places (λ (l : ShapeLink). is_same_port l.from x.port) (λ l. l.delayed) no_link shape.links
