use Rattle.std.proofs.Common.{OnOk, ◌≡◌, ◌-◌, ◌<◌, ◌∷◌, ◌++◌, [], ◌∙◌, ap, sym, subst, replicate, List, Bool, true, false, cond, arith}
use Rattle.std.specs.Prelude.{count_by}
use Rattle.std.specs.List.{list_any}
use Rattle.pw_graph.specs.declared.shape.ShapeLink.{ShapeLink}
use Rattle.pw_graph.specs.Pools.{links_from}
use Rattle.board_rule.specs.declared.view.BlockView.{BlockView}
use Rattle.board_rule.specs.declared.view.BlockView.TheVariants.{Free, Out}
use Rattle.board_rule.proofs.LayoutLemmas.{any_counted}
use Rattle.std.proofs.lemmas.List.{append_assoc}
use Rattle.board_rule.proofs.starts.push_blocks.Goals as goal

pub returns-then-delayed_readers-eq0 : goal.returns-then-delayed_readers-eq0
returns-then-delayed_readers-eq0 c = let x = c.args.pool.now in let shape = c.args.shape.now in
    let count : c.delayed_readers.result ≡ count_by (λ (l : ShapeLink). l.delayed) (links_from shape x.port) = c.delayed_readers.ensures in
    let none : count_by (λ (l : ShapeLink). l.delayed) (links_from shape x.port) ≡ 0 = (let z = c.if-delayed_readers-eq0.true in omega arith) in
    let late : list_any (λ (l : ShapeLink). l.delayed) (links_from shape x.port) ≡ false =
    (any_counted (λ (l : ShapeLink). l.delayed) (links_from shape x.port)).0 none in
    subst (λ (b : Bool). OnOk c.extend_filled.result (c.extend_filled.new.self ≡ c.args.blocks.now
    ++ cond b (Out shape.first ∷ replicate (x.blocks - 1) Free) (replicate x.blocks Free))) (sym late) c.extend_filled.ensures.ok

pub returns : goal.returns
returns c = let x = c.args.pool.now in let shape = c.args.shape.now in
    let count : c.delayed_readers.result ≡ count_by (λ (l : ShapeLink). l.delayed) (links_from shape x.port) = c.delayed_readers.ensures in
    let some : 0 < count_by (λ (l : ShapeLink). l.delayed) (links_from shape x.port) = (let z = c.if-delayed_readers-eq0.false in omega arith) in
    let late : list_any (λ (l : ShapeLink). l.delayed) (links_from shape x.port) ≡ true =
    (any_counted (λ (l : ShapeLink). l.delayed) (links_from shape x.port)).1 some in
    let free : List BlockView = replicate (x.blocks - 1) Free in
    let all : c.push.new.self ++ replicate c.saturating_sub.result Free ≡ c.args.blocks.now ++ (Out shape.first ∷ free) =
    (λ i. c.in_ok-push.ensures.ok i ++ replicate (c.saturating_sub.ensures i) Free)
    ∙ ap (λ n. (c.args.blocks.now ++ Out n ∷ []) ++ free) c.from.ensures
    ∙ append_assoc c.args.blocks.now (Out shape.first ∷ []) free in
    subst (λ (xs : List BlockView). OnOk c.extend_filled-2.result (c.extend_filled-2.new.self ≡ xs))
    (all ∙ ap (λ (b : Bool). c.args.blocks.now ++ cond b (Out shape.first ∷ free) (replicate x.blocks Free)) (sym late))
    c.extend_filled-2.ensures.ok
