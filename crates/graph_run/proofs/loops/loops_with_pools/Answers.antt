use Rattle.std.proofs.Common.{◌≡◌, List, length, map, arith}
use Rattle.std.proofs.lemmas.List.Elements.{All-map}
use Rattle.pw_lists.specs.Listed.{Listed}
use Rattle.board_rule.specs.Known.{Known}
use Rattle.graph_run.specs.Seating.{holder_of}
use Rattle.graph_run.proofs.DraftLemmas.{drafts_next, all_next, all_lack, all_have, all_loops}
use Rattle.graph_run.proofs.ReadyLemmas.{all_ready}
use Rattle.graph_run.proofs.loops.loops_with_pools.Goals as goal

pub add_epoch-requires-clause-lack : goal.add_epoch-requires-clause-lack
add_epoch-requires-clause-lack c = let before = c.loop-epoch-test.true in let end = c.len-epoch-end.ensures in
    all_lack c.args.plan.now (holder_of c.args.seating.now) (map (λ (r : Listed Known). r.list) c.args.seats.items) c.loop-epoch.epoch c.loop-epoch.drafts.items
    c.loop-epoch.invariant
    (All-map (λ (row : List Known). length row ≡ length c.args.plan.now.epochs) (λ (r : Listed Known). r.list) c.args.seats.items c.requires.seats)
    c.requires.sound.few (omega (arith, before, end))

pub add_epoch-requires-clause-next : goal.add_epoch-requires-clause-next
add_epoch-requires-clause-next c =
    all_next c.args.plan.now (holder_of c.args.seating.now) (map (λ (r : Listed Known). r.list) c.args.seats.items) c.loop-epoch.epoch c.loop-epoch.drafts.items
    c.loop-epoch.invariant

pub loop-epoch-preserved : goal.loop-epoch-preserved
loop-epoch-preserved c =
    drafts_next c.args.plan.now (holder_of c.args.seating.now) (map (λ (r : Listed Known). r.list) c.args.seats.items) c.loop-epoch.epoch c.loop-epoch.drafts.items
    c.loop-epoch.invariant c.add_epoch.new.drafts.items c.in_ok-add_epoch.ensures

pub finish_all-requires-clause-all : goal.finish_all-requires-clause-all
finish_all-requires-clause-all c = let past = c.loop-epoch-test.false in let end = c.len-epoch-end.ensures in
    all_have c.args.plan.now (holder_of c.args.seating.now) (map (λ (r : Listed Known). r.list) c.args.seats.items) c.loop-epoch.epoch c.loop-epoch.drafts.items
    c.loop-epoch.invariant
    (All-map (λ (row : List Known). length row ≡ length c.args.plan.now.epochs) (λ (r : Listed Known). r.list) c.args.seats.items c.requires.seats)
    (let most = c.loop-epoch.auto.epoch-end in omega (arith, past, end, most))

pub returns-clause-of : goal.returns-clause-of
returns-clause-of c =
    all_loops c.args.plan.now (holder_of c.args.seating.now) (map (λ (r : Listed Known). r.list) c.args.seats.items) c.loop-epoch.epoch c.loop-epoch.drafts.items
    c.loop-epoch.invariant c.args.waves.now c.in_ok-states.states c.in_ok-states.ensures.of

pub returns-clause-ready : goal.returns-clause-ready
returns-clause-ready c = let plan = c.args.plan.now in let waves = c.args.waves.now in let f = holder_of c.args.seating.now in
    let loops = c.args.seating.now.loops in let rows = map (λ (r : Listed Known). r.list) c.args.seats.items in
    λ boards shapes seats. all_ready plan waves f loops c.requires.sound c.requires.seating boards shapes rows seats c.in_ok-states.states
    (all_loops plan f rows c.loop-epoch.epoch c.loop-epoch.drafts.items c.loop-epoch.invariant waves c.in_ok-states.states c.in_ok-states.ensures.of)
    c.in_ok-states.ensures.between
