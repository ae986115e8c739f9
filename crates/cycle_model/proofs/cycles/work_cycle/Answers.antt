use Rattle.std.proofs.Common.{◌≡◌, ◌<◌, ◌≤◌, ◌==◌, ◌++◌, Bool, List, [], ◌+◌, length, take, get_or, set, option_map, unwrap_or}
use Rattle.std.proofs.Common.{slice_get, refl, ap, sym, ◌∙◌, subst, arith}
use Rattle.std.proofs.lemmas.Bool.{ltb-true, ltb-false}
use Rattle.pw_graph.specs.declared.kind.Kind.TheVariants.{Dummy}
use Rattle.pw_graph.specs.PlanForms.{kind_at}
use Rattle.cycle_model.specs.declared.received.Received.{Received}
use Rattle.cycle_model.specs.declared.received.Given.{Given}
use Rattle.cycle_model.specs.Cycle.{wave_of}
use Rattle.cycle_model.specs.working.Known.{received_more, all_given_by}
use Rattle.cycle_model.specs.working.NodeOrder.{IsOrder, IsWhole}
use Rattle.cycle_model.specs.Progress.{nothing}
use Rattle.cycle_model.specs.working.UnderWay.{IsUnderWay}
use Rattle.cycle_model.proofs.CycleLemmas.{order_needs, none_done, next_more, skip_more, kind_there, all_worked}
use Rattle.cycle_model.proofs.cycles.work_cycle.Goals as goal
use Rattle.cycle_model.proofs.cycles.work_cycle.Goals.{in-Some+in_ok-work, in_default}

pub order_of-requires-clause-within : goal.order_of-requires-clause-within
order_of-requires-clause-within c =
    (order_needs c.args.plan.now c.args.waves.now c.args.cycle c.args.epoch.now c.requires.cycle.renderable c.requires.cycle.here).within

pub order_of-requires-clause-nodes : goal.order_of-requires-clause-nodes
order_of-requires-clause-nodes c =
    (order_needs c.args.plan.now c.args.waves.now c.args.cycle c.args.epoch.now c.requires.cycle.renderable c.requires.cycle.here).small

pub order_of-requires-clause-order : goal.order_of-requires-clause-order
order_of-requires-clause-order c =
    (order_needs c.args.plan.now c.args.waves.now c.args.cycle c.args.epoch.now c.requires.cycle.renderable c.requires.cycle.here).ordered

pub order_of-requires-clause-active : goal.order_of-requires-clause-active
order_of-requires-clause-active c =
    (order_needs c.args.plan.now c.args.waves.now c.args.cycle c.args.epoch.now c.requires.cycle.renderable c.requires.cycle.here).active

pub loop-i-init : goal.loop-i-init
loop-i-init c = subst (IsUnderWay c.args.plan.now c.args.waves.now c.args.cycle [] c.args.received.now) (sym c.new-now.ensures)
    (none_done c.args.plan.now c.args.waves.now c.args.cycle c.args.received.now c.requires.received)

pub loop-i-preserved : goal.loop-i-preserved
loop-i-preserved c =
    let plan = c.args.plan.now in
    let waves = c.args.waves.now in
    let e = c.args.epoch.now in
    let order = c.as_slice-order.result.now in
    let i = c.loop-i.i in
    let node = get_or order i 0 in
    let received = c.loop-i.received in
    let now = c.loop-i.now in
    let earlier = c.args.before.now in
    let first : Bool = c.args.cycle == c.from.result in
    let starts : first ≡ (c.args.cycle == e.shape.first) = ap (λ n. c.args.cycle == n) c.from.ensures in
    let here : i < length order = omega arith in
    elim c.match-get.branch [
      | in-Some+in_ok-work w ↦
          let there : node < length c.as_slice.result.now = ltb-true node (length c.as_slice.result.now) (sym w.in-Some.ensures.lookup.0) in
          let small : node < length plan.nodes = omega (arith, there, ap length c.as_slice.ensures) in
          let kind : w.in-Some.known.now.kind ≡ kind_at plan node =
          ap (λ n. n.kind) w.in-Some.ensures.lookup.1 ∙ sym (kind_there c.as_slice.result.now node w.in-Some.known.now there)
          ∙ ap (λ ns. unwrap_or (option_map (λ n. n.kind) (slice_get ns node)) Dummy) c.as_slice.ensures in
          subst (λ (s : List Received × List Given). IsUnderWay plan waves c.args.cycle (take (i + 1) order) s.0 s.1)
          (λ j. (sym w.received-is j, sym w.now-is j))
          (next_more plan waves c.args.cycle e first starts earlier order i node received w.work.new.received now w.work.new.now
          c.requires.cycle (subst (IsOrder e) (sym c.as_slice-order.ensures) c.in_ok-order.ensures.order)
          here refl small c.loop-i.invariant
          (w.in_ok-work.ensures.received ∙ ap (λ k. set received node
          (received_more plan.quantum first earlier now e k node (get_or received node nothing))) kind)
          (w.in_ok-work.ensures.now ∙ ap (λ k. now ++ all_given_by plan.quantum e k (wave_of waves node) node
          (received_more plan.quantum first earlier now e k node (get_or received node nothing))) kind))
      | in_default w ↦
          let high : length plan.nodes ≤ node = omega (
            arith,
            ltb-false node (length c.as_slice.result.now) (sym w.in_default.ensures.lookup.0),
            ap length c.as_slice.ensures,
          ) in
          subst (λ (s : List Received × List Given). IsUnderWay plan waves c.args.cycle (take (i + 1) order) s.0 s.1)
          (λ j. (sym w.received-is j, sym w.now-is j))
          (skip_more plan waves c.args.cycle order i node received now here refl high c.loop-i.invariant)
    ]

pub returns-clause-received : goal.returns-clause-received
returns-clause-received c =
    let whole = subst (IsWhole c.args.epoch.now) (sym c.as_slice-order.ensures) c.in_ok-order.ensures.whole in
    (all_worked c.args.plan.now c.args.waves.now c.args.cycle c.args.epoch.now c.args.before.now c.as_slice-order.result.now c.loop-i.i
    c.loop-i.received c.loop-i.now c.requires.cycle whole (omega arith) c.loop-i.invariant).0

pub returns-clause-told : goal.returns-clause-told
returns-clause-told c =
    let whole = subst (IsWhole c.args.epoch.now) (sym c.as_slice-order.ensures) c.in_ok-order.ensures.whole in
    (all_worked c.args.plan.now c.args.waves.now c.args.cycle c.args.epoch.now c.args.before.now c.as_slice-order.result.now c.loop-i.i
    c.loop-i.received c.loop-i.now c.requires.cycle whole (omega arith) c.loop-i.invariant).1
