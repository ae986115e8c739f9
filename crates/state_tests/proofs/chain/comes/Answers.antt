use Rattle.std.proofs.Common.{◌≡◌, ◌∙◌, ◌*◌, ◌≤◌, ℤ, Bor, List, Option, IfSome, arith, sym, ap, subst, length, find, count_by, option_copied}
use Rattle.pw_graph.specs.declared.plan.Plan.{Plan}
use Rattle.pw_graph.specs.declared.shape.ShapeLink.{ShapeLink}
use Rattle.pw_graph.specs.KindPorts.{input_count}
use Rattle.pw_graph.specs.PlanForms.{kind_at}
use Rattle.pw_graph.specs.Pools.{is_same_port}
use Rattle.cycle_model.specs.Epochs.{channels_of}
use Rattle.node_progress.specs.Standing.{port_at, goes_out}
use Rattle.state_tests.proofs.CarriedLemmas.{comes_silent, comes_alone}
use Rattle.state_tests.proofs.chain.comes.Goals as goal

pub returns-in_default : goal.returns-in_default
returns-in_default c = λ yes. let r = c.requires in let y = r.cycle in let run_model = c.args.run_model.now in let n = c.args.node in let e = c.args.at.now in
    let none = c.if-inputs_of-eq0.false in let inputs = c.inputs_of-2.ensures ∙ ap (λ (p : Plan). input_count (kind_at p n)) (sym y.plan_is) in
    c.silent.ensures yes
    ∙ comes_silent run_model y.sound c.args.epoch n e y.at y.one (omega (arith, none, inputs)) (length c.args.to.now)
    (c.is_wide.ensures c.if-not-is_wide.false ∙ ap (λ (p : Plan). p.quantum * channels_of e.forms (port_at n 0)) (sym y.plan_is))
    (ap (find (λ x. is_same_port x.to (port_at n 0))) (sym c.as_slice-links.ensures) ∙ sym c.first_into.ensures ∙ ap option_copied c.in_default.is)

pub returns : goal.returns
returns c = λ yes. let r = c.requires in let y = r.cycle in let run_model = c.args.run_model.now in let n = c.args.node in let e = c.args.at.now in
    let none = c.if-inputs_of-eq0.false in let inputs = c.inputs_of-2.ensures ∙ ap (λ (p : Plan). input_count (kind_at p n)) (sym y.plan_is) in
    let from = c.is_from.ensures c.if-not-is_from.false in
    c.alone.ensures yes
    ∙ comes_alone run_model y.sound c.args.epoch n e y.at y.one (omega (arith, none, inputs)) (length c.args.to.now) c.in-Some-row.row.now
    c.in-Some.link.now c.args.from
    (c.is_wide.ensures c.if-not-is_wide.false ∙ ap (λ (p : Plan). p.quantum * channels_of e.forms (port_at n 0)) (sym y.plan_is))
    (subst (λ (l : List ShapeLink). count_by (λ x. is_same_port x.to (port_at n 0)) l ≤ 1) c.as_slice-links.ensures
    (subst (λ m. m ≤ 1) c.count_into.ensures c.if-count_into-gt1.false))
    (ap (find (λ x. is_same_port x.to (port_at n 0))) (sym c.as_slice-links.ensures) ∙ sym c.first_into.ensures ∙ ap option_copied c.in-Some.is)
    (from.0 ∙ (λ i. port_at c.args.from ((c.inputs_of.ensures ∙ ap (λ (p : Plan). input_count (kind_at p c.args.from)) (sym y.plan_is)) i)))
    from.1 (subst (λ (o : Option (Bor (List ℤ))). IfSome o (λ x. x.now ≡ goes_out run_model c.args.epoch c.args.from 0)) c.in-Some-row.is r.row)
