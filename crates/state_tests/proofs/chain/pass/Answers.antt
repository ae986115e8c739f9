use Rattle.std.proofs.Common.{◌≡◌, ◌∙◌, ◌+◌, suc, false, arith, sym, ap, subst, inl, refl, [], nat_lt}
use Rattle.std.proofs.lemmas.Bool.{cond-false, le-ltb}
use Rattle.pw_graph.specs.declared.plan.Plan.{Plan}
use Rattle.pw_graph.specs.KindPorts.{input_count}
use Rattle.pw_graph.specs.PlanForms.{kind_at}
use Rattle.node_progress.specs.NodeStates.{IsNodeState, IsOutputRow}
use Rattle.node_progress.proofs.IdleLemmas.{idle_through}
use Rattle.state_tests.proofs.chain.pass.Goals as goal

pub returns-then-not-works_in-clause-state : goal.returns-then-not-works_in-clause-state
returns-then-not-works_in-clause-state c = let r = c.requires in let y = r.cycle in let k = c.args.epoch in let first = y.one.0 in let one = y.one.1 in
    let e = c.args.at.now in
    let end : e.shape.first + e.shape.cycles ≡ suc k = omega (arith, first, one) in
    subst (λ j. IsNodeState c.args.run_model.now k j c.args.node c.args.state.now) end
    (idle_through c.args.run_model.now k e c.args.node y.sound y.fit r.place y.at (sym c.works_in.ensures ∙ c.if-not-works_in.true)
    c.args.state.now (subst (λ j. IsNodeState c.args.run_model.now k j c.args.node c.args.state.now) (sym first) r.state))

pub work-requires : goal.work-requires
work-requires c = let r = c.requires in let y = r.cycle in let k = c.args.epoch in let first = y.one.0 in let one = y.one.1 in
    let run_model = c.args.run_model.now in let n = c.args.node in
    let inputs = c.inputs_of.ensures ∙ ap (λ (p : Plan). input_count (kind_at p n)) (sym y.plan_is) in
    let few = c.if-inputs_of-gt1.false in
    let past : nat_lt 1 (input_count (kind_at run_model.plan.value n)) ≡ false =
    le-ltb 1 (input_count (kind_at run_model.plan.value n)) (omega (arith, inputs, few)) in
    record {
      may = record {
        works = record {
          sound = y.sound;
          waves = y.fit;
          place = r.place;
          epoch = c.args.at.now;
          at = y.at;
          from = omega (arith, first);
          to = omega (arith, first, one);
          works = sym c.works_in.ensures ∙ c.if-not-works_in.false;
        };
        state = r.state;
        a_is = r.a (sym c.works_in.ensures ∙ c.if-not-works_in.false);
        b_is = sym (cond-false (nat_lt 1 (input_count (kind_at run_model.plan.value n))) _ [] past);
        left_fits = subst (λ (p : Plan). IsOutputRow p c.args.at.now n 0 c.args.left.now) (sym y.plan_is)
            (c.is_row.ensures c.if-not-is_row.false c.args.left.now refl);
        right_fits = inl refl;
      };
    }
