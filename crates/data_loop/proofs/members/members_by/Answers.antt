use Rattle.std.proofs.Common.{◌∙◌, ℕ, List, ◌∷◌, ◌++◌, [], map, take, sym, ap}
use Rattle.std.specs.Prelude.{filter}
use Rattle.std.specs.List.{enumerate_from}
use Rattle.data_loop.specs.declared.member.Member.{Member}
use Rattle.data_loop.specs.Members.{member_of, has_role}
use Rattle.data_loop.proofs.PairLemmas.{picked_yes, picked_no}
use Rattle.data_loop.proofs.members.members_by.Goals as goal
use Rattle.data_loop.proofs.members.members_by.Goals.{then-has_role+in_ok-member+in_ok-add, else-has_role}

pub loop-at-preserved : goal.loop-at-preserved
loop-at-preserved c = let plan = c.args.plan.now in let e = c.args.epoch.now in let nodes = c.args.nodes.now in let at = c.loop-at.at in
    let before : List Member = map (λ x. member_of plan e x.1 x.0) (filter (λ x. has_role e c.args.leads x.1) (enumerate_from 0 (take at nodes))) in
    elim c.if-has_role.branch [
      | then-has_role+in_ok-member+in_ok-add w ↦ w.members-is ∙ w.in_ok-add.ensures
          ∙ ap (λ l. l ++ w.in_ok-member.member ∷ []) c.loop-at.invariant
          ∙ ap (λ (m : Member). before ++ m ∷ []) w.in_ok-member.ensures
          ∙ sym (picked_yes (λ (x : ℕ × ℕ). has_role e c.args.leads x.1) (λ x. member_of plan e x.1 x.0) nodes at _ c.loop-at-test.true
          (sym c.has_role.ensures ∙ w.if-has_role.true))
      | else-has_role w ↦ w.members-is ∙ c.loop-at.invariant
          ∙ sym (picked_no (λ (x : ℕ × ℕ). has_role e c.args.leads x.1) (λ x. member_of plan e x.1 x.0) nodes at _ c.loop-at-test.true
          (sym c.has_role.ensures ∙ w.if-has_role.false))
    ]
