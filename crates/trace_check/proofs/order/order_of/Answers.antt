use Rattle.std.proofs.Common.{◌≡◌, [], ◌∷◌, ◌++◌, length, get_or, ap, sym, subst, ◌∙◌, arith, length-append}
use Rattle.std.proofs.lemmas.Bool.{cases_lt}
use Rattle.std.proofs.lemmas.List.{get_or_append_left, get_or_push}
use Rattle.pw_graph.specs.Dependencies.{Precedes}
use Rattle.std.proofs.Common.{inl, inr}
use Rattle.trace_check.specs.working.Admitting.{IsSetOf}
use Rattle.trace_check.proofs.order.order_of.Goals as goal

pub loop-n-preserved : goal.loop-n-preserved
loop-n-preserved c =
    let old = c.loop-n.before in let x = c.before_node.result in let n = c.loop-n.n in let s = c.args.shape.now in
    let pushed : c.push.new.self ≡ old ++ x ∷ [] = c.in_ok-push.ensures.ok in
    let long : length old ≡ n = c.loop-n.invariant.long in
    record {
      long = omega (arith, ap length pushed, length-append old (x ∷ []));
      rows = λ k lt. subst (λ r. IsSetOf (get_or r k 0) (λ m. Precedes s m k)) (sym pushed) (elim (cases_lt k n) [
        | inl low ↦ subst (λ r. IsSetOf r (λ m. Precedes s m k)) (sym (get_or_append_left old (x ∷ []) 0 k (omega arith))) (c.loop-n.invariant.rows k low)
        | inr high ↦ (let at : n ≡ k = omega arith in
            subst (λ r. IsSetOf r (λ m. Precedes s m k)) (sym (get_or_push old x 0 k (long ∙ at)))
            (subst (λ j. IsSetOf x (λ m. Precedes s m j)) at c.before_node.ensures))
      ]);
    }
