use Rattle.std.proofs.Common.{◌≡◌, ◌+◌, take, length, sym, subst, arith}
use Rattle.data_loop.proofs.DealtLemmas.{AreSoFar, one_dealt, none_dealt}
use Rattle.data_loop.proofs.dealing.deal.Goals as goal
use Rattle.data_loop.proofs.dealing.deal.Goals.{then-to-len+in_ok-push, else-to-len}

pub loop-l-preserved : goal.loop-l-preserved
loop-l-preserved c = let links = c.as_slice-links.result.now in let l = c.loop-l.l in let dealt = c.loop-l.dealt.items in
    let low = c.loop-l-test.true in let is = c.len.ensures in let long : c.len.result ≡ length dealt = omega (arith, is) in
    elim c.if-to-len.branch [
      | then-to-len+in_ok-push w ↦ (let test = w.if-to-len.true in
          subst (λ v. AreSoFar (take (l + 1) links) v.items) (sym w.dealt-is)
          (one_dealt links l _ low dealt w.index_mut.result.now w.push.new.self c.loop-l.invariant (omega (arith, test, long))
          w.index_mut.ensures.value w.in_ok-push.ensures.ok))
      | else-to-len w ↦ (let test = w.if-to-len.false in
          subst (λ v. AreSoFar (take (l + 1) links) v.items) (sym w.dealt-is)
          (none_dealt links l _ low dealt c.loop-l.invariant c.len.result long test))
    ]
