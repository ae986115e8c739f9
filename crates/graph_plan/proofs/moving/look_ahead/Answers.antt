-- One part more.
use Rattle.std.proofs.Common.{◌≡◌, ◌∙◌, ◌+◌, List, [], ◌∷◌, ◌++◌, take, refl, sym, ap, subst}
use Rattle.std.specs.Prelude.{Option}
use Rattle.std.specs.List.{AllZip}
use Rattle.std.proofs.lemmas.List.{take_more}
use Rattle.pw_graph.specs.declared.plan.Epoch.{Epoch}
use Rattle.graph_lines.specs.Sums.{capped_sums}
use Rattle.graph_plan.specs.declared.member.Member.{Member}
use Rattle.graph_plan.specs.working.Ahead.{IsAhead}
use Rattle.graph_plan.specs.working.Members.{IsReadyFor}
use Rattle.graph_plan.specs.Moving.{all_sums, total}
use Rattle.graph_plan.proofs.linked_parts.AheadLemmas.{total_none, total_more}
use Rattle.graph_plan.proofs.lists.AllZipLemmas.{pairs_long, pairs_push}
use Rattle.graph_plan.proofs.moving.look_ahead.Goals as goal

pub next_epoch-requires-clause-ready : goal.next_epoch-requires-clause-ready
next_epoch-requires-clause-ready c = subst (IsReadyFor c.args.line.now) (sym c.member-item.is)
    (c.requires.ready c.loop-member.member-index c.member-item.result c.loop-member-test.true)

pub loop-member-init : goal.loop-member-init
loop-member-init c = record {
  each = subst (AllZip (IsAhead c.args.waves.now c.args.line.now) []) (sym c.new-epochs.ensures) tt;
  sums = total_none _ refl _ c.new-epochs.ensures;
}

pub loop-member-preserved : goal.loop-member-preserved
loop-member-preserved c = let R = IsAhead c.args.waves.now c.args.line.now in let ms = c.args.members.now in let k = c.loop-member.member-index in
    let m : Member = c.member-item.result in let e : Option Epoch = c.in_ok-epoch.epoch in let i = c.loop-member.invariant in
    let more : take (k + 1) ms ≡ take k ms ++ m ∷ [] = take_more ms k m c.loop-member-test.true ∙ ap (λ (x : Member). take k ms ++ x ∷ []) (sym c.member-item.is) in
    record {
      each = subst (λ (x : List Member × List (Option Epoch)). AllZip R x.0 x.1) (λ j. (sym more j, sym c.in_ok-push.ensures.ok j))
          (pairs_push R (take k ms) c.loop-member.epochs m e i.each c.in_ok-epoch.ensures);
      sums = total_more (take k ms) c.loop-member.epochs m e c.loop-member.sums c.sums_more-sums.result
          (pairs_long R (take k ms) c.loop-member.epochs i.each) i.sums c.sums_more-sums.ensures
          ∙ (sym (ap (λ (x : List Member). capped_sums (total (all_sums x (c.loop-member.epochs ++ e ∷ [])))) more)
          ∙ sym (ap (λ (x : List (Option Epoch)). capped_sums (total (all_sums (take (k + 1) ms) x))) c.in_ok-push.ensures.ok));
    }
