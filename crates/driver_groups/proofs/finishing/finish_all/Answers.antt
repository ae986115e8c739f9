use Rattle.std.proofs.Common.{◌∙◌, ◌+◌, List, [], ◌∷◌, ◌++◌, length, take, drop, get_or, refl, sym, ap, subst, arith}
use Rattle.std.specs.List.{AllZip}
use Rattle.std.proofs.lemmas.List.{take_more, drop_more, nil_from_length}
use Rattle.std.proofs.lemmas.List.Sums.{sum_by-cons}
use Rattle.wav_files.specs.declared.outcome.Outcome.{Outcome}
use Rattle.board_rule.specs.declared.closed.Closed.{Closed}
use Rattle.graph_run.specs.declared.ended.EndedRun.{EndedRun}
use Rattle.pw_graph.specs.declared.parts.Part.{Part}
use Rattle.driver_groups.specs.GroupRun.{AreRunsOf}
use Rattle.driver_groups.specs.working.Groups.{IsEndedPart, epochs_of}
use Rattle.driver_groups.proofs.GroupLemmas.{zip_long, runs_more, all_taken, next_low, next_zip, none_left}
use Rattle.driver_groups.proofs.finishing.finish_all.Goals as goal

pub loop-run-init : goal.loop-run-init
loop-run-init c = let waves = c.args.waves.now in let parts = c.args.parts.now in
    let items = c.into_iter-run-iterator.ensures.into_iter_gives.0 ∙ c.into_vec-run-items.ensures in
    let n = zip_long (λ p e. IsEndedPart waves p.plan e) parts c.args.ended c.requires.ended in
    let m = ap (λ (l : List EndedRun). length l) items in record {
      left = subst (AllZip (λ p e. IsEndedPart waves p.plan e) parts) (sym items) c.requires.ended;
      so_far = subst (λ (x : List Outcome × List Closed). AreRunsOf waves [] x.0 x.1)
          (λ j. (sym c.requires.empty.0 j, sym c.requires.empty.1 j)) refl;
      inside = omega arith;
      outcomes = (let room = c.requires.outcomes in omega (arith, n, m, room));
      closed = c.requires.closed;
    }

pub finish_one-requires-clause-sound : goal.finish_one-requires-clause-sound
finish_one-requires-clause-sound c = let R = λ (p : Part) (e : EndedRun). IsEndedPart c.args.waves.now p.plan e in
    let low = next_low R c.args.parts.now c.loop-run.k c.in-Some.run' c.next.new.self.rest.items
    (subst (AllZip R (drop c.loop-run.k c.args.parts.now)) c.in-Some.ensures.steps.0 c.loop-run.invariant.left) in
    c.requires.sound c.loop-run.k c.index-parts-k.result low

pub finish_one-requires-clause-fit : goal.finish_one-requires-clause-fit
finish_one-requires-clause-fit c = let R = λ (p : Part) (e : EndedRun). IsEndedPart c.args.waves.now p.plan e in
    let low = next_low R c.args.parts.now c.loop-run.k c.in-Some.run' c.next.new.self.rest.items
    (subst (AllZip R (drop c.loop-run.k c.args.parts.now)) c.in-Some.ensures.steps.0 c.loop-run.invariant.left) in
    c.requires.fit c.loop-run.k c.index-parts-k.result low

pub finish_one-requires-clause-ended : goal.finish_one-requires-clause-ended
finish_one-requires-clause-ended c = let R = λ (p : Part) (e : EndedRun). IsEndedPart c.args.waves.now p.plan e in
    (next_zip R c.args.parts.now c.loop-run.k c.index-parts-k.result c.in-Some.run' c.next.new.self.rest.items
    (subst (AllZip R (drop c.loop-run.k c.args.parts.now)) c.in-Some.ensures.steps.0 c.loop-run.invariant.left)).0

pub finish_one-requires-clause-room : goal.finish_one-requires-clause-room
finish_one-requires-clause-room c = let R = λ (p : Part) (e : EndedRun). IsEndedPart c.args.waves.now p.plan e in
    let parts = c.args.parts.now in let k = c.loop-run.k in let p : Part = get_or parts k c.index-parts-k.result in
    let low = next_low R parts k c.in-Some.run' c.next.new.self.rest.items
    (subst (AllZip R (drop k parts)) c.in-Some.ensures.steps.0 c.loop-run.invariant.left) in
    let cut = ap epochs_of (drop_more parts k c.index-parts-k.result low) in
    let cons = sum_by-cons (λ (q : Part). length q.plan.epochs) p (drop (k + 1) parts) in
    let room = c.loop-run.invariant.closed in omega (arith, cut, cons, room)

pub loop-run-preserved : goal.loop-run-preserved
loop-run-preserved c = let R = λ (p : Part) (e : EndedRun). IsEndedPart c.args.waves.now p.plan e in
    let i = c.loop-run.invariant in let waves = c.args.waves.now in let parts = c.args.parts.now in let k = c.loop-run.k in
    let p : Part = get_or parts k c.index-parts-k.result in
    let zip = subst (AllZip R (drop k parts)) c.in-Some.ensures.steps.0 i.left in
    let low = next_low R parts k c.in-Some.run' c.next.new.self.rest.items zip in
    let cut = ap epochs_of (drop_more parts k c.index-parts-k.result low) in
    let cons = sum_by-cons (λ (q : Part). length q.plan.epochs) p (drop (k + 1) parts) in
    let longer = ap (λ (l : List EndedRun). length l) c.in-Some.ensures.steps.0 in
    let run = c.finish_one.ensures.run in
    let spare = c.finish_one.ensures.spare in let pushed = c.push_spare.ensures.spare in let outcomes = i.outcomes in let closed = i.closed in record {
      left = (next_zip R parts k c.index-parts-k.result c.in-Some.run' c.next.new.self.rest.items zip).1;
      so_far = subst (λ (l : List Part). AreRunsOf waves l c.push_spare.new.self.list c.finish_one.new.closed.list)
          (sym (take_more parts k c.index-parts-k.result low))
          (subst (λ (x : List Outcome × List Closed). AreRunsOf waves (take k parts ++ p ∷ []) x.0 x.1)
          (λ j. (sym c.push_spare.ensures.list j, sym run.1 j))
          (runs_more waves (take k parts) c.loop-run.outcomes.list c.loop-run.closed.list p c.finish_one.result run.0 i.so_far run.2));
      inside = omega (arith, low);
      outcomes = omega (arith, longer, outcomes, pushed);
      closed = omega (arith, cut, cons, spare, closed);
    }

pub returns : goal.returns
returns c = let R = λ (p : Part) (e : EndedRun). IsEndedPart c.args.waves.now p.plan e in
    let i = c.loop-run.invariant in let parts = c.args.parts.now in let rest = c.loop-run.run-iterator.rest in
    let none = nil_from_length rest.items (sym rest.ok.0 ∙ c.in-None.ensures.steps.0) in
    let left = none_left R parts c.loop-run.k (subst (AllZip R (drop c.loop-run.k parts)) none i.left) in
    subst (λ (x : List Outcome × List Closed). AreRunsOf c.args.waves.now parts x.0 x.1)
    (λ j. (sym c.into_items.ensures j, sym c.into_items-2.ensures j))
    (subst (λ (l : List Part). AreRunsOf c.args.waves.now l c.loop-run.outcomes.list c.loop-run.closed.list)
    (all_taken parts c.loop-run.k left i.inside) i.so_far)
