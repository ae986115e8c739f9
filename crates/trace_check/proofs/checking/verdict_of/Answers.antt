use Rattle.std.proofs.Common.{◌+◌, ◌≤◌, [], subst, arith, append-nil, refl}
use Rattle.std.proofs.lemmas.List.{take_all}
use Rattle.std.proofs.lemmas.List.Elements.{All-nil}
use Rattle.pw_graph.specs.SoundShape.{IsSoundShape}
use Rattle.pw_graph.specs.History.{AreJoined, cycles_of}
use Rattle.trace_check.specs.working.Progress.{StopAfter, IsProgressOf, progress_length}
use Rattle.trace_check.proofs.EpochLemmas.{history_ends}
use Rattle.trace_check.proofs.FirstIllegalLemmas.{first_illegal}
use Rattle.trace_check.proofs.checking.verdict_of.Goals as goal

pub returns-then-n-count : goal.returns-then-n-count
returns-then-n-count c = λ shapes events long progress.
    let joined = subst (IsProgressOf (cycles_of shapes) events) c.in-Whole.is progress in
    subst (AreJoined (cycles_of shapes)) (take_all c.in-Whole.n events (let is = c.if-n-count.true in omega arith)) joined

pub returns-else-n-count : goal.returns-else-n-count
returns-else-n-count c = λ shapes events long progress.
    let joined = subst (IsProgressOf (cycles_of shapes) events) c.in-Whole.is progress in
    let le : c.in-Whole.n ≤ c.args.count = subst (λ f. progress_length f ≤ c.args.count) c.in-Whole.is c.requires.within in
    let other = c.if-n-count.false in
    first_illegal shapes events c.in-Whole.n (c.in-Whole.n + 1) refl
    (history_ends (cycles_of shapes) events c.in-Whole.n (omega arith) joined)

pub returns-in-Part : goal.returns-in-Part
returns-in-Part c = λ shapes events long progress.
    let stops = subst (IsProgressOf (cycles_of shapes) events) c.in-Part.is progress in
    first_illegal shapes events c.in-Part.n (c.in-Part.n + 1) refl
    (subst (λ cs. StopAfter cs events c.in-Part.n) (append-nil (cycles_of shapes)) (stops.0 [] (All-nil (λ c. IsSoundShape c.0))))
