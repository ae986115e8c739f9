-- The next part moves, or has 256 links.
use Rattle.std.proofs.Common.{◌∙◌, get_or, sym, subst}
use Rattle.std.proofs.lemmas.List.{nil_from_length}
use Rattle.graph_lines.specs.declared.graph.Stepped.{Stepped}
use Rattle.graph_plan.specs.working.MovingTogether.{GoesBy}
use Rattle.graph_plan.proofs.linked_parts.MovingTogetherLemmas.{IsGoing, going_begins, going_low, going_ready, going_made, going_within, going_more, going_many, going_ends}
use Rattle.graph_plan.proofs.moving.go_all.Goals as goal

pub loop-epoch-init : goal.loop-epoch-init
loop-epoch-init c = going_begins c.args.waves.now c.args.line.now c.args.epochs c.args.members.now _ c.requires.epochs
    (c.into_iter-epoch-iterator.ensures.into_iter_gives.0 ∙ c.into_vec-epoch-items.ensures)

pub bounds-members-k : goal.bounds-members-k
bounds-members-k c = going_low c.args.waves.now c.args.line.now c.args.epochs c.args.members.now c.loop-epoch.members c.loop-epoch.yielded c.loop-epoch.k
    c.in-Some.epoch c.next.new.self.rest.items (subst (IsGoing c.args.waves.now c.args.line.now c.args.epochs c.args.members.now c.loop-epoch.members
    c.loop-epoch.yielded c.loop-epoch.k) c.in-Some.ensures.steps.0 c.loop-epoch.invariant)

pub go_by-requires-clause-ready : goal.go_by-requires-clause-ready
go_by-requires-clause-ready c = going_ready c.args.waves.now c.args.line.now c.args.epochs c.args.members.now c.loop-epoch.members c.loop-epoch.yielded
    c.loop-epoch.k c.in-Some.epoch c.next.new.self.rest.items (subst (IsGoing c.args.waves.now c.args.line.now c.args.epochs c.args.members.now
    c.loop-epoch.members c.loop-epoch.yielded c.loop-epoch.k) c.in-Some.ensures.steps.0 c.loop-epoch.invariant) c.requires.ready c.index-members-k.result

pub go_by-requires-clause-made : goal.go_by-requires-clause-made
go_by-requires-clause-made c = going_made c.args.waves.now c.args.line.now c.args.epochs c.args.members.now c.loop-epoch.members c.loop-epoch.yielded
    c.loop-epoch.k c.in-Some.epoch c.next.new.self.rest.items (subst (IsGoing c.args.waves.now c.args.line.now c.args.epochs c.args.members.now
    c.loop-epoch.members c.loop-epoch.yielded c.loop-epoch.k) c.in-Some.ensures.steps.0 c.loop-epoch.invariant) c.index-members-k.result

pub go_by-requires-clause-within : goal.go_by-requires-clause-within
go_by-requires-clause-within c = going_within c.args.waves.now c.args.line.now c.args.epochs c.args.members.now c.loop-epoch.members c.loop-epoch.yielded
    c.loop-epoch.k c.in-Some.epoch c.next.new.self.rest.items (subst (IsGoing c.args.waves.now c.args.line.now c.args.epochs c.args.members.now
    c.loop-epoch.members c.loop-epoch.yielded c.loop-epoch.k) c.in-Some.ensures.steps.0 c.loop-epoch.invariant) c.index-members-k.result

pub loop-epoch-preserved : goal.loop-epoch-preserved
loop-epoch-preserved c = let old = get_or c.loop-epoch.members c.loop-epoch.k c.index-members-k.result in
    going_more c.args.waves.now c.args.line.now c.args.epochs c.args.members.now c.loop-epoch.members c.loop-epoch.yielded c.loop-epoch.k
    c.in-Some.epoch c.next.new.self.rest.items (subst (IsGoing c.args.waves.now c.args.line.now c.args.epochs c.args.members.now c.loop-epoch.members
    c.loop-epoch.yielded c.loop-epoch.k) c.in-Some.ensures.steps.0 c.loop-epoch.invariant) c.go_by.new.self c.index-members-k.result
    (subst (λ (s : Stepped). GoesBy c.args.waves.now c.args.line.now old c.in-Some.epoch s c.go_by.new.self) c.in-Ok-Done.field-0-is c.in-Ok-Done.ensures)

pub returns-in-Ok-Passed : goal.returns-in-Ok-Passed
returns-in-Ok-Passed c = let old = get_or c.loop-epoch.members c.loop-epoch.k c.index-members-k.result in
    going_many c.args.waves.now c.args.line.now c.args.epochs c.args.members.now c.loop-epoch.members c.loop-epoch.yielded c.loop-epoch.k
    c.in-Some.epoch c.next.new.self.rest.items (subst (IsGoing c.args.waves.now c.args.line.now c.args.epochs c.args.members.now c.loop-epoch.members
    c.loop-epoch.yielded c.loop-epoch.k) c.in-Some.ensures.steps.0 c.loop-epoch.invariant) c.in-Ok-Passed.which c.go_by.new.self c.index-members-k.result
    (subst (λ (s : Stepped). GoesBy c.args.waves.now c.args.line.now old c.in-Some.epoch s c.go_by.new.self) c.in-Ok-Passed.field-0-is c.in-Ok-Passed.ensures)

pub returns : goal.returns
returns c = let rest = c.loop-epoch.epoch-iterator.rest in
    going_ends c.args.waves.now c.args.line.now c.args.epochs c.args.members.now c.loop-epoch.members c.loop-epoch.yielded c.loop-epoch.k rest.items
    (nil_from_length rest.items (sym rest.ok.0 ∙ c.in-None.ensures.steps.0)) c.loop-epoch.invariant
