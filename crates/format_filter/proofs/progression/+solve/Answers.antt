-- The solutions of a congruence are those of the lesser one, turned back.
use Rattle.std.proofs.Common.{ℕ, ◌*◌, ◌/◌, ◌%◌, refl, sym, ap, ◌∙◌, subst, zero-add, arith}
use Rattle.format_filter.specs.working.Progression.{AreSolutions}
use Rattle.format_filter.proofs.SolutionsLemmas.{turned_back, none_turned, all_solve, none_solves, period_room}
use Rattle.format_filter.proofs.progression.+solve.Goals as goal

pub returns-then-rest-eq0-clause-some : goal.returns-then-rest-eq0-clause-some
returns-then-rest-eq0-clause-some t c =
    subst (λ (r : ℕ). AreSolutions c.args.step c.args.other r (record { first = 0; period = 1 })) (sym c.if-rest-eq0.true)
    (all_solve c.args.other c.args.step (omega arith) c.if-step-eq0.true)

pub returns-else-rest-eq0-clause-none : goal.returns-else-rest-eq0-clause-none
returns-else-rest-eq0-clause-none t c = λ w k h. none_solves c.args.other c.args.step c.args.rest k (omega arith) c.if-step-eq0.true
    (λ e. omega arith) h

pub turned_back-requires-in-Some-clause-room : goal.turned_back-requires-in-Some-clause-room
turned_back-requires-in-Some-clause-room t c =
    omega (
      arith,
      period_room (c.args.step % c.args.other) c.args.other c.in-Some.turned.period (omega arith)
          (omega arith) c.in-Some.ensures.some.bound,
    )

pub returns-in-Some-clause-some : goal.returns-in-Some-clause-some
returns-in-Some-clause-some t c =
    turned_back (c.args.step % c.args.other) c.args.other c.args.rest c.complement.result c.args.step c.in-Some.turned
    (omega arith) c.requires refl c.in-Some.ensures.some c.complement.ensures.whole c.complement.ensures.only
    c.turned_back.result c.turned_back-in-Some.result c.turned_back.ensures
    (c.turned_back-in-Some.ensures ∙ ap (λ v. v / (c.args.step % c.args.other)) (zero-add (c.in-Some.turned.period * c.args.other)))

pub returns-in-None-clause-none : goal.returns-in-None-clause-none
returns-in-None-clause-none t c =
    λ w k h. none_turned (c.args.step % c.args.other)
    c.args.other c.args.rest c.complement.result c.args.step refl c.complement.ensures.only (c.in-None.ensures.none refl) k h
