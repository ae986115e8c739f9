use Rattle.std.proofs.Common.{◌∙◌, ◌≤◌, ℕ, false, List, length, replicate, sym, ap, subst, arith}
use Rattle.std.specs.Prelude.{All}
use Rattle.std.proofs.lemmas.List.Elements.{All-head, All-tail}
use Rattle.pw_graph.specs.SoundPlan.{IsSoundPlan}
use Rattle.cycle_model.specs.WavesFit.{WavesFit}
use Rattle.crew_run.specs.Places.{HavePlaces}
use Rattle.pw_graph.specs.declared.parts.Part.{Part}
use Rattle.driver_groups.specs.declared.crew.PlacedRun.{PlacedRun}
use Rattle.driver_groups.specs.working.Groups.{IsRunOfPart}
use Rattle.driver_groups.proofs.GroupLemmas.{zip_long, part_can_run}
use Rattle.driver_groups.proofs.group_run.crew_of.Goals as goal

pub prepare_alone-requires-clause-sound : goal.prepare_alone-requires-clause-sound
prepare_alone-requires-clause-sound c = All-head (λ (p : Part). IsSoundPlan p.plan) c.args.head.now c.args.tail.now
    (subst (All (λ (p : Part). IsSoundPlan p.plan)) c.requires.parts c.requires.sound)

pub prepare_alone-requires-clause-fit : goal.prepare_alone-requires-clause-fit
prepare_alone-requires-clause-fit c = All-head (λ (p : Part). WavesFit p.plan c.args.waves.now) c.args.head.now c.args.tail.now
    (subst (All (λ (p : Part). WavesFit p.plan c.args.waves.now)) c.requires.parts c.requires.fit)

pub prepare_all-requires-clause-sound : goal.prepare_all-requires-clause-sound
prepare_all-requires-clause-sound c = All-tail (λ (p : Part). IsSoundPlan p.plan) c.args.head.now c.args.tail.now
    (subst (All (λ (p : Part). IsSoundPlan p.plan)) c.requires.parts c.requires.sound)

pub prepare_all-requires-clause-fit : goal.prepare_all-requires-clause-fit
prepare_all-requires-clause-fit c = All-tail (λ (p : Part). WavesFit p.plan c.args.waves.now) c.args.head.now c.args.tail.now
    (subst (All (λ (p : Part). WavesFit p.plan c.args.waves.now)) c.requires.parts c.requires.fit)

pub returns : goal.returns
returns c = let n = zip_long (λ (p : Part) (r : PlacedRun). IsRunOfPart c.args.waves.now p r.run) c.args.tail.now c.in_ok-others.others c.in_ok-others.ensures.each in
    let all = ap (λ (l : List Part). length l) c.requires.parts in
    let a = c.in_ok-waited.ensures.spare in let b = c.in_ok-ended.ensures.spare in record {
      head = c.args.head.now;
      tail = c.args.tail.now;
      parts_are = c.requires.parts;
      first = c.in_ok-first.ensures;
      others = c.in_ok-others.ensures;
      lead = record {
        first = part_can_run c.args.waves.now c.args.head.now c.in_ok-first.first c.in_ok-first.ensures;
        bare = (c.in_ok-waited.ensures.list ∙ c.new-3.ensures, c.in_ok-ended.ensures.list ∙ c.new-4.ensures);
        waited = omega (arith, n, a);
        ended = omega (arith, n, all, b);
      };
      named = c.in_ok-named.ensures ∙ ap (λ (k : ℕ). replicate k false) (sym n);
      places = subst (λ (k : ℕ). HavePlaces k c.in_ok-places.places) (sym n) c.in_ok-places.ensures;
      bare = (c.in_ok-outcomes.ensures.list ∙ c.new.ensures, c.in_ok-closed.ensures.list ∙ c.new-2.ensures);
      outcomes = c.in_ok-outcomes.ensures.spare;
      closed = subst (λ (k : ℕ). k ≤ c.in_ok-closed.closed.spare) c.in-Some.ensures.some c.in_ok-closed.ensures.spare;
    }
