-- What the runs have left, in order.
use Rattle.std.proofs.Common.{◌≡◌, ◌∙◌, [], ap, map}
use Rattle.pw_graph.specs.declared.parts.Part.{Part}
use Rattle.wav_files.specs.declared.outcome.Outcome.{Outcome}
use Rattle.pw_top.specs.Joined.{all_of, in_order}
use Rattle.pw_top.specs.PlannedWork.{rendered}
use Rattle.pw_top.proofs.GroupsLemmas.{runs_sinks, runs_peaks}
use Rattle.pw_top.proofs.commands.groups.run_parted.Goals as goal

pub returns-clause-outcome : goal.returns-clause-outcome
returns-clause-outcome g c = let p = c.args.parted.now in
    let all : Outcome = all_of (map (λ (part : Part). rendered part.plan p.waves) p.parts.parts) in
    let sinks : c.in_ok-history.field-0.sinks ≡ all.sinks = ap (λ (o : Outcome). o.sinks) c.in_ok-history.ensures
    ∙ runs_sinks p.waves p.parts.parts c.in_ok-outcomes.outcomes c.in_ok-outcomes.closed c.in_ok-outcomes.ensures in
    let peaks : c.as_slice.result.now ≡ all.peaks = c.as_slice.ensures ∙ (ap (λ (o : Outcome). o.peaks) c.in_ok-history.ensures
    ∙ runs_peaks p.waves p.parts.parts c.in_ok-outcomes.outcomes c.in_ok-outcomes.closed c.in_ok-outcomes.ensures) in
    c.in_ok-ordered.ensures ∙ (λ i. in_order (c.len-count.ensures i) (record { history = []; sinks = sinks i; peaks = peaks i }))
