use Rattle.std.proofs.Common.{ℕ, suc, sym, ◌∙◌, subst, inl, inr, ⊎_elim}
use Rattle.pw_graph.specs.KindFunction.{KindInputs}
use Rattle.cycle_model.specs.Cycle.{wave_of, outputs}
use Rattle.cycle_model.specs.KindSamples.{kind_inputs_of}
use Rattle.cycle_model.specs.Progress.{received_until}
use Rattle.node_state.specs.Slices.{left_channels}
use Rattle.node_state.specs.StandsFor.{StandsFor, frames_so_far, node_quantum}
use Rattle.node_progress.specs.Standing.{out_channels}
use Rattle.node_progress.proofs.NodeLemmas.{joined, output_is}
use Rattle.node_progress.proofs.one_cycle.process.Goals as goal

pub returns-clause-left : goal.returns-clause-left
returns-clause-left c = let may = c.requires.may in let r = may.ready in ⊎_elim (λ none. inl none)
    (λ fits. inr (c.process.ensures.left _ r.before
    ∙ output_is _ _ _ _ r.here r.active r.renderable _ r.kind _ r.quantum _ r.frames _ _ may.a_is may.b_is 0 _ _ fits.1 fits.0))
    may.left_fits

pub returns-clause-right : goal.returns-clause-right
returns-clause-right c = let may = c.requires.may in let r = may.ready in ⊎_elim (λ none. inl none)
    (λ fits. inr (c.process.ensures.right _ r.before
    ∙ output_is _ _ _ _ r.here r.active r.renderable _ r.kind _ r.quantum _ r.frames _ _ may.a_is may.b_is 1 _ _ fits.1 fits.0))
    may.right_fits

pub returns-clause-received : goal.returns-clause-received
returns-clause-received c = let may = c.requires.may in let r = may.ready in let same = c.process.ensures.same in
    let run_model = c.args.run_model.now in let plan = run_model.plan.value in let waves = run_model.waves.value in
    let n = c.args.at.now.node in let past = received_until plan (outputs plan waves) (suc c.args.at.now.cycle) n in
    subst (λ (k : ℕ × ℕ). StandsFor c.process.new.self (record (kind_inputs_of (wave_of waves n) k.0 past) { frames = k.1 }))
    (λ i. (left_channels (sym same.0 i) (sym same.1 i) (sym same.3 i), sym c.process.ensures.frames i))
    (subst (λ (h : KindInputs). StandsFor c.process.new.self h)
    (joined run_model c.args.at.now.cycle n r.epoch r.here r.active (wave_of waves n) (out_channels c.args.state.now) (frames_so_far c.args.state.now)
    (node_quantum c.args.state.now) _ _ may.a_is may.b_is)
    (c.process.ensures.stands _ r.before))
