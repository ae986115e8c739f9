use Rattle.std.proofs.Common.{◌≡◌, ◌≤◌, ◌<◌, ◌+◌, ◌∙◌, ℕ, List, length, map, sym, ap, subst, arith}
use Rattle.std.specs.Prelude.{All}
use Rattle.std.specs.Vec.{vec_capacity}
use Rattle.pw_graph.specs.declared.plan.Plan.{Plan}
use Rattle.pw_graph.specs.SoundPlan.{IsSoundPlan}
use Rattle.cycle_model.specs.WavesFit.{WavesFit}
use Rattle.wav_files.specs.declared.wav.WavIn.{WavIn}
use Rattle.board_rule.specs.Known.{Known}
use Rattle.node_state.specs.declared.node_state.NodeState.{NodeState}
use Rattle.data_loop.specs.declared.epoch_state.EpochState.{EpochState}
use Rattle.data_loop.specs.LoopStart.{AreFirstStates}
use Rattle.data_loop.specs.EpochStateParts.{AreFirstEpochStates, IsEpochStateWithin}
use Rattle.data_loop.proofs.StartLemmas.{few_numbers, starts}
use Rattle.data_loop.proofs.loop_state.LoopState.of_epochs.Goals as goal

pub tables_of-requires : goal.tables_of-requires
tables_of-requires c = let few = few_numbers c.args.nodes (length c.args.plan.now.nodes) c.requires.nodes c.requires.places in
    let places = c.requires.sound.few in let list = c.len-2.ensures in record { few = omega (arith, few, places, list) }

pub returns-clause-between : goal.returns-clause-between
returns-clause-between c = let r = c.requires in let run_model = c.of-run_model.result in
    let seats : List Known = map (λ (g : EpochState). g.seat) c.args.epoch_states in
    let plan : run_model.plan.value ≡ c.args.plan.now = c.of-run_model.ensures.plan in
    let waves : run_model.waves.value ≡ c.args.waves.now = c.of-run_model.ensures.waves in
    let epoch_states = c.into_vec-2.ensures in let states = c.into_vec.ensures in
    starts run_model c.args.nodes c.into_vec.result c.into_vec-2.result c.in_ok-rows.rows c.in_ok-found.found c.in_ok-tables.tables seats
    c.widest_of.result
    (subst IsSoundPlan (sym plan) r.sound)
    (subst (λ (x : Plan × List WavIn). WavesFit x.0 x.1) (λ i. (sym plan i, sym waves i)) r.waves)
    r.nodes
    (subst (λ (x : Plan). All (λ n. n < length x.nodes) c.args.nodes) (sym plan) r.places)
    (subst (λ (x : Plan × List EpochState). AreFirstEpochStates x.0 c.args.nodes seats x.1)
    (λ i. (sym plan i, sym epoch_states i)) r.made)
    (subst (λ (x : Plan). length seats ≡ length x.epochs) (sym plan) (sym r.made.count ∙ r.count))
    (subst (λ (x : List ℕ × List NodeState). AreFirstStates run_model x.0 x.1) (λ i. (c.as_slice.ensures i, sym states i)) c.in_ok-states.ensures)
    c.in_ok-rows.ensures
    (subst (All (IsEpochStateWithin c.widest_of.result)) (c.as_slice-2.ensures ∙ sym epoch_states) c.widest_of.ensures)
    c.in_ok-found.ensures.empty
    (subst (λ n. n ≤ vec_capacity c.in_ok-found.found) c.len.ensures c.in_ok-found.ensures.room)
    c.in_ok-tables.ensures.tables
    (c.in_ok-tables.ensures.count ∙ ap (λ n. n + 1) c.len-2.ensures)
