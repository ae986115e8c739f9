use Rattle.std.proofs.Common.{◌≡◌, ◌*◌, map, filter, fold, drop}
use Rattle.pw_lists.specs.Samples.{silence, summed}
use Rattle.pw_graph.specs.Pools.{is_same_port}
use Rattle.cycle_model.specs.Epochs.{channels_of}
use Rattle.cycle_model.specs.working.Known.{brought_by}
use Rattle.cycle_model.proofs.inputs.input_of.Given as goal

-- the sums, with what the links that are left bring, are all that the links bring
abbrev pub invariant-loop-link : goal.invariant-loop-link
invariant-loop-link l =
    fold summed l.sums (map (brought_by l.at.quantum l.at.first l.at.before.now l.now)
    (filter (λ k. is_same_port k.to l.port) (drop l.link-index l.at.epoch.now.shape.links)))
    ≡ fold summed (silence (l.at.quantum * channels_of l.at.epoch.now.forms l.port))
    (map (brought_by l.at.quantum l.at.first l.at.before.now l.now) (filter (λ k. is_same_port k.to l.port) l.at.epoch.now.shape.links))
