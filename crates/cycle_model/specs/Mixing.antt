-- Mixing by the sample, where sources play into sinks: what waves have at one place, added and then
-- clamped once.
-- Samples past the end of a wave are silence. Source: RIFF WAVE PCM of 16 bits; clamping is this
-- project's.
use Rattle.std.specs.Prelude.{◌≡◌, ℕ, ◌*◌, ◌≤◌, false, List, [], All, length, map, fold, filter, ℤ, pos, ◌+ℤ◌, slice_get}
use Rattle.std.specs.Prelude.{slice_index_or, option_map, unwrap_or, ◌==◌, Bool, if◌then◌else◌}
use Rattle.std.specs.List.{list_any, range_with_len, position_or_len}
use Rattle.pw_graph.specs.declared.ids.PortId.{PortId}
use Rattle.pw_graph.specs.declared.kind.Kind.{Kind}
use Rattle.pw_graph.specs.declared.kind.Kind.TheVariants.{Source, Sink}
use Rattle.pw_graph.specs.declared.shape.ShapeLink.{ShapeLink}
use Rattle.pw_graph.specs.declared.plan.Epoch.{Epoch}
use Rattle.pw_graph.specs.declared.plan.Plan.{Plan}
use Rattle.pw_lists.specs.Samples.{clamped}
use Rattle.wav_files.specs.declared.wav.WavIn.{WavIn}
use Rattle.pw_graph.specs.Pools.{is_same_port}
use Rattle.cycle_model.specs.Epochs.{channels_of}

-- the place of a node's wave among the waves, or their number where it has no wave
abbrev pub place_of : List WavIn → ℕ → ℕ
place_of waves node = position_or_len (λ w. w.node == node) waves

-- sample j of the wave at a place
abbrev pub sample_at_place : List WavIn → ℕ → ℕ → ℤ
sample_at_place waves j place = slice_index_or
    (unwrap_or (option_map (λ w. w.wav.samples) (slice_get waves place)) []) j (pos 0)

-- the sum of sample j of the waves at the places
abbrev pub sum_at : List WavIn → List ℕ → ℕ → ℤ
sum_at waves places j = fold (λ sum place. sum +ℤ sample_at_place waves j place) (pos 0) places

-- the places of the waves that the links bring to a port
abbrev pub places_into : List WavIn → List ShapeLink → PortId → List ℕ
places_into waves links port = map (λ l. place_of waves l.from.node)
    (filter (λ l. is_same_port l.to port) links)

-- n samples, each the clamped sum of those of the waves at the places
abbrev pub mixed_row : List WavIn → List ℕ → ℕ → List ℤ
mixed_row waves places n = map (λ j. clamped (sum_at waves places j)) (range_with_len 0 n)

-- a node is one of the epoch's active nodes
abbrev pub takes_part : Epoch → ℕ → Bool
takes_part epoch node = list_any (λ n. n.node == node) epoch.shape.nodes

-- what a port gets in all cycles of an epoch, if its links come from sources that began with the
-- epoch
abbrev pub epoch_row : Epoch → List WavIn → PortId → List ℤ
epoch_row epoch waves port =
    if takes_part epoch port.node
    then mixed_row waves (places_into waves epoch.shape.links port)
    (epoch.shape.cycles * (epoch.shape.quantum * channels_of epoch.forms port))
    else []

abbrev pub IsSourceOrSink : Kind → Type 0
IsSourceOrSink Source = Unit {0}
IsSourceOrSink Sink = Unit {0}
IsSourceOrSink _ = ⊥

-- PLAIN MIX: only sources and sinks, in at most one epoch, and no delayed link. There a sink gets
-- the epoch's mixed row
pub record IsPlainMix (plan : Plan) : Type 0 where
  pub kinds : All (λ n. IsSourceOrSink n.kind) plan.nodes
  pub one : length plan.epochs ≤ 1
  pub prompt : All (λ e. All (λ l. l.delayed ≡ false) e.shape.links) plan.epochs
