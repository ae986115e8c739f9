-- The definitions at work: words of a board at the start, words of events, limits at their edges,
-- forms that do not fit a kind, bytes of blocks; by computation only.
use Rattle.std.proofs.Common.{◌≡◌, ℕ, ◌<◌, true, false, List, [], ◌∷◌, map, ℤ, pos, refl, arith}
use Rattle.pw_graph.specs.declared.ids.PortId.{PortId}
use Rattle.pw_graph.specs.declared.event.Event.TheVariants.{Begin, Finish, Tick, End}
use Rattle.pw_graph.specs.declared.kind.Kind.TheVariants.{Source, Gain, Map, Split, Sink}
use Rattle.pw_graph.specs.declared.shape.Shape.{Shape}
use Rattle.pw_graph.specs.declared.shape.ShapeLink.{ShapeLink}
use Rattle.pw_graph.specs.declared.plan.Epoch.{Epoch}
use Rattle.pw_graph.specs.declared.plan.PortForm.{PortForm}
use Rattle.pw_graph.specs.declared.plan.PlanNode.{PlanNode}
use Rattle.pw_graph.specs.declared.plan.Plan.{Plan}
use Rattle.pw_lists.specs.Limits.{events_limit}
use Rattle.pw_graph.specs.EventWords.{event_word_of}
use Rattle.pw_graph.specs.Layout.{start_words}
use Rattle.pw_graph.specs.KindRanges.{MayHaveChannels}
use Rattle.pw_graph.specs.PlanSums.{epoch_events, epoch_samples, epoch_bytes}

abbrev port : ℕ → ℕ → PortId
port n p = record { node = n; port = p }

abbrev link : PortId → PortId → ℕ → ℕ → ShapeLink
link from to channels buffers = record { from = from; to = to; channels = channels; buffers = buffers; delayed = false }

abbrev late : ShapeLink → ShapeLink
late l = record l { delayed = true }

-- an epoch of these cycles, whose nodes have neither counts nor targets here
abbrev shape : ℕ → ℕ → ℕ → List ℕ → List ShapeLink → Shape
shape quantum first cycles nodes links = record {
  quantum = quantum;
  first = first;
  cycles = cycles;
  driver = 63;
  nodes = map (λ n. record { node = n; required = 0; targets = [] }) nodes;
  links = links;
}

-- WORDS AT THE START: one cycle of two frames from node 0 to node 1 over a delayed link of one
-- buffer, which has two blocks. In order: the ticket, pending, status, two areas, a late set, nine
-- events, and each block with its readers
abbrev late_pair : ℕ → Shape
late_pair first = shape 2 first 1 (0 ∷ 1 ∷ 63 ∷ []) (late (link (port 0 0) (port 1 0) 1 1) ∷ [])

pub from_an_even_cycle : start_words (late_pair 6) ≡ 0 ∷ 0 ∷ 0 ∷ 0 ∷ 24 ∷ 24 ∷ 24 ∷ 2 ∷ 18446744069414584321 ∷ 0
    ∷ 0 ∷ 0 ∷ 0 ∷ 0 ∷ 0 ∷ 0 ∷ 0 ∷ 0 ∷ 0 ∷ 1 ∷ 0 ∷ 0 ∷ 0 ∷ []
from_an_even_cycle = refl

pub from_an_odd_cycle : start_words (late_pair 7) ≡ 0 ∷ 0 ∷ 0 ∷ 0 ∷ 28 ∷ 28 ∷ 28 ∷ 18446744069414584321 ∷ 2 ∷ 0
    ∷ 0 ∷ 0 ∷ 0 ∷ 0 ∷ 0 ∷ 0 ∷ 0 ∷ 0 ∷ 0 ∷ 1 ∷ 0 ∷ 0 ∷ 0 ∷ []
from_an_odd_cycle = refl

-- WORDS OF EVENTS
pub begin_of_the_first_cycle : event_word_of (Begin 0) ≡ 1
begin_of_the_first_cycle = refl

pub finish_of_node_two : event_word_of (Finish 1 2) ≡ 531
finish_of_node_two = refl

pub tick_of_cycle_seven : event_word_of (Tick 7 5) ≡ 3588
tick_of_cycle_seven = refl

pub end_of_the_second_cycle : event_word_of (End 1) ≡ 517
end_of_the_second_cycle = refl

-- LIMITS: only the dummy, and four minutes of stereo at 48000 through a gain
abbrev epoch : Shape → List PortForm → Epoch
epoch s forms = record { shape = s; forms = forms; fresh = [] }

abbrev dummy_alone : ℕ → Epoch
dummy_alone cycles = epoch (shape 1024 0 cycles (63 ∷ []) []) []

pub cycles_of_the_dummy : epoch_events (dummy_alone 838860) ≡ 4194300
cycles_of_the_dummy = refl

pub one_cycle_too_many : events_limit < epoch_events (dummy_alone 838861)
one_cycle_too_many = omega arith

abbrev stereo : PortId → PortForm
stereo p = record { port = p; rate = 48000; channels = 2 }

abbrev four_minutes : Epoch
four_minutes = epoch (shape 1024 0 11250 (0 ∷ 1 ∷ 2 ∷ []) (link (port 0 0) (port 1 0) 2 2
    ∷ link (port 1 1) (port 2 0) 2 2 ∷ [])) (map stereo (port 0 0 ∷ port 1 0 ∷ port 1 1 ∷ port 2 0 ∷ []))

abbrev node : PlanNode
node = record { name = []; kind = Source; k = 0; rate = 0; channels = 0 }

abbrev plan : List Epoch → Plan
plan epochs = record {
  quantum = 1024;
  nodes = node ∷ record node { kind = Gain (pos 200) } ∷ record node { kind = Sink; rate = 48000; channels = 2 } ∷ [];
  epochs = epochs;
  lines = [];
}

pub events_of_four_minutes : epoch_events four_minutes ≡ 101250
events_of_four_minutes = refl

pub samples_of_four_minutes : epoch_samples (plan []) four_minutes ≡ 23040000
samples_of_four_minutes = refl

-- two links of two buffers each; a delayed link of one buffer counts two
pub bytes_of_four_minutes : epoch_bytes (plan []) four_minutes ≡ 16384
bytes_of_four_minutes = refl

pub bytes_of_a_late_link : epoch_bytes (plan []) (epoch (late_pair 0) []) ≡ 4096
bytes_of_a_late_link = refl

-- CHANNELS that a port may not have: a map of two channels to one, and a split
pub a_map_has_its_channels : ¬ (MayHaveChannels (Map 2 (1 ∷ [])) 0 1)
a_map_has_its_channels = λ h. omega (arith, h)

pub a_map_gives_its_list : ¬ (MayHaveChannels (Map 2 (1 ∷ [])) 1 2)
a_map_gives_its_list = λ h. omega (arith, h)

pub a_split_takes_stereo : ¬ (MayHaveChannels Split 0 1)
a_split_takes_stereo = λ h. omega (arith, h)
