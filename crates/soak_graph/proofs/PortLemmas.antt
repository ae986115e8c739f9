-- The ports of a number's graph are those of its script, and its waves are those of its sources.
use Rattle.std.proofs.Common.{◌≡◌, ℕ, zero, suc, ◌+◌, ◌*◌, ◌<◌, ◌≤◌, ◌==◌, List, [], ◌∷◌, ◌++◌, length}
use Rattle.std.proofs.Common.{Option, Some, None, refl, sym, ap, ◌∙◌, subst, arith, length-append, append_assoc}
use Rattle.std.specs.Prelude.{slice_get, option_map, flat_map, count_by, All, ℤ}
use Rattle.std.specs.List.{range_with_len}
use Rattle.std.proofs.lemmas.Int.{ints}
use Rattle.std.proofs.lemmas.Option.{none-some, slice_get_within}
use Rattle.std.proofs.lemmas.List.Elements.{All-nil, All-cons, All-append, All-map}
use Rattle.std.proofs.lemmas.List.FromFn.{get_or-range_with_len}
use Rattle.pw_graph.specs.declared.kind.Kind.{Kind}
use Rattle.pw_graph.specs.declared.kind.Kind.TheVariants as K
use Rattle.pw_lists.specs.Samples.{IsGain}
use Rattle.port_model.specs.declared.port_state.PortState.{PortState}
use Rattle.port_model.specs.declared.port_state.Node.{Node}
use Rattle.port_model.specs.Offers.{new_port, new_node}
use Rattle.port_model.specs.PortState.{kind_of}
use Rattle.port_model.specs.SoundPorts.{IsSoundNode, AreSoundNodes}
use Rattle.port_model.proofs.OfferLemmas.{nodes_added}
use Rattle.graph_plan.specs.Conditions.{AreScriptPorts, IsWaveFor, HaveWaves}
use Rattle.soak_graph.specs.SoakChains.{chains, gain, delay, soak_wave, soak_waves}
use Rattle.soak_graph.specs.SoakPorts.{chain_nodes, soak_ports}
use Rattle.soak_graph.specs.SoakScript.{soak_lines}
use Rattle.soak_graph.proofs.DrawnLemmas.{gain_range, delay_range}
use Rattle.soak_graph.proofs.LineLemmas.{flat_more}

-- the nodes of n chains
abbrev nodes_of : ℕ → ℕ → List Node
nodes_of number i = flat_map (λ j. chain_nodes (gain number j) (delay number j)) (range_with_len 0 i)

pub chains_count : (number i : ℕ) → length (nodes_of number i) ≡ 3 * i
chains_count number zero = refl
chains_count number (suc i) =
    let one = chain_nodes (gain number i) (delay number i) in
    let next : suc i ≡ i + 1 = omega arith in
    let more = ap (λ n. length (nodes_of number n)) next ∙ ap length (flat_more (λ j. chain_nodes (gain number j) (delay number j)) i)
    ∙ length-append (nodes_of number i) one in
    let before = chains_count number i in
    omega arith

-- they are sound, whatever was drawn
three_sound : (nodes : List Node) (g : ℤ) (d : ℕ) → AreSoundNodes nodes → length nodes + 3 ≤ 63 → IsGain g → d ≤ 1024
    → AreSoundNodes (nodes ++ chain_nodes g d)
three_sound nodes g d sound room in_range low =
    let a = new_node K.Source 48000 1 in
    let b = new_node (K.Gain g) 0 0 in
    let c = new_node (K.Delay d) 0 0 in
    let first = length-append nodes (a ∷ []) in
    let second = length-append (nodes ++ a ∷ []) (b ∷ []) in
    let one = nodes_added nodes K.Source 48000 1 sound (omega arith) tt ((omega arith, omega arith), (omega arith, omega arith)) in
    let two = nodes_added (nodes ++ a ∷ []) (K.Gain g) 0 0 one (omega arith) in_range (refl, refl) in
    let three = nodes_added ((nodes ++ a ∷ []) ++ b ∷ []) (K.Delay d) 0 0 two (omega arith) (omega arith) (refl, refl) in
    let joined : ((nodes ++ a ∷ []) ++ b ∷ []) ++ c ∷ [] ≡ nodes ++ chain_nodes g d =
    ap (λ ns. ns ++ c ∷ []) (append_assoc nodes (a ∷ []) (b ∷ [])) ∙ append_assoc nodes (a ∷ b ∷ []) (c ∷ []) in
    subst AreSoundNodes joined three

chains_sound : (number i : ℕ) → i ≤ chains → AreSoundNodes (nodes_of number i)
chains_sound number zero below = record { few = omega arith; each = All-nil IsSoundNode }
chains_sound number (suc i) below =
    let r = gain_range number i in
    let in_range : IsGain (gain number i) = (omega (arith, ints, r.0), omega (arith, ints, r.1)) in
    let count = chains_count number i in
    let next : i + 1 ≡ suc i = omega arith in
    let more = three_sound (nodes_of number i) (gain number i) (delay number i) (chains_sound number i (omega arith)) (omega arith)
    in_range (delay_range number i) in
    subst (λ n. AreSoundNodes (nodes_of number n)) next
    (subst AreSoundNodes (sym (flat_more (λ j. chain_nodes (gain number j) (delay number j)) i)) more)

all_sound : (number : ℕ) → AreSoundNodes (soak_ports number)
all_sound number =
    let nodes = nodes_of number chains in
    let sink = new_node K.Sink 0 0 in
    let meter = new_node K.Meter 0 0 in
    let count = chains_count number chains in
    let first = length-append nodes (sink ∷ []) in
    let one = nodes_added nodes K.Sink 0 0 (chains_sound number chains (omega arith)) (omega arith) tt (refl, refl) in
    let two = nodes_added (nodes ++ sink ∷ []) K.Meter 0 0 one (omega arith) tt (refl, refl) in
    subst AreSoundNodes (append_assoc nodes (sink ∷ []) (meter ∷ [])) two

-- no port has a format or a count of buffers
abbrev IsUnused : PortState → Type 0
IsUnused s = (s.format ≡ None) × (s.buffers ≡ None)

abbrev HasUnused : Node → Type 0
HasUnused node = All IsUnused node.ports

new_unused : (kind : Kind) (rate channels : ℕ) → HasUnused (new_node kind rate channels)
new_unused kind rate channels = All-map IsUnused (new_port kind rate channels) _ (λ i d l. (refl, refl))

chain_unused : (g : ℤ) (d : ℕ) → All HasUnused (chain_nodes g d)
chain_unused g d =
    let b = new_node (K.Gain g) 0 0 in
    let c = new_node (K.Delay d) 0 0 in
    All-cons HasUnused (new_node K.Source 48000 1) (b ∷ c ∷ []) (new_unused K.Source 48000 1)
    (All-cons HasUnused b (c ∷ []) (new_unused (K.Gain g) 0 0) (All-cons HasUnused c [] (new_unused (K.Delay d) 0 0) (All-nil HasUnused)))

chains_unused : (number : ℕ) (is : List ℕ) → All HasUnused (flat_map (λ j. chain_nodes (gain number j) (delay number j)) is)
chains_unused number [] = All-nil HasUnused
chains_unused number (i ∷ is) =
    All-append HasUnused (chain_nodes (gain number i) (delay number i)) (flat_map (λ j. chain_nodes (gain number j) (delay number j)) is)
    (chain_unused (gain number i) (delay number i)) (chains_unused number is)

all_unused : (number : ℕ) → All HasUnused (soak_ports number)
all_unused number =
    let sink = new_node K.Sink 0 0 in
    let meter = new_node K.Meter 0 0 in
    All-append HasUnused (nodes_of number chains) (sink ∷ meter ∷ []) (chains_unused number (range_with_len 0 chains))
    (All-cons HasUnused sink (meter ∷ []) (new_unused K.Sink 0 0) (All-cons HasUnused meter [] (new_unused K.Meter 0 0) (All-nil HasUnused)))

-- THE PORTS are those of the script
pub script_ports : (number : ℕ) → AreScriptPorts (soak_lines number) (soak_ports number)
script_ports number = record { kinds = refl; sound = all_sound number; unused = all_unused number }

-- each source has one wave
abbrev IsCounted : ℕ → ℕ → Type 0
IsCounted number node = kind_of (soak_ports number) node ≡ Some K.Source → count_by (λ w. w.node == node) (soak_waves number) ≡ 1

all_counted : (number : ℕ) → All (IsCounted number) (range_with_len 0 26)
all_counted number = All-cons (IsCounted number) 0 (1 ∷ 2 ∷ 3 ∷ 4 ∷ 5 ∷ 6 ∷ 7 ∷ 8 ∷ 9 ∷ 10 ∷ 11 ∷ 12 ∷ 13 ∷ 14 ∷ 15 ∷ 16 ∷ 17 ∷ 18 ∷ 19 ∷ 20 ∷ 21 ∷ 22 ∷ 23 ∷ 24 ∷ 25 ∷ []) (λ e. refl)
    (All-cons (IsCounted number) 1 (2 ∷ 3 ∷ 4 ∷ 5 ∷ 6 ∷ 7 ∷ 8 ∷ 9 ∷ 10 ∷ 11 ∷ 12 ∷ 13 ∷ 14 ∷ 15 ∷ 16 ∷ 17 ∷ 18 ∷ 19 ∷ 20 ∷ 21 ∷ 22 ∷ 23 ∷ 24 ∷ 25 ∷ []) (λ e. cc)
    (All-cons (IsCounted number) 2 (3 ∷ 4 ∷ 5 ∷ 6 ∷ 7 ∷ 8 ∷ 9 ∷ 10 ∷ 11 ∷ 12 ∷ 13 ∷ 14 ∷ 15 ∷ 16 ∷ 17 ∷ 18 ∷ 19 ∷ 20 ∷ 21 ∷ 22 ∷ 23 ∷ 24 ∷ 25 ∷ []) (λ e. cc)
    (All-cons (IsCounted number) 3 (4 ∷ 5 ∷ 6 ∷ 7 ∷ 8 ∷ 9 ∷ 10 ∷ 11 ∷ 12 ∷ 13 ∷ 14 ∷ 15 ∷ 16 ∷ 17 ∷ 18 ∷ 19 ∷ 20 ∷ 21 ∷ 22 ∷ 23 ∷ 24 ∷ 25 ∷ []) (λ e. refl)
    (All-cons (IsCounted number) 4 (5 ∷ 6 ∷ 7 ∷ 8 ∷ 9 ∷ 10 ∷ 11 ∷ 12 ∷ 13 ∷ 14 ∷ 15 ∷ 16 ∷ 17 ∷ 18 ∷ 19 ∷ 20 ∷ 21 ∷ 22 ∷ 23 ∷ 24 ∷ 25 ∷ []) (λ e. cc)
    (All-cons (IsCounted number) 5 (6 ∷ 7 ∷ 8 ∷ 9 ∷ 10 ∷ 11 ∷ 12 ∷ 13 ∷ 14 ∷ 15 ∷ 16 ∷ 17 ∷ 18 ∷ 19 ∷ 20 ∷ 21 ∷ 22 ∷ 23 ∷ 24 ∷ 25 ∷ []) (λ e. cc)
    (All-cons (IsCounted number) 6 (7 ∷ 8 ∷ 9 ∷ 10 ∷ 11 ∷ 12 ∷ 13 ∷ 14 ∷ 15 ∷ 16 ∷ 17 ∷ 18 ∷ 19 ∷ 20 ∷ 21 ∷ 22 ∷ 23 ∷ 24 ∷ 25 ∷ []) (λ e. refl)
    (All-cons (IsCounted number) 7 (8 ∷ 9 ∷ 10 ∷ 11 ∷ 12 ∷ 13 ∷ 14 ∷ 15 ∷ 16 ∷ 17 ∷ 18 ∷ 19 ∷ 20 ∷ 21 ∷ 22 ∷ 23 ∷ 24 ∷ 25 ∷ []) (λ e. cc)
    (All-cons (IsCounted number) 8 (9 ∷ 10 ∷ 11 ∷ 12 ∷ 13 ∷ 14 ∷ 15 ∷ 16 ∷ 17 ∷ 18 ∷ 19 ∷ 20 ∷ 21 ∷ 22 ∷ 23 ∷ 24 ∷ 25 ∷ []) (λ e. cc)
    (All-cons (IsCounted number) 9 (10 ∷ 11 ∷ 12 ∷ 13 ∷ 14 ∷ 15 ∷ 16 ∷ 17 ∷ 18 ∷ 19 ∷ 20 ∷ 21 ∷ 22 ∷ 23 ∷ 24 ∷ 25 ∷ []) (λ e. refl)
    (All-cons (IsCounted number) 10 (11 ∷ 12 ∷ 13 ∷ 14 ∷ 15 ∷ 16 ∷ 17 ∷ 18 ∷ 19 ∷ 20 ∷ 21 ∷ 22 ∷ 23 ∷ 24 ∷ 25 ∷ []) (λ e. cc)
    (All-cons (IsCounted number) 11 (12 ∷ 13 ∷ 14 ∷ 15 ∷ 16 ∷ 17 ∷ 18 ∷ 19 ∷ 20 ∷ 21 ∷ 22 ∷ 23 ∷ 24 ∷ 25 ∷ []) (λ e. cc)
    (All-cons (IsCounted number) 12 (13 ∷ 14 ∷ 15 ∷ 16 ∷ 17 ∷ 18 ∷ 19 ∷ 20 ∷ 21 ∷ 22 ∷ 23 ∷ 24 ∷ 25 ∷ []) (λ e. refl)
    (All-cons (IsCounted number) 13 (14 ∷ 15 ∷ 16 ∷ 17 ∷ 18 ∷ 19 ∷ 20 ∷ 21 ∷ 22 ∷ 23 ∷ 24 ∷ 25 ∷ []) (λ e. cc)
    (All-cons (IsCounted number) 14 (15 ∷ 16 ∷ 17 ∷ 18 ∷ 19 ∷ 20 ∷ 21 ∷ 22 ∷ 23 ∷ 24 ∷ 25 ∷ []) (λ e. cc)
    (All-cons (IsCounted number) 15 (16 ∷ 17 ∷ 18 ∷ 19 ∷ 20 ∷ 21 ∷ 22 ∷ 23 ∷ 24 ∷ 25 ∷ []) (λ e. refl)
    (All-cons (IsCounted number) 16 (17 ∷ 18 ∷ 19 ∷ 20 ∷ 21 ∷ 22 ∷ 23 ∷ 24 ∷ 25 ∷ []) (λ e. cc)
    (All-cons (IsCounted number) 17 (18 ∷ 19 ∷ 20 ∷ 21 ∷ 22 ∷ 23 ∷ 24 ∷ 25 ∷ []) (λ e. cc)
    (All-cons (IsCounted number) 18 (19 ∷ 20 ∷ 21 ∷ 22 ∷ 23 ∷ 24 ∷ 25 ∷ []) (λ e. refl)
    (All-cons (IsCounted number) 19 (20 ∷ 21 ∷ 22 ∷ 23 ∷ 24 ∷ 25 ∷ []) (λ e. cc)
    (All-cons (IsCounted number) 20 (21 ∷ 22 ∷ 23 ∷ 24 ∷ 25 ∷ []) (λ e. cc)
    (All-cons (IsCounted number) 21 (22 ∷ 23 ∷ 24 ∷ 25 ∷ []) (λ e. refl)
    (All-cons (IsCounted number) 22 (23 ∷ 24 ∷ 25 ∷ []) (λ e. cc)
    (All-cons (IsCounted number) 23 (24 ∷ 25 ∷ []) (λ e. cc)
    (All-cons (IsCounted number) 24 (25 ∷ []) (λ e. cc)
    (All-cons (IsCounted number) 25 ([]) (λ e. cc)
    (All-nil (IsCounted number)))))))))))))))))))))))))))

counted : (number node : ℕ) → IsCounted number node
counted number node e = at (slice_get (soak_ports number) node) refl e
  where
    at : (o : Option Node) → slice_get (soak_ports number) node ≡ o → option_map (λ (m : Node). m.kind) o ≡ Some K.Source
        → count_by (λ w. w.node == node) (soak_waves number) ≡ 1
    at None is h = absurd (none-some K.Source h)
    at (Some m) is h =
        let within : node < 26 = slice_get_within (soak_ports number) node m is in
        let same : 0 + node ≡ node = omega arith in
        subst (IsCounted number) (get_or-range_with_len 0 26 node 0 within ∙ same) (all_counted number node 0 within) e

all_waves : (number : ℕ) → All (IsWaveFor (soak_ports number)) (soak_waves number)
all_waves number = All-cons (IsWaveFor (soak_ports number)) (soak_wave number 0) (soak_wave number 1 ∷ soak_wave number 2 ∷ soak_wave number 3 ∷ soak_wave number 4 ∷ soak_wave number 5 ∷ soak_wave number 6 ∷ soak_wave number 7 ∷ [])
    (record { source = refl; rate = refl; channels = refl })
    (All-cons (IsWaveFor (soak_ports number)) (soak_wave number 1) (soak_wave number 2 ∷ soak_wave number 3 ∷ soak_wave number 4 ∷ soak_wave number 5 ∷ soak_wave number 6 ∷ soak_wave number 7 ∷ [])
    (record { source = refl; rate = refl; channels = refl })
    (All-cons (IsWaveFor (soak_ports number)) (soak_wave number 2) (soak_wave number 3 ∷ soak_wave number 4 ∷ soak_wave number 5 ∷ soak_wave number 6 ∷ soak_wave number 7 ∷ [])
    (record { source = refl; rate = refl; channels = refl })
    (All-cons (IsWaveFor (soak_ports number)) (soak_wave number 3) (soak_wave number 4 ∷ soak_wave number 5 ∷ soak_wave number 6 ∷ soak_wave number 7 ∷ [])
    (record { source = refl; rate = refl; channels = refl })
    (All-cons (IsWaveFor (soak_ports number)) (soak_wave number 4) (soak_wave number 5 ∷ soak_wave number 6 ∷ soak_wave number 7 ∷ [])
    (record { source = refl; rate = refl; channels = refl })
    (All-cons (IsWaveFor (soak_ports number)) (soak_wave number 5) (soak_wave number 6 ∷ soak_wave number 7 ∷ [])
    (record { source = refl; rate = refl; channels = refl })
    (All-cons (IsWaveFor (soak_ports number)) (soak_wave number 6) (soak_wave number 7 ∷ [])
    (record { source = refl; rate = refl; channels = refl })
    (All-cons (IsWaveFor (soak_ports number)) (soak_wave number 7) ([])
    (record { source = refl; rate = refl; channels = refl })
    (All-nil (IsWaveFor (soak_ports number))))))))))

-- THE WAVES are those of the sources
pub have_waves : (number : ℕ) → HaveWaves (soak_ports number) (soak_waves number)
have_waves number = record { each = all_waves number; one = counted number }
