-- What is drawn for a number: chain after chain, and in its ranges.
use Rattle.std.proofs.Common.{◌≡◌, ℕ, ◌+◌, ◌*◌, ◌/◌, ◌%◌, ◌^◌, ◌<◌, ◌≤◌, ap, ◌∙◌, arith, List, map}
use Rattle.std.specs.Prelude.{pos, neg_ℤ, ◌-ℤ◌, ◌≤ℤ◌}
use Rattle.std.specs.List.{range_with_len}
use Rattle.std.proofs.Math.Nat.{mod-lt}
use Rattle.std.proofs.lemmas.Int.{ints}
use Rattle.std.proofs.lemmas.List.FromFn.{get_or-map-range_with_len}
use Rattle.soak_graph.specs.declared.drawing.Chain.{Chain}
use Rattle.soak_graph.specs.working.Drawing.{chain, chain_in}
use Rattle.soak_graph.specs.Draws.{state_after, draw, samples}
use Rattle.soak_graph.specs.SoakChains.{chains, frames, chain_draws, gain, delay, off, chain_samples}
use Rattle.soak_graph.proofs.DrawLemmas.{steps_join, draw_join, samples_join}

-- what is drawn for a chain, from its first draw on
gain_there : (x i : ℕ) → gain (state_after (i * chain_draws) x) 0 ≡ gain x i
gain_there x i = ap (λ (d : ℕ). pos d -ℤ pos 256) (draw_join (i * chain_draws) frames 513 x)

delay_there : (x i : ℕ) → delay (state_after (i * chain_draws) x) 0 ≡ delay x i
delay_there x i =
    let e : i * chain_draws + (frames + 1) ≡ i * chain_draws + frames + 1 = omega arith in
    draw_join (i * chain_draws) (frames + 1) 1025 x ∙ ap (λ p. draw x p 1025) e

pub chain_there : (x i : ℕ) → chain (state_after (i * chain_draws) x) 0 ≡ chain x i
chain_there x i = (λ k. record { gain = gain_there x i k; delay = delay_there x i k })

pub samples_there : (x i : ℕ) → samples (state_after (i * chain_draws) x) 0 frames ≡ chain_samples x i
samples_there x i = samples_join (i * chain_draws) frames x

pub chain_more : (x i : ℕ) → state_after chain_draws (state_after (i * chain_draws) x) ≡ state_after ((i + 1) * chain_draws) x
chain_more x i =
    let e : i * chain_draws + chain_draws ≡ (i + 1) * chain_draws = omega arith in
    steps_join (i * chain_draws) chain_draws x ∙ ap (λ n. state_after n x) e

-- the numbers of a chain in the list of all
pub chain_is : (number i : ℕ) (list : List Chain) → list ≡ map (chain number) (range_with_len 0 chains) → i < chains
    → chain_in list i ≡ chain number i
chain_is number i list e below =
    let same : 0 + i ≡ i = omega arith in
    ap (λ cs. chain_in cs i) e ∙ get_or-map-range_with_len (chain number) 0 chains i i (record { gain = pos 0; delay = 0 }) below same

-- what is drawn is in range
pub gain_range : (number i : ℕ) → (neg_ℤ (pos 256) ≤ℤ gain number i) × (gain number i ≤ℤ pos 256)
gain_range number i =
    let x = state_after (i * chain_draws + frames + 1) number / 2 ^ 33 in
    let below : x % 513 < 513 = mod-lt x (omega arith) in
    (omega (arith, ints), omega (arith, ints))

pub delay_range : (number i : ℕ) → delay number i ≤ 1024
delay_range number i =
    let x = state_after (i * chain_draws + frames + 1 + 1) number / 2 ^ 33 in
    let below : x % 1025 < 1025 = mod-lt x (omega arith) in
    omega arith

pub off_range : (number : ℕ) → off number < chains
off_range number = mod-lt (state_after (chains * chain_draws + 1) number / 2 ^ 33) (omega arith)
