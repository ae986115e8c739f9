-- The script of a number, as text, in this project's script grammar: eight chains of a source, a
-- gain and a delay, each into one sink and one meter.
use Rattle.std.specs.Prelude.{ℕ, ◌+◌, List, [], ◌∷◌, ◌++◌, decimal, codes, flat_map, ℤ}
use Rattle.std.specs.Fmt.{signed_decimal}
use Rattle.std.specs.List.{range_with_len}
use Rattle.soak_graph.specs.SoakChains.{chains, gain, delay, off}

abbrev pub digit : ℕ → List ℕ
digit i = (0x30 + i) ∷ []

-- the nodes of chain i
abbrev pub source_line : ℕ → List ℕ
source_line i = codes "source s" ++ digit i ++ codes " s" ++ digit i ++ codes ".wav"

abbrev pub gain_line : ℕ → ℤ → List ℕ
gain_line i g = codes "gain g" ++ digit i ++ codes " " ++ signed_decimal g

abbrev pub delay_line : ℕ → ℕ → List ℕ
delay_line i d = codes "delay d" ++ digit i ++ codes " " ++ decimal d

abbrev pub chain_lines : ℕ → ℤ → ℕ → List (List ℕ)
chain_lines i g d = source_line i ∷ gain_line i g ∷ delay_line i d ∷ []

-- where all chains end
abbrev pub end_lines : List (List ℕ)
end_lines = codes "sink mix mix.wav" ∷ codes "meter level" ∷ codes "driver mix 1" ∷ []

-- the links of chain i
abbrev pub gain_link : ℕ → List ℕ
gain_link i = codes "link s" ++ digit i ++ codes ".out g" ++ digit i ++ codes ".in"

abbrev pub delay_link : ℕ → List ℕ
delay_link i = codes "link g" ++ digit i ++ codes ".out d" ++ digit i ++ codes ".in"

abbrev pub mix_link : ℕ → List ℕ
mix_link i = codes "link d" ++ digit i ++ codes ".out mix.in"

abbrev pub level_link : ℕ → List ℕ
level_link i = codes "link d" ++ digit i ++ codes ".out level.in"

abbrev pub link_lines : ℕ → List (List ℕ)
link_lines i = gain_link i ∷ delay_link i ∷ mix_link i ∷ level_link i ∷ []

-- the run: the source of chain k is off for 50 cycles
abbrev pub play_lines : ℕ → List (List ℕ)
play_lines k =
    codes "cycles 100" ∷ (codes "off s" ++ digit k) ∷ codes "cycles 50"
    ∷ (codes "on s" ++ digit k) ∷ codes "drain" ∷ []

-- all lines, by the gains, the delays and the chain whose source goes off
abbrev pub node_lines : (ℕ → ℤ) → (ℕ → ℕ) → List (List ℕ)
node_lines gains delays =
    flat_map (λ i. chain_lines i (gains i) (delays i)) (range_with_len 0 chains)

abbrev pub all_link_lines : List (List ℕ)
all_link_lines = flat_map link_lines (range_with_len 0 chains)

abbrev pub all_lines : (ℕ → ℤ) → (ℕ → ℕ) → ℕ → List (List ℕ)
all_lines gains delays k =
    codes "quantum 256" ∷ node_lines gains delays ++ end_lines ++ all_link_lines ++ play_lines k

-- lines, each ended by a line feed
abbrev pub ended : List ℕ → List ℕ
ended line = line ++ 0x0A ∷ []

abbrev pub text_of_lines : List (List ℕ) → List ℕ
text_of_lines lines = flat_map ended lines

-- THE TEXT of a number
unfoldable pub soak_text : ℕ → List ℕ
soak_text number = text_of_lines (all_lines (gain number) (delay number) (off number))
