-- What is made of chain after chain: lists, and lines as one text.
use Rattle.std.proofs.Common.{◌≡◌, ℕ, zero, suc, ◌+◌, sym, ap, ◌∙◌, arith, List, [], ◌∷◌, ◌++◌, append-nil, append_assoc}
use Rattle.std.specs.Prelude.{flat_map, codes}
use Rattle.std.specs.List.{range_with_len}
use Rattle.std.proofs.lemmas.Grind.{flat_map-append}
use Rattle.soak_graph.specs.SoakChains.{gain, delay, off}
use Rattle.soak_graph.specs.SoakText.{ended, text_of_lines, node_lines, end_lines, all_link_lines, play_lines, soak_text}

range_more : (a n : ℕ) → range_with_len a (n + 1) ≡ range_with_len a n ++ (a + n) ∷ []
range_more a zero = let e : a ≡ a + 0 = omega arith in ap (λ m. m ∷ []) e
range_more a (suc n) =
    let e : a + 1 + n ≡ a + suc n = omega arith in
    let more : suc n + 1 ≡ suc (n + 1) = omega arith in
    ap (range_with_len a) more ∙ ap (λ xs. a ∷ xs) (range_more (a + 1) n ∙ ap (λ m. range_with_len (a + 1) n ++ m ∷ []) e)

-- what is made of each chain, of one chain more
pub flat_more : {X : Type 0} (f : ℕ → List X) (n : ℕ) → flat_map f (range_with_len 0 (n + 1)) ≡ flat_map f (range_with_len 0 n) ++ f n
flat_more f n =
    let e : 0 + n ≡ n = omega arith in
    ap (flat_map f) (range_more 0 n ∙ ap (λ m. range_with_len 0 n ++ m ∷ []) e)
    ∙ flat_map-append f (range_with_len 0 n) (n ∷ []) ∙ ap (λ ls. flat_map f (range_with_len 0 n) ++ ls) (append-nil (f n))

lines_more : (f : ℕ → List (List ℕ)) (n : ℕ) → text_of_lines (flat_map f (range_with_len 0 (n + 1)))
    ≡ text_of_lines (flat_map f (range_with_len 0 n)) ++ text_of_lines (f n)
lines_more f n = ap text_of_lines (flat_more f n) ∙ flat_map-append ended (flat_map f (range_with_len 0 n)) (f n)

-- the lines of one chain more, after those of the chains so far
pub text_more : (f : ℕ → List (List ℕ)) (n : ℕ) (old now new : List ℕ) → now ≡ old ++ text_of_lines (flat_map f (range_with_len 0 n))
    → new ≡ now ++ text_of_lines (f n) → new ≡ old ++ text_of_lines (flat_map f (range_with_len 0 (n + 1)))
text_more f n old now new before here =
    here ∙ ap (λ t. t ++ text_of_lines (f n)) before
    ∙ append_assoc old (text_of_lines (flat_map f (range_with_len 0 n))) (text_of_lines (f n))
    ∙ ap (λ t. old ++ t) (sym (lines_more f n))

-- the whole text, part after part
pub text_parts : (number : ℕ) → soak_text number
    ≡ ((((ended (codes "quantum 256") ++ text_of_lines (node_lines (gain number) (delay number))) ++ text_of_lines end_lines)
    ++ text_of_lines all_link_lines) ++ text_of_lines (play_lines (off number)))
unfolding soak_text
text_parts number =
    let quantum = ended (codes "quantum 256") in
    let nodes = node_lines (gain number) (delay number) in
    let play = play_lines (off number) in
    ap (λ t. quantum ++ t) (flat_map-append ended ((nodes ++ end_lines) ++ all_link_lines) play
    ∙ ap (λ t. t ++ text_of_lines play) (flat_map-append ended (nodes ++ end_lines) all_link_lines
    ∙ ap (λ t. t ++ text_of_lines all_link_lines) (flat_map-append ended nodes end_lines)))
