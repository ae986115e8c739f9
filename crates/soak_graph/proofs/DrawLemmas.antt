-- Laws of `specs/Draws.antt`: steps after steps, and draws from a later state on.
use Rattle.std.specs.Prelude.{pos, ◌-ℤ◌}
use Rattle.std.proofs.Common.{◌≡◌, ℕ, zero, suc, ◌+◌, refl, sym, ap, ◌∙◌, arith, [], ◌∷◌, ◌++◌, map}
use Rattle.std.specs.Fn.{iterate}
use Rattle.std.specs.List.{range_with_len}
use Rattle.std.proofs.lemmas.List.FromFn.{map-range_with_len_more}
use Rattle.soak_graph.specs.Draws.{stepped, state_after, draw, given, sample_at, samples}

iterate_join : {A : Type 0} (h : A → A) (a b : ℕ) (x : A) → iterate h b (iterate h a x) ≡ iterate h (a + b) x
iterate_join h zero b x = let e : b ≡ 0 + b = omega arith in ap (λ n. iterate h n x) e
iterate_join h (suc a) b x =
    let e : suc (a + b) ≡ suc a + b = omega arith in
    iterate_join h a b (h x) ∙ ap (λ n. iterate h n x) e

-- no step, one, and one more
pub no_step : (x : ℕ) → state_after 0 x ≡ x
unfolding state_after
no_step x = refl

pub one_step : (x : ℕ) → state_after 1 x ≡ stepped x
unfolding state_after
one_step x = refl

-- steps after steps
pub steps_join : (a b x : ℕ) → state_after b (state_after a x) ≡ state_after (a + b) x
unfolding state_after
steps_join a b x = iterate_join stepped a b x

pub one_more : (n x : ℕ) → stepped (state_after n x) ≡ state_after (n + 1) x
one_more n x = sym (one_step (state_after n x)) ∙ steps_join n 1 x

-- draws and samples from a later state on
pub draw_join : (a place n x : ℕ) → draw (state_after a x) place n ≡ draw x (a + place) n
draw_join a place n x =
    let e : a + (place + 1) ≡ a + place + 1 = omega arith in
    ap (λ s. given s n) (steps_join a (place + 1) x ∙ ap (λ m. state_after m x) e)

pub draw_later : (a n x : ℕ) → draw (state_after a x) 0 n ≡ draw x a n
draw_later a n x = let e : a + 0 ≡ a = omega arith in draw_join a 0 n x ∙ ap (λ m. draw x m n) e

pub samples_join : (a count x : ℕ) → samples (state_after a x) 0 count ≡ samples x a count
unfolding samples
samples_join a count x =
    ap (λ f. map f (range_with_len 0 count)) (λ i t. at t i)
  where
    at : (t : ℕ) → sample_at (state_after a x) (0 + t) ≡ sample_at x (a + t)
    at t =
        let e : a + (0 + t) ≡ a + t = omega arith in
        ap (λ (d : ℕ). pos d -ℤ pos 32768) (draw_join a (0 + t) 65536 x ∙ ap (λ p. draw x p 65536) e)

-- no sample, and one more
pub no_sample : (x a : ℕ) → samples x a 0 ≡ []
unfolding samples
no_sample x a = refl

pub sample_more : (x count : ℕ) → samples x 0 (count + 1) ≡ samples x 0 count ++ sample_at x count ∷ []
unfolding samples
sample_more x count =
    let e : 0 + count ≡ count = omega arith in
    map-range_with_len_more (λ t. sample_at x (0 + t)) 0 count count e
    ∙ ap (λ p. samples x 0 count ++ sample_at x p ∷ []) e
