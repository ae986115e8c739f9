-- What a link brings its reader: the samples of the block that it holds, which are 16 bits each and a quantum long.
use Rattle.std.proofs.Common.{◌≡◌, ℕ, ℤ, ◌+◌, ◌-◌, ◌*◌, ◌<◌, Bool, true, false, cond, ltb, List, [], length, get_or, refl, sym, ap, ◌∙◌}
use Rattle.std.proofs.Common.{subst, arith, ap₂}
use Rattle.std.specs.Prelude.{pos, ◌∷◌, All, replicate}
use borrow.Author.Tests.{ltb-true}
use Rattle.std.proofs.lemmas.Option.{slice_get-get_or}
use Rattle.std.proofs.lemmas.Int.{ints, clamps}
use Rattle.std.proofs.lemmas.List.{ext_get_or, get_or-replicate, length-replicate}
use Rattle.std.proofs.lemmas.List.Elements.{All-head, All-tail, All-replicate}
use Rattle.pw_lists.specs.Samples.{clamped}
use Rattle.pw_graph.specs.Pools.{pools_of}
use Rattle.board_rule.specs.declared.view.View.{View}
use Rattle.board_rule.specs.Layout.{BoardLayout, first}
use Rattle.board_rule.specs.buffers.SampleWords.{IsTable, samples_in, packed}
use Rattle.board_rule.specs.buffers.EndViews.{no_pool, pool_at, pool_of}
use Rattle.board_rule.specs.buffers.ReaderSteps.{read_cycle, samples_read, ReadsBlock}
use Rattle.io_areas.specs.Reading.{IsHolding, IsClamped, stamp_brought, brought}
use Rattle.io_areas.specs.Quanta.{quantum_of}
use Rattle.io_areas.proofs.SampleWordsLemmas.{IsShort, IsReadTo, spread_more}
use Rattle.io_areas.proofs.ReadingLemmas.{loaded_to, samples_same}
use Rattle.io_areas.specs.working.Unpacking.{spread}

-- the list where the test holds, else zeros: given by its elements
told_by : (b : Bool) (xs ys : List ℤ) (n : ℕ) → (b ≡ true → length xs ≡ n) → length ys ≡ n
    → ((j : ℕ) → j < length ys → get_or ys j (pos 0) ≡ get_or (cond b xs []) j (pos 0)) → ys ≡ cond b xs (replicate n (pos 0))
told_by true xs ys n long e same = ext_get_or (pos 0) ys xs (e ∙ sym (long refl)) same
told_by false xs ys n long e same = ext_get_or (pos 0) ys (replicate n (pos 0)) (e ∙ sym (length-replicate n (pos 0)))
    (λ j l. same j l ∙ sym (get_or-replicate n j (pos 0) (pos 0) (subst (λ k. j < k) e l)))

short_by : (b : Bool) (xs : List ℤ) → All IsShort xs → All IsShort (cond b xs [])
short_by true xs h = h
short_by false xs h = λ k d l. absurd (omega arith)

short_clamped : (xs : List ℤ) → All IsShort xs → IsClamped xs
short_clamped [] h = refl
short_clamped (x ∷ xs) h = let s = All-head IsShort x xs h in let low = s.0 in let high = s.1 in
    let e : clamped x ≡ x = omega (arith, ints, clamps) in
    ap₂ (λ y ys. y ∷ ys) e (short_clamped xs (All-tail IsShort x xs h))

short_or_zeros : (b : Bool) (xs : List ℤ) (n : ℕ) → All IsShort xs → All IsShort (cond b xs (replicate n (pos 0)))
short_or_zeros true xs n h = h
short_or_zeros false xs n h = All-replicate IsShort n (pos 0) (record { le = tt }, record { le = tt })

module _ (is_driver : Bool) (p : BoardLayout) (v : View) (l : ℕ) (table : IsTable p v.expect) where
  pub brought_clamped : IsClamped (brought is_driver p v l)
  brought_clamped = let n = stamp_brought p l (read_cycle is_driver p v l) in let q = pool_of p l in
      short_clamped (brought is_driver p v l)
      (short_or_zeros (ltb (first p) n) (samples_in p v.expect (n - 1) q) (quantum_of p q) (table.fits (n - 1) q))

  pub all_short : All IsShort (samples_read is_driver p v l)
  all_short = short_by (ltb (first p) (stamp_brought p l (read_cycle is_driver p v l))) _ (table.fits (stamp_brought p l (read_cycle is_driver p v l) - 1) (pool_of p l))

  pub brought_whole : IsHolding is_driver p v l → pool_of p l < length (pools_of p.shape) → (ys : List ℤ) → length ys ≡ quantum_of p (pool_of p l)
      → IsReadTo (samples_read is_driver p v l) (length ys) ys → ys ≡ brought is_driver p v l
  brought_whole h inside ys long is = told_by (ltb (first p) n) (samples_in p v.expect (n - 1) q) ys (quantum_of p q) whole long
      (λ j lt. is j lt lt)
    where
      n : ℕ
      n = stamp_brought p l (read_cycle is_driver p v l)

      q : ℕ
      q = pool_of p l

      whole : ltb (first p) n ≡ true → length (samples_in p v.expect (n - 1) q) ≡ quantum_of p (pool_of p l)
      whole t = let later : first p < n = ltb-true (first p) n t in let c = h.0.0.2.1 in
          let at : first p + (n - 1 - first p) ≡ n - 1 = omega arith in
          ap (λ (k : ℕ). length (samples_in p v.expect k q)) (sym at)
          ∙ table.long (n - 1 - first p) q (pool_at p q) (omega arith) (slice_get-get_or (pools_of p.shape) q no_pool inside)

-- one more word is written where it belongs
pub last_spread : (b : Bool) (p : BoardLayout) (v : View) (l id : ℕ) (h : ReadsBlock b p v l id) {n word : ℕ} {w : View} {zs : List ℤ} (ys : List ℤ) (k : ℕ)
    → IsTable p v.expect → word ≡ packed (samples_read b p w l) n → w ≡ loaded_to v l k → n ≡ k → zs ≡ spread ys (4 * n) word
    → IsReadTo (samples_read b p v l) (4 * k) ys → IsReadTo (samples_read b p v l) (4 * (k + 1)) zs
last_spread b p v l id h {n} {word} {w} {zs} ys k table e i same is so_far = let xs = samples_read b p v l in
    let here : word ≡ packed xs k = e ∙ ap (λ (x : View). packed (samples_read b p x l) n) i
    ∙ ap (λ (ss : List ℤ). packed ss n) (samples_same b p v l id h k) ∙ ap (λ (m : ℕ). packed xs m) same in
    subst (IsReadTo xs (4 * (k + 1))) (sym (is ∙ ap (λ (m : ℕ). spread ys (4 * m) word) same))
    (spread_more xs (all_short b p v l table) ys k word here so_far)
