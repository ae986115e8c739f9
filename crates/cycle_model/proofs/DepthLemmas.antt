-- How deep a node is in an epoch: how many active nodes are before it in an order of the links that
-- are not delayed.
use Rattle.std.proofs.Common.{◌≡◌, ℕ, zero, suc, ◌+◌, ◌<◌, ◌≤◌, Bool, true, false, ◌&&◌, ◌==◌, nat_lt, List, length, filter, refl}
use Rattle.std.proofs.Common.{ap, ◌∙◌, subst, arith, ⊎_elim}
use Rattle.std.specs.List.{range_with_len}
use Rattle.std.proofs.lemmas.List.Folds.{Any-from_list_any}
use Rattle.std.proofs.lemmas.Bool.{cases_Bool, cases_eq, and_parts, and_from, and_right, lt-ltb, ltb-true, le-ltb, eqb-true}
use Rattle.pw_graph.specs.declared.plan.Epoch.{Epoch}
use Rattle.pw_graph.specs.declared.plan.Plan.{Plan}
use Rattle.wav_files.specs.declared.wav.WavIn.{WavIn}
use Rattle.cycle_model.specs.Mixing.{takes_part}
use Rattle.cycle_model.specs.Renderable.{IsNodeOf, IsRenderableEpoch, IsRenderable}

-- how many of a range pass
count : (ℕ → Bool) → ℕ → ℕ → ℕ
count p a n = length (filter p (range_with_len a n))

yes : (p : ℕ → Bool) (a n : ℕ) → p a ≡ true → count p a (suc n) ≡ suc (count p (a + 1) n)
unfolding count
yes p a n t = rw t refl

no : (p : ℕ → Bool) (a n : ℕ) → p a ≡ false → count p a (suc n) ≡ count p (a + 1) n
unfolding count
no p a n f = rw f refl

none : (p : ℕ → Bool) (a : ℕ) → count p a 0 ≡ 0
unfolding count
none p a = refl

count_le : (p q : ℕ → Bool) (a n : ℕ) → ((k : ℕ) → p k ≡ true → q k ≡ true) → count p a n ≤ count q a n
count_le p q a zero h = omega (arith, none p a, none q a)
count_le p q a (suc n) h =
    let rest : count p (a + 1) n ≤ count q (a + 1) n = count_le p q (a + 1) n h in
    ⊎_elim
    (λ t. omega (arith, yes p a n t, yes q a n (h a t), rest))
    (λ f. ⊎_elim (λ t. omega (arith, no p a n f, yes q a n t, rest)) (λ g. omega (arith, no p a n f, no q a n g, rest)) (cases_Bool (q a)))
    (cases_Bool (p a))

count_less : (p q : ℕ → Bool) (a n j : ℕ) → ((k : ℕ) → p k ≡ true → q k ≡ true) → a ≤ j → j < a + n → p j ≡ false → q j ≡ true
    → count p a n < count q a n
count_less p q a zero j h low high f t = absurd (omega arith)
count_less p q a (suc n) j h low high f t = ⊎_elim
    (λ (e : a ≡ j). omega (arith, no p a n (ap p e ∙ f), yes q a n (ap q e ∙ t), count_le p q (a + 1) n h))
    (λ (ne : a ≡ j → ⊥).
    let rest : count p (a + 1) n < count q (a + 1) n = count_less p q (a + 1) n j h (omega arith) (omega arith) f t in
    ⊎_elim
    (λ u. omega (arith, yes p a n u, yes q a n (h a u), rest))
    (λ g. ⊎_elim (λ u. omega (arith, no p a n g, yes q a n u, rest)) (λ v. omega (arith, no p a n g, no q a n v, rest)) (cases_Bool (q a)))
    (cases_Bool (p a)))
    (cases_eq a j)

-- all of a range pass what is always true
count_all : (a n : ℕ) → count (λ k. true) a n ≡ n
count_all a zero = none (λ k. true) a
count_all a (suc n) = yes (λ k. true) a n refl ∙ ap suc (count_all (a + 1) n)

-- how many active nodes are before a node in an order
pub depth : ℕ → Epoch → (ℕ → ℕ) → ℕ → ℕ
depth size e rank node = count (λ k. takes_part e k && nat_lt (rank k) (rank node)) 0 size

not_before_itself : (e : Epoch) (rank : ℕ → ℕ) (n : ℕ) → (takes_part e n && nat_lt (rank n) (rank n)) ≡ false
not_before_itself e rank n = and_right (takes_part e n) (nat_lt (rank n) (rank n)) (le-ltb (rank n) (rank n) (omega arith))

pub depth_less : (size : ℕ) (e : Epoch) (rank : ℕ → ℕ) (m n : ℕ) → rank m < rank n → takes_part e m ≡ true → m < size
    → depth size e rank m < depth size e rank n
unfolding depth
depth_less size e rank m n h t lt =
    count_less (λ k. takes_part e k && nat_lt (rank k) (rank m)) (λ k. takes_part e k && nat_lt (rank k) (rank n)) 0 size m
    (λ k u. let parts = and_parts (takes_part e k) (nat_lt (rank k) (rank m)) u in
    and_from _ _ parts.0 (lt-ltb (rank k) (rank n) (omega (arith, ltb-true (rank k) (rank m) parts.1, h))))
    (omega arith) (omega arith) (not_before_itself e rank m) (and_from _ _ t (lt-ltb (rank m) (rank n) h))

pub depth_small : (size : ℕ) (e : Epoch) (rank : ℕ → ℕ) (n : ℕ) → n < size → depth size e rank n < size
unfolding depth
depth_small size e rank n lt =
    let less : count (λ k. takes_part e k && nat_lt (rank k) (rank n)) 0 size < count (λ k. true) 0 size =
    count_less (λ k. takes_part e k && nat_lt (rank k) (rank n)) (λ k. true) 0 size n (λ k u. refl) (omega arith) (omega arith)
    (not_before_itself e rank n) refl in
    omega (arith, less, count_all 0 size)

pub node_small : (plan : Plan) (waves : List WavIn) → IsRenderable plan waves → (e : Epoch) → IsRenderableEpoch plan e → (n : ℕ)
    → takes_part e n ≡ true → n < 64
node_small plan waves r e q n t =
    let at = Any-from_list_any (λ x. x.node == n) e.shape.nodes t in
    let node : IsNodeOf plan at.1 = subst (IsNodeOf plan) at.3 (q.nodes at.0 at.1 at.2) in
    let same : at.1.node ≡ n = eqb-true at.1.node n at.4 in
    ⊎_elim (λ (l : at.1.node < length plan.nodes). omega (arith, r.few, same, l)) (λ (s : at.1.node ≡ 63). omega (arith, same, s)) node
