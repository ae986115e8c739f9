-- One node and one late node more in a text.
use Rattle.std.proofs.Common.{◌≡◌, ℕ, ◌+◌, ◌/◌, ◌%◌, ◌^◌, ◌<◌, ◌==◌, Bool, cond, List, [], ◌∷◌, ◌++◌, length, take}
use Rattle.std.proofs.Common.{get_or, map, filter, flat_map, length-take-le, sym, ap, ◌∙◌, arith, append_assoc, append-nil, map-id, eq-eqb}
use Rattle.std.proofs.Common.{ne_eqb}
use Rattle.std.specs.List.{range_with_len, enumerate_from}
use Rattle.std.proofs.lemmas.List.{take_more, map-append}
use Rattle.std.proofs.lemmas.Grind.{flat_map-append}
use Rattle.std.proofs.lemmas.List.FromFn.{map-range_with_len_more}
use Rattle.std.proofs.lemmas.List.Elements.{filter-append}
use Rattle.pw_graph.specs.declared.plan.PlanNode.{PlanNode}
use Rattle.cycle_trace.specs.Words.{spaced, line}
use Rattle.cycle_trace.specs.EventLines.{late_nodes}

-- one node more with its number
pub enumerate_from-push : {X : Type 0} (n : ℕ) (xs : List X) (x : X)
    → enumerate_from n (xs ++ x ∷ []) ≡ enumerate_from n xs ++ (n + length xs, x) ∷ []
enumerate_from-push n [] x = ap (λ (k : ℕ). (k, x) ∷ []) (omega arith)
enumerate_from-push n (y ∷ ys) x =
    let number : n + 1 + length ys ≡ n + (length ys + 1) = omega arith in
    ap (λ r. (n, y) ∷ r) (enumerate_from-push (n + 1) ys x)
    ∙ ap (λ (k : ℕ). (n, y) ∷ (enumerate_from (n + 1) ys ++ (k, x) ∷ [])) (omega arith)

-- the late nodes below a number
abbrev pub late_below : ℕ → ℕ → List ℕ
late_below late n = filter (λ k. late / 2 ^ k % 2 == 1) (range_with_len 0 n)

-- all late nodes
pub late_below-all : (late n : ℕ) → n ≡ 64 → late_below late n ≡ late_nodes late
unfolding late_nodes
late_below-all late n e = ap (late_below late) e

-- one number more
pub late_below-more : (late n : ℕ) → late_below late (n + 1) ≡ late_below late n ++ cond (late / 2 ^ n % 2 == 1) (n ∷ []) []
late_below-more late n =
    let more : range_with_len 0 (n + 1) ≡ range_with_len 0 n ++ n ∷ [] =
    sym (map-id (range_with_len 0 (n + 1))) ∙ map-range_with_len_more (λ (k : ℕ). k) 0 n n (omega arith)
    ∙ ap (λ (r : List ℕ). r ++ n ∷ []) (map-id (range_with_len 0 n)) in
    ap (filter (λ k. late / 2 ^ k % 2 == 1)) more ∙ filter-append (λ k. late / 2 ^ k % 2 == 1) (range_with_len 0 n) (n ∷ [])

-- a late node more is named
pub late_named : (name : ℕ → List ℕ) (old text more : List ℕ) (late n : ℕ) → text ≡ old ++ spaced (map name (late_below late n))
    → late / 2 ^ n % 2 ≡ 1
    → more ≡ text ++ (32 ∷ name n) → more ≡ old ++ spaced (map name (late_below late (n + 1)))
late_named name old text more late n before bit named =
    let step : late_below late (n + 1) ≡ late_below late n ++ n ∷ [] =
    late_below-more late n ∙ ap (λ (b : Bool). late_below late n ++ cond b (n ∷ []) []) (eq-eqb (late / 2 ^ n % 2) 1 bit) in
    let words : spaced (map name (late_below late (n + 1))) ≡ spaced (map name (late_below late n)) ++ (32 ∷ name n) =
    ap (λ (ns : List ℕ). spaced (map name ns)) step ∙ ap spaced (map-append name (late_below late n) (n ∷ []))
    ∙ flat_map-append (λ (word : List ℕ). 32 ∷ word) (map name (late_below late n)) (name n ∷ [])
    ∙ ap (λ (r : List ℕ). spaced (map name (late_below late n)) ++ (32 ∷ r)) (append-nil (name n)) in
    named ∙ ap (λ (r : List ℕ). r ++ (32 ∷ name n)) before ∙ append_assoc old (spaced (map name (late_below late n))) (32 ∷ name n)
    ∙ ap (λ (r : List ℕ). old ++ r) (sym words)

-- a node that is not late is not named
pub late_skipped : (name : ℕ → List ℕ) (old text : List ℕ) (late n : ℕ) → text ≡ old ++ spaced (map name (late_below late n))
    → (late / 2 ^ n % 2 ≡ 1 → ⊥)
    → text ≡ old ++ spaced (map name (late_below late (n + 1)))
late_skipped name old text late n before bit =
    let step : late_below late (n + 1) ≡ late_below late n =
    late_below-more late n ∙ ap (λ (b : Bool). late_below late n ++ cond b (n ∷ []) []) (ne_eqb (late / 2 ^ n % 2) 1 bit)
    ∙ append-nil (late_below late n) in
    before ∙ ap (λ (ns : List ℕ). old ++ spaced (map name ns)) (sym step)

-- the words of a line, each after the one before
pub line_made : (first a b : List ℕ) (others : List (List ℕ)) (t0 t1 t2 t3 t4 t5 : List ℕ) → t1 ≡ t0 ++ first → t2 ≡ t1 ++ (32 ∷ a)
    → t3 ≡ t2 ++ (32 ∷ b) → t4 ≡ t3 ++ spaced others → t5 ≡ t4 ++ 10 ∷ []
    → t5 ≡ t0 ++ line first (a ∷ b ∷ others)
line_made first a b others t0 t1 t2 t3 t4 t5 e1 e2 e3 e4 e5 =
    let s : List ℕ = spaced others in
    let end : List ℕ = 10 ∷ [] in
    let apart : line first (a ∷ b ∷ others) ≡ first ++ (32 ∷ (a ++ (32 ∷ (b ++ (s ++ end))))) =
    append_assoc first (32 ∷ (a ++ (32 ∷ (b ++ s)))) end
    ∙ ap (λ (r : List ℕ). first ++ (32 ∷ r)) (append_assoc a (32 ∷ (b ++ s)) end
    ∙ ap (λ (r : List ℕ). a ++ (32 ∷ r)) (append_assoc b s end)) in
    let joined : ((((t0 ++ first) ++ (32 ∷ a)) ++ (32 ∷ b)) ++ s) ++ end ≡ t0 ++ (first ++ (32 ∷ (a ++ (32 ∷ (b ++ (s ++ end)))))) =
    append_assoc (((t0 ++ first) ++ (32 ∷ a)) ++ (32 ∷ b)) s end
    ∙ append_assoc ((t0 ++ first) ++ (32 ∷ a)) (32 ∷ b) (s ++ end)
    ∙ append_assoc (t0 ++ first) (32 ∷ a) (32 ∷ (b ++ (s ++ end)))
    ∙ append_assoc t0 first (32 ∷ (a ++ (32 ∷ (b ++ (s ++ end))))) in
    rw (e5, e4, e3, e2, e1) (joined ∙ ap (λ (r : List ℕ). t0 ++ r) (sym apart))

-- one node more has its line
pub node_told : (told : ℕ → PlanNode → List ℕ) (nodes : List PlanNode) (node : PlanNode) (place : ℕ) (old text more : List ℕ)
    → place < length nodes → node ≡ get_or nodes place node
    → text ≡ old ++ flat_map (λ n. told n.0 n.1) (enumerate_from 0 (take place nodes)) → more ≡ text ++ told place node
    → more ≡ old ++ flat_map (λ n. told n.0 n.1) (enumerate_from 0 (take (place + 1) nodes))
node_told told nodes node place old text more here read before made =
    let tell : ℕ × PlanNode → List ℕ = λ n. told n.0 n.1 in
    let short : length (take place nodes) ≡ place = length-take-le place nodes (omega arith) in
    let step : enumerate_from 0 (take (place + 1) nodes) ≡ enumerate_from 0 (take place nodes) ++ (place, node) ∷ [] =
    ap (enumerate_from 0) (take_more nodes place node here ∙ ap (λ (x : PlanNode). take place nodes ++ x ∷ []) (sym read))
    ∙ enumerate_from-push 0 (take place nodes) node
    ∙ ap (λ (k : ℕ). enumerate_from 0 (take place nodes) ++ (k, node) ∷ []) (omega (arith, short)) in
    let lines : flat_map tell (enumerate_from 0 (take (place + 1) nodes))
    ≡ flat_map tell (enumerate_from 0 (take place nodes)) ++ told place node =
    ap (flat_map tell) step ∙ flat_map-append tell (enumerate_from 0 (take place nodes)) ((place, node) ∷ [])
    ∙ ap (λ (r : List ℕ). flat_map tell (enumerate_from 0 (take place nodes)) ++ r) (append-nil (told place node)) in
    made ∙ ap (λ (r : List ℕ). r ++ told place node) before
    ∙ append_assoc old (flat_map tell (enumerate_from 0 (take place nodes))) (told place node) ∙ ap (λ (r : List ℕ). old ++ r) (sym lines)
