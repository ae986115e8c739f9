-- Each block of a pool has a sample word.
use Rattle.std.proofs.Common.{◌≡◌, ℕ, zero, suc, ◌+◌, ◌*◌, ◌/◌, ◌<◌, ◌≤◌, true, max, List, [], ◌∷◌, length, get_or, sym, ap}
use Rattle.std.proofs.Common.{◌∙◌, subst, arith}
use Rattle.std.specs.Prelude.{fold, Contains}
use Rattle.std.proofs.Math.Nat.{le-mul_of_pos_right}
use Rattle.std.proofs.lemmas.Option.{get_or_from_slice_get, slice_get_within}
use Rattle.pw_graph.specs.declared.ids.PortId.{PortId}
use Rattle.pw_graph.specs.declared.shape.ShapeLink.{ShapeLink}
use Rattle.pw_graph.specs.declared.pools.PoolShape.{PoolShape}
use Rattle.pw_graph.specs.Pools.{is_same_port, links_from, channels_of, IsPooledShape}
use Rattle.pw_graph.proofs.PoolLemmas.{port_same}
use Rattle.pw_graph.proofs.PrecedenceLemmas.{holds_at}
use Rattle.board_rule.specs.Layout.{BoardLayout, IsSound}
use Rattle.board_rule.proofs.buffers.WiredLemmas.{PoolAt, wired, pool_source}

most_from : (a : ℕ) (xs : List ShapeLink) → a ≤ fold (λ top l. max top l.channels) a xs
most_from a [] = omega arith
most_from a (x ∷ xs) = let more = most_from (max a x.channels) xs in omega arith

most_has : (a : ℕ) (xs : List ShapeLink) (k : ℕ) (d : ShapeLink) → k < length xs
    → (get_or xs k d).channels ≤ fold (λ top l. max top l.channels) a xs
most_has a [] k d h = absurd (omega arith)
most_has a (x ∷ xs) zero d h = let more = most_from (max a x.channels) xs in omega arith
most_has a (x ∷ xs) (suc k) d h = most_has (max a x.channels) xs k d (omega arith)

-- one sample at least makes a word
some_quarter : (n : ℕ) → 1 ≤ n → 0 < (n + 3) / 4
some_quarter n h = omega arith

pub pools_have_words : (p : BoardLayout) → IsSound p → IsPooledShape p.shape → (q : ℕ) (x : PoolShape) → PoolAt p q x
    → 0 < x.words
pools_have_words p sound pooled q x at =
    let w = wired p sound pooled in let l = w.linked q x at in let k = w.there q l.0 x at l.1 in
    let port = pool_source p.shape q x at in
    let here : get_or p.shape.links l.0 k.0 ≡ k.0 = get_or_from_slice_get p.shape.links l.0 k.0 k.0 k.1 in
    let from : is_same_port k.0.from x.port ≡ true = port_same k.0.from x.port k.2 in
    let c : Contains (links_from p.shape x.port) k.0 =
    holds_at (λ j. is_same_port j.from x.port) p.shape.links k.0 l.0 from (slice_get_within p.shape.links l.0 k.0 k.1) here in
    let link = pooled.sound.links.each l.0 k.0 (slice_get_within p.shape.links l.0 k.0 k.1) in
    let one : 1 ≤ k.0.channels = subst (λ (j : ShapeLink). 1 ≤ j.channels) here link.channels.0 in
    let most = most_has 0 (links_from p.shape x.port) c.0 k.0 c.1 in
    let same : (get_or (links_from p.shape x.port) c.0 k.0).channels ≡ k.0.channels = ap (λ (j : ShapeLink). j.channels) c.2 in
    let quantum = pooled.sound.cycles.quantum.0 in
    let wide : p.shape.quantum ≤ p.shape.quantum * channels_of p.shape x.port = le-mul_of_pos_right p.shape.quantum (omega arith) in
    let words : x.words ≡ (p.shape.quantum * channels_of p.shape x.port + 3) / 4 = ap (λ (z : PoolShape). z.words) port.2
    ∙ ap (λ (z : PortId). (p.shape.quantum * channels_of p.shape z + 3) / 4) (sym (ap (λ (z : PoolShape). z.port) port.2)) in
    subst (λ n. 0 < n) (sym words) (some_quarter (p.shape.quantum * channels_of p.shape x.port) (omega arith))
