-- Laws of `specs/Owners.antt`: no owner is past the driver's seat.
use Rattle.std.proofs.Common.{◌≡◌, ℕ, suc, ◌≤◌, inl, inr, cond, List, [], ◌∷◌, map, slice_index, replicate, ap, arith}
use Rattle.std.specs.Prelude.{All}
use Rattle.std.specs.List.{flat_map}
use Rattle.std.proofs.lemmas.List.Elements.{All-nil, All-map, All-append, All-replicate}
use Rattle.std.proofs.lemmas.List.{get_or_past}
use Rattle.std.proofs.lemmas.Bool.Decides.{eqb_tells, leb_tells}
use Rattle.pw_graph.specs.Layout.{node_count}
use Rattle.pw_graph.specs.Pools.{pools_of}
use Rattle.pw_graph.specs.declared.pools.PoolShape.{PoolShape}
use Rattle.pw_graph.specs.declared.shape.ShapeNode.{ShapeNode}
use Rattle.pw_graph.specs.declared.shape.ShapeLink.{ShapeLink}
use Rattle.board_rule.specs.declared.board_shape.BoardShape.{BoardShape}
use Rattle.board_rule.specs.Layout.{layout_of, HasSeats}
use Rattle.board_rule.specs.start.Owners.{holder, seat_with, owners_of}

-- what holds of all values holds of those of a list
module _ {A : Type 0} (f : A → ℕ) (most : ℕ) (low : (x : A) → f x ≤ most) where
  each : (xs : List A) → All (λ x. f x ≤ most) xs
  each [] = All-nil (λ x. f x ≤ most)
  each (x ∷ xs) = All-append (λ y. f y ≤ most) (x ∷ []) xs (All-replicate (λ y. f y ≤ most) 1 x (low x)) (each xs)

  in_map : (xs : List A) → All (λ o. o ≤ most) (map f xs)
  in_map xs = All-map (λ o. o ≤ most) f xs (each xs)

  in_rows : (n : A → ℕ) (xs : List A) → All (λ o. o ≤ most) (flat_map (λ x. replicate (n x) (f x)) xs)
  in_rows n [] = All-nil (λ o. o ≤ most)
  in_rows n (x ∷ xs) = All-append (λ o. o ≤ most) (replicate (n x) (f x)) (flat_map (λ x. replicate (n x) (f x)) xs)
      (All-replicate (λ o. o ≤ most) (n x) (f x) (low x)) (in_rows n xs)

module _ (bs : BoardShape) (seats : HasSeats bs) where
  holder_most : (n : ℕ) → holder (layout_of bs) n ≤ bs.seats
  holder_most n = let p = layout_of bs in elim (eqb_tells n p.driver) [
    | inl w ↦ (let e : holder p n ≡ bs.seats = ap (λ b. cond b bs.seats (p.seat_of n)) w.0 in omega arith)
    | inr w ↦ (let e : holder p n ≡ slice_index bs.seat_of n = ap (λ b. cond b bs.seats (p.seat_of n)) w.0 in
        elim (leb_tells (suc n) (node_count bs.shape)) [
          | inl k ↦ (let low = seats.each n k.1 w.1 in omega arith)
          | inr k ↦ (let long = seats.all in let past : slice_index bs.seat_of n ≡ 0 = get_or_past bs.seat_of n 0 (omega arith) in omega arith)
        ])
  ]

  pub nodes_most : All (λ o. o ≤ bs.seats) (owners_of (layout_of bs)).nodes
  nodes_most = in_map (λ (x : ShapeNode). seat_with (layout_of bs) x.node) bs.seats (λ x. holder_most ((layout_of bs).index x.node)) bs.shape.nodes

  pub writes_most : All (λ o. o ≤ bs.seats) (owners_of (layout_of bs)).writes
  writes_most = in_map (λ (l : ShapeLink). seat_with (layout_of bs) l.from.node) bs.seats (λ l. holder_most ((layout_of bs).index l.from.node)) bs.shape.links

  pub reads_most : All (λ o. o ≤ bs.seats) (owners_of (layout_of bs)).reads
  reads_most = in_map (λ (l : ShapeLink). seat_with (layout_of bs) l.to.node) bs.seats (λ l. holder_most ((layout_of bs).index l.to.node)) bs.shape.links

  pub blocks_most : All (λ o. o ≤ bs.seats) (owners_of (layout_of bs)).blocks
  blocks_most = in_rows (λ (x : PoolShape). seat_with (layout_of bs) x.port.node) bs.seats
      (λ x. holder_most ((layout_of bs).index x.port.node)) (λ x. x.blocks) (pools_of bs.shape)
