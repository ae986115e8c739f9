-- Laws of `specs/Slots.antt`: a seat's own node, links and blocks sit at their slots.
use Rattle.std.proofs.Common.{◌≡◌, ℕ, ◌+◌, ◌<◌, ◌≤◌, Bool, true, false, List, [], take, length, cond, slice_index, sym, ap, ◌∙◌, subst, arith, eq-eqb, ne_eqb, eqb}
use Rattle.std.specs.Prelude.{sum_by, slice_index_or}
use Rattle.std.proofs.lemmas.List.{length-map, get_or-map, length-take}
use Rattle.std.proofs.lemmas.List.Sums.{count_by-le-length}
use Rattle.pw_graph.specs.declared.shape.ShapeNode.{ShapeNode}
use Rattle.pw_graph.specs.declared.pools.PoolShape.{PoolShape}
use Rattle.pw_graph.specs.Pools.{pools_of}
use Rattle.board_rule.specs.declared.view.View.{View}
use Rattle.board_rule.specs.Layout.{BoardLayout, IsSound}
use Rattle.board_rule.specs.start.Owners.{own_before, slot_in, holder, seat_with, owners_of}
use Rattle.board_rule.specs.buffers.Spans.{block_at}
use Rattle.board_rule.specs.activation.SeatNodes.{Has, Owns}
use Rattle.board_rule.specs.buffers.EndViews.{no_link, no_pool, pool_at, writer_of, reader_of, filler_of}
use Rattle.board_rule.proofs.start.OwnerLemmas.{SitsAt, own_run, row_inside, row_owner}

no_node : ShapeNode
no_node = record { node = 0; required = 0; targets = [] }

-- a slot is not after its entry
pub slot_low : (os : List ℕ) (i : ℕ) → slot_in os i ≤ i
slot_low os i = let c = count_by-le-length (λ o. eqb o (slice_index os i)) (take i os) in let l = length-take i os in omega arith

sits : (os kept : List ℕ) (k i s : ℕ) → kept ≡ os → i < length os → slice_index os i ≡ k → s ≡ slot_in os i → SitsAt k kept i s
sits os kept k i s same inside owner is = subst (λ ks. SitsAt k ks i s) (sym same)
    record { inside = inside; owner = owner; is = is ∙ ap (λ o. own_before o os i) owner }

module _ (p : BoardLayout) (v : View) where
  -- the seat has the index
  held : (m : ℕ) → Has p v m → holder p m ≡ v.number
  held m h = ap (λ b. cond b p.seats (p.seat_of m)) (ne_eqb m p.driver h.follows) ∙ h.owned

  held_by : (b : Bool) (m : ℕ) → Owns b p v m → holder p m ≡ v.number
  held_by true m h = ap (λ b. cond b p.seats (p.seat_of m)) (eq-eqb m p.driver h.0) ∙ sym h.1
  held_by false m h = held m h

  -- and all seats have the same owners
  owners_by : (b : Bool) (m : ℕ) → Owns b p v m → v.owners ≡ owners_of p
  owners_by true m h = h.2
  owners_by false m h = h.owners

  pub node_sits : (m s : ℕ) → IsSound p → Has p v m → s ≡ slot_in (owners_of p).nodes m → SitsAt v.number v.owners.nodes m s
  node_sits m s sound h is = let l = length-map p.shape.nodes (λ n. seat_with p n.node) in let low = h.inside in
      let name : (slice_index_or p.shape.nodes m no_node).node ≡ p.number m =
      sym (get_or-map (λ n. n.node) p.shape.nodes m no_node 0 low) ∙ sound.names m low in
      sits (owners_of p).nodes v.owners.nodes v.number m s (ap (λ o. o.nodes) h.owners) (omega arith)
      (get_or-map (λ n. seat_with p n.node) p.shape.nodes m no_node 0 low ∙ ap (seat_with p) name ∙ ap (holder p) (sound.at m low) ∙ held m h)
      is

  pub write_sits : (l s : ℕ) → l < length p.shape.links → Has p v (writer_of p l) → s ≡ slot_in (owners_of p).writes l
      → SitsAt v.number v.owners.writes l s
  write_sits l s low h is = let n = length-map p.shape.links (λ k. seat_with p k.from.node) in
      sits (owners_of p).writes v.owners.writes v.number l s (ap (λ o. o.writes) h.owners) (omega arith)
      (get_or-map (λ k. seat_with p k.from.node) p.shape.links l no_link 0 low ∙ held (writer_of p l) h) is

  pub read_sits : (b : Bool) (l s : ℕ) → l < length p.shape.links → Owns b p v (reader_of p l) → s ≡ slot_in (owners_of p).reads l
      → SitsAt v.number v.owners.reads l s
  read_sits b l s low h is = let n = length-map p.shape.links (λ k. seat_with p k.to.node) in
      sits (owners_of p).reads v.owners.reads v.number l s (ap (λ o. o.reads) (owners_by b (reader_of p l) h)) (omega arith)
      (get_or-map (λ k. seat_with p k.to.node) p.shape.links l no_link 0 low ∙ held_by b (reader_of p l) h) is

  pub block_sits : (q b s : ℕ) → q < length (pools_of p.shape) → b < (pool_at p q).blocks → Has p v (filler_of p q)
      → s ≡ slot_in (owners_of p).blocks (block_at p q 0) + b → SitsAt v.number v.owners.blocks (block_at p q b) s
  block_sits q b s low few h is = let n : PoolShape → ℕ = λ x. x.blocks in let f : PoolShape → ℕ = λ x. seat_with p x.port.node in
      let pools = pools_of p.shape in let first = sum_by n (take q pools) in let os = (owners_of p).blocks in
      let mine : (j : ℕ) → j < (pool_at p q).blocks → slice_index os (first + j) ≡ v.number =
      λ j l. row_owner n f pools q j no_pool low l ∙ held (filler_of p q) h in
      let inside = row_inside n f pools q b no_pool low few in
      let row : own_before v.number os (first + 0 + b) ≡ own_before v.number os (first + 0) + b =
      own_run v.number os (first + 0) b (omega arith)
      (λ j l. let e : first + 0 + j ≡ first + j = omega arith in ap (slice_index os) e ∙ mine j (omega arith)) in
      let e : first + 0 + b ≡ first + b = omega arith in
      subst (λ ks. SitsAt v.number ks (block_at p q b) s) (sym (ap (λ o. o.blocks) h.owners)) record {
        inside = inside;
        owner = mine b few;
        is = is ∙ ap (λ o. own_before o os (first + 0) + b) (mine 0 (omega arith)) ∙ sym row ∙ ap (own_before v.number os) e;
      }
