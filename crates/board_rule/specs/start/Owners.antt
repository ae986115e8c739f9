-- Whose each node, link and block is, and what a seat keeps of a list: only its own entries, in
-- their order.
-- Source: this project's own.
use Rattle.std.specs.Prelude.{◌≡◌, ℕ, ◌<◌, cond, eqb, List, map, take, zip, filter, length, replicate, count_by, slice_index}
use Rattle.std.specs.List.{flat_map}
use Rattle.pw_graph.specs.Pools.{pools_of}
use Rattle.board_rule.specs.declared.view.Owners.{Owners}
use Rattle.board_rule.specs.Layout.{BoardLayout}

-- of a list whose entries have the owners `os`, those of the seat k
abbrev pub own : {A : Type 0} → ℕ → List ℕ → List A → List A
own k os xs = map (λ t. t.1) (filter (λ t. eqb t.0 k) (zip os xs))

-- how many of the first i entries are the seat's
abbrev pub own_before : ℕ → List ℕ → ℕ → ℕ
own_before k os i = count_by (λ o. eqb o k) (take i os)

-- where the owner of the entry i has it among its own
abbrev pub slot_in : List ℕ → ℕ → ℕ
slot_in os i = own_before (slice_index os i) os i

-- the slot of each entry
pub record AreSlots (os slots : List ℕ) : Type 0 where
  pub count : length slots ≡ length os
  pub each : (i : ℕ) → i < length os → slice_index slots i ≡ slot_in os i

module _ (p : BoardLayout) where
  -- the number of the seat that has the index n, and of the one that has a node
  abbrev pub holder : ℕ → ℕ
  holder n = cond (eqb n p.driver) p.seats (p.seat_of n)

  abbrev pub seat_with : ℕ → ℕ
  seat_with node = holder (p.index node)

  -- the seats of all nodes, of the writers and the readers of all links, and of all blocks as a
  -- view has them
  abbrev pub owners_of : Owners
  owners_of = record {
    nodes = map (λ n. seat_with n.node) p.shape.nodes;
    writes = map (λ l. seat_with l.from.node) p.shape.links;
    reads = map (λ l. seat_with l.to.node) p.shape.links;
    blocks = flat_map (λ x. replicate x.blocks (seat_with x.port.node)) (pools_of p.shape);
  }
