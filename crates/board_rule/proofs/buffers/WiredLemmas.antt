-- What the laws of buffers use of a pooled shape: the ends of links, pools and their links, and indexes of words.
use Rattle.std.proofs.Common.{◌≡◌, ◌≢◌, ℕ, ◌+◌, ◌*◌, ◌<◌, ◌≤◌, ◌==◌, ◌&&◌, ◌||◌, Bool, true, false, true≢false, cond}
use Rattle.std.proofs.Common.{not, [], get_or, ◌⊎◌, refl, sym, ap, ◌∙◌, subst, arith, eq-eqb}
use Rattle.std.specs.Prelude.{Contains, Any, Some, None, slice_get, option_map, unwrap_or}
use Rattle.std.proofs.lemmas.Option.{get_or_from_slice_get, slice_get-get_or, slice_get-map, slice_get_within}
use Rattle.std.proofs.lemmas.List.Elements.{All-contains, All-contains_itself, All-filter, filter_passes}
use Rattle.std.proofs.lemmas.List.Folds.{Any-from_list_any, list_any_at}
use Rattle.pw_graph.specs.declared.ids.PortId.{PortId}
use Rattle.pw_graph.specs.declared.shape.Shape.{Shape}
use Rattle.pw_graph.specs.declared.shape.ShapeLink.{ShapeLink}
use Rattle.pw_graph.specs.declared.pools.PoolShape.{PoolShape}
use Rattle.pw_graph.specs.Dependencies.{joins, are_linked, waits}
use Rattle.pw_graph.specs.SoundShape.{IsSoundLink}
use Rattle.pw_graph.specs.Pools.{is_same_port, links_from, sources_of, link_ids_from, pool_of, pools_of, IsPooledShape}
use Rattle.pw_graph.specs.Layout.{event_count, io_place, late_place, event_place, readers_place, word_count}
use Rattle.board_rule.specs.Sums.{times}
use Rattle.board_rule.specs.Layout.{BoardLayout, IsSound, nodes}
use Rattle.board_rule.specs.buffers.Areas.{delay_by}
use Rattle.board_rule.specs.buffers.BlockReadings.{delay_at, busy_cycles}
use Rattle.pw_graph.proofs.PoolLemmas.{port_same, same_port}
use Rattle.pw_graph.proofs.PrecedenceLemmas.{holds_at}
use Rattle.std.specs.List.{list_any}
use Rattle.board_rule.proofs.buffers.PortLemmas.{Differ, differ_at, differ_ports, has_port, all_ports, id_from, has_id, differ_ids}
use Rattle.board_rule.proofs.IndexLemmas as indexes

-- a pool is late by one cycle at least
pub busy_cycles_some : (p : BoardLayout) (x : PoolShape) → 0 < busy_cycles p x
busy_cycles_some p x = by (list_any (λ k. k.delayed) (links_from p.shape x.port))
  where
    by : (b : Bool) → 0 < cond {A = ℕ} b 2 1
    by true = omega arith
    by false = omega arith

module _ (p : BoardLayout) where
  -- the link and the pool of a number
  abbrev pub LinkAt : ℕ → ShapeLink → Type 0
  LinkAt l k = slice_get p.shape.links l ≡ Some k

  abbrev pub PoolAt : ℕ → PoolShape → Type 0
  PoolAt q x = slice_get (pools_of p.shape) q ≡ Some x

  pub record Wired : Type 0 where
    pub from_in : (l : ℕ) (k : ShapeLink) → LinkAt l k → p.index k.from.node < nodes p
    pub from_follows : (l : ℕ) (k : ShapeLink) → LinkAt l k → p.index k.from.node ≢ p.driver
    pub to_in : (l : ℕ) (k : ShapeLink) → LinkAt l k → p.index k.to.node < nodes p
    pub depends : (l : ℕ) (k : ShapeLink) → LinkAt l k → k.delayed ≡ false → 0 < times (p.index k.to.node) (p.targets (p.index k.from.node))
    pub there : (q l : ℕ) (x : PoolShape) → PoolAt q x → Contains x.links l → (k : ShapeLink) × LinkAt l k × (k.from ≡ x.port)
    pub linked : (q : ℕ) (x : PoolShape) → PoolAt q x → (l : ℕ) × Contains x.links l
    pub pool : (l : ℕ) (k : ShapeLink) → LinkAt l k → (q : ℕ) × (x : PoolShape) × PoolAt q x × Contains x.links l
    pub one_pool : (q r l : ℕ) (x y : PoolShape) → PoolAt q x → PoolAt r y → Contains x.links l → Contains y.links l → q ≡ r
    pub once : (q : ℕ) (x : PoolShape) → PoolAt q x → Differ x.links
    pub driver_in : p.driver < nodes p
    pub tells_driver : (n : ℕ) → n < nodes p → 0 < times p.driver (p.targets n)
    pub delay_in : (q l : ℕ) (x : PoolShape) → PoolAt q x → Contains x.links l → delay_at p l < busy_cycles p x
    pub io_in : (l a : ℕ) (k : ShapeLink) → LinkAt l k → a ≤ delay_by k
        → (2 * nodes p < io_place p.shape l a) × (io_place p.shape l a < late_place p.shape 0)
    pub io_apart : (l m a b : ℕ) (k j : ShapeLink) → LinkAt l k → LinkAt m j → a ≤ delay_by k → b ≤ delay_by j → l ≢ m
        → io_place p.shape l a ≢ io_place p.shape m b
    pub readers_in : (q b : ℕ) (x : PoolShape) → PoolAt q x → b < x.blocks
        → (event_place p.shape (event_count p.shape) ≤ readers_place p.shape q b)
        × (readers_place p.shape q b + x.words < word_count p.shape)
    pub apart : (q r b d : ℕ) (x y : PoolShape) → PoolAt q x → PoolAt r y → b < x.blocks → d < y.blocks → ((q ≡ r) × (b ≡ d) → ⊥)
        → (readers_place p.shape q b + x.words < readers_place p.shape r d)
        ⊎ (readers_place p.shape r d + y.words < readers_place p.shape q b)

  -- so the node of a pool's port is there, and is no driver
  pub made : Wired → (q : ℕ) (x : PoolShape) → PoolAt q x → (p.index x.port.node < nodes p) × (p.index x.port.node ≢ p.driver)
  made w q x at = let l = w.linked q x at in let k = w.there q l.0 x at l.1 in
      subst (λ (z : PortId). (p.index z.node < nodes p) × (p.index z.node ≢ p.driver)) k.2
      (w.from_in l.0 k.0 k.1, w.from_follows l.0 k.0 k.1)

  -- the link of a number is late by so much
  pub late_is : (l : ℕ) (k : ShapeLink) → LinkAt l k → delay_at p l ≡ delay_by k
  late_is l k at = ap (λ o. unwrap_or (option_map delay_by o) 0) at

-- a pool and its port
pub pool_source : (shape : Shape) (q : ℕ) (x : PoolShape) → slice_get (pools_of shape) q ≡ Some x → (port : PortId)
    × (slice_get (sources_of shape) q ≡ Some port) × (x ≡ pool_of shape port)
pool_source shape q x at = by (slice_get (sources_of shape) q) refl (sym (slice_get-map (pool_of shape) (sources_of shape) q) ∙ at)
  where
    by : (o : _) → slice_get (sources_of shape) q ≡ o → option_map (pool_of shape) o ≡ Some x → (port : PortId)
        × (slice_get (sources_of shape) q ≡ Some port) × (x ≡ pool_of shape port)
    by None e f = absurd (cc)
    by (Some port) e f = (port, e, cc)

not_false : (b : Bool) → b ≡ false → not b ≡ true
not_false true e = absurd (true≢false e)
not_false false e = refl

both_true : (a b c : Bool) → a ≡ true → b ≡ true → c ≡ true → (a && (b && c)) ≡ true
both_true true true c e f g = g
both_true true false c e f g = absurd (true≢false (sym f))
both_true false b c e f g = absurd (true≢false (sym e))

third_true : (a b c : Bool) → c ≡ true → (a || (b || c)) ≡ true
third_true true b c e = refl
third_true false true c e = refl
third_true false false c e = e

pub wired : (p : BoardLayout) → IsSound p → IsPooledShape p.shape → Wired p
wired p sound pooled = record {
  from_in = λ l k at. sound.named k.from.node (each l k at).from_active;
  from_follows = λ l k at e. (each l k at).from_follower
      (sym (sound.known k.from.node (sound.named k.from.node (each l k at).from_active)) ∙ ap p.number e ∙ sound.names_driver);
  to_in = λ l k at. sound.named k.to.node (each l k at).to_active;
  depends = λ l k at plain. let from = sound.named k.from.node (each l k at).from_active in
      let to = sound.named k.to.node (each l k at).to_active in
      sound.follows (p.index k.from.node) (p.index k.to.node) from to record {
        depends = record {
          from_active = subst (Contains _) (sym (sound.known k.from.node from)) (each l k at).from_active;
          to_active = subst (Contains _) (sym (sound.known k.to.node to)) (each l k at).to_active;
          waits = (λ i. waits p.shape (sound.known k.to.node to i) (sound.known k.from.node from i)) ∙ waits_for l k at plain;
        };
        follower = λ e. (each l k at).from_follower (sym (sound.known k.from.node from) ∙ e);
      };
  there = from_port;
  linked = has_link;
  pool = has_pool;
  one_pool = λ q r l x y at to c d. let a = pool_source p.shape q x at in let b = pool_source p.shape r y to in
      let f = from_port q l x at c in let g = from_port r l y to d in
      let same : f.0 ≡ g.0 = cc in
      let port : x.port ≡ y.port = sym f.2 ∙ ap (λ (k : ShapeLink). k.from) same ∙ g.2 in
      differ_at (sources_of p.shape) a.0 q r (differ_ports [] p.shape.links _) (slice_get_within (sources_of p.shape) q a.0 a.1)
      (slice_get_within (sources_of p.shape) r b.0 b.1)
      (get_or_from_slice_get (sources_of p.shape) q a.0 a.0 a.1 ∙ sym (ap (λ (z : PoolShape). z.port) a.2) ∙ port
      ∙ ap (λ (z : PoolShape). z.port) b.2 ∙ sym (get_or_from_slice_get (sources_of p.shape) r b.0 a.0 b.1));
  once = λ q x at. let a = pool_source p.shape q x at in subst (λ (z : PoolShape). Differ z.links) (sym a.2) (differ_ids p.shape.links a.0);
  driver_in = sound.driver_in;
  tells_driver = λ n h. sound.tells_driver n 0 h (sound.tells n h);
  delay_in = delay_below;
  io_in = λ l a k at h. let e = delay_here l k k at in indexes.io_in p.shape l a k (slice_get_within p.shape.links l k at) (omega arith);
  io_apart = λ l m a b k j at to ha hb o. let e = delay_here l k k at in let f = delay_here m j k to in
      indexes.io_apart p.shape l m a b k (slice_get_within p.shape.links l k at) (slice_get_within p.shape.links m j to) (omega arith)
      (omega arith) o;
  readers_in = indexes.readers_in p.shape;
  apart = indexes.blocks_apart p.shape;
}
  where
    each : (l : ℕ) (k : ShapeLink) → LinkAt p l k → IsSoundLink p.shape k
    each l k at = subst (IsSoundLink p.shape) (get_or_from_slice_get p.shape.links l k k at)
        (pooled.sound.links.each l k (slice_get_within p.shape.links l k at))

    delay_here : (l : ℕ) (k d : ShapeLink) → LinkAt p l k → delay_by (get_or p.shape.links l d) ≡ delay_by k
    delay_here l k d at = ap delay_by (get_or_from_slice_get p.shape.links l k d at)

    waits_for : (l : ℕ) (k : ShapeLink) → LinkAt p l k → k.delayed ≡ false → waits p.shape k.to.node k.from.node ≡ true
    waits_for l k at plain = third_true (k.from.node == p.shape.driver) (k.to.node == p.shape.driver) (are_linked p.shape k.from.node k.to.node)
        (list_any_at (joins k.from.node k.to.node) p.shape.links l k (slice_get_within p.shape.links l k at)
        (ap (joins k.from.node k.to.node) (get_or_from_slice_get p.shape.links l k k at)
        ∙ both_true (not k.delayed) (k.from.node == k.from.node) (k.to.node == k.to.node) (not_false k.delayed plain)
        (eq-eqb k.from.node k.from.node refl) (eq-eqb k.to.node k.to.node refl)))

    from_port : (q l : ℕ) (x : PoolShape) → PoolAt p q x → Contains x.links l → (k : ShapeLink) × LinkAt p l k × (k.from ≡ x.port)
    from_port q l x at c = let a = pool_source p.shape q x at in let d = first_link in
        let h = id_from p.shape.links a.0 l d (subst (λ (z : PoolShape). Contains z.links l) a.2 c) in
        (get_or p.shape.links l d, slice_get-get_or p.shape.links l d h.0, h.1 ∙ sym (ap (λ (z : PoolShape). z.port) a.2))
      where
        first_link : ShapeLink
        first_link = record { from = x.port; to = x.port; channels = 0; buffers = 0; delayed = false }

    -- a delayed link makes its pool late
    delay_below : (q l : ℕ) (x : PoolShape) → PoolAt p q x → Contains x.links l → delay_at p l < busy_cycles p x
    delay_below q l x at c = by k.0.delayed refl
      where
        k : (k : ShapeLink) × LinkAt p l k × (k.from ≡ x.port)
        k = from_port q l x at c

        here : get_or p.shape.links l k.0 ≡ k.0
        here = get_or_from_slice_get p.shape.links l k.0 k.0 k.1

        in_pool : Contains (links_from p.shape x.port) k.0
        in_pool = holds_at (λ j. is_same_port j.from x.port) p.shape.links k.0 l (port_same k.0.from x.port k.2)
            (slice_get_within p.shape.links l k.0 k.1) here

        by : (b : Bool) → k.0.delayed ≡ b → delay_at p l < busy_cycles p x
        by true e = let some : list_any (λ (j : ShapeLink). j.delayed) (links_from p.shape x.port) ≡ true =
            list_any_at (λ (j : ShapeLink). j.delayed) (links_from p.shape x.port) in_pool.0 k.0 in_pool.1
            (ap (λ (j : ShapeLink). j.delayed) in_pool.2 ∙ e) in
            let two : busy_cycles p x ≡ 2 = ap (λ b. cond {A = ℕ} b 2 1) some in
            let a : delay_at p l ≡ delay_by k.0 = ap (λ o. unwrap_or (option_map delay_by o) 0) k.1 in
            let one : delay_by k.0 ≡ 1 = ap (λ b. cond {A = ℕ} b 1 0) e in omega arith
        by false e = let a : delay_at p l ≡ delay_by k.0 = ap (λ o. unwrap_or (option_map delay_by o) 0) k.1 in
            let none : delay_by k.0 ≡ 0 = ap (λ b. cond {A = ℕ} b 1 0) e in
            let some = busy_cycles_some p x in omega arith

    has_link : (q : ℕ) (x : PoolShape) → PoolAt p q x → (l : ℕ) × Contains x.links l
    has_link q x at = let a = pool_source p.shape q x at in
        let h = all_ports (λ port. (l : ℕ) × Contains (link_ids_from p.shape.links port) l) [] p.shape.links
        (λ k d lt. absurd (omega arith)) (λ k d lt. (k, has_id p.shape.links (get_or p.shape.links k d).from k d lt refl)) q a.0
        (slice_get_within (sources_of p.shape) q a.0 a.1) in (
          h.0,
          subst (λ (z : PoolShape). Contains z.links h.0) (sym a.2)
              (subst (λ port. Contains (link_ids_from p.shape.links port) h.0)
              (get_or_from_slice_get (sources_of p.shape) q a.0 a.0 a.1) h.1),
        )

    has_pool : (l : ℕ) (k : ShapeLink) → LinkAt p l k → (q : ℕ) × (x : PoolShape) × PoolAt p q x × Contains x.links l
    has_pool l k at = let lt = slice_get_within p.shape.links l k at in let here = get_or_from_slice_get p.shape.links l k k at in
        let c = subst (Contains (sources_of p.shape)) (ap (λ (j : ShapeLink). j.from) here) (has_port [] p.shape.links l k lt) in
        let e : slice_get (sources_of p.shape) c.0 ≡ Some k.from = slice_get-get_or (sources_of p.shape) c.0 k.from c.1
        ∙ ap (λ (z : PortId). Some z) c.2 in (
          c.0,
          pool_of p.shape k.from,
          slice_get-map (pool_of p.shape) (sources_of p.shape) c.0 ∙ ap (option_map (pool_of p.shape)) e,
          has_id p.shape.links k.from l k lt (ap (λ (j : ShapeLink). j.from) here),
        )

is_two : (b : Bool) → 1 < cond {A = ℕ} b 2 1 → b ≡ true
is_two true h = refl
is_two false h = absurd (omega arith)

-- a pool that is late has a delayed link
pub delayed_link : (p : BoardLayout) (q : ℕ) (x : PoolShape) → PoolAt p q x → 1 < busy_cycles p x → (l : ℕ) × Contains x.links l × (delay_at p l ≡ 1)
delayed_link p q x at two = (l, subst (λ (z : PoolShape). Contains z.links l) (sym source.2) has, late)
  where
    delayed : Any (λ (k : ShapeLink). k.delayed ≡ true) (links_from p.shape x.port)
    delayed = Any-from_list_any (λ (k : ShapeLink). k.delayed) (links_from p.shape x.port)
        (is_two (list_any (λ (k : ShapeLink). k.delayed) (links_from p.shape x.port)) two)

    k : ShapeLink
    k = delayed.1

    from_port : Contains (links_from p.shape x.port) k
    from_port = (delayed.0, delayed.2, delayed.3)

    in_shape : Contains p.shape.links k
    in_shape = All-contains (Contains p.shape.links) (links_from p.shape x.port) k
        (All-filter (λ (j : ShapeLink). is_same_port j.from x.port) (Contains p.shape.links) p.shape.links (All-contains_itself p.shape.links)) from_port

    of_port : k.from ≡ x.port
    of_port = same_port k.from x.port (All-contains (λ (j : ShapeLink). is_same_port j.from x.port ≡ true) (links_from p.shape x.port) k
        (filter_passes (λ (j : ShapeLink). is_same_port j.from x.port) p.shape.links) from_port)

    l : ℕ
    l = in_shape.0

    source : (port : PortId) × (slice_get (sources_of p.shape) q ≡ Some port) × (x ≡ pool_of p.shape port)
    source = pool_source p.shape q x at

    has : Contains (link_ids_from p.shape.links source.0) l
    has = has_id p.shape.links source.0 l k in_shape.1
        (ap (λ (j : ShapeLink). j.from) in_shape.2 ∙ of_port ∙ ap (λ (z : PoolShape). z.port) source.2)

    late : delay_at p l ≡ 1
    late = late_is p l k (slice_get-get_or p.shape.links l k in_shape.1 ∙ ap (λ (j : ShapeLink). Some j) in_shape.2)
        ∙ ap (λ b. cond {A = ℕ} b 1 0) delayed.4
