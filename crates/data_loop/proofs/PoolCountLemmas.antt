-- How many pools, blocks and epochs there are.
use Rattle.std.proofs.Common.{ℕ, ◌+◌, ◌*◌, ◌≤◌, Bool, true, false, cond, max, List, [], ◌∷◌, length, get_or, arith}
use Rattle.std.proofs.Common.{le-mul_of_pos_right, sum_by}
use Rattle.std.specs.Prelude.{All, fold}
use Rattle.std.proofs.lemmas.List.{length-map}
use Rattle.std.proofs.lemmas.List.Elements.{All-head, All-tail, All-map, All-filter}
use Rattle.std.proofs.lemmas.List.Sums.{sum_by-cons}
use Rattle.pw_graph.specs.declared.ids.PortId.{PortId}
use Rattle.pw_graph.specs.declared.pools.PoolShape.{PoolShape}
use Rattle.pw_graph.specs.declared.plan.Epoch.{Epoch}
use Rattle.pw_graph.specs.declared.plan.Plan.{Plan}
use Rattle.pw_graph.specs.declared.shape.Shape.{Shape}
use Rattle.pw_graph.specs.declared.shape.ShapeLink.{ShapeLink}
use Rattle.pw_graph.specs.PlanSums.{epoch_events}
use Rattle.pw_graph.specs.Pools.{pools_of, sources_of, pool_of, blocks_of, asked, links_from, is_same_port, IsPooledShape}
use Rattle.pw_graph.specs.SoundPlan.{IsSoundPlan}
use Rattle.pw_graph.proofs.LayoutLemmas.{pools_have_blocks}
use Rattle.board_rule.proofs.buffers.PortLemmas.{few_ports}

most_asked : {X : Type 0} (f : X → ℕ) (m a : ℕ) (xs : List X) → a ≤ m → All (λ x. f x ≤ m) xs → fold (λ top x. max top (f x)) a xs ≤ m
most_asked f m a [] low each = low
most_asked f m a (x ∷ xs) low each = let h : f x ≤ m = All-head (λ y. f y ≤ m) x xs each in
    most_asked f m (max a (f x)) xs (omega (arith, low, h)) (All-tail (λ y. f y ≤ m) x xs each)

asked_few : (late : Bool) (n : ℕ) → n ≤ 8 → cond late (max 2 n) n ≤ 8
asked_few true n h = omega (arith, h)
asked_few false n h = h

module _ (shape : Shape) (pooled : IsPooledShape shape) where
  few_blocks : (port : PortId) → blocks_of shape port ≤ 8
  few_blocks port = most_asked asked 8 0 (links_from shape port) (omega arith)
      (All-filter (λ l. is_same_port l.from port) (λ l. asked l ≤ 8) shape.links
      (λ k d low. let l : ShapeLink = get_or shape.links k d in asked_few l.delayed l.buffers (pooled.sound.links.each k d low).buffers.1))

  -- each pool has 1 to 8 blocks
  pub pools_fit : All (λ x. (1 ≤ x.blocks) × (x.blocks ≤ 8)) (pools_of shape)
  pools_fit k d low = (
    pools_have_blocks shape pooled.sound.links.each k d low,
    All-map (λ (x : PoolShape). x.blocks ≤ 8) (pool_of shape) (sources_of shape) (λ j e lt. few_blocks (get_or (sources_of shape) j e)) k d low,
  )

  pub few_ends : (length shape.links ≤ 256) × (length (pools_of shape) ≤ 256)
  few_ends = let links = pooled.sound.links.few in let ports = few_ports [] shape.links in
      let pools = length-map (sources_of shape) (pool_of shape) in (links, omega (arith, links, ports, pools))

-- each epoch has an event, so there are no more epochs than events
fewer : (es : List Epoch) → All (λ e. 1 ≤ e.shape.cycles) es → length es ≤ sum_by epoch_events es
fewer [] some = omega arith
fewer (e ∷ es) some =
    let here : 1 ≤ e.shape.cycles = All-head (λ (x : Epoch). 1 ≤ x.shape.cycles) e es some in
    let events : e.shape.cycles ≤ e.shape.cycles * (2 * length e.shape.nodes + 3) = le-mul_of_pos_right e.shape.cycles (omega arith) in
    let sum = sum_by-cons epoch_events e es in
    let rest = fewer es (All-tail (λ (x : Epoch). 1 ≤ x.shape.cycles) e es some) in
    omega (arith, here, events, sum, rest)

pub few_epochs : (plan : Plan) → IsSoundPlan plan → length plan.epochs ≤ 4194304
few_epochs plan sound = let less = fewer plan.epochs (λ k d low. (sound.epochs k d low).shape.sound.cycles.some) in
    let events = sound.events in omega (arith, less, events)
