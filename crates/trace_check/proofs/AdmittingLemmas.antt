-- Laws of `specs/working/Admitting.antt`: the sets say which event may come next, and follow it.
use Rattle.std.proofs.Common.{◌≡◌, ℕ, ◌<◌, ◌≤◌, ◌==◌, ◌||◌, ◌↔◌, inl, inr, Bool, true, false, List, [], ◌∷◌, ◌++◌, IsTrue}
use Rattle.std.proofs.Common.{refl, sym, ◌∙◌, subst, arith}
use Rattle.std.specs.Prelude.{Contains, IsBitSet}
use Rattle.std.proofs.lemmas.Bool.{true≢false, false_from_ne_true}
use Rattle.std.proofs.lemmas.Bool.Decides.{Decides-eqb}
use Rattle.std.proofs.lemmas.List.Elements.{All-map, All-contains, Contains-append_left, Contains-push, Contains-push_cases}
use Rattle.pw_graph.specs.declared.event.Event.{Event}
use Rattle.pw_graph.specs.declared.event.Event.TheVariants.{Begin, Start, Finish, Tick, End}
use Rattle.pw_graph.specs.declared.shape.Shape.{Shape}
use Rattle.pw_graph.specs.Dependencies.{nodes_of, are_linked, Precedes}
use Rattle.pw_graph.specs.SoundShape.{IsSoundShape}
use Rattle.trace_check.specs.declared.order.Order.{Order}
use Rattle.trace_check.specs.declared.so_far.SoFar.{SoFar}
use Rattle.trace_check.specs.working.NodeSets.{IsWithin, Gains}
use Rattle.trace_check.specs.working.NextEvent.{MayFollow, AreAllowed, HaveFinished}
use Rattle.trace_check.specs.working.Admitting.{IsSetOf, IsOrderOf, StandsFor, Admits, Becomes, HasSmallNode}
use Rattle.trace_check.proofs.NodeSetsLemmas.{none_set}
use Rattle.trace_check.proofs.NextEventLemmas.{started_active}

-- the numbers of active nodes are small
pub small_node : (shape : Shape) → IsSoundShape shape → (n : ℕ) → Contains (nodes_of shape) n → n < 64
small_node shape sound n c =
    let le : n ≤ 63 = All-contains (λ k. k ≤ 63) (nodes_of shape) n (All-map (λ k. k ≤ 63) (λ m. m.node) shape.nodes sound.nodes.numbers) c in
    omega arith

waits_as_driver : (a b c : Bool) → b ≡ true → (a || (b || c)) ≡ true
waits_as_driver true b c e = refl
waits_as_driver false true c e = refl
waits_as_driver false false c e = absurd (true≢false (sym e))

-- each follower precedes the driver
pub precedes_driver : (shape : Shape) → IsSoundShape shape → (m : ℕ) → Contains (nodes_of shape) m → ¬ (m ≡ shape.driver) → Precedes shape m shape.driver
precedes_driver shape sound m c ne = record {
  depends = record {
    from_active = c;
    to_active = sound.nodes.driver;
    waits = waits_as_driver (m == shape.driver) (shape.driver == shape.driver) (are_linked shape m shape.driver) ((Decides-eqb shape.driver shape.driver).1 refl);
  };
  follower = ne;
}

pub nothing : (cycle : ℕ) (so_far : SoFar) → so_far.started ≡ 0 → so_far.finished ≡ 0 → so_far.ticked ≡ false → StandsFor cycle [] so_far
nothing cycle so_far s f t = record {
  started = λ n lt. (λ b. absurd (none_set n (subst (λ x. IsBitSet x n) s b)), λ c. let z : c.0 < 0 = c.1 in absurd (omega arith));
  finished = λ n lt. (λ b. absurd (none_set n (subst (λ x. IsBitSet x n) f b)), λ c. let z : c.0 < 0 = c.1 in absurd (omega arith));
  ticked = (λ u. absurd (true≢false (sym u ∙ t)), λ c. let z : c.2.0 < 0 = c.2.1 in absurd (omega arith));
}

module _ (shape : Shape) (cycle : ℕ) (sound : IsSoundShape shape) (order : Order) (o : IsOrderOf shape order)
    (front : List Event) (all : AreAllowed shape cycle front) (so_far : SoFar) (s : StandsFor cycle front so_far) where
  driver_small : shape.driver < 64
  driver_small = small_node shape sound shape.driver sound.nodes.driver

  pub admitted_follows : (e : Event) → Admits order shape.driver cycle so_far e → MayFollow shape cycle front e
  admitted_follows (Begin c) h = absurd h
  admitted_follows (Start c n) h = (
    h.0,
    (o.active n h.1).0 h.2,
    λ f. h.3 ((s.started n h.1).1 f),
    λ m p. let small : m < 64 = small_node shape sound m p.depends.from_active in
        (s.finished m small).0 (h.4 m small ((o.before n h.1 m small).1 p)),
  )
  admitted_follows (Finish c n) h = (h.0, (s.started n h.1).0 h.2, λ f. h.3 ((s.finished n h.1).1 f))
  admitted_follows (Tick c late) h = (
    h.0,
    λ j set f. true≢false (sym (s.ticked.1 (j, set, f)) ∙ h.1),
    λ f. h.2 ((s.started shape.driver driver_small).1 f),
    λ n small b. let p : Precedes shape n shape.driver = (o.before shape.driver driver_small n small).0 (h.3 n small b) in
        (p.depends.from_active, p.follower, λ f. h.4 n small b ((s.finished n small).1 f)),
  )
  admitted_follows (End c) h = absurd h

  pub following_is_admitted : (e : Event) → MayFollow shape cycle front e → Admits order shape.driver cycle so_far e
  following_is_admitted (Begin c) h = absurd h
  following_is_admitted (Start c n) h =
      let small : n < 64 = small_node shape sound n h.1 in (
        h.0,
        small,
        (o.active n small).1 h.1,
        λ b. h.2 ((s.started n small).0 b),
        λ m lt b. (s.finished m lt).1 (h.3 m ((o.before n small m lt).0 b)),
      )
  following_is_admitted (Finish c n) h =
      let small : n < 64 = small_node shape sound n (started_active shape cycle front n all h.1) in
      (h.0, small, (s.started n small).1 h.1, λ b. h.2 ((s.finished n small).0 b))
  following_is_admitted (Tick c late) h = (
    h.0,
    false_from_ne_true so_far.ticked (λ t. let x = s.ticked.0 t in h.1 x.0 x.1 x.2),
    λ b. h.2 ((s.started shape.driver driver_small).0 b),
    λ n small b. let u = h.3 n small b in (o.before shape.driver driver_small n small).1 (precedes_driver shape sound n u.0 u.1),
    λ n small b f. (h.3 n small b).2 ((s.finished n small).0 f),
  )
  following_is_admitted (End c) h = absurd h

  pub follows_small : (e : Event) → MayFollow shape cycle front e → HasSmallNode e
  follows_small (Begin c) h = tt
  follows_small (Start c n) h = small_node shape sound n h.1
  follows_small (Finish c n) h = small_node shape sound n (started_active shape cycle front n all h.1)
  follows_small (Tick c late) h = tt
  follows_small (End c) h = tt

  -- an event of another kind adds nothing to a set
  same_set : (set new : ℕ) (e : Event) (of : ℕ → Event) → new ≡ set → ((n : ℕ) → ¬ (e ≡ of n)) → IsSetOf set (λ n. Contains front (of n))
      → IsSetOf new (λ n. Contains (front ++ e ∷ []) (of n))
  same_set set new e of is other old n lt = (
    λ b. Contains-append_left front (e ∷ []) (of n) ((old n lt).0 (subst (λ x. IsBitSet x n) is b)),
    λ c. subst (λ x. IsBitSet x n) (sym is) ((old n lt).1 (elim (Contains-push_cases front e (of n) c) [ inl f ↦ f | inr z ↦ absurd (other n z) ])),
  )

  -- one of this kind adds its node
  more_set : (set new node : ℕ) (of : ℕ → Event) → Gains set node new → ((m n : ℕ) → of m ≡ of n → n ≡ m) → IsSetOf set (λ n. Contains front (of n))
      → IsSetOf new (λ n. Contains (front ++ of node ∷ []) (of n))
  more_set set new node of gains apart old n lt = (
    λ b. elim ((gains n lt).0 b) [
      | inl f ↦ Contains-append_left front (of node ∷ []) (of n) ((old n lt).0 f)
      | inr e ↦ subst (λ k. Contains (front ++ of node ∷ []) (of k)) (sym e) (Contains-push front (of node))
    ],
    λ c. (gains n lt).1 (elim (Contains-push_cases front (of node) (of n) c) [ inl f ↦ inl ((old n lt).1 f) | inr e ↦ inr (apart node n e) ]),
  )

  same_ticked : (new : Bool) (e : Event) → new ≡ so_far.ticked → ((j set : ℕ) → ¬ (e ≡ Tick j set))
      → IsTrue new ↔ ((j : ℕ) × (set : ℕ) × Contains (front ++ e ∷ []) (Tick j set))
  same_ticked new e is other = (
    λ t. let x = s.ticked.0 (sym is ∙ t) in (x.0, x.1, Contains-append_left front (e ∷ []) (Tick x.0 x.1) x.2),
    λ c. is ∙ s.ticked.1 (c.0, c.1, elim (Contains-push_cases front e (Tick c.0 c.1) c.2) [ inl f ↦ f | inr z ↦ absurd (other c.0 c.1 z) ]),
  )

  -- AFTER ONE EVENT MORE the sets stand for what has happened
  pub stands_more : (e : Event) (new : SoFar) → MayFollow shape cycle front e → Becomes so_far e new → StandsFor cycle (front ++ e ∷ []) new
  stands_more (Begin c) new h b = absurd h
  stands_more (Start c n) new h b = subst (λ j. StandsFor cycle (front ++ Start j n ∷ []) new) (sym h.0) (record {
    started = more_set so_far.started new.started n (Start cycle) b.0 (λ m k e. cc) s.started;
    finished = same_set so_far.finished new.finished (Start cycle n) (Finish cycle) b.1 (λ k e. cc) s.finished;
    ticked = same_ticked new.ticked (Start cycle n) b.2 (λ j set e. cc);
  })
  stands_more (Finish c n) new h b = subst (λ j. StandsFor cycle (front ++ Finish j n ∷ []) new) (sym h.0) (record {
    started = same_set so_far.started new.started (Finish cycle n) (Start cycle) b.0 (λ k e. cc) s.started;
    finished = more_set so_far.finished new.finished n (Finish cycle) b.1 (λ m k e. cc) s.finished;
    ticked = same_ticked new.ticked (Finish cycle n) b.2 (λ j set e. cc);
  })
  stands_more (Tick c late) new h b = record {
    started = same_set so_far.started new.started (Tick c late) (Start cycle) b.0 (λ k e. cc) s.started;
    finished = same_set so_far.finished new.finished (Tick c late) (Finish cycle) b.1 (λ k e. cc) s.finished;
    ticked = (λ t. (c, late, Contains-push front (Tick c late)), λ x. b.2);
  }
  stands_more (End c) new h b = absurd h

  -- all active nodes are in the set of those that have finished where all have finished
  pub within_finished : IsWithin order.active so_far.finished → HaveFinished shape cycle front
  within_finished w n c = let small : n < 64 = small_node shape sound n c in (s.finished n small).0 (w n small ((o.active n small).1 c))

  pub finished_within : HaveFinished shape cycle front → IsWithin order.active so_far.finished
  finished_within h n lt b = (s.finished n lt).1 (h n ((o.active n lt).0 b))
