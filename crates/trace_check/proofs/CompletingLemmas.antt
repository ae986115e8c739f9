-- What is allowed in a cycle goes on to a legal cycle: the nodes that are left run in an order that rises.
use Rattle.std.proofs.Common.{◌≡◌, ℕ, zero, suc, ◌<◌, ◌⊎◌, inl, inr, List, [], ◌∷◌, ◌++◌, get_or}
use Rattle.std.proofs.Common.{refl, sym, ap, subst, arith, append_assoc, append-nil}
use Rattle.std.specs.Prelude.{All, Contains, sum_by}
use Rattle.std.proofs.lemmas.Bool.{cases_lt}
use Rattle.std.proofs.lemmas.List.Elements.{All-head, All-tail, All-contains_itself, Contains-append_left, Contains-push, Contains-push_cases}
use Rattle.std.proofs.lemmas.List.Sums.{get_or-le-sum_by}
use Rattle.pw_graph.specs.declared.event.Event.{Event}
use Rattle.pw_graph.specs.declared.event.Event.TheVariants.{Start, Finish}
use Rattle.pw_graph.specs.declared.shape.Shape.{Shape}
use Rattle.pw_graph.specs.Dependencies.{nodes_of, Precedes}
use Rattle.pw_graph.specs.History.{is_start, is_finish, IsLegalInside}
use Rattle.pw_graph.specs.SoundShape.{IsSoundShape}
use Rattle.pw_graph.proofs.PrecedenceLemmas.{sound_order}
use Rattle.trace_check.specs.working.NextEvent.{MayFollow, AreAllowed}
use Rattle.trace_check.proofs.PlaceLemmas.{is_there}
use Rattle.trace_check.proofs.NextEventLemmas.{allowed_more}
use Rattle.trace_check.proofs.AllowedLemmas.{start_told, finish_told, start_is, finish_is, allowed_legal}

module _ (shape : Shape) (cycle : ℕ) where
  -- some events more are allowed, and after them these nodes have finished
  record RunsOn (xs : List Event) (wanted : ℕ → Type 0) : Type 0 where
    more : List Event
    allowed : AreAllowed shape cycle (xs ++ more)
    done : (n : ℕ) → wanted n → Contains (xs ++ more) (Finish cycle n)

  -- nothing is to be done
  stay : (xs : List Event) (wanted : ℕ → Type 0) → AreAllowed shape cycle xs → ((n : ℕ) → wanted n → Contains xs (Finish cycle n)) → RunsOn xs wanted
  stay xs wanted all done = record {
    more = [];
    allowed = subst (AreAllowed shape cycle) (sym (append-nil xs)) all;
    done = λ n w. subst (λ es. Contains es (Finish cycle n)) (sym (append-nil xs)) (done n w);
  }

  -- one after the other
  then : (xs : List Event) (first wanted : ℕ → Type 0) → (a : RunsOn xs first) → (b : RunsOn (xs ++ a.more) wanted) → RunsOn xs (λ n. first n ⊎ wanted n)
  then xs first wanted a b =
      let same : (xs ++ a.more) ++ b.more ≡ xs ++ (a.more ++ b.more) = append_assoc xs a.more b.more in record {
        more = a.more ++ b.more;
        allowed = subst (AreAllowed shape cycle) same b.allowed;
        done = λ n w. subst (λ es. Contains es (Finish cycle n)) same (elim w [
          | inl f ↦ Contains-append_left (xs ++ a.more) b.more (Finish cycle n) (a.done n f)
          | inr g ↦ b.done n g
        ]);
      }

  fewer : (xs : List Event) (wanted less : ℕ → Type 0) → RunsOn xs wanted → ((n : ℕ) → less n → wanted n) → RunsOn xs less
  fewer xs wanted less a h = record { more = a.more; allowed = a.allowed; done = λ n w. a.done n (h n w) }

  one_more : (xs : List Event) (e : Event) (wanted : ℕ → Type 0) → AreAllowed shape cycle xs → MayFollow shape cycle xs e
      → ((n : ℕ) → wanted n → Contains (xs ++ e ∷ []) (Finish cycle n)) → RunsOn xs wanted
  one_more xs e wanted all may done = record { more = e ∷ []; allowed = allowed_more shape cycle xs e all may; done = done }

  -- a node that has started finishes
  finish_started : (xs : List Event) (n : ℕ) → AreAllowed shape cycle xs → Contains xs (Start cycle n) → ¬ Contains xs (Finish cycle n) → RunsOn xs (λ m. n ≡ m)
  finish_started xs n all started none = one_more xs (Finish cycle n) (λ m. n ≡ m) all (refl, started, none)
      (λ m e. subst (λ k. Contains (xs ++ Finish cycle n ∷ []) (Finish cycle k)) e (Contains-push xs (Finish cycle n)))

  -- a node whose predecessors have finished runs
  start_and_finish : (xs : List Event) (n : ℕ) → AreAllowed shape cycle xs → MayFollow shape cycle xs (Start cycle n)
      → ¬ Contains xs (Finish cycle n) → RunsOn xs (λ m. n ≡ m)
  unfolding one_more
  start_and_finish xs n all may none =
      let a : RunsOn xs (λ m. ⊥) = one_more xs (Start cycle n) (λ m. ⊥) all may (λ m w. absurd w) in
      fewer xs (λ m. ⊥ ⊎ (n ≡ m)) (λ m. n ≡ m)
      (then xs (λ m. ⊥) (λ m. n ≡ m) a (finish_started (xs ++ Start cycle n ∷ []) n (allowed_more shape cycle xs (Start cycle n) all may)
      (Contains-push xs (Start cycle n))
      (λ c. elim (Contains-push_cases xs (Start cycle n) (Finish cycle n) c) [ inl old ↦ none old | inr e ↦ (let z : ⊥ = cc in z) ])))
      (λ m e. inr e)

  run_node : (xs : List Event) (n : ℕ) → AreAllowed shape cycle xs → Contains (nodes_of shape) n
      → ((m : ℕ) → Precedes shape m n → Contains xs (Finish cycle m)) → RunsOn xs (λ m. n ≡ m)
  run_node xs n all active ready = elim (is_there (is_finish cycle n) (Finish cycle n) (finish_told cycle n) (finish_is cycle n) xs) [
    | inl done ↦ stay xs (λ m. n ≡ m) all (λ m e. subst (λ k. Contains xs (Finish cycle k)) e done)
    | inr none ↦ elim (is_there (is_start cycle n) (Start cycle n) (start_told cycle n) (start_is cycle n) xs) [
      | inl started ↦ finish_started xs n all started none
      | inr idle ↦ start_and_finish xs n all (refl, active, idle, ready) none
    ]
  ]

  module _ (rank : ℕ → ℕ) (rises : (m n : ℕ) → Precedes shape m n → rank m < rank n) where
    first_or_later : (n m : ℕ) (ns : List ℕ) → Contains (n ∷ ns) m → (n ≡ m) ⊎ Contains ns m
    first_or_later n m ns (zero, lt, e) = inl e
    first_or_later n m ns (suc k, lt, e) = inr (k, omega arith, e)

    -- of these nodes those whose rank is at most k, where all of a lesser rank have finished
    run_list : (k : ℕ) (ns : List ℕ) (xs : List Event) → All (Contains (nodes_of shape)) ns → AreAllowed shape cycle xs
        → ((m : ℕ) → Contains (nodes_of shape) m → rank m < k → Contains xs (Finish cycle m))
        → RunsOn xs (λ n. Contains ns n × (rank n < suc k))
    run_list k [] xs active all low = stay xs (λ n. Contains [] n × (rank n < suc k)) all (λ n w. let lt : w.0.0 < 0 = w.0.1 in absurd (omega arith))
    run_list k (n ∷ ns) xs active all low = elim (cases_lt (rank n) (suc k)) [
      | inl lt ↦ (let a : RunsOn xs (λ m. n ≡ m) = run_node xs n all (All-head (Contains (nodes_of shape)) n ns active)
          (λ m p. low m p.depends.from_active (let r = rises m n p in omega arith)) in
          let b = run_list k ns (xs ++ a.more) (All-tail (Contains (nodes_of shape)) n ns active) a.allowed
          (λ m c l. Contains-append_left xs a.more (Finish cycle m) (low m c l)) in
          fewer xs (λ m. (n ≡ m) ⊎ (Contains ns m × (rank m < suc k))) (λ m. Contains (n ∷ ns) m × (rank m < suc k))
          (then xs (λ m. n ≡ m) (λ m. Contains ns m × (rank m < suc k)) a b)
          (λ m w. elim (first_or_later n m ns w.0) [ inl e ↦ inl e | inr c ↦ inr (c, w.1) ]))
      | inr ge ↦ fewer xs (λ m. Contains ns m × (rank m < suc k)) (λ m. Contains (n ∷ ns) m × (rank m < suc k))
          (run_list k ns xs (All-tail (Contains (nodes_of shape)) n ns active) all low)
          (λ m w. elim (first_or_later n m ns w.0) [
            | inl e ↦ (let same : rank n ≡ rank m = ap rank e in let lt : rank m < suc k = w.1 in absurd (omega arith))
            | inr c ↦ (c, w.1)
          ])
    ]

    run_ranks : (k : ℕ) (xs : List Event) → AreAllowed shape cycle xs → RunsOn xs (λ n. Contains (nodes_of shape) n × (rank n < k))
    run_ranks zero xs all = stay xs (λ n. Contains (nodes_of shape) n × (rank n < 0)) all (λ n w. let lt : rank n < 0 = w.1 in absurd (omega arith))
    run_ranks (suc k) xs all =
        let a = run_ranks k xs all in
        let b = run_list k (nodes_of shape) (xs ++ a.more) (All-contains_itself (nodes_of shape)) a.allowed (λ m c l. a.done m (c, l)) in
        fewer xs (λ n. (Contains (nodes_of shape) n × (rank n < k)) ⊎ (Contains (nodes_of shape) n × (rank n < suc k)))
        (λ n. Contains (nodes_of shape) n × (rank n < suc k))
        (then xs (λ n. Contains (nodes_of shape) n × (rank n < k)) (λ n. Contains (nodes_of shape) n × (rank n < suc k)) a b) (λ n w. inr w)

    below_all : (n : ℕ) → Contains (nodes_of shape) n → rank n < suc (sum_by rank (nodes_of shape))
    below_all n c = let e : rank (get_or (nodes_of shape) c.0 n) ≡ rank n = ap rank c.2 in
        let le = get_or-le-sum_by rank (nodes_of shape) c.0 n c.1 in omega arith

    run_all : (xs : List Event) → AreAllowed shape cycle xs → (more : List Event) × IsLegalInside shape (xs ++ more) cycle
    run_all xs all = let a = run_ranks (suc (sum_by rank (nodes_of shape))) xs all in
        (a.more, allowed_legal shape cycle (xs ++ a.more) a.allowed (λ n c. a.done n (c, below_all n c)))

-- WHAT IS ALLOWED GOES ON to a legal cycle
pub completes : (shape : Shape) (cycle : ℕ) → IsSoundShape shape → (xs : List Event) → AreAllowed shape cycle xs
    → (more : List Event) × IsLegalInside shape (xs ++ more) cycle
completes shape cycle sound xs all = let o = sound_order shape sound in run_all shape cycle o.0 o.1 xs all
