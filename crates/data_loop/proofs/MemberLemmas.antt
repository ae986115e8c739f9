-- The members of a loop in an epoch: which of the loop's nodes they are.
use Rattle.std.proofs.Common.{◌≡◌, ◌≢◌, ℕ, ◌+◌, ◌<◌, ◌≤◌, Bool, true, false, cond, List, [], ◌∷◌, length, get_or, sym, ap, ◌∙◌, subst, arith}
use Rattle.std.specs.Prelude.{AllPairs, Contains, filter, slice_index}
use Rattle.std.specs.List.{enumerate_from}
use Rattle.std.proofs.lemmas.List.{length-map, get_or-map}
use Rattle.std.proofs.lemmas.List.FromFn.{length-enumerate_from, get_or-enumerate_from}
use Rattle.std.proofs.lemmas.List.Kept.{AllPairs-filter}
use Rattle.pw_graph.specs.declared.plan.Epoch.{Epoch}
use Rattle.pw_graph.specs.declared.plan.Plan.{Plan}
use Rattle.data_loop.specs.declared.member.Member.{Member}
use Rattle.data_loop.specs.Members.{member_of, has_role, members_by}
use Rattle.data_loop.specs.EpochStates.{AreApart}
use Rattle.data_loop.proofs.PairLemmas.{pick_of, picks}

filter_le : {X : Type 0} (p : X → Bool) (xs : List X) → length (filter p xs) ≤ length xs
filter_le p [] = omega arith
filter_le p (x ∷ xs) = let rest = filter_le p xs in by (p x) rest
  where
    by : (b : Bool) → length (filter p xs) ≤ length xs → length (cond b (x ∷ filter p xs) (filter p xs)) ≤ length (x ∷ xs)
    by true rest = omega (arith, rest)
    by false rest = omega (arith, rest)

module _ (plan : Plan) (nodes : List ℕ) (e : Epoch) (is_driver : Bool) where
  abbrev list : List Member
  list = members_by plan nodes e is_driver

  abbrev test : ℕ × ℕ → Bool
  test x = has_role e is_driver x.1

  abbrev one : ℕ × ℕ → Member
  one x = member_of plan e x.1 x.0

  -- where a member is from
  pub record ComesFrom (m : Member) : Type 0 where
    pub low : m.at < length nodes
    pub node : slice_index nodes m.at ≡ m.node
    pub role : has_role e is_driver m.node ≡ true
    pub is : m ≡ member_of plan e m.node m.at

  pub comes_from : (m : Member) → Contains list m → ComesFrom m
  comes_from m c = let h = pick_of test one 0 nodes m c in let i : ℕ = h.0 in let x = h.2 0 in
      let z : 0 + i ≡ i = omega arith in
      let at : m.at ≡ i = ap (λ (y : Member). y.at) (sym x.1) ∙ z in
      let n : get_or nodes i 0 ≡ m.node = ap (λ (y : Member). y.node) x.1 in
      let low = h.1 in record {
        low = omega (arith, low, at);
        node = ap (λ j. get_or nodes j 0) at ∙ n;
        role = ap (has_role e is_driver) (sym n) ∙ x.0;
        is = sym x.1 ∙ (λ j. member_of plan e (n j) ((z ∙ sym at) j));
      }

  pub has_it : (j : ℕ) → j < length nodes → has_role e is_driver (slice_index nodes j) ≡ true
      → Contains list (member_of plan e (slice_index nodes j) j)
  has_it j low passes = let z : 0 + j ≡ j = omega arith in
      subst (λ k. Contains list (member_of plan e (get_or nodes j 0) k)) z (picks test one 0 nodes j 0 low passes)

  pub few : length list ≤ length nodes
  few = let a = length-map (filter test (enumerate_from 0 nodes)) one in let b = filter_le test (enumerate_from 0 nodes) in
      let c = length-enumerate_from 0 nodes in omega (arith, a, b, c)

  pub all_apart : AllPairs (λ m n. m < n) nodes → AllPairs AreApart list
  all_apart ascend a b d less high =
      let picked : List (ℕ × ℕ) = filter test (enumerate_from 0 nodes) in
      let long = length-map picked one in
      let dp : ℕ × ℕ = (0, 0) in
      let pair = AllPairs-filter (λ x y. (x.0 ≢ y.0) × (x.1 ≢ y.1)) test (enumerate_from 0 nodes) pairs a b dp less (omega (arith, high, long)) in
      let xa : get_or list a d ≡ one (get_or picked a dp) = get_or-map one picked a dp d (omega (arith, less, high, long)) in
      let xb : get_or list b d ≡ one (get_or picked b dp) = get_or-map one picked b dp d (omega (arith, high, long)) in (
        λ e. pair.0 (ap (λ (y : Member). y.at) (sym xa) ∙ e ∙ ap (λ (y : Member). y.at) xb),
        λ e. pair.1 (ap (λ (y : Member). y.node) (sym xa) ∙ e ∙ ap (λ (y : Member). y.node) xb),
      )
    where
      pairs : AllPairs (λ (x y : ℕ × ℕ). (x.0 ≢ y.0) × (x.1 ≢ y.1)) (enumerate_from 0 nodes)
      pairs i j dd less high = let long = length-enumerate_from 0 nodes in
          let low : i < length nodes = omega (arith, less, high, long) in let up : j < length nodes = omega (arith, high, long) in
          let xi = get_or-enumerate_from 0 nodes i dd low in let xj = get_or-enumerate_from 0 nodes j dd up in
          let apart = ascend i j dd.1 less up in (
            λ e. let same : 0 + i ≡ 0 + j = ap (λ (y : ℕ × ℕ). y.0) (sym xi) ∙ e ∙ ap (λ (y : ℕ × ℕ). y.0) xj in omega (arith, same, less),
            λ e. let same : get_or nodes i dd.1 ≡ get_or nodes j dd.1 = ap (λ (y : ℕ × ℕ). y.1) (sym xi) ∙ e ∙ ap (λ (y : ℕ × ℕ). y.1) xj in
                omega (arith, same, apart),
          )
