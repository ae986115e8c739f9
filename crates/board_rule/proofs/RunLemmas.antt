-- Each kind of step on an activation word keeps the rule of a cycle. `left` is a sum over all nodes here; the progress after a step is given
-- by what they are at each node.
use Rattle.std.proofs.Common.{◌≡◌, ◌≢◌, ℕ, suc, ◌+◌, ◌<◌, List, [], ◌∷◌, length, set, get_or, sym, ap, ◌∙◌, subst, arith}
use Rattle.std.proofs.Common.{get_or-set_other, get_or-set_same}
use mathlib.Core.Logic.{dite}
use native.Mathlib.Decide.{ℕ_discrete, dec_le}
use Rattle.board_rule.specs.Sums.{total, times}
use Rattle.pw_graph.specs.declared.shape.Shape.{Shape}
use Rattle.pw_graph.specs.Layout.{node_count, pending_place, status_place}
use Rattle.pw_graph.specs.Words.{status_word_of, awake_word, finished_word, triggered_word}
use Rattle.board_rule.specs.activation.ActivationRule.{Progress, NodeOk}
use Rattle.board_rule.proofs.SumLemmas.{total_same, total_change, total_at, times_here, times_else}

-- the progress differs only at m
pub record Elsewhere (m : ℕ) (s t : Progress) : Type 0 where
  pub rest : (i : ℕ) → i ≢ m → t.rest i ≡ s.rest i
  pub owing : (i : ℕ) → i ≢ m → t.owing i ≡ s.owing i
  pub stage : (i : ℕ) → i ≢ m → t.stage i ≡ s.stage i

-- the sums over all nodes
abbrev pub sum_left : ℕ → Progress → ℕ → ℕ
sum_left count s n = total (λ m. times n (s.rest m)) count

abbrev pub sum_debts : ℕ → Progress → ℕ → ℕ
sum_debts count s n = total (λ m. times n (s.owing m)) count

-- each node of a cycle that runs
pub record Sums (shape : Shape) (c : ℕ) (s : Progress) (words : List ℕ) : Type 0 where
  pub node : (n : ℕ) → n < node_count shape → NodeOk c (get_or words (pending_place shape n) 0) (get_or words (status_place shape n) 0)
      (s.stage n) (sum_left (node_count shape) s n) (sum_debts (node_count shape) s n)

module _ (shape : Shape) where
  abbrev count : ℕ
  count = node_count shape

  -- one change of m, seen at n
  pub left_change : (m n : ℕ) (s t : Progress) → m < count → Elsewhere m s t
      → sum_left count t n + times n (s.rest m) ≡ sum_left count s n + times n (t.rest m)
  left_change m n s t h e = total_change (λ i. times n (s.rest i)) (λ i. times n (t.rest i)) m count h (λ i o. ap (times n) (e.rest i o))

  pub debts_change : (m n : ℕ) (s t : Progress) → m < count → Elsewhere m s t
      → sum_debts count t n + times n (s.owing m) ≡ sum_debts count s n + times n (t.owing m)
  debts_change m n s t h e = total_change (λ i. times n (s.owing i)) (λ i. times n (t.owing i)) m count h
      (λ i o. ap (times n) (e.owing i o))

  -- what holds of one node holds where its words, its stage and its two sums are the same
  pub node_same : (c p q w v a b l k d e : ℕ) → q ≡ p → v ≡ w → b ≡ a → k ≡ l → e ≡ d → NodeOk c p w a l d → NodeOk c q v b k e
  node_same c p q w v a b l k d e ep ew ea el ed o = record {
    kind = o.kind;
    status_is = ew ∙ o.status_is;
    kinds = o.kinds;
    counts = let x = o.counts in omega arith;
    waits = λ h. let z = o.waits (omega arith) in (z.0, ed ∙ z.1);
    owed = λ h z. ed ∙ o.owed (omega arith) z;
    paid = λ z. ed ∙ o.paid z;
    asleep = λ z. ea ∙ o.asleep z;
    awake = λ z. ea ∙ o.awake z;
    done = λ z. ea ∙ o.done z;
  }

  -- a target that is left is counted in its pending word
  pub positive : (m n : ℕ) (s : Progress) (xs : List ℕ) → m < count → s.rest m ≡ n ∷ xs → 0 < sum_left count s n
  positive m n s xs h e = let t = total_at (λ i. times n (s.rest i)) m count h in
      let a : times n (s.rest m) ≡ 1 + times n xs = ap (times n) e ∙ times_here n xs in omega arith

  pub indebted : (m n : ℕ) (s : Progress) (xs : List ℕ) → m < count → s.owing m ≡ n ∷ xs → 0 < sum_debts count s n
  indebted m n s xs h e = let t = total_at (λ i. times n (s.owing i)) m count h in
      let a : times n (s.owing m) ≡ 1 + times n xs = ap (times n) e ∙ times_here n xs in omega arith

  -- a step by which no word changes in value and no post changes
  pub keeps : (c : ℕ) (s t : Progress) (words after : List ℕ) → ((i : ℕ) → i < count → t.rest i ≡ s.rest i)
      → ((i : ℕ) → i < count → t.owing i ≡ s.owing i) → ((i : ℕ) → i < count → t.stage i ≡ s.stage i)
      → ((n : ℕ) → n < count → get_or after (pending_place shape n) 0 ≡ get_or words (pending_place shape n) 0)
      → ((n : ℕ) → n < count → get_or after (status_place shape n) 0 ≡ get_or words (status_place shape n) 0) → Sums shape c s words
      → Sums shape c t after
  keeps c s t words after rest owing stage p w r = record {
    node = λ n h. node_same c _ _ _ _ _ _ _ _ _ _ (p n h) (w n h) (stage n h)
        (total_same (λ i. times n (s.rest i)) (λ i. times n (t.rest i)) count (λ i l. ap (times n) (rest i l)))
        (total_same (λ i. times n (s.owing i)) (λ i. times n (t.owing i)) count (λ i l. ap (times n) (owing i l))) (r.node n h);
  }

  -- m lowers its next target n
  pub lowers : (c m n x : ℕ) (s t : Progress) (words : List ℕ) → m < count → n < count → count + count < length words → Elsewhere m s t
      → t.stage m ≡ s.stage m → s.rest m ≡ n ∷ t.rest m → s.owing m ≡ []
      → (get_or words (pending_place shape n) 0 ≡ 1 → t.owing m ≡ n ∷ []) → (get_or words (pending_place shape n) 0 ≢ 1 → t.owing m ≡ [])
      → get_or words (pending_place shape n) 0 ≡ suc x → Sums shape c s words → Sums shape c t (set words (pending_place shape n) x)
  lowers c m n x s t words hm hn wide e stage rest paid last more found r = record { node = one }
    where
      stages : (i : ℕ) → t.stage i ≡ s.stage i
      stages i = dite (ℕ_discrete i m) (λ q. ap t.stage q ∙ stage ∙ ap s.stage (sym q)) (λ q. e.stage i q)

      one : (i : ℕ) → i < count → NodeOk c (get_or (set words (pending_place shape n) x) (pending_place shape i) 0)
          (get_or (set words (pending_place shape n) x) (status_place shape i) 0) (t.stage i) (sum_left count t i) (sum_debts count t i)
      one i hi = dite (ℕ_discrete i n)
          (λ (q : i ≡ n). subst (λ j. NodeOk c (get_or (set words (pending_place shape n) x) (pending_place shape j) 0)
          (get_or (set words (pending_place shape n) x) (status_place shape j) 0) (t.stage j) (sum_left count t j)
          (sum_debts count t j)) (sym q) here)
          (λ (q : i ≢ n). node_same c _ _ _ _ _ _ _ _ _ _
          (get_or-set_other words (pending_place shape n) (pending_place shape i) x 0 (λ z. q (omega arith)))
          (get_or-set_other words (pending_place shape n) (status_place shape i) x 0 (λ z. omega arith)) (stages i)
          (let a = left_change m i s t hm e in let b : times i (s.rest m) ≡ times i (t.rest m) = ap (times i) rest
          ∙ times_else n i (t.rest m) q in omega arith)
          (let a = debts_change m i s t hm e in let b : times i (s.owing m) ≡ 0 = ap (times i) paid in
          let d : times i (t.owing m) ≡ 0 = dite (ℕ_discrete (get_or words (pending_place shape n) 0) 1)
          (λ z. ap (times i) (last z) ∙ times_else n i [] q) (λ z. ap (times i) (more z)) in omega arith)
          (r.node i hi))
        where
          here : NodeOk c (get_or (set words (pending_place shape n) x) (pending_place shape n) 0)
              (get_or (set words (pending_place shape n) x) (status_place shape n) 0) (t.stage n) (sum_left count t n) (sum_debts count t n)
          here = let o = r.node n hn in
              let p = get_or-set_same words (pending_place shape n) x 0 (omega arith) in
              let w = get_or-set_other words (pending_place shape n) (status_place shape n) x 0 (λ z. omega arith) in
              let l = left_change m n s t hm e in
              let l' : times n (s.rest m) ≡ 1 + times n (t.rest m) = ap (times n) rest ∙ times_here n (t.rest m) in
              let d = debts_change m n s t hm e in
              let d' : times n (s.owing m) ≡ 0 = ap (times n) paid in
              let was = o.counts in
              let waits = o.waits (omega arith) in
              let st = stages n in
              record {
                kind = o.kind;
                status_is = w ∙ o.status_is;
                kinds = o.kinds;
                counts = omega arith;
                waits = λ h. let a : times n (t.owing m) ≡ 0 = ap (times n) (more (λ z. omega arith)) in (waits.0, omega arith);
                owed = λ z _. let a : times n (t.owing m) ≡ 1 = ap (times n) (last (omega arith)) ∙ times_here n [] in omega arith;
                paid = λ z. absurd (let k = waits.0 in omega arith);
                asleep = λ z. st ∙ o.asleep z;
                awake = λ z. st ∙ o.awake z;
                done = λ z. st ∙ o.done z;
              }

  -- m triggers the target that it owes
  pub triggers : (c m n : ℕ) (s t : Progress) (words : List ℕ) → m < count → n < count → count + count < length words → Elsewhere m s t
      → t.stage m ≡ s.stage m → t.rest m ≡ s.rest m → s.owing m ≡ n ∷ [] → t.owing m ≡ []
      → Sums shape c s words → Sums shape c t (set words (status_place shape n) (triggered_word c))
  triggers c m n s t words hm hn wide e stage rest owes pays r = record { node = one }
    where
      one : (i : ℕ) → i < count → NodeOk c (get_or (set words (status_place shape n) (triggered_word c)) (pending_place shape i) 0)
          (get_or (set words (status_place shape n) (triggered_word c)) (status_place shape i) 0) (t.stage i) (sum_left count t i)
          (sum_debts count t i)
      one i hi = dite (ℕ_discrete i n)
          (λ (q : i ≡ n). subst (λ j. NodeOk c (get_or (set words (status_place shape n) (triggered_word c)) (pending_place shape j) 0)
          (get_or (set words (status_place shape n) (triggered_word c)) (status_place shape j) 0) (t.stage j) (sum_left count t j)
          (sum_debts count t j)) (sym q) here)
          (λ (q : i ≢ n). node_same c _ _ _ _ _ _ _ _ _ _
          (get_or-set_other words (status_place shape n) (pending_place shape i) (triggered_word c) 0 (λ z. omega arith))
          (get_or-set_other words (status_place shape n) (status_place shape i) (triggered_word c) 0 (λ z. q (omega arith)))
          (stages i)
          (lefts i)
          (let a = debts_change m i s t hm e in let b : times i (s.owing m) ≡ 0 = ap (times i) owes ∙ times_else n i [] q in
          let d : times i (t.owing m) ≡ 0 = ap (times i) pays in omega arith)
          (r.node i hi))
        where
          stages : (i : ℕ) → t.stage i ≡ s.stage i
          stages i = dite (ℕ_discrete i m) (λ q. ap t.stage q ∙ stage ∙ ap s.stage (sym q)) (λ q. e.stage i q)

          lefts : (i : ℕ) → sum_left count t i ≡ sum_left count s i
          lefts i = let a = left_change m i s t hm e in let b : times i (t.rest m) ≡ times i (s.rest m) = ap (times i) rest in omega arith

          here : NodeOk c (get_or (set words (status_place shape n) (triggered_word c)) (pending_place shape n) 0)
              (get_or (set words (status_place shape n) (triggered_word c)) (status_place shape n) 0) (t.stage n) (sum_left count t n)
              (sum_debts count t n)
          here = let o = r.node n hn in
              let p = get_or-set_other words (status_place shape n) (pending_place shape n) (triggered_word c) 0 (λ z. omega arith) in
              let w = get_or-set_same words (status_place shape n) (triggered_word c) 0 (omega arith) in
              let l = lefts n in
              let d = debts_change m n s t hm e in
              let d₀ : times n (s.owing m) ≡ 1 = ap (times n) owes ∙ times_here n [] in
              let d₁ : times n (t.owing m) ≡ 0 = ap (times n) pays in
              let much = indebted m n s [] hm owes in
              let was = o.counts in
              let empty : get_or words (pending_place shape n) 0 ≡ 0 =
              dite (ℕ_discrete (get_or words (pending_place shape n) 0) 0) (λ z. z)
              (λ z. absurd (let k = o.waits (omega arith) in let k₁ = k.1 in omega arith)) in
              let kind : o.kind ≡ 0 = dite (ℕ_discrete o.kind 0) (λ z. z) (λ z. absurd (let k = o.paid (omega arith) in omega arith)) in
              let debt = o.owed empty kind in
              let st = stages n in
              let asleep = o.asleep (omega arith) in
              record {
                kind = 1;
                status_is = w;
                kinds = omega arith;
                counts = omega arith;
                waits = λ h. absurd (omega arith);
                owed = λ _ z. absurd (omega arith);
                paid = λ _. omega arith;
                asleep = λ _. omega arith;
                awake = λ z. absurd (omega arith);
                done = λ z. absurd (omega arith);
              }

  -- a node n goes from the kind k to the next one, by a change of its stage
  moves : (c n k u : ℕ) (s t : Progress) (words : List ℕ) → n < count → count + count < length words → Elsewhere n s t → t.rest n ≡ s.rest n
      → t.owing n ≡ s.owing n → get_or words (status_place shape n) 0 ≡ status_word_of k c → 0 < k → k < 3 → t.stage n ≡ k
      → Sums shape c s words → Sums shape c t (set words (status_place shape n) (status_word_of (suc k) c))
  moves c n k u s t words hn wide e rest owing found low high now r = record { node = one }
    where
      sums : (i : ℕ) → (sum_left count t i ≡ sum_left count s i) × (sum_debts count t i ≡ sum_debts count s i)
      sums i = let a = left_change n i s t hn e in let b : times i (t.rest n) ≡ times i (s.rest n) = ap (times i) rest in
          let d = debts_change n i s t hn e in let f : times i (t.owing n) ≡ times i (s.owing n) = ap (times i) owing in
          (omega arith, omega arith)

      one : (i : ℕ) → i < count → NodeOk c (get_or (set words (status_place shape n) (status_word_of (suc k) c)) (pending_place shape i) 0)
          (get_or (set words (status_place shape n) (status_word_of (suc k) c)) (status_place shape i) 0) (t.stage i) (sum_left count t i)
          (sum_debts count t i)
      one i hi = dite (ℕ_discrete i n)
          (λ (q : i ≡ n). subst (λ j. NodeOk c (get_or (set words (status_place shape n) (status_word_of (suc k) c))
          (pending_place shape j) 0) (get_or (set words (status_place shape n) (status_word_of (suc k) c)) (status_place shape j) 0)
          (t.stage j) (sum_left count t j) (sum_debts count t j)) (sym q) here)
          (λ (q : i ≢ n). node_same c _ _ _ _ _ _ _ _ _ _
          (get_or-set_other words (status_place shape n) (pending_place shape i) (status_word_of (suc k) c) 0 (λ z. omega arith))
          (get_or-set_other words (status_place shape n) (status_place shape i) (status_word_of (suc k) c) 0 (λ z. q (omega arith)))
          (e.stage i q)
          (sums i).0 (sums i).1 (r.node i hi))
        where
          here : NodeOk c (get_or (set words (status_place shape n) (status_word_of (suc k) c)) (pending_place shape n) 0)
              (get_or (set words (status_place shape n) (status_word_of (suc k) c)) (status_place shape n) 0) (t.stage n)
              (sum_left count t n) (sum_debts count t n)
          here = let o = r.node n hn in
              let p = get_or-set_other words (status_place shape n) (pending_place shape n) (status_word_of (suc k) c) 0
              (λ z. omega arith) in
              let w = get_or-set_same words (status_place shape n) (status_word_of (suc k) c) 0 (omega arith) in
              let l = (sums n).0 in
              let d = (sums n).1 in
              let was = o.counts in
              let is = o.status_is in
              let kind : o.kind ≡ k = omega arith in
              let free = o.paid (omega arith) in
              let empty : get_or words (pending_place shape n) 0 ≡ 0 =
              dite (ℕ_discrete (get_or words (pending_place shape n) 0) 0) (λ z. z)
              (λ z. absurd (let q = o.waits (omega arith) in let q₀ = q.0 in omega arith)) in
              record {
                kind = suc k;
                status_is = w;
                kinds = omega arith;
                counts = omega arith;
                waits = λ h. absurd (omega arith);
                owed = λ _ z. absurd (omega arith);
                paid = λ _. omega arith;
                asleep = λ z. absurd (omega arith);
                awake = λ z. omega arith;
                done = λ z. omega arith;
              }

  -- the claim of a node that was found triggered
  pub wakes : (c n : ℕ) (s t : Progress) (words : List ℕ) → n < count → count + count < length words → Elsewhere n s t → t.rest n ≡ s.rest n
      → t.owing n ≡ s.owing n → get_or words (status_place shape n) 0 ≡ triggered_word c → t.stage n ≡ 1
      → Sums shape c s words → Sums shape c t (set words (status_place shape n) (awake_word c))
  wakes c n s t words hn wide e rest owing found now r =
      moves c n 1 0 s t words hn wide e rest owing found (omega arith) (omega arith) now r

  -- the store of FINISHED by a node that runs
  pub finishes : (c n : ℕ) (s t : Progress) (words : List ℕ) → n < count → count + count < length words → Elsewhere n s t → t.rest n ≡ s.rest n
      → t.owing n ≡ s.owing n → s.stage n ≡ 1 → t.stage n ≡ 2
      → Sums shape c s words → Sums shape c t (set words (status_place shape n) (finished_word c))
  finishes c n s t words hn wide e rest owing was now r =
      moves c n 2 0 s t words hn wide e rest owing (let o = r.node n hn in let a = o.asleep in let d = o.done in let k = o.kinds in
      let kind : o.kind ≡ 2 = dite (ℕ_discrete o.kind 2) (λ z. z)
      (λ z. absurd (dite (dec_le 2 o.kind) (λ y. let f = d (omega arith) in omega arith) (λ y. let f = a (omega arith) in omega arith)))
      in let is = o.status_is in omega arith) (omega arith) (omega arith) now r

  -- what a node that runs shows of the others: all that it depends on have told it
  pub woken_told : (c n m : ℕ) (s : Progress) (words : List ℕ) → n < count → m < count → s.stage n ≡ 1 → Sums shape c s words
      → times n (s.rest m) ≡ 0
  woken_told c n m s words hn hm runs r = let o = r.node n hn in let k = o.kinds in
      let high : 0 < o.kind = dite (dec_le o.kind 0) (λ z. absurd (let w = o.asleep (omega arith) in omega arith)) (λ z. omega arith) in
      let empty : get_or words (pending_place shape n) 0 ≡ 0 =
      dite (ℕ_discrete (get_or words (pending_place shape n) 0) 0) (λ z. z)
      (λ z. absurd (let w = o.waits (omega arith) in let w₀ = w.0 in omega arith)) in
      let counts = o.counts in let t = total_at (λ i. times n (s.rest i)) m count hm in omega arith

  -- the same of a node that has woken in this cycle
  pub begun_told : (c n m : ℕ) (s : Progress) (words : List ℕ) → n < count → m < count → 0 < s.stage n → Sums shape c s words
      → times n (s.rest m) ≡ 0
  begun_told c n m s words hn hm runs r = let o = r.node n hn in let k = o.kinds in
      let high : 0 < o.kind = dite (dec_le o.kind 0) (λ z. absurd (let w = o.asleep (omega arith) in omega arith)) (λ z. omega arith) in
      let empty : get_or words (pending_place shape n) 0 ≡ 0 =
      dite (ℕ_discrete (get_or words (pending_place shape n) 0) 0) (λ z. z)
      (λ z. absurd (let w = o.waits (omega arith) in let w₀ = w.0 in omega arith)) in
      let counts = o.counts in let t = total_at (λ i. times n (s.rest i)) m count hm in omega arith
