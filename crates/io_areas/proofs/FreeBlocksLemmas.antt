-- The blocks of a pool and the list of the free ones, from step to step of a turn.
use Rattle.std.proofs.Common.{◌≡◌, ◌≢◌, ℕ, suc, ◌+◌, ◌-◌, ◌<◌, ◌≤◌, ◌⊎◌, inl, inr, ⊎_elim, true≢false, cond}
use Rattle.std.proofs.Common.{eq-eqb, ne_eqb, List, [], ◌∷◌, ◌++◌, Option, Some, None, All, AllPairs, Contains, length, get_or}
use Rattle.std.proofs.Common.{option_to_list, sym, ap, ◌∙◌, subst, arith, append-nil, length-append}
use Rattle.std.proofs.lemmas.List.Elements.{All-head, All-push, Contains-get_or}
use Rattle.std.proofs.lemmas.List.Quantifiers.{all_pairs_push}
use mathlib.Core.Logic.{dite}
use native.Mathlib.Decide.{ℕ_discrete}
use Rattle.board_rule.specs.declared.view.BlockView.{BlockView}
use Rattle.board_rule.specs.declared.view.BlockView.TheVariants.{Free, Out}
use Rattle.board_rule.specs.declared.view.View.{View}
use Rattle.board_rule.specs.Layout.{BoardLayout, first}
use Rattle.board_rule.specs.buffers.BlockReadings.{busy_cycles, is_busy, stamp}
use Rattle.board_rule.specs.buffers.EndViews.{pool_at, block_of}
use Rattle.board_rule.specs.buffers.BufferReads.{HasPool}
use Rattle.board_rule.specs.buffers.BlockSteps.{fill_cycle}
use Rattle.board_rule.specs.buffers.ReclaimSteps.{IsUnreclaimed, IsDue, readers_loaded}
use Rattle.board_rule.proofs.buffers.WiredLemmas.{busy_cycles_some}
use Rattle.io_areas.specs.Queue.{Queue}
use Rattle.io_areas.specs.Writing.{HasReclaimed, IsUnfilled}
use Rattle.io_areas.specs.FreeBlocks.{FreeBlocks, recent_count}
use Rattle.io_areas.specs.OutputAnswer.{IsReclaimed}
use Rattle.board_rule.proofs.buffers.ReclaimLemmas.{busy_cycles_most}
use Rattle.io_areas.proofs.BlockLemmas.{here, else}

pub free_out : (x : BlockView) (n : ℕ) → x ≡ Free → x ≡ Out n → ⊥
free_out x n e f = let z : Free ≡ Out n = sym e ∙ f in absurd (cc)

out_same : (m n : ℕ) → (let z : BlockView = Out m in z) ≡ Out n → m ≡ n
out_same m n e = ap (stamp 0) e

-- the blocks of a pool in the cycle c, once the one that is due has come back: of each later stamp one is out
pub record AreBack (p : BoardLayout) (v : View) (q c : ℕ) : Type 0 where
  pub out : (n : ℕ) → n ≤ c → c + 1 < n + busy_cycles p (pool_at p q) → (b : ℕ) × (b < (pool_at p q).blocks) × (block_of p v q b ≡ Out n)
  pub one : (a b n : ℕ) → a < (pool_at p q).blocks → b < (pool_at p q).blocks → block_of p v q a ≡ Out n → block_of p v q b ≡ Out n → a ≡ b
  pub else : (b : ℕ) → b < (pool_at p q).blocks → (block_of p v q b ≡ Free)
      ⊎ ((n : ℕ) × (n ≤ c) × (c + 1 < n + busy_cycles p (pool_at p q)) × (block_of p v q b ≡ Out n))
  pub zero : first p ≤ c → c + 1 < first p + busy_cycles p (pool_at p q) → block_of p v q 0 ≡ Out (first p)

-- a list of free blocks of the pool, once each
pub record AreListed (p : BoardLayout) (v : View) (q : ℕ) (ids : List ℕ) : Type 0 where
  pub long : length ids + busy_cycles p (pool_at p q) ≡ (pool_at p q).blocks + 1
  pub once : AllPairs (λ a b. a ≢ b) ids
  pub free : All (λ b. (b < (pool_at p q).blocks) × (block_of p v q b ≡ Free)) ids

-- the list without the block `used`
pub record AreOthers (p : BoardLayout) (v : View) (q used : ℕ) (ids : List ℕ) : Type 0 where
  pub inside : used < (pool_at p q).blocks
  pub free : block_of p v q used ≡ Free
  pub long : length ids + busy_cycles p (pool_at p q) ≡ (pool_at p q).blocks
  pub once : AllPairs (λ a b. a ≢ b) ids
  pub listed : (b : ℕ) → Contains ids b → (b < (pool_at p q).blocks) × (block_of p v q b ≡ Free) × (b ≢ used)

module _ (p : BoardLayout) (q : ℕ) where
  pub taken : (v : View) (used : ℕ) (ids : List ℕ) → AreListed p v q (used ∷ ids) → AreOthers p v q used ids
  taken v used ids a = let IsFree : ℕ → Type 0 = λ b. (b < (pool_at p q).blocks) × (block_of p v q b ≡ Free) in
      let front = All-head IsFree used ids a.free in record {
        inside = front.0;
        free = front.1;
        long = (let z = a.long in omega arith);
        once = λ i j d h lt. a.once (suc i) (suc j) d (omega arith) (omega arith);
        listed = λ b c. let i = c.0 in let lt = c.1 in let is = subst IsFree c.2 (a.free (suc i) b (omega arith)) in (
          is.0,
          is.1,
          (λ e. a.once 0 (suc i) b (omega arith) (omega arith) (sym e ∙ sym c.2)),
        );
      }

  -- no block is due or of this cycle
  pub unfilled : (v : View) (c : ℕ) → AreBack p v q c → IsUnfilled p v q c
  unfilled v c a b low busy = ⊎_elim (λ f. absurd (true≢false (sym busy ∙ ap is_busy f)))
      (λ r. let le = r.1 in subst (λ y. (stamp c y < c + 1) × (c + 1 < stamp c y + busy_cycles p (pool_at p q))) (sym r.3) (omega arith, r.2))
      (a.else b low)

  module _ (v : View) (pool : Queue) (s : FreeBlocks p v q (fill_cycle p v q) pool) where
    abbrev now : ℕ
    now = fill_cycle p v q

    abbrev due_stamp : ℕ
    due_stamp = now + 1 - busy_cycles p (pool_at p q)

    pub is_reclaimed : (r : Option ℕ) (w : View) → HasReclaimed p v q r w → IsReclaimed p v q r
    is_reclaimed None w h = h.0
    is_reclaimed (Some b) w h = let later = h.0 in let d = h.1 in (
      h.0,
      d.inside,
      d.is,
      (λ two second. let low = s.enough in let even : due_stamp ≡ first p = omega arith in
          s.one b 0 (first p) d.inside (omega arith) (d.is ∙ ap (λ n. Out n) even) (s.zero (omega arith, omega arith, omega arith))),
    )

    none_back : now ≡ first p → AreBack p v q now
    none_back at = record {
      out = λ n l h. s.out n (l, omega arith, omega arith);
      one = s.one;
      else = λ b l. ⊎_elim (λ f. inl f) (λ r. let a = r.1.0 in let z = r.1.2 in inr (r.0, a, omega arith, r.2)) (s.else b l);
      zero = λ l h. s.zero (omega arith, omega arith, omega arith);
    }

    module _ (b : ℕ) (later : first p < now) (d : IsDue p v q b) (has : HasPool p v q) where
      abbrev w : View
      w = readers_loaded p v q b 0

      freed : block_of p w q b ≡ Free
      freed = here p v q b Free has d.inside

      was : (a n : ℕ) → block_of p w q a ≡ Out n → block_of p v q a ≡ Out n
      was a n e = dite (ℕ_discrete a b) (λ z. absurd (free_out (block_of p w q b) n freed (ap (block_of p w q) (sym z) ∙ e)))
          (λ o. sym (else p v q b Free a o) ∙ e)

      some_back : AreBack p w q now
      some_back = let some = busy_cycles_some p (pool_at p q) in let most = busy_cycles_most p (pool_at p q) in record {
        out = λ n l h. let o = s.out n (l, omega arith, omega arith) in
            let apart : o.0 ≢ b = (λ z. let same = out_same n due_stamp (sym o.2 ∙ ap (block_of p v q) z ∙ d.is) in omega arith) in
            (o.0, o.1, else p v q b Free o.0 apart ∙ o.2);
        one = λ a k n l m e f. s.one a k n l m (was a n e) (was k n f);
        else = λ a l. dite (ℕ_discrete a b) (λ z. inl (ap (block_of p w q) z ∙ freed))
            (λ o. ⊎_elim (λ f. inl (else p v q b Free a o ∙ f))
            (λ r. let low = r.1.0 in let near = r.1.1 in dite (ℕ_discrete r.0 due_stamp)
            (λ z. absurd (o (s.one a b due_stamp l d.inside (r.2 ∙ ap (λ n. Out n) z) d.is)))
            (λ z. inr (r.0, r.1.0, omega arith, else p v q b Free a o ∙ r.2)))
            (s.else a l));
        zero = λ l h. absurd (omega arith);
      }

      some_listed : AreListed p w q (pool.free ++ b ∷ [])
      some_listed = let IsFree : ℕ → Type 0 = λ a. (a < (pool_at p q).blocks) × (block_of p w q a ≡ Free) in record {
        long = (let a = length-append pool.free (b ∷ []) in let n = s.long in let z = s.size in
            let all : recent_count p q now ≡ busy_cycles p (pool_at p q) =
            ap (λ t. cond t (busy_cycles p (pool_at p q) - 1) (busy_cycles p (pool_at p q))) (ne_eqb now (first p) (omega arith)) in omega arith);
        once = all_pairs_push (λ i j. i ≢ j) pool.free b s.once (λ k e l z. was_out k e l (sym z));
        free = All-push IsFree pool.free b
            (λ k e l. let a = s.listed (get_or pool.free k e) (Contains-get_or pool.free k e l) in
            (a.0, else p v q b Free (get_or pool.free k e) (λ z. was_out k e l (sym z)) ∙ a.1))
            (d.inside, freed);
      }
        where
          was_out : (k e : ℕ) → k < length pool.free → b ≡ get_or pool.free k e → ⊥
          was_out k e l z = free_out (block_of p v q b) due_stamp (ap (block_of p v q) z
              ∙ (s.listed (get_or pool.free k e) (Contains-get_or pool.free k e l)).1) d.is

    pub all_back : (r : Option ℕ) (w : View) → HasPool p v q → HasReclaimed p v q r w → AreBack p w q now
    all_back None w has h = subst (λ (x : View). AreBack p x q now) (sym h.1) (none_back h.0)
    all_back (Some b) w has h = subst (λ (x : View). AreBack p x q now) (sym h.2) (some_back b h.0 h.1 has)

    none_listed : now ≡ first p → AreListed p v q (pool.free ++ [])
    none_listed at = subst (AreListed p v q) (sym (append-nil pool.free)) record {
      long = (let n = s.long in let z = s.size in let some = busy_cycles_some p (pool_at p q) in
          let all : recent_count p q now ≡ busy_cycles p (pool_at p q) - 1 =
          ap (λ t. cond t (busy_cycles p (pool_at p q) - 1) (busy_cycles p (pool_at p q))) (eq-eqb now (first p) at) in omega arith);
      once = s.once;
      free = λ k e l. s.listed (get_or pool.free k e) (Contains-get_or pool.free k e l);
    }

    pub all_listed : (r : Option ℕ) (w : View) → HasPool p v q → HasReclaimed p v q r w → AreListed p w q (pool.free ++ option_to_list r)
    all_listed None w has h = subst (λ (x : View). AreListed p x q (pool.free ++ [])) (sym h.1) (none_listed h.0)
    all_listed (Some b) w has h = subst (λ (x : View). AreListed p x q (pool.free ++ b ∷ [])) (sym h.2) (some_listed b h.0 h.1 has)

    -- what is due can be put to the free ones, and then there is one
    pub may_recycle : (b : ℕ) (w : View) → HasReclaimed p v q (Some b) w → (length pool.free < pool.blocks) × (Contains pool.free b → ⊥)
    may_recycle b w h = let l = some_listed_long h.0 in let some = busy_cycles_some p (pool_at p q) in
        (omega arith, (λ c. free_out (block_of p v q b) due_stamp (s.listed b c).1 h.1.is))
      where
        some_listed_long : first p < now → length pool.free + busy_cycles p (pool_at p q) ≡ pool.blocks
        some_listed_long later = let n = s.long in let all : recent_count p q now ≡ busy_cycles p (pool_at p q) =
            ap (λ t. cond t (busy_cycles p (pool_at p q) - 1) (busy_cycles p (pool_at p q))) (ne_eqb now (first p) (omega arith)) in omega arith

    pub has_next : (r : Option ℕ) (w : View) → HasPool p v q → HasReclaimed p v q r w → 0 < length (pool.free ++ option_to_list r)
    has_next r w has h = let l = (all_listed r w has h).long in let low = s.enough in omega arith

  -- the blocks in the next cycle, where `used` is out since this one
  module _ (x z : View) (c used : ℕ) (left : Queue) (begun : first p ≤ c) (reclaimed : IsUnreclaimed p z q (c + 1)) (enough : busy_cycles p (pool_at p q) ≤ (pool_at p q).blocks)
      (back : AreBack p x q c) (a : AreOthers p x q used left.free) (size : left.blocks ≡ (pool_at p q).blocks)
      (new : block_of p z q used ≡ Out (c + 1)) (same : (b : ℕ) → b ≢ used → block_of p z q b ≡ block_of p x q b) where
    not_used : (b n : ℕ) → block_of p x q b ≡ Out n → b ≢ used
    not_used b n e o = free_out (block_of p x q used) n a.free (ap (block_of p x q) (sym o) ∙ e)

    early : (b n : ℕ) → b < (pool_at p q).blocks → b ≢ used → block_of p z q b ≡ Out n → n ≤ c
    early b n low o e = ⊎_elim (λ f. absurd (free_out (block_of p z q b) n (same b o ∙ f) e))
        (λ r. let le = r.1 in let is = out_same r.0 n (sym (same b o ∙ r.3) ∙ e) in omega arith) (back.else b low)

    pub refreed : FreeBlocks p z q (c + 1) left
    refreed = let some = busy_cycles_some p (pool_at p q) in record {
      size = size;
      enough = enough;
      listed = λ b d. let l = a.listed b d in (l.0, same b l.2 ∙ l.1);
      once = a.once;
      long = (let n = a.long in let all : recent_count p q (c + 1) ≡ busy_cycles p (pool_at p q) =
          ap (λ t. cond t (busy_cycles p (pool_at p q) - 1) (busy_cycles p (pool_at p q))) (ne_eqb (c + 1) (first p) (omega arith)) in omega arith);
      out = λ n r. let le = r.0 in let near = r.1 in dite (ℕ_discrete n (c + 1)) (λ e. (used, a.inside, new ∙ ap (λ k. Out k) (sym e)))
          (λ e. let o = back.out n (omega arith) near in (o.0, o.1, same o.0 (not_used o.0 n o.2) ∙ o.2));
      one = λ b k n l m e f. dite (ℕ_discrete b used)
          (λ (i : b ≡ used). let is = out_same (c + 1) n (sym new ∙ ap (block_of p z q) (sym i) ∙ e) in
          dite (ℕ_discrete k used) (λ j. i ∙ sym j) (λ j. let le = early k n m j f in absurd (omega arith)))
          (λ (i : b ≢ used). let low = early b n l i e in dite (ℕ_discrete k used)
          (λ j. let is = out_same (c + 1) n (sym new ∙ ap (block_of p z q) (sym j) ∙ f) in absurd (omega arith))
          (λ j. back.one b k n l m (sym (same b i) ∙ e) (sym (same k j) ∙ f)));
      else = λ b l. dite (ℕ_discrete b used) (λ i. inr (c + 1, (omega arith, omega arith, omega arith), ap (block_of p z q) i ∙ new))
          (λ i. ⊎_elim (λ f. inl (same b i ∙ f))
          (λ r. let le = r.1 in let near = r.2 in inr (r.0, (omega arith, omega arith, omega arith), same b i ∙ r.3)) (back.else b l));
      zero = λ r. let near = r.1 in let is = back.zero begun near in same 0 (not_used 0 (first p) is) ∙ is;
      unreclaimed = reclaimed;
    }
