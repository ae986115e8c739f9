-- The words that a reader has loaded of its block, one after another.
use Rattle.std.proofs.Common.{◌≡◌, ℕ, zero, suc, ◌+◌, ◌<◌, Bool, true, false, List, length, set, refl, ap, ◌∙◌, sym, subst, arith, set-set}
use Rattle.std.proofs.Common.{length-set, get_or-set_same}
use Rattle.board_rule.specs.declared.view.View.{View}
use Rattle.board_rule.specs.Layout.{BoardLayout}
use Rattle.board_rule.specs.buffers.SampleWords.{IsTable}
use Rattle.board_rule.specs.buffers.EndViews.{reader_of}
use Rattle.board_rule.specs.activation.SeatNodes.{HasNode}
use Rattle.board_rule.specs.activation.WorkSteps.{IsRunning}
use Rattle.board_rule.specs.buffers.ReaderSteps.{words_read_of, ReadsBlock, LoadsSample, sample_loaded, samples_read}

abbrev pub loaded_to : View → ℕ → ℕ → View
loaded_to v l zero = v
loaded_to v l (suc k) = record v { words_read = set v.words_read l (suc k) }

module _ (p : BoardLayout) (v : View) (words : List ℕ) where
  -- the view with other counts of loaded words
  abbrev pub loads : View
  loads = record v { words_read = words }

  pub has_loads : (b : Bool) (m : ℕ) → HasNode b p v m → HasNode b p loads m
  has_loads true m h = h
  has_loads false m h = let o = h.0 in (
    record { inside = o.inside; follows = o.follows; loops = o.loops; owned = o.owned; there = o.there; knows = o.knows; owners = o.owners },
    h.1,
    h.2,
  )

  pub runs_loads : (b : Bool) (m : ℕ) → IsRunning b v m → IsRunning b loads m
  runs_loads true m r = r
  runs_loads false m r = r

  pub reads_loads : (b : Bool) (l id : ℕ) → length words ≡ length v.words_read → ReadsBlock b p v l id → ReadsBlock b p loads l id
  reads_loads true l id long h = let r = h.0.0 in let low = r.4 in
      (((r.0, r.1, has_loads true (reader_of p l) r.2, runs_loads true (reader_of p l) r.3, omega arith), h.0.1, h.0.2, h.0.3), h.1)
  reads_loads false l id long h = let r = h.0.0 in let low = r.4 in
      (((r.0, r.1, has_loads false (reader_of p l) r.2, runs_loads false (reader_of p l) r.3, omega arith), h.0.1, h.0.2, h.0.3), h.1)

module _ (b : Bool) (p : BoardLayout) (v : View) (l id : ℕ) (h : ReadsBlock b p v l id) where
  pub may_load : (k : ℕ) → LoadsSample b p (loaded_to v l k) l id k
  may_load zero = (h, omega arith)
  may_load (suc k) = let low = h.0.0.4 in let is : words_read_of (loaded_to v l (suc k)) l ≡ suc k = get_or-set_same v.words_read l (suc k) 0 low in
      (reads_loads p v (set v.words_read l (suc k)) b l id (length-set v.words_read l (suc k)) h, omega arith)

  pub all_is : (k : ℕ) → 0 < k → loaded_to v l k ≡ record v { words_read = set v.words_read l k }
  all_is zero some = absurd (omega arith)
  all_is (suc k) some = refl

  pub loads_more : (k : ℕ) → sample_loaded b p (loaded_to v l k) l k ≡ loaded_to v l (k + 1)
  loads_more zero = refl
  loads_more (suc k) = ap (λ (xs : List ℕ). record v { words_read = xs }) (set-set v.words_read l (suc k) (suc k + 1))
      ∙ sym (all_is (suc k + 1) (omega arith))

  pub samples_same : (k : ℕ) → samples_read b p (loaded_to v l k) l ≡ samples_read b p v l
  samples_same zero = refl
  samples_same (suc k) = by b
    where
      by : (d : Bool) → samples_read d p (loaded_to v l (suc k)) l ≡ samples_read d p v l
      by true = refl
      by false = refl

  pub expect_same : (k : ℕ) → (loaded_to v l k).expect ≡ v.expect
  expect_same zero = refl
  expect_same (suc k) = refl

  -- the same after one more load, whose place is the number of words loaded
  pub last_knows : {n : ℕ} {w x : View} (k : ℕ) → x ≡ sample_loaded b p w l n → w ≡ loaded_to v l k → n ≡ k → x ≡ loaded_to v l (k + 1)
  last_knows {n} {w} {x} k e i same = e ∙ ap (λ (y : View). sample_loaded b p y l n) i
      ∙ ap (λ (m : ℕ). sample_loaded b p (loaded_to v l k) l m) same ∙ loads_more k

  pub last_table : {w : View} (k : ℕ) → IsTable p w.expect → w ≡ loaded_to v l k → IsTable p v.expect
  last_table {w} k t i = subst (IsTable p) (expect_same k) (subst (λ (y : View). IsTable p y.expect) i t)
