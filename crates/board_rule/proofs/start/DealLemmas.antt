-- Laws of `specs/working/Dealing.antt`: entries as they are counted and dealt.
use Rattle.std.proofs.Common.{◌≡◌, ◌∙◌, ◌+◌, ◌<◌, ◌≤◌, inl, inr, ℕ, List, [], ◌∷◌, ◌++◌, cond, eqb, take, length, set, slice_index}
use Rattle.std.proofs.Common.{get_or, map, refl, sym, ap, subst, arith, eq-eqb, ne_eqb, append-nil}
use Rattle.std.specs.Prelude.{slice_index_or}
use Rattle.std.proofs.lemmas.Bool.Decides.{eqb_tells}
use Rattle.std.proofs.lemmas.List.{length-map, length-set, get_or-set_same, get_or-set_other}
use Rattle.std.proofs.lemmas.List.Sums.{count_by_more_yes, count_by_more_no}
use Rattle.board_rule.specs.start.Owners.{own, own_before}
use Rattle.board_rule.specs.working.Dealing.{AreDealt}
use Rattle.board_rule.proofs.start.OwnerLemmas.{own_more}

-- the count of the next entry's owner is one more, and no other
pub counted : (os counts : List ℕ) (n most j : ℕ) → n < length os → length counts ≡ most + 1 → slice_index os n ≤ most → j ≤ most
    → ((k : ℕ) → k ≤ most → slice_index counts k ≡ own_before k os n)
    → slice_index (set counts (slice_index os n) (slice_index counts (slice_index os n) + 1)) j ≡ own_before j os (n + 1)
counted os counts n most j low width few inside are = let k = slice_index os n in elim (eqb_tells j k) [
  | inl w ↦ ap (λ i. slice_index (set counts k (slice_index counts k + 1)) i) w.1
      ∙ get_or-set_same counts k (slice_index counts k + 1) 0 (omega arith) ∙ ap (λ z. z + 1) (are k few)
      ∙ sym (count_by_more_yes (λ o. eqb o k) os n 0 low (eq-eqb k k (λ i. k)))
      ∙ ap (λ i. own_before i os (n + 1)) (sym w.1)
  | inr w ↦ get_or-set_other counts k j (slice_index counts k + 1) 0 w.1 ∙ are j inside
      ∙ sym (count_by_more_no (λ o. eqb o j) os n 0 low (ne_eqb k j (λ e. w.1 (sym e))))
]

module _ {A : Type 0} (os : List ℕ) (xs : List A) (n : ℕ) (x : A) (low : n < length os) (long : length os ≡ length xs) (is : x ≡ get_or xs n x) where
  -- the next entry is the seat's, or it is not
  yes : (k : ℕ) → get_or os n 0 ≡ k → own k (take n os) (take n xs) ++ x ∷ [] ≡ own k (take (n + 1) os) (take (n + 1) xs)
  yes k e = ap (λ y. own k (take n os) (take n xs) ++ y ∷ []) is
      ∙ ap (λ b. own k (take n os) (take n xs) ++ cond b (get_or xs n x ∷ []) []) (sym (eq-eqb (get_or os n 0) k e))
      ∙ sym (own_more k os xs n 0 x low (omega arith))

  no : (k : ℕ) → (get_or os n 0 ≡ k → ⊥) → own k (take n os) (take n xs) ≡ own k (take (n + 1) os) (take (n + 1) xs)
  no k e = sym (append-nil (own k (take n os) (take n xs)))
      ∙ ap (λ b. own k (take n os) (take n xs) ++ cond b (get_or xs n x ∷ []) []) (sym (ne_eqb (get_or os n 0) k e))
      ∙ sym (own_more k os xs n 0 x low (omega arith))

  -- it is dealt to its owner, and to no other
  pub dealt_more : (lists : List (List A)) (most k : ℕ) → length lists ≡ most + 1 → slice_index os n ≤ most → k ≤ most
      → ((j : ℕ) → j ≤ most → slice_index_or lists j [] ≡ own j (take n os) (take n xs))
      → slice_index_or (set lists (slice_index os n) (slice_index_or lists (slice_index os n) [] ++ x ∷ [])) k []
      ≡ own k (take (n + 1) os) (take (n + 1) xs)
  dealt_more lists most k width few inside are = let o = slice_index os n in let new = slice_index_or lists o [] ++ x ∷ [] in elim (eqb_tells k o) [
    | inl w ↦ ap (λ i. slice_index_or (set lists o new) i []) w.1 ∙ get_or-set_same lists o new [] (omega arith)
        ∙ ap (λ l. l ++ x ∷ []) (are o few) ∙ yes o refl ∙ ap (λ i. own i (take (n + 1) os) (take (n + 1) xs)) (sym w.1)
    | inr w ↦ get_or-set_other lists o k new [] w.1 ∙ are k inside ∙ no k (λ e. w.1 (sym e))
  ]

-- the list of the first seat that is left is taken, or that of the last
module _ {A : Type 0} (os : List ℕ) (xs : List A) (low high : ℕ) (lists : List (List A)) where
  pub taken_first : (new : List (List A)) → AreDealt os xs low high lists → new ≡ set lists low [] → AreDealt os xs (low + 1) high new
  taken_first new h is = subst (AreDealt os xs (low + 1) high) (sym is) record {
    count = let a = length-set lists low [] in let b = h.count in omega arith;
    each = λ k l u. get_or-set_other lists low k [] [] (λ e. omega arith) ∙ h.each k (omega arith) u;
  }

  pub taken_last : (new : List (List A)) → AreDealt os xs low (high + 1) lists → new ≡ set lists high [] → AreDealt os xs low high new
  taken_last new h is = subst (AreDealt os xs low high) (sym is) record {
    count = let a = length-set lists high [] in let b = h.count in omega arith;
    each = λ k l u. get_or-set_other lists high k [] [] (λ e. omega arith) ∙ h.each k l (omega arith);
  }

  pub but_last : AreDealt os xs low (high + 1) lists → AreDealt os xs low high lists
  but_last h = record { count = let b = h.count in omega arith; each = λ k l u. h.each k l (omega arith) }

-- as many lists as seats
pub dealt_long : {A B : Type 0} (f : B → List A) (os : List ℕ) (xs : List A) (low high : ℕ) (lists : List B)
    → AreDealt os xs low high (map f lists) → high ≤ length lists
dealt_long f os xs low high lists h = let a = length-map lists f in let b = h.count in omega arith
