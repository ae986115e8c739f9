-- The links dealt so far, and one more.
use Rattle.std.proofs.Common.{◌≡◌, ◌≢◌, ℕ, ◌+◌, ◌<◌, ◌≤◌, ◌==◌, List, [], ◌∷◌, ◌++◌, take, map, length, get_or, sym, ap, ◌∙◌, subst, arith, ⊎_elim}
use Rattle.std.specs.Prelude.{filter, set}
use Rattle.std.specs.List.{enumerate_from}
use Rattle.std.proofs.lemmas.Bool.{eq-eqb, ne_eqb, cases_eq}
use Rattle.std.proofs.lemmas.List.{length-set, get_or-set_same, get_or-set_other}
use Rattle.pw_graph.specs.declared.shape.ShapeLink.{ShapeLink}
use Rattle.data_loop.specs.declared.inputs.Input.{Input}
use Rattle.data_loop.specs.Gathering.{input_from}
use Rattle.data_loop.proofs.PairLemmas.{picked_yes, picked_no}

-- the links into a node
abbrev pub into : List ShapeLink → ℕ → List Input
into links n = map input_from (filter (λ e. e.1.to.node == n) (enumerate_from 0 links))

abbrev pub AreSoFar : List ShapeLink → List (List Input) → Type 0
AreSoFar links dealt = (n : ℕ) (d : List Input) → n < length dealt → get_or dealt n d ≡ into links n

module _ (links : List ShapeLink) (i : ℕ) (d : ShapeLink) (low : i < length links) where
  -- the node that the link i leads to
  abbrev to : ℕ
  to = (get_or links i d).to.node

  abbrev input : Input
  input = input_from (i, get_or links i d)

  hit : (n : ℕ) → to ≡ n → into (take (i + 1) links) n ≡ into (take i links) n ++ input ∷ []
  hit n e = picked_yes (λ (y : ℕ × ShapeLink). y.1.to.node == n) input_from links i d low (eq-eqb _ _ e)

  miss : (n : ℕ) → to ≢ n → into (take (i + 1) links) n ≡ into (take i links) n
  miss n ne = picked_no (λ (y : ℕ × ShapeLink). y.1.to.node == n) input_from links i d low (ne_eqb _ _ ne)

  pub one_dealt : (dealt : List (List Input)) (old new : List Input) → AreSoFar (take i links) dealt → to < length dealt
      → old ≡ get_or dealt to old → new ≡ old ++ input ∷ [] → AreSoFar (take (i + 1) links) (set dealt to new)
  one_dealt dealt old new h inside was now n e few = let long = length-set dealt to new in
      ⊎_elim
      (λ (is : to ≡ n). subst (λ k. get_or (set dealt to new) k e ≡ into (take (i + 1) links) k) is
      (get_or-set_same dealt to new e inside ∙ now ∙ ap (λ (l : List Input). l ++ input ∷ []) (was ∙ h to old inside)
      ∙ sym (hit to (λ j. to))))
      (λ (ne : to ≢ n). get_or-set_other dealt to n new e (λ is. ne (sym is)) ∙ h n e (omega (arith, few, long)) ∙ sym (miss n ne))
      (cases_eq to n)

  pub none_dealt : (dealt : List (List Input)) → AreSoFar (take i links) dealt → (count : ℕ) → count ≡ length dealt → count ≤ to
      → AreSoFar (take (i + 1) links) dealt
  none_dealt dealt h count long past n e few = h n e few ∙ sym (miss n (λ is. omega (arith, is, long, past, few)))
