-- A step on one cell leaves the others as they are.
use Rattle.std.proofs.Common.{◌≡◌, ◌≢◌, ◌⊎◌, ℕ, set, get_or, sym, ap, ◌∙◌, ⊎_elim, inl, inr}
use mathlib.Core.Option.{some, some-injective}
use lib.ListN.{get_elem?}
use Rattle.atomic_table.proofs.Lists.{at_set, set_else}
use Rattle.data_loop.specs.declared.loop_state.LoopState.{LoopState}
use Rattle.steal_shelf.specs.declared.view.CellView.{CellView}
use Rattle.steal_shelf.specs.ShelfRule.{ShelfState, HasTurn, IsHome, IsOut}

-- the seat id had a view of the cell i, and has another; of the other words and slots nothing changed
pub record Beside (i id : ℕ) (v w : CellView) (s t : ShelfState) : Type 0 where
  pub at : get_elem? s.views id ≡ some v
  pub old : v.cell ≡ i
  pub new : w.cell ≡ i
  pub views : t.views ≡ set s.views id w
  pub words : (j : ℕ) → j ≢ i → get_or t.words j 0 ≡ get_or s.words j 0
  pub homes : (j : ℕ) → j ≢ i → get_elem? t.homes j ≡ get_elem? s.homes j

module _ (i id : ℕ) (v w : CellView) (s t : ShelfState) (b : Beside i id v w s t) (j : ℕ) (other : j ≢ i) where
  -- a turn of j is that of another seat, and was before
  turn_before : (k : ℕ) (u : CellView) → get_elem? t.views k ≡ some u → HasTurn j u → (k ≢ id) × (get_elem? s.views k ≡ some u)
  turn_before k u e turn = let e' : get_elem? (set s.views id w) k ≡ some u = ap (λ l. get_elem? l k) (sym b.views) ∙ e in
      ⊎_elim (λ h. absurd (other (sym turn.0 ∙ ap (λ (x : CellView). x.cell) (sym h.1) ∙ b.new)))
      (λ h. h) (at_set s.views id k w u e')

  turn_after : (k : ℕ) (u : CellView) → get_elem? s.views k ≡ some u → HasTurn j u → get_elem? t.views k ≡ some u
  turn_after k u e turn = let ne : k ≢ id = λ is. other (sym turn.0 ∙ ap (λ (x : CellView). x.cell)
      (some-injective u v (sym e ∙ ap (get_elem? s.views) is ∙ b.at)) ∙ b.old) in
      ap (λ l. get_elem? l k) b.views ∙ set_else s.views id k w ne ∙ e

  home : (c : LoopState) → IsHome j c s → IsHome j c t
  home c h = record {
    word = b.words j other ∙ h.word;
    state = h.state;
    slot = b.homes j other ∙ h.slot;
    allowed = h.allowed;
    nobody = λ k u e turn. h.nobody k u ((turn_before k u e turn).1) turn;
  }

  out : IsOut j s → IsOut j t
  out h = record {
    word = b.words j other ∙ h.word;
    slot = b.homes j other ∙ h.slot;
    owner = h.owner;
    view = h.view;
    there = turn_after h.owner h.view h.there h.has;
    has = h.has;
    alone = λ k u e turn. h.alone k u ((turn_before k u e turn).1) turn;
  }

  pub beside : (c : LoopState) → IsHome j c s ⊎ IsOut j s → IsHome j c t ⊎ IsOut j t
  beside c h = ⊎_elim (λ x. inl (home c x)) (λ x. inr (out x)) h
