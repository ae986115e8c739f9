-- The tokens of a new seat, one more; and a seat that has one of each cell.
use Rattle.std.proofs.Common.{◌≡◌, ℕ, ◌<◌, List, [], ◌∷◌, ◌++◌, length, get_or, sym, ap, ◌∙◌, subst, inl, arith}
use mathlib.Core.Logic.{dite}
use native.Mathlib.Decide.{ℕ_discrete}
use Rattle.std.proofs.lemmas.List.{get_or_append_left, length-append}
use Rattle.std.proofs.Math.Seq.{get_or-append_seam}
use Rattle.atomic_table.specs.Seated.{TableId}
use Rattle.steal_shelf.specs.declared.shelf.Shelf.{Shelf}
use Rattle.steal_shelf.specs.declared.shelf.ShelfSeat.{ShelfSeat}
use Rattle.steal_shelf.specs.declared.token.Token.{Token}
use Rattle.steal_shelf.specs.declared.view.CellView.{CellView}
use Rattle.steal_shelf.specs.ShelfRule.{root_view}
use Rattle.steal_shelf.specs.working.ShelfSteps.{ShelfMe}
use Rattle.steal_shelf.specs.Seats.{table_of, cells_of, IsSeatOf, IsNewSeat}
use Rattle.steal_shelf.specs.working.Tokens.{IsDealt, AreDealt}

-- tokens of the cells below the length of a list
abbrev pub AreTokens : TableId → CellView → List Token → Type 0
AreTokens table v xs = (i : ℕ) (d : Token) → i < length xs → IsDealt table v i (get_or xs i d)

pub no_tokens : (table : TableId) (v : CellView) → AreTokens table v []
no_tokens table v i d low = absurd (omega (arith, low))

-- one more token
pub token_more : (table : TableId) (v : CellView) (xs : List Token) (x : Token) → AreTokens table v xs → IsDealt table v (length xs) x
    → AreTokens table v (xs ++ x ∷ [])
token_more table v xs x h one i d low = dite (ℕ_discrete i (length xs))
    (λ is. subst (λ (n : ℕ). IsDealt table v n (get_or (xs ++ x ∷ []) n d)) (sym is)
    (subst (IsDealt table v (length xs)) (sym (get_or-append_seam xs x [] d)) one))
    (λ other. let inside : i < length xs = (let n = length-append xs (x ∷ []) in omega (arith, low, n, other)) in
    subst (IsDealt table v i) (sym (get_or_append_left xs (x ∷ []) d i inside)) (h i d inside))

-- SEATS of a new shelf
module _ (shelf : Shelf) (table : TableId) (same : table ≡ table_of shelf) (v : CellView)
    (is : v ≡ root_view (cells_of shelf)) (seat : ShelfSeat) (h : AreDealt table v (length (cells_of shelf)) seat) where
  pub dealt_seat : IsSeatOf shelf seat
  dealt_seat = record {
    count = h.count;
    tokens = λ i d low. let x = h.each i d low in record {
      table = x.table_is ∙ same;
      cell = x.cell;
      knows = ap (λ (m : ShelfMe). m.0.cell) x.me;
      made = ap (λ (m : ShelfMe). m.0.made) x.me ∙ ap (λ (w : CellView). w.made) is;
      turn = inl (ap (λ (m : ShelfMe). m.0.has) x.me, ap (λ (m : ShelfMe). m.1) x.me);
    };
  }

  pub dealt_new : IsNewSeat shelf seat
  dealt_new = record {
    lacks = λ i low d. ap (λ (m : ShelfMe). m.0.has) (h.each i d low).me;
    bare = λ i d low. (ap (λ (m : ShelfMe). m.0.took) (h.each i d low).me, ap (λ (m : ShelfMe). m.0.left) (h.each i d low).me);
    tries = λ i d low. ap (λ (m : ShelfMe). m.0.tries) (h.each i d low).me;
  }
