-- The tokens of a seat, of which one changes.
use Rattle.std.proofs.Common.{◌≡◌, ℕ, ◌<◌, List, ◌+◌, length, get_or, set, length-set, get_or-set_same, get_or-set_other, true, false, [], ◌∷◌, Option, Some, None, sym, ap, ◌∙◌, subst, inl, inr, ⊎_elim, true≢false}
use Rattle.std.specs.Prelude.{IfSome, IfNone, slice_get}
use mathlib.Core.Logic.{dite}
use native.Mathlib.Decide.{ℕ_discrete}
use Rattle.steal_shelf.specs.declared.shelf.Shelf.{Shelf}
use Rattle.steal_shelf.specs.declared.shelf.ShelfSeat.{ShelfSeat}
use Rattle.steal_shelf.specs.declared.token.Token.{Token}
use Rattle.data_loop.specs.declared.loop_state.LoopState.{LoopState}
use Rattle.steal_shelf.specs.declared.view.CellView.{CellView}
use Rattle.steal_shelf.specs.working.ShelfSteps.{IsCellOf, tried, taken, rested}
use Rattle.steal_shelf.specs.Seats.{IsAllowed, cells_of, IsTokenOf, IsSeatOf}
use Rattle.steal_shelf.specs.Fetching.{AreOthersLeft, HasFetched, HasFoundOut, HasPutBack}

module _ (shelf : Shelf) (old new : ShelfSeat) (i : ℕ) (x : Token) (h : IsSeatOf shelf old) (low : i < length (cells_of shelf))
    (is : new.tokens.items ≡ set old.tokens.items i x) where
  low' : i < length old.tokens.items
  low' = subst (λ n. i < n) (sym h.count) low

  pub seat_again : IsTokenOf shelf i x → IsSeatOf shelf new
  seat_again one = record {
    count = ap (λ (l : List Token). length l) is ∙ length-set old.tokens.items i x ∙ h.count;
    tokens = λ j d inside. dite (ℕ_discrete j i)
        (λ same. subst (λ (t : ℕ × Token). IsTokenOf shelf t.0 t.1)
        (λ k. (sym same k, sym (ap (λ (l : List Token). get_or l j d) is ∙ ap (λ n. get_or (set old.tokens.items i x) n d) same ∙ get_or-set_same old.tokens.items i x d low') k)) one)
        (λ other. subst (IsTokenOf shelf j) (sym (ap (λ (l : List Token). get_or l j d) is ∙ get_or-set_other old.tokens.items i j x d other)) (h.tokens j d inside));
  }

  pub others_left : AreOthersLeft i old new
  others_left j d other = ap (λ (l : List Token). get_or l j d) is ∙ get_or-set_other old.tokens.items i j x d other

  pub here_now : (d : Token) → get_or new.tokens.items i d ≡ x
  here_now d = ap (λ (l : List Token). get_or l i d) is ∙ get_or-set_same old.tokens.items i x d low'

pub map_some : {X : Type 0} (o : Option X) (P Q : X → Type 0) → ((x : X) → P x → Q x) → IfSome o P → IfSome o Q
map_some None P Q f h = h
map_some (Some x) P Q f h = f x h

pub map_none : {X : Type 0} (o : Option X) (P Q : Type 0) → (P → Q) → IfNone o P → IfNone o Q
map_none None P Q f h = f h
map_none (Some x) P Q f h = h

-- the state is allowed, as the shelf and as a token says it
module _ (shelf : Shelf) (i : ℕ) (x : Token) (t : IsTokenOf shelf i x) (s : LoopState) where
  pub allowed_is : IsCellOf x.seat.me.0 s → IsAllowed shelf i s
  allowed_is h = (h.0, sym (λ k. slice_get (t.made k) (t.knows k)) ∙ h.1, h.2)

  pub allowed_of : IsAllowed shelf i s → IsCellOf x.seat.me.0 s
  allowed_of h = (h.0, (λ k. slice_get (t.made k) (t.knows k)) ∙ h.1, h.2)

module _ (shelf : Shelf) (i : ℕ) (x y : Token) (t : IsTokenOf shelf i x) (table : y.seat.table_id ≡ x.seat.table_id) (cell : y.cell ≡ x.cell) where
  pub taken_token : (s : LoopState) → x.seat.me.0.has ≡ false → y.seat.me.0 ≡ taken s x.seat.me.0 → y.seat.me.1 ≡ (x.cell, None) ∷ x.seat.me.1 → IsTokenOf shelf i y
  taken_token s was is out = record {
    table = table ∙ t.table;
    cell = cell ∙ t.cell;
    knows = ap (λ (v : CellView). v.cell) is ∙ t.knows;
    made = ap (λ (v : CellView). v.made) is ∙ t.made;
    turn = ⊎_elim
        (λ e. inr (ap (λ (v : CellView). v.has) is, out ∙ (λ k. (t.cell k, None) ∷ e.1 k)))
        (λ e. absurd (true≢false (sym e.0 ∙ was)))
        t.turn;
  }

  pub tried_token : y.seat.me.0 ≡ tried x.seat.me.0 → y.seat.me.1 ≡ x.seat.me.1 → IsTokenOf shelf i y
  tried_token is same = record {
    table = table ∙ t.table;
    cell = cell ∙ t.cell;
    knows = ap (λ (v : CellView). v.cell) is ∙ t.knows;
    made = ap (λ (v : CellView). v.made) is ∙ t.made;
    turn = ⊎_elim
        (λ e. inl (ap (λ (v : CellView). v.has) is ∙ e.0, same ∙ e.1))
        (λ e. inr (ap (λ (v : CellView). v.has) is ∙ e.0, same ∙ e.1))
        t.turn;
  }

  pub rested_token : (s : LoopState) → y.seat.me.0 ≡ rested (Some s) x.seat.me.0 → y.seat.me.1 ≡ [] → IsTokenOf shelf i y
  rested_token s is none = record {
    table = table ∙ t.table;
    cell = cell ∙ t.cell;
    knows = ap (λ (v : CellView). v.cell) is ∙ t.knows;
    made = ap (λ (v : CellView). v.made) is ∙ t.made;
    turn = inl (ap (λ (v : CellView). v.has) is, none);
  }

-- after a try, by its answer
pub fetched_token : (shelf : Shelf) (i : ℕ) (x y : Token) → IsTokenOf shelf i x → y.seat.table_id ≡ x.seat.table_id → y.cell ≡ x.cell
    → (o : Option LoopState)
    → IfSome o (λ s. IsCellOf x.seat.me.0 s × (x.seat.me.0.has ≡ false) × (y.seat.me.0 ≡ taken s x.seat.me.0) × (y.seat.me.1 ≡ (x.cell, None) ∷ x.seat.me.1))
    → IfNone o ((y.seat.me.0 ≡ tried x.seat.me.0) × (y.seat.me.1 ≡ x.seat.me.1)) → IsTokenOf shelf i y
fetched_token shelf i x y t table cell None some none = tried_token shelf i x y t table cell none.0 none.1
fetched_token shelf i x y t table cell (Some s) some none = taken_token shelf i x y t table cell s some.1 some.2 some.3

-- the hand of a token that has the turn
pub hand_is : (shelf : Shelf) (i : ℕ) (x : Token) → IsTokenOf shelf i x → x.seat.me.0.has ≡ true → x.seat.me.1 ≡ (x.cell, None) ∷ []
hand_is shelf i x t has = ⊎_elim
    (λ e. absurd (true≢false (sym has ∙ e.0)))
    (λ e. e.1 ∙ (λ k. (sym t.cell k, None) ∷ []))
    t.turn

-- what the seat has of the cell, from what the token has
module _ (shelf : Shelf) (old new : ShelfSeat) (i : ℕ) (x y : Token) (h : IsSeatOf shelf old) (low : i < length (cells_of shelf))
    (is : new.tokens.items ≡ set old.tokens.items i y) (was : (d : Token) → get_or old.tokens.items i d ≡ x) where
  now : (d : Token) → get_or new.tokens.items i d ≡ y
  now d = here_now shelf old new i y h low is d

  -- what a token has of the cell, before and after
  module _ {X : Type 0} (f : CellView → X) where
    was_at : (d : Token) → f x.seat.me.0 ≡ f ((get_or old.tokens.items i d).seat.me.0)
    was_at d = ap (λ (z : Token). f z.seat.me.0) (sym (was d))

    now_at : (d : Token) → f ((get_or new.tokens.items i d).seat.me.0) ≡ f y.seat.me.0
    now_at d = ap (λ (z : Token). f z.seat.me.0) (now d)

  pub fetched : (s : LoopState) → x.seat.me.0.has ≡ false → y.seat.me.0 ≡ taken s x.seat.me.0 → HasFetched i s old new
  fetched s lacks takes = record {
    lacked = λ d. sym (was_at (λ (v : CellView). v.has) d) ∙ lacks;
    has = λ d. now_at (λ (v : CellView). v.has) d ∙ ap (λ (v : CellView). v.has) takes;
    took = λ d. now_at (λ (v : CellView). v.took) d ∙ ap (λ (v : CellView). v.took) takes ∙ was_at (λ (v : CellView). s ∷ v.took) d;
    left = λ d. now_at (λ (v : CellView). v.left) d ∙ ap (λ (v : CellView). v.left) takes ∙ was_at (λ (v : CellView). v.left) d;
    tries = λ d. now_at (λ (v : CellView). v.tries) d ∙ ap (λ (v : CellView). v.tries) takes ∙ was_at (λ (v : CellView). v.tries) d;
  }

  pub found_out : y.seat.me.0 ≡ tried x.seat.me.0 → HasFoundOut i old new
  found_out more = record {
    same = λ d. now_at (λ (v : CellView). v.has) d ∙ ap (λ (v : CellView). v.has) more ∙ was_at (λ (v : CellView). v.has) d;
    took = λ d. now_at (λ (v : CellView). v.took) d ∙ ap (λ (v : CellView). v.took) more ∙ was_at (λ (v : CellView). v.took) d;
    left = λ d. now_at (λ (v : CellView). v.left) d ∙ ap (λ (v : CellView). v.left) more ∙ was_at (λ (v : CellView). v.left) d;
    tries = λ d. now_at (λ (v : CellView). v.tries) d ∙ ap (λ (v : CellView). v.tries) more ∙ was_at (λ (v : CellView). v.tries + 1) d;
  }

  pub put_again : (s : LoopState) → y.seat.me.0 ≡ rested (Some s) x.seat.me.0 → HasPutBack i s old new
  put_again s rests = record {
    lacks = λ d. now_at (λ (v : CellView). v.has) d ∙ ap (λ (v : CellView). v.has) rests;
    left = λ d. now_at (λ (v : CellView). v.left) d ∙ ap (λ (v : CellView). v.left) rests ∙ was_at (λ (v : CellView). s ∷ v.left) d;
    took = λ d. now_at (λ (v : CellView). v.took) d ∙ ap (λ (v : CellView). v.took) rests ∙ was_at (λ (v : CellView). v.took) d;
    tries = λ d. now_at (λ (v : CellView). v.tries) d ∙ ap (λ (v : CellView). v.tries) rests ∙ was_at (λ (v : CellView). v.tries) d;
  }
