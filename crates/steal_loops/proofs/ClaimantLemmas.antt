-- What a thread takes cells with, from call to call.
use Rattle.std.proofs.Common.{◌≡◌, ◌≢◌, ℕ, ◌<◌, Bool, true, false, true≢false, List, [], ◌∷◌, length, get_or, set, sym, ap, ◌∙◌, subst, arith, ⊎_elim}
use Rattle.std.proofs.Common.{length-set, get_or-set_other, slice_get, Option, Some}
use Rattle.std.specs.Prelude.{All}
use Rattle.std.proofs.lemmas.Bool.{cases_eq}
use Rattle.ready_queues.specs.AnsweredWith.{IsWayOf}
use Rattle.data_loop.specs.declared.loop_state.LoopState.{LoopState}
use Rattle.data_loop.specs.Loops.{plan_of}
use Rattle.steal_shelf.specs.declared.shelf.ShelfSeat.{ShelfSeat}
use Rattle.steal_shelf.specs.declared.token.Token.{Token}
use Rattle.steal_shelf.specs.Fetching.{HasFetched, HasFoundOut, HasPutBack, AreOthersLeft}
use Rattle.steal_shelf.specs.Seats.{cells_of, IsSeatOf, IsAllowed, turn_at, left_at, LacksCell}
use Rattle.steal_shelf.proofs.CellLemmas.{finished}
use Rattle.steal_loops.specs.declared.shared.Shared.{Shared}
use Rattle.steal_loops.specs.declared.claimant.Claimant.{Claimant}
use Rattle.steal_loops.specs.working.Cells.{AreCells, IsFinished, HasFinished, HaveFinished}
use Rattle.steal_loops.specs.working.Claimants.{IsClaimant}
use Rattle.steal_loops.specs.working.Visits.{HasHadOnce}

-- with another way
pub again : (shared : Shared) (t u : Claimant) → IsClaimant shared t → u.seat ≡ t.seat → IsWayOf shared.ways u.way
    → u.ended.items ≡ t.ended.items → IsClaimant shared u
again shared t u h seat answered same = record {
  seat = subst (IsSeatOf shared.shelf) (sym seat) h.seat;
  rests = λ i low. subst (λ (x : ShelfSeat). LacksCell x i) (sym seat) (h.rests i low);
  answered = answered;
  flags = ap (λ (l : List Bool). length l) same ∙ h.flags;
  ended = λ i d low up. subst (λ (x : ShelfSeat). HasFinished shared x i) (sym seat)
      (h.ended i d low (ap (λ (l : List Bool). get_or l i d) (sym same) ∙ up));
}

-- the last state in which the seat put a cell back
abbrev last_left : ShelfSeat → ℕ → Token → Option LoopState
last_left seat k d = slice_get (left_at seat k d) 0

-- after a try of the cell i that found it out
module _ (shared : Shared) (t u : Claimant) (i : ℕ) (h : IsClaimant shared t) (out : HasFoundOut i t.seat u.seat)
    (others : AreOthersLeft i t.seat u.seat) where
  out_rests : (j : ℕ) → j < length (cells_of shared.shelf) → LacksCell u.seat j
  out_rests j low d = ⊎_elim
      (λ (here : j ≡ i). subst (λ k. turn_at u.seat k d ≡ false) (sym here) (out.same d ∙ ap (λ k. turn_at t.seat k d) (sym here) ∙ h.rests j low d))
      (λ (other : j ≢ i). ap (λ (x : Token). x.seat.me.0.has) (others j d other) ∙ h.rests j low d)
      (cases_eq j i)

  out_finished : (j : ℕ) → HasFinished shared t.seat j → HasFinished shared u.seat j
  out_finished j f = (
    f.0,
    λ d. ⊎_elim
        (λ (here : j ≡ i). subst (λ k. last_left u.seat k d ≡ Some f.0) (sym here)
        (ap (λ (l : List LoopState). slice_get l 0) (out.left d) ∙ ap (λ k. last_left t.seat k d) (sym here) ∙ f.1 d))
        (λ (other : j ≢ i). ap (λ (x : Token). slice_get x.seat.me.0.left 0) (others j d other) ∙ f.1 d)
        (cases_eq j i),
    f.2,
  )

  pub tried : IsSeatOf shared.shelf u.seat → IsWayOf shared.ways u.way → u.ended.items ≡ t.ended.items → IsClaimant shared u
  tried seat answered same = record {
    seat = seat;
    rests = out_rests;
    answered = answered;
    flags = ap (λ (l : List Bool). length l) same ∙ h.flags;
    ended = λ j d low up. out_finished j (h.ended j d low (ap (λ (l : List Bool). get_or l j d) (sym same) ∙ up));
  }

-- a seat that fetched the cell i and put it back
pub had_once : (i : ℕ) (found back : LoopState) (old mid new : ShelfSeat) → HasFetched i found old mid → AreOthersLeft i old mid
    → HasPutBack i back mid new → AreOthersLeft i mid new → HasHadOnce i found back old new
had_once i found back old mid new took others_took put others_put = record {
  took = λ d. put.took d ∙ took.took d;
  left = λ d. put.left d ∙ ap (λ (l : List LoopState). back ∷ l) (took.left d);
  tries = λ d. put.tries d ∙ took.tries d;
  lacks = put.lacks;
  others = λ j d other. others_put j d other ∙ others_took j d other;
}

-- after a visit that fetched the cell i and put it back in the state s
module _ (shared : Shared) (t u : Claimant) (i : ℕ) (s : LoopState) (mid : ShelfSeat) (h : IsClaimant shared t)
    (fetched : AreOthersLeft i t.seat mid) (others : AreOthersLeft i mid u.seat) (put : HasPutBack i s mid u.seat) where
  other_token : (j : ℕ) (d : Token) → j ≢ i → get_or u.seat.tokens.items j d ≡ get_or t.seat.tokens.items j d
  other_token j d other = others j d other ∙ fetched j d other

  back_rests : (j : ℕ) → j < length (cells_of shared.shelf) → LacksCell u.seat j
  back_rests j low d = ⊎_elim
      (λ (here : j ≡ i). subst (λ k. turn_at u.seat k d ≡ false) (sym here) (put.lacks d))
      (λ (other : j ≢ i). ap (λ (x : Token). x.seat.me.0.has) (other_token j d other) ∙ h.rests j low d)
      (cases_eq j i)

  other_finished : (j : ℕ) → j ≢ i → HasFinished shared t.seat j → HasFinished shared u.seat j
  other_finished j other f = (f.0, λ d. ap (λ (x : Token). slice_get x.seat.me.0.left 0) (other_token j d other) ∙ f.1 d, f.2)

  -- its flag was down, and is
  pub stepped : IsSeatOf shared.shelf u.seat → IsWayOf shared.ways u.way → u.ended.items ≡ t.ended.items
      → ((d : Bool) → get_or t.ended.items i d ≡ false) → IsClaimant shared u
  stepped seat answered same down = record {
    seat = seat;
    rests = back_rests;
    answered = answered;
    flags = ap (λ (l : List Bool). length l) same ∙ h.flags;
    ended = λ j d low up. let was : get_or t.ended.items j d ≡ true = ap (λ (l : List Bool). get_or l j d) (sym same) ∙ up in ⊎_elim
        (λ (here : j ≡ i). absurd (true≢false (sym was ∙ ap (λ k. get_or t.ended.items k d) here ∙ down d)))
        (λ (other : j ≢ i). other_finished j other (h.ended j d low was))
        (cases_eq j i);
  }

  -- its flag is up now
  pub flagged : IsSeatOf shared.shelf u.seat → IsWayOf shared.ways u.way → u.ended.items ≡ set t.ended.items i true
      → IsFinished shared i s → IsClaimant shared u
  flagged seat answered up_now end = record {
    seat = seat;
    rests = back_rests;
    answered = answered;
    flags = ap (λ (l : List Bool). length l) up_now ∙ (length-set t.ended.items i true ∙ h.flags);
    ended = λ j d low up. ⊎_elim
        (λ (here : j ≡ i). subst (HasFinished shared u.seat) (sym here) (s, λ d. ap (λ (l : List LoopState). slice_get l 0) (put.left d), end))
        (λ (other : j ≢ i). other_finished j other (h.ended j d low
        (sym (ap (λ (l : List Bool). get_or l j d) up_now ∙ get_or-set_other t.ended.items i j true d other) ∙ up)))
        (cases_eq j i);
  }

-- with all flags up
pub all_ended : (shared : Shared) (t : Claimant) → IsClaimant shared t → All (λ e. e ≡ true) t.ended.items → HaveFinished shared t.seat
all_ended shared t h all i low = let n = h.flags in h.ended i true low (all i true (omega (arith, low, n)))

-- a cell that was found at its end
pub at_end : (shared : Shared) (i : ℕ) (s : LoopState) → AreCells shared → IsAllowed shared.shelf i s → s.epoch ≡ length (plan_of s).epochs
    → IsFinished shared i s
at_end shared i s cells h end = let f = cells.each i h.0 h.1 in let e = finished shared.boards h.0 s f.loop f.boards_are h.2 end in
    record { cell = h.0; there = h.1; done = e.0; same = e.1 }

-- a seat knows the cells of its shelf
token_there : (l : List Token) (i : ℕ) → i < length l → Token
token_there [] i low = absurd (omega (arith, low))
token_there (x ∷ xs) i low = x

same_cells : (a b : Shared) (seat : ShelfSeat) (i : ℕ) → IsSeatOf a.shelf seat → IsSeatOf b.shelf seat → i < length (cells_of a.shelf)
    → cells_of a.shelf ≡ cells_of b.shelf
same_cells a b seat i h k low = let m = h.count in let n = k.count in
    let d : Token = token_there seat.tokens.items i (omega (arith, low, m)) in
    sym (h.tokens i d low).made ∙ (k.tokens i d (omega (arith, low, m, n))).made

-- so what a seat left at its end is so for each run that it is a seat of
pub finished_in : (a b : Shared) (t u : ShelfSeat) → IsSeatOf a.shelf t → IsSeatOf b.shelf t → HaveFinished b u → HaveFinished a u
finished_in a b t u h k all i low = let same = same_cells a b t i h k low in
    let f : HasFinished b u i = all i (subst (λ (l : List LoopState). i < length l) same low) in let end = f.2 in (
      f.0,
      f.1,
      record { cell = end.cell; there = subst (λ (l : List LoopState). slice_get l i ≡ Some end.cell) (sym same) end.there; done = end.done; same = end.same },
    )
