use Rattle.std.proofs.Common.{◌<◌, ℕ, refl, sym, ◌∙◌, subst}
use Rattle.std.specs.Vec.{with_item}
use Rattle.std.proofs.lemmas.List.{get_or_default}
use Rattle.data_loop.specs.declared.loop_state.LoopState.{LoopState}
use Rattle.steal_shelf.specs.declared.shelf.ShelfSeat.{ShelfSeat}
use Rattle.steal_shelf.specs.declared.token.Token.{Token}
use Rattle.steal_shelf.specs.Seats.{IsTokenOf}
use Rattle.steal_shelf.proofs.SeatLemmas.{seat_again, others_left, map_some, map_none, allowed_is, fetched_token, fetched, found_out}
use Rattle.steal_shelf.proofs.shelf.Shelf.fetch.Goals as goal

pub returns-clause-seat : goal.returns-clause-seat
returns-clause-seat c = let f = c.args.self.now in let old = c.args.seat.now in let i : ℕ = c.args.cell in
    let x : Token = c.index_mut.result.now in let y : Token = c.fetch_token.new.token in
    let t : IsTokenOf f i x = subst (IsTokenOf f i) (sym c.index_mut.ensures.value) (c.requires.seat.tokens i x c.requires.cell) in
    seat_again f old (record { tokens = with_item old.tokens i y }) i y c.requires.seat c.requires.cell refl
    (fetched_token f i x y t c.fetch_token.ensures.own.0 c.fetch_token.ensures.own.1 c.fetch_token.result c.fetch_token.ensures.some c.fetch_token.ensures.none)

pub returns-clause-some : goal.returns-clause-some
returns-clause-some c = let f = c.args.self.now in let old = c.args.seat.now in let i : ℕ = c.args.cell in
    let x : Token = c.index_mut.result.now in let y : Token = c.fetch_token.new.token in
    let new : ShelfSeat = record { tokens = with_item old.tokens i y } in
    let t : IsTokenOf f i x = subst (IsTokenOf f i) (sym c.index_mut.ensures.value) (c.requires.seat.tokens i x c.requires.cell) in
    let low = subst (λ n. i < n) (sym c.requires.seat.count) c.requires.cell in
    map_some c.fetch_token.result _ _
    (λ (s : LoopState) h. (
      fetched f old new i x y c.requires.seat c.requires.cell refl (λ d. sym (c.index_mut.ensures.value ∙ get_or_default old.tokens.items i x d low)) s h.1 h.2,
      allowed_is f i x t s h.0,
    )) c.fetch_token.ensures.some

pub returns-clause-none : goal.returns-clause-none
returns-clause-none c = let f = c.args.self.now in let old = c.args.seat.now in let i : ℕ = c.args.cell in
    let x : Token = c.index_mut.result.now in let y : Token = c.fetch_token.new.token in
    let new : ShelfSeat = record { tokens = with_item old.tokens i y } in
    let low = subst (λ n. i < n) (sym c.requires.seat.count) c.requires.cell in
    map_none c.fetch_token.result _ _
    (λ h. found_out f old new i x y c.requires.seat c.requires.cell refl (λ d. sym (c.index_mut.ensures.value ∙ get_or_default old.tokens.items i x d low)) h.0)
    c.fetch_token.ensures.none

pub returns-clause-others : goal.returns-clause-others
returns-clause-others c = others_left c.args.self.now c.args.seat.now (record { tokens = with_item c.args.seat.now.tokens c.args.cell c.fetch_token.new.token }) c.args.cell c.fetch_token.new.token c.requires.seat c.requires.cell refl
