use Rattle.std.proofs.Common.{◌<◌, ℕ, refl, sym, ap, ◌∙◌, subst}
use Rattle.std.specs.Vec.{with_item}
use Rattle.std.proofs.lemmas.List.{get_or_default}
use Rattle.steal_shelf.specs.declared.token.Token.{Token}
use Rattle.steal_shelf.specs.Seats.{IsTokenOf}
use Rattle.steal_shelf.proofs.SeatLemmas.{seat_again, others_left, allowed_of, rested_token, hand_is, put_again}
use Rattle.steal_shelf.proofs.shelf.Shelf.put_back.Goals as goal

pub put_token-requires-clause-has : goal.put_token-requires-clause-has
put_token-requires-clause-has c = let f = c.args.self.now in let i : ℕ = c.args.cell in let x : Token = c.index_mut.result.now in
    let t : IsTokenOf f i x = subst (IsTokenOf f i) (sym c.index_mut.ensures.value) (c.requires.seat.tokens i x c.requires.cell) in
    let has = ap (λ (z : Token). z.seat.me.0.has) c.index_mut.ensures.value ∙ c.requires.has x in (has, hand_is f i x t has)

pub put_token-requires-clause-allowed : goal.put_token-requires-clause-allowed
put_token-requires-clause-allowed c = let f = c.args.self.now in let i : ℕ = c.args.cell in let x : Token = c.index_mut.result.now in
    let t : IsTokenOf f i x = subst (IsTokenOf f i) (sym c.index_mut.ensures.value) (c.requires.seat.tokens i x c.requires.cell) in
    allowed_of f i x t c.args.state c.requires.allowed

pub returns-clause-seat : goal.returns-clause-seat
returns-clause-seat c = let f = c.args.self.now in let i : ℕ = c.args.cell in let x : Token = c.index_mut.result.now in
    let y : Token = c.put_token.new.token in
    let t : IsTokenOf f i x = subst (IsTokenOf f i) (sym c.index_mut.ensures.value) (c.requires.seat.tokens i x c.requires.cell) in
    seat_again f c.args.seat.now _ i y c.requires.seat c.requires.cell refl
    (rested_token f i x y t c.put_token.ensures.own.0 c.put_token.ensures.own.1 c.args.state c.put_token.ensures.rests.0 c.put_token.ensures.rests.1)

pub returns-clause-others : goal.returns-clause-others
returns-clause-others c = others_left c.args.self.now c.args.seat.now (record { tokens = with_item c.args.seat.now.tokens c.args.cell c.put_token.new.token }) c.args.cell c.put_token.new.token c.requires.seat c.requires.cell refl

pub returns-clause-back : goal.returns-clause-back
returns-clause-back c = let f = c.args.self.now in let old = c.args.seat.now in let i : ℕ = c.args.cell in
    let x : Token = c.index_mut.result.now in let y : Token = c.put_token.new.token in
    let low = subst (λ n. i < n) (sym c.requires.seat.count) c.requires.cell in
    put_again f old (record { tokens = with_item old.tokens i y }) i x y c.requires.seat c.requires.cell refl
    (λ d. sym (c.index_mut.ensures.value ∙ get_or_default old.tokens.items i x d low)) c.args.state c.put_token.ensures.rests.0
