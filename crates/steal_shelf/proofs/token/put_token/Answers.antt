use Rattle.std.proofs.Common.{◌∙◌, ◌≡◌, ◌<◌, ℕ, [], ◌∷◌, Some, refl, sym, ap, subst}
use Rattle.atomic_table.specs.Table.{Allows, rest}
use Rattle.steal_shelf.specs.ShelfRule.{Holds}
use Rattle.steal_shelf.specs.working.ShelfSteps.{ShelfMe, HasReturned}
use Rattle.steal_shelf.proofs.ShelfLemmas.{returns_cell}
use Rattle.steal_shelf.proofs.token.put_token.Goals as goal

pub store-requires : goal.store-requires
store-requires c = let t = c.args.token.now in let s = c.args.shelf.now.table.shared in let x = c.args.state in let i : ℕ = t.cell in
    let slots : ℕ = s.table_id.slots in let id : ℕ = c.exchange-none.new.seat.id in
    let e : c.exchange-none.new.seat.me ≡ (t.seat.me.0, (i, Some x) ∷ []) = c.exchange-none.ensures.3 ∙ ap (λ l. (t.seat.me.0, (i, Some x) ∷ rest l)) c.requires.has.1 in (
      c.exchange-none.ensures.0 ∙ c.requires.own,
      subst (λ n. i < n) (sym c.args.shelf.now.count) c.requires.inside,
      subst (λ (m : ShelfMe). Allows (Holds s.key.cells.value) slots id m i (λ _. 0) (λ _. HasReturned m)) (sym e)
          (returns_cell s.key.cells.value slots id i (t.seat.me.0, (i, Some x) ∷ []) x (sym c.requires.cell) c.requires.inside c.requires.has.0 refl c.requires.allowed),
    )

pub returns-clause-rests : goal.returns-clause-rests
returns-clause-rests c = let t = c.args.token.now in let x = c.args.state in let i : ℕ = t.cell in
    let e : c.exchange-none.new.seat.me ≡ (t.seat.me.0, (i, Some x) ∷ []) = c.exchange-none.ensures.3 ∙ ap (λ l. (t.seat.me.0, (i, Some x) ∷ rest l)) c.requires.has.1 in
    let h : HasReturned (t.seat.me.0, (i, Some x) ∷ []) c.store.new.seat.me = subst (λ (m : ShelfMe). HasReturned m c.store.new.seat.me) e c.store.ensures.2 in (h.0, h.1)
