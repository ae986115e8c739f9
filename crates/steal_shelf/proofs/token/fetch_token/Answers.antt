use Rattle.std.proofs.Common.{◌∙◌, ◌<◌, ◌∷◌, Some, sym, ap, subst}
use Rattle.atomic_table.specs.Table.{rest}
use Rattle.steal_shelf.proofs.ShelfLemmas.{tries_cell, found_zero, took_out}
use Rattle.steal_shelf.proofs.token.fetch_token.Goals as goal

pub compare_exchange-requires : goal.compare_exchange-requires
compare_exchange-requires c = let t = c.args.token.now in let s = c.args.shelf.now.table.shared in (
  c.requires.own,
  subst (λ n. t.cell < n) (sym c.args.shelf.now.count) c.requires.inside,
  tries_cell s.key.cells.value s.table_id.slots t.seat.id t.cell t.seat.me (sym c.requires.cell) c.requires.inside,
)

pub exchange-requires : goal.exchange-requires
exchange-requires c = let h = found_zero c.args.token.now.cell c.args.token.now.seat.me c.compare_exchange.result c.compare_exchange.new.seat.me c.if-compare_exchange-ne0.false c.compare_exchange.ensures.2 in (
  c.compare_exchange.ensures.0 ∙ c.requires.own,
  (Some h.1.0, h.1.2 ∙ ap (λ l. (c.args.token.now.cell, Some h.1.0) ∷ l) (sym (ap rest h.1.2))),
)

pub returns-clause-some : goal.returns-clause-some
returns-clause-some c = let t = c.args.token.now in let m = c.compare_exchange.new.seat.me in
    let h = found_zero t.cell t.seat.me c.compare_exchange.result m c.if-compare_exchange-ne0.false c.compare_exchange.ensures.2 in
    took_out t.cell t.seat.me m c.exchange.new.seat.me c.exchange.result h c.exchange.ensures.2 c.exchange.ensures.3
