use Rattle.std.proofs.Common.{◌<◌, sym, subst}
use Rattle.steal_shelf.proofs.ShelfLemmas.{deals}
use Rattle.steal_shelf.proofs.token.deal.Goals as goal

pub split_seat-requires : goal.split_seat-requires
split_seat-requires g c = let t = c.args.root.now in (
  c.requires.own,
  subst (λ n. 0 < n) (sym c.args.shelf.now.count) c.requires.some,
  deals c.args.shelf.now.table.shared.key.cells.value t.id g.N.Numbered.number t.me.0,
)
