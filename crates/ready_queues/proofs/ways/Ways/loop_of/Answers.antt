use Rattle.std.proofs.Common.{◌≡◌, sym, ◌∙◌, ap, arith, get_or, List, ℕ}
use Rattle.std.specs.Prelude.{Some, slice_get}
use Rattle.std.proofs.lemmas.Option.{slice_get-get_or}
use Rattle.ready_queues.proofs.ways.Ways.loop_of.Goals as goal

pub returns-then-number-self-clause-some : goal.returns-then-number-self-clause-some
returns-then-number-self-clause-some c = let ways = c.args.self.now in let n = c.args.node in let same = c.as_slice.ensures in
    let most = ways.owners n 0 c.requires.inside in let is = ap (λ (l : List ℕ). get_or l n 0) same in let other = c.if-number-self.true in
    let at : slice_get ways.owner n ≡ Some (get_or ways.owner n 0) = slice_get-get_or ways.owner n 0 c.requires.inside in (omega arith, at ∙ ap Some (sym is))
