use Rattle.std.proofs.Common.{◌∙◌, sym, ap, cond, w64}
use Rattle.std.proofs.lemmas.Nat.Bits.{bit_at_set_same, bit_at_set_other}
use Rattle.steal_loops.proofs.signs.noted.Goals as goal

pub returns-then-more-clause-here : goal.returns-then-more-clause-here
returns-then-more-clause-here c = bit_at_set_same w64 c.args.set c.args.node c.requires.below ∙ sym (ap (λ b. cond b 1 0) c.if-more.true)

pub returns-then-more-clause-others : goal.returns-then-more-clause-others
returns-then-more-clause-others c = bit_at_set_other w64 c.args.set c.args.node c.requires.below
