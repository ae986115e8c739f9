use Rattle.std.proofs.Common.{refl}
use Rattle.steal_loops.proofs.NodeSetsLemmas.{both_bits, no_bit}
use Rattle.steal_loops.proofs.signs.Signs.split.Goals as goal

pub returns-in-Some : goal.returns-in-Some
returns-in-Some c = let both = both_bits c.args.woke c.args.self.now.celled c.in-Some.node c.in-Some.ensures.some.1 in record {
  low = c.in-Some.ensures.some.0;
  there = both.0;
  has_cell = both.1;
  gone = c.without.ensures.here;
  others = c.without.ensures.others;
}

pub returns-in-None : goal.returns-in-None
returns-in-None c = (refl, λ n low up. no_bit c.args.woke c.args.self.now.celled n (c.in-None.ensures.none n low) up)
