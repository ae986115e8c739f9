use Rattle.std.proofs.Common.{arith, ◌∙◌, ◌<◌, ◌≤◌, ◌+◌, ℕ}
use Rattle.board_rule.proofs.start.DealLemmas.{dealt_long, taken_last, but_last}
use Rattle.board_rule.proofs.shares.shares_of.Goals as goal

pub take-reads-requires : goal.take-reads-requires
take-reads-requires c = let n = dealt_long (λ v. v.items) _ _ _ _ _ c.in_ok-shares.ensures.reads_are in omega arith

pub returns-clause-driver : goal.returns-clause-driver
returns-clause-driver c = let n : ℕ = c.args.board_shape.now.seats in let low : 0 ≤ n = omega arith in let inside : n < n + 1 = omega arith in
    c.take-reads.ensures.mine ∙ c.in_ok-shares.ensures.reads_are.each n low inside

pub returns-clause-loops : goal.returns-clause-loops
returns-clause-loops c = let h = c.in_ok-shares.ensures in record {
  nodes_are = but_last _ _ _ _ _ h.nodes_are;
  writes_are = but_last _ _ _ _ _ h.writes_are;
  reads_are = taken_last _ _ _ _ _ _ h.reads_are c.take-reads.ensures.rest;
  blocks_are = but_last _ _ _ _ _ h.blocks_are;
}
