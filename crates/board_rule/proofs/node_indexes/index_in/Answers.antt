use Rattle.std.proofs.Common.{◌∙◌}
use Rattle.std.specs.Prelude.{unwrap_or}
use Rattle.board_rule.proofs.activation.RowLemmas.{place_or_end}
use Rattle.board_rule.proofs.node_indexes.index_in.Goals as goal

pub returns : goal.returns
returns c = c.unwrap_or.ensures ∙ (λ i. unwrap_or (c.find_index.ensures i) (c.len.ensures i)) ∙ place_or_end c.args.shape.now c.args.node
