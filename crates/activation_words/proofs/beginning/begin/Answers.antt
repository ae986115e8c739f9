use Rattle.board_rule.proofs.events.BitLemmas.{woke_bits}
use Rattle.activation_words.proofs.beginning.begin.Goals as goal

pub returns-clause-woke : goal.returns-clause-woke
returns-clause-woke c n = woke_bits _ n
