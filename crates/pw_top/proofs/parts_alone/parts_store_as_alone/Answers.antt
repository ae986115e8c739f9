use Rattle.pw_top.proofs.AloneLemmas.{all_alone}
use Rattle.pw_top.proofs.parts_alone.parts_store_as_alone.Goals as goal

pub returns : goal.returns
returns c = λ names loaded s e p l is q so. all_alone c.args.script.now names loaded s e p l is q so
