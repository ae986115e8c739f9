use Rattle.pod_text.proofs.Grown.{grown_4}
use Rattle.pod_text.proofs.usage_faults.put_wrong.Goals as goal

pub returns : goal.returns
returns c = grown_4 _ _ _ _ _ _ _ _ _ c.in_ok-put_word.ensures c.in_ok-extend.ensures.ok c.in_ok-put_rule.ensures c.in_ok-put_meant.ensures
