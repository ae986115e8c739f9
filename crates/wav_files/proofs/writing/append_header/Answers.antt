use Rattle.std.proofs.Common.{◌∙◌, ◌++◌, List, ℕ, ap, rules}
use Rattle.wav_files.proofs.writing.append_header.Goals as goal

pub returns-clause-bytes : goal.returns-clause-bytes
returns-clause-bytes c = c.in-Ok.ensures.items ∙ ap (λ (header : List ℕ). c.args.to.now.items ++ header) (search rules)
