use Rattle.std.proofs.Common.{◌≡◌, ◌++◌, ℕ, List, [], subst}
use Rattle.std.specs.Prelude.{OnOk}
use Rattle.word_hints.specs.Guesses.{guesses, question}
use Rattle.pod_text.specs.LineFaults.{dump_names}
use Rattle.pod_text.proofs.line_faults.put_first_name.Goals as goal

pub returns : goal.returns
returns c = subst (λ (w : List ℕ). OnOk c.put_dump_name.result (c.put_dump_name.new.text ≡ c.args.text.now ++ question [] (guesses w dump_names)))
    c.first_word.ensures c.put_dump_name.ensures
