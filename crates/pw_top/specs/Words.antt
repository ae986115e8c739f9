-- The words of a command that name its files: one, two or three.
-- Source: this project's own grammar, docs/FORMATS.md.
use Rattle.std.specs.Prelude.{ℕ, List, Result}
use Rattle.command_frame.specs.Words.{Words, then_file, then_nothing}
use Rattle.pw_top.specs.declared.usage.FileWords.{FileWords}
use Rattle.pw_top.specs.declared.usage.FilePair.{FilePair}

unfoldable pub one_file : Words → Result (List ℕ) ℕ
one_file words = then_file 1 words (λ file rest. then_nothing 2 rest file)

unfoldable pub two_files : Words → Result FilePair ℕ
two_files words = then_file 1 words (λ a bs. then_file 2 bs
    (λ b rest. then_nothing 3 rest (record { first = a; second = b })))

unfoldable pub three_files : Words → Result FileWords ℕ
three_files words = then_file 1 words (λ a bs. then_file 2 bs (λ b outs. then_file 3 outs
    (λ c rest. then_nothing 4 rest (record { first = a; second = b; third = c }))))
