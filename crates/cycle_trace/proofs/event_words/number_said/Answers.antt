use Rattle.std.proofs.Common.{sym, ap, subst, ◌∙◌, arith}
use Rattle.std.specs.Str.{IsUtf8}
use Rattle.std.specs.Result.{result_ok}
use Rattle.std.proofs.lemmas.Str.{IsUtf8-from_ascii}
use Rattle.std.proofs.lemmas.Fmt.{IsAscii-decimal, parse-decimal}
use Rattle.cycle_trace.proofs.event_words.number_said.Goals as goal

pub returns-in-Ok : goal.returns-in-Ok
returns-in-Ok c = λ n lt e.
    c.ok.ensures.value ∙ ap result_ok (parse-decimal 32 n c.in-Ok.text.now c.parse.result lt (omega arith)
    (c.in-Ok.ensures.cases.0 ∙ e) c.parse.ensures.value.0)

pub returns-in-Err : goal.returns-in-Err
returns-in-Err c = λ n lt e.
    absurd (c.in-Err.ensures.cases.0 (subst IsUtf8 (sym e) (IsUtf8-from_ascii _ (IsAscii-decimal n (omega arith)))))
