use Rattle.std.proofs.Common.{arith, ◌≡◌, ◌+◌, ◌/◌, ◌^◌, ◌<◌, length, ◌∙◌, ap, ◌++◌, ◌%◌, ◌∷◌, [], length-append}
use Rattle.std.specs.Fmt.{decimal}
use Rattle.run_results.proofs.StatusLineLemmas.{decimal_one, decimal_more, length-decimal_more, length-decimal_one}
use Rattle.run_results.proofs.status_line.+put_number.Goals as goal

pub push-requires : goal.push-requires
push-requires t c = omega (arith, length-decimal_one c.args.n c.if-n-lt10.true)

pub put_number-requires : goal.put_number-requires
put_number-requires t c =
    let small : c.args.n < 2 ^ 64 = omega arith in
    let more : length (decimal c.args.n) ≡ length (decimal (c.args.n / 10)) + 1 = length-decimal_more c.args.n c.if-n-lt10.false small in
    (omega arith, omega arith)

pub push-requires-else-n-lt10 : goal.push-requires-else-n-lt10
push-requires-else-n-lt10 t c =
    let small : c.args.n < 2 ^ 64 = omega arith in
    let more : length (decimal c.args.n) ≡ length (decimal (c.args.n / 10)) + 1 = length-decimal_more c.args.n c.if-n-lt10.false small in
    let here : length c.put_number.new.line ≡ length c.args.line.now + length (decimal (c.args.n / 10)) =
    ap length c.put_number.ensures ∙ length-append c.args.line.now (decimal (c.args.n / 10)) in
    omega arith

pub returns-then-n-lt10 : goal.returns-then-n-lt10
returns-then-n-lt10 t c = c.push.ensures ∙ decimal_one c.args.line.now c.args.n c.if-n-lt10.true

pub returns-else-n-lt10 : goal.returns-else-n-lt10
returns-else-n-lt10 t c =
    let small : c.args.n < 2 ^ 64 = omega arith in
    c.push-else-n-lt10.ensures ∙ ap (λ line. line ++ (48 + c.args.n % 10) ∷ []) c.put_number.ensures
    ∙ decimal_more c.args.line.now c.args.n c.if-n-lt10.false small
