use Rattle.std.proofs.Common.{arith, ◌≡◌, ◌+◌, ◌≤◌, length, ◌∙◌, ap, ◌++◌, ◌∷◌, [], length-append, append_assoc}
use Rattle.std.specs.Fmt.{decimal}
use Rattle.run_results.proofs.StatusLineLemmas.{length-decimal_u32}
use Rattle.run_results.proofs.status_line.put_part.Goals as goal

pub put_number-requires : goal.put_number-requires
put_number-requires c =
    let one : length c.push.new.self ≡ length c.args.line.now + 1 = ap length c.push.ensures ∙ length-append c.args.line.now (32 ∷ []) in
    let ten : length (decimal c.args.n) ≤ 10 = length-decimal_u32 c.args.n (omega arith) in
    omega arith

pub returns-clause-value : goal.returns-clause-value
returns-clause-value c = c.put_number.ensures ∙ ap (λ line. line ++ decimal c.args.n) c.push.ensures
    ∙ append_assoc c.args.line.now (32 ∷ []) (decimal c.args.n)

pub returns-clause-len : goal.returns-clause-len
returns-clause-len c =
    let one : length c.push.new.self ≡ length c.args.line.now + 1 = ap length c.push.ensures ∙ length-append c.args.line.now (32 ∷ []) in
    let ten : length (decimal c.args.n) ≤ 10 = length-decimal_u32 c.args.n (omega arith) in
    let all : length c.put_number.new.line ≡ length c.push.new.self + length (decimal c.args.n) =
    ap length c.put_number.ensures ∙ length-append c.push.new.self (decimal c.args.n) in
    omega arith
