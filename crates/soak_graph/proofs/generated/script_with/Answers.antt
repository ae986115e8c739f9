-- The text is short, and is read as the script.
use Rattle.std.proofs.Common.{◌≡◌, ◌≤◌, ◌∙◌, length, sym, subst, arith, List, ℕ}
use Rattle.soak_graph.specs.SoakText.{soak_text}
use Rattle.soak_graph.proofs.ScriptLemmas.{text_is_short, read_as, not_refused}
use Rattle.soak_graph.proofs.generated.script_with.Goals as goal

pub parse-requires : goal.parse-requires
parse-requires c =
    let same : c.as_slice.result.now ≡ soak_text c.args.drawn.now.number = c.as_slice.ensures ∙ c.in_ok-text.ensures in
    let short = text_is_short c.args.drawn.now.number in
    let few : length c.as_slice.result.now ≤ 2665 = subst (λ (t : List ℕ). length t ≤ 2665) (sym same) short in
    omega arith

pub returns-in-Ok-clause-script : goal.returns-in-Ok-clause-script
returns-in-Ok-clause-script c =
    let same : c.as_slice.result.now ≡ soak_text c.args.drawn.now.number = c.as_slice.ensures ∙ c.in_ok-text.ensures in
    read_as c.args.drawn.now.number c.as_slice.result.now c.in-Ok.script same c.in-Ok.ensures.parsed

pub unreachable-requires : goal.unreachable-requires
unreachable-requires c =
    let same : c.as_slice.result.now ≡ soak_text c.args.drawn.now.number = c.as_slice.ensures ∙ c.in_ok-text.ensures in
    not_refused c.args.drawn.now.number c.as_slice.result.now c.in-Err-At.field-0-0 c.in-Err-At.field-0-1 c.in-Err-At.field-0 same
    c.in-Err-At.field-0-is c.in-Err-At.ensures.parsed
