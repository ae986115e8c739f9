use Rattle.std.proofs.Common.{◌∙◌, ap, List, ℕ, ◌++◌}
use Rattle.std.proofs.lemmas.Result.{on_ok_weaker}
use Rattle.cycle_trace.proofs.TextLemmas.{line_made}
use Rattle.cycle_trace.proofs.link_lines.append_link_line.Goals as goal

pub returns : goal.returns
returns c = on_ok_weaker c.end_line.result
    (λ end. line_made _ _ _ _ _ _ _ _ _ _ (c.in_ok-extend.ensures.ok ∙ ap (λ (w : List ℕ). c.args.text.now ++ w) c.first_word.ensures)
    c.in_ok-append_endpoint.ensures c.in_ok-append_endpoint-2.ensures c.in_ok-append_details.ensures end)
    c.end_line.ensures
