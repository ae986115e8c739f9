use Rattle.std.proofs.Common.{◌+◌, ◌∷◌, ◌++◌, ◌∙◌, sym, ap, drop, map, string_bytes}
use Rattle.std.proofs.lemmas.List.{at_drop_more}
use Rattle.fault_messages.specs.LinkNotes.{link_notes}
use Rattle.fault_messages.specs.working.LinkSteps.{link_part}
use Rattle.fault_messages.proofs.NoteLemmas.{more_links}
use Rattle.fault_messages.proofs.link_notes.put_link_notes.Goals as goal

pub loop-line-preserved : goal.loop-line-preserved
loop-line-preserved c =
    let words = map string_bytes c.args.words.now in
    let nodes = c.args.nodes.now in
    let refused = c.args.refused.now in
    let text = c.loop-line.text in
    let left = c.loop-line.left.now in
    let line = c.line-item.result in
    let rest = drop (c.loop-line.line-index + 1) c.args.lines.now in
    ap (λ t. t ++ link_notes words nodes refused rest c.links_behind-left.result.now) c.in_ok-put_link_part.ensures
    ∙ (ap (λ ls. text ++ link_part words nodes refused line left ++ link_notes words nodes refused rest ls) c.links_behind-left.ensures
    ∙ (sym (more_links words nodes refused text line rest left)
    ∙ (ap (λ first. text ++ link_notes words nodes refused (first ∷ rest) left) c.line-item.is
    ∙ (sym (at_drop_more (λ ls. text ++ link_notes words nodes refused ls left) c.args.lines.now c.loop-line.line-index line c.loop-line-test.true)
    ∙ c.loop-line.invariant))))
