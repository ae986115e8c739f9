-- The first line at fault is that of the list.
use Rattle.std.proofs.Common.{◌∙◌, inl, inr, sym}
use Rattle.graph_script.specs.Lexical.{lines_of}
use Rattle.pod_text.specs.GainList.{gains_of}
use Rattle.pod_text.proofs.GainLemmas.{stops, same_fault}
use Rattle.pod_text.proofs.gains.read_gains.Goals as goal

pub returns-in-Err-clause-read : goal.returns-in-Err-clause-read
returns-in-Err-clause-read c =
    same_fault (gains_of c.args.bytes.now) c.in-Err.fault
    (elim c.in-Err.ensures.err [
      | inl short ↦ inl short
      | inr at ↦ inr (sym c.lines.invariant.read ∙ stops c.lines.number c.lines.before c.lines.items c.next_piece.result.0.now
          (lines_of c.lines.rest.now) _ c.in-Err.fault c.lines.invariant.are.last c.next_piece.ensures.pieces at)
    ])
