use Rattle.std.proofs.Common.{◌≡◌, ◌∙◌, false, sym, arith}
use Rattle.graph_script.specs.Lexical.{lines_of}
use Rattle.fault_messages.specs.Makers.{makes}
use Rattle.fault_messages.proofs.NoteLemmas.{skip_line}
use Rattle.fault_messages.proofs.makers.maker.Goals as goal

pub loop-preserved : goal.loop-preserved
loop-preserved c =
    let more = rw c.in-Some.is at c.next_piece.ensures.pieces in
    let fails : makes c.args.name.now c.next_piece.result.0.now ≡ false = cc (c.makes.ensures, c.if-makes.false) in
    record {
      left = sym (skip_line (makes c.args.name.now) c.args.number c.loop.counter c.next_piece.result.0.now
          (lines_of c.loop.rest.now) (lines_of c.in-Some.more.now) (omega (arith, c.loop-test.true)) more fails)
          ∙ c.loop.invariant.left;
      within = omega arith;
    }
