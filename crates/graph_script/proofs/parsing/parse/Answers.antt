use Rattle.std.proofs.Common.{◌+◌, [], sym, ap, ◌∙◌, subst, arith}
use Rattle.std.proofs.lemmas.List.Elements.{All-nil}
use Rattle.graph_script.specs.Lexical.{lines_of}
use Rattle.graph_script.specs.Grammar.{script_from, script_of}
use Rattle.graph_script.specs.working.Progress.{AreBefore}
use Rattle.graph_script.proofs.GrammarLemmas.{goes_on, stops, ends, same_fault}
use Rattle.graph_script.proofs.SoundLemmas.{sound-kinds}
use Rattle.graph_script.proofs.parsing.parse.Goals as goal

pub loop-fault-init : goal.loop-fault-init
unfolding script_of
loop-fault-init c = record {
  consistent = c.start-progress.ensures.consistent;
  numbered = omega arith;
  before = subst (AreBefore 1) (sym c.start-progress.ensures.parsed) (All-nil _);
  count = omega arith;
  parsed = ap (λ r. script_from 1 r (lines_of c.args.bytes.now)) c.start-progress.ensures.parsed;
}

pub returns-in-Err-clause-parsed : goal.returns-in-Err-clause-parsed
returns-in-Err-clause-parsed c =
    same_fault _ (script_of c.args.bytes.now) c.in-Err.fault c.in-Err.ensures.read
    (λ h. sym c.loop-fault.invariant.parsed ∙ stops c.loop-fault.number c.loop-fault.progress.reading c.next_piece.result.0.now
    (lines_of c.loop-fault.rest.now) _ c.in-Err.fault c.next_piece.ensures.pieces h)

pub returns-in-None-clause-parsed : goal.returns-in-None-clause-parsed
returns-in-None-clause-parsed c =
    let last = rw c.in-None.is at c.next_piece.ensures.pieces in
    sym c.loop-fault.invariant.parsed
    ∙ goes_on c.loop-fault.number c.loop-fault.progress.reading c.in-Ok.next.reading c.next_piece.result.0.now
    (lines_of c.loop-fault.rest.now) [] last c.in-Ok.ensures.read
    ∙ ends (c.loop-fault.number + 1) c.in-Ok.next.reading

pub returns-in-None-clause-ranges : goal.returns-in-None-clause-ranges
returns-in-None-clause-ranges c = c.in-Ok.ensures.consistent.sound.script

pub returns-in-None-clause-kinds : goal.returns-in-None-clause-kinds
returns-in-None-clause-kinds c = sound-kinds c.in-Ok.next.reading c.in-Ok.ensures.consistent.sound

pub returns-in-None-clause-order : goal.returns-in-None-clause-order
returns-in-None-clause-order c = c.in-Ok.ensures.consistent.sound.order

pub loop-fault-preserved : goal.loop-fault-preserved
loop-fault-preserved c =
    let more = rw c.in-Some.is at c.next_piece.ensures.pieces in
    let shorter = rw c.in-Some.is at c.next_piece.ensures.shorter in
    record {
      consistent = c.in-Ok.ensures.consistent;
      numbered = omega arith;
      before = c.in-Ok.ensures.before;
      count = omega (arith, shorter);
      parsed = sym (goes_on c.loop-fault.number c.loop-fault.progress.reading c.in-Ok.next.reading c.next_piece.result.0.now
          (lines_of c.loop-fault.rest.now) (lines_of c.in-Some.more.now) more c.in-Ok.ensures.read)
          ∙ c.loop-fault.invariant.parsed;
    }
