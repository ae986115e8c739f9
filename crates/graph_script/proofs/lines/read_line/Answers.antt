use Rattle.std.proofs.Common.{◌≡◌, ◌+◌, sym, subst}
use Rattle.std.specs.Prelude.{Ok, Some}
use Rattle.graph_script.specs.Grammar.{meaning_of_line}
use Rattle.graph_script.specs.working.Progress.{AreBefore}
use Rattle.graph_script.proofs.SoundLemmas.{from_words, before-after}
use Rattle.graph_script.proofs.ConsistentLemmas.{nodes_within, consistent-after}
use Rattle.graph_script.proofs.lines.read_line.Goals as goal

pub advanced-requires-clause-there : goal.advanced-requires-clause-there
advanced-requires-clause-there c =
    let means : meaning_of_line c.args.progress.reading c.args.line.now ≡ Ok (Some c.in-Ok-Ok-Some.parsed) = cc (c.in-Ok-Ok-Some.ensures) in
    nodes_within c.args.progress.reading c.in-Ok-Ok-Some.parsed c.requires.consistent.sound
    (from_words c.args.progress.reading c.args.line.now c.in-Ok-Ok-Some.parsed means)

pub returns-in-Ok-clause-consistent : goal.returns-in-Ok-clause-consistent
returns-in-Ok-clause-consistent c =
    let means : meaning_of_line c.args.progress.reading c.args.line.now ≡ Ok (Some c.in-Ok-Ok-Some.parsed) = cc (c.in-Ok-Ok-Some.ensures) in
    consistent-after c.args.number c.args.progress c.in-Ok.after c.in-Ok-Ok-Some.parsed c.requires.numbered c.requires.before c.requires.consistent
    (from_words c.args.progress.reading c.args.line.now c.in-Ok-Ok-Some.parsed means) c.in-Ok.ensures.parsed c.in-Ok.ensures.linked c.in-Ok.ensures.epochs

pub returns-in-Ok-clause-before : goal.returns-in-Ok-clause-before
returns-in-Ok-clause-before c =
    subst (AreBefore (c.args.number + 1)) (sym c.in-Ok.ensures.parsed)
    (before-after c.args.number c.args.progress.reading c.in-Ok-Ok-Some.parsed c.requires.before)
