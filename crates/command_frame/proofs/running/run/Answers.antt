use Rattle.std.proofs.Common.{refl, ap, ◌∙◌, rules}
use Rattle.command_frame.specs.Outside.{outside}
use Rattle.command_frame.proofs.HeadlineLemmas.{follows, kept, no_fault, complete}
use Rattle.command_frame.proofs.KeepingLemmas.{stores_nothing}
use Rattle.command_frame.proofs.running.run.Goals as goal

pub returns-clause-told : goal.returns-clause-told
returns-clause-told g c = λ h.
    let p = c.prepare_words-made.ensures in
    let e = p.told h in
    let before = outside g.F.Files g.O.Sink c.args.files.now c.args.out.now in
    let loaded = outside g.F.Files g.O.Sink c.prepare_words-made.new.files c.args.out.now in
    let end = outside g.F.Files g.O.Sink c.finish.new.files c.finish.new.out in (
      e.answer,
      e.allowed,
      follows g.S.Ending.statuses e.answer before end c.prepare_words-made.result _ _ c.finish.result p.cause e.ends
          (kept g.S.Ending.statuses before loaded end c.prepare_words-made.result c.finish.result p.files.held p.files.stores refl refl
          c.finish.ensures.finished),
    )

pub returns-clause-cause : goal.returns-clause-cause
returns-clause-cause g c = search (rules)

pub returns-clause-complete : goal.returns-clause-complete
returns-clause-complete g c = λ none.
    let before = outside g.F.Files g.O.Sink c.args.files.now c.args.out.now in
    let end = outside g.F.Files g.O.Sink c.finish.new.files c.finish.new.out in
    let plain = no_fault g.S.Ending.statuses before end c.finish.result (returns-clause-cause g c) none in
    record {
      no_fault = plain;
      answer = λ h.
          let t = returns-clause-told g c h in
          (t.0, t.1, complete g.S.Ending.statuses t.0 before end c.finish.result t.2 plain);
    }

pub returns-clause-kept : goal.returns-clause-kept
returns-clause-kept g c = λ none.
    let p = c.prepare_words-made.ensures in
    let same = c.finish.ensures.none (stores_nothing g.P.Program.delivers c.prepare_words-made.result none p.work) in
    record {
      held = ap g.F.Files.held same ∙ p.files.held;
      stores = ap g.F.Files.store_faults same ∙ p.files.stores;
    }
