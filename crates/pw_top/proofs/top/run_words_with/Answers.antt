use Rattle.std.proofs.Common.{map, subst, sym, refl, rules}
use Rattle.std.specs.Prelude.{string_bytes}
use Rattle.command_frame.specs.Outside.{outside}
use Rattle.command_frame.proofs.HeadlineLemmas.{follows, kept, no_fault, complete}
use Rattle.run_results.specs.Statuses.{statuses}
use Rattle.pw_top.specs.Found.{IsFound}
use Rattle.pw_top.specs.Playing.{happened}
use Rattle.pw_top.specs.WorkFound.{IsWorkFound}
use Rattle.pw_top.proofs.FoundLemmas.{found_ends}
use Rattle.pw_top.proofs.PlayingLemmas.{run_played}
use Rattle.pw_top.proofs.top.run_words_with.Goals as goal

pub returns-clause-told : goal.returns-clause-told
returns-clause-told g c = λ h.
    let p = c.prepare_words-made.ensures in
    let made = c.prepare_words-made.result in
    let status = c.finish-status.result in
    let before = outside g.F.Files g.O.Sink c.args.files.now c.args.out.now in
    let loaded = outside g.F.Files g.O.Sink c.prepare_words-made.new.files c.args.out.now in
    let end = outside g.F.Files g.O.Sink c.finish-status.new.files c.finish-status.new.out in
    let done = kept statuses before loaded end made status p.files.held p.files.stores refl refl c.finish-status.ensures.finished in
    let e = p.told h in
    let now = happened c.prepare_words-made.new.played (g.K.Ticker.ticks c.args.ticker.now)
    (g.K.Ticker.ticks c.prepare_words-made.new.ticker) in (
      e.answer,
      e.allowed,
      follows statuses e.answer before end made _ _ status p.cause e.ends done,
      run_played e.answer now before end made _ _ status p.cause e.ends e.played done,
    )

pub returns-clause-cause : goal.returns-clause-cause
returns-clause-cause g c = search (rules)

pub returns-clause-complete : goal.returns-clause-complete
returns-clause-complete g c = λ none.
    let status = c.finish-status.result in
    let before = outside g.F.Files g.O.Sink c.args.files.now c.args.out.now in
    let end = outside g.F.Files g.O.Sink c.finish-status.new.files c.finish-status.new.out in
    let plain = no_fault statuses before end status (returns-clause-cause g c) none in
    record {
      no_fault = plain;
      answer = λ h.
          let t = returns-clause-told g c h in
          (t.0, t.1, complete statuses t.0 before end status t.2 plain);
    }

pub returns-clause-found : goal.returns-clause-found
returns-clause-found g c =
    let p = c.prepare_words-made.ensures in
    let made = c.prepare_words-made.result in
    let status = c.finish-status.result in
    let before = outside g.F.Files g.O.Sink c.args.files.now c.args.out.now in
    let loaded = outside g.F.Files g.O.Sink c.prepare_words-made.new.files c.args.out.now in
    let end = outside g.F.Files g.O.Sink c.finish-status.new.files c.finish-status.new.out in
    let done = kept statuses before loaded end made status p.files.held p.files.stores refl refl c.finish-status.ensures.finished in
    subst (IsFound (map string_bytes c.args.words.now) (g.F.Files.held c.args.files.now) status) (sym c.found_after.ensures)
    ((found_ends _ _ before end (map string_bytes c.args.words.now) (g.F.Files.held c.args.files.now) c.prepare_words-made.new.found made status
    p.cause done p.script p.what).0)

pub returns-clause-work : goal.returns-clause-work
returns-clause-work g c =
    let p = c.prepare_words-made.ensures in
    let made = c.prepare_words-made.result in
    let status = c.finish-status.result in
    let before = outside g.F.Files g.O.Sink c.args.files.now c.args.out.now in
    let loaded = outside g.F.Files g.O.Sink c.prepare_words-made.new.files c.args.out.now in
    let end = outside g.F.Files g.O.Sink c.finish-status.new.files c.finish-status.new.out in
    let done = kept statuses before loaded end made status p.files.held p.files.stores refl refl c.finish-status.ensures.finished in
    subst (λ f. IsWorkFound status before.held end.held before.given end.given f.work) (sym c.found_after.ensures)
    ((found_ends _ _ before end (map string_bytes c.args.words.now) (g.F.Files.held c.args.files.now) c.prepare_words-made.new.found made status
    p.cause done p.script p.what).1)
