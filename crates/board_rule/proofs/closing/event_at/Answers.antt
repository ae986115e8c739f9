use Rattle.std.proofs.Common.{◌∙◌, ap}
use Rattle.pw_graph.specs.EventWords.{event_in}
use Rattle.board_rule.proofs.events.ClosingLemmas.{event_read, tick_read}
use Rattle.board_rule.proofs.closing.event_at.Goals as goal

pub returns-in-Tick : goal.returns-in-Tick
returns-in-Tick c = λ e w r l. tick_read c.args.first c.args.lates c.args.words.now.words.items e c.in-Tick.cycle c.in-Tick.late
    c.word.result (c.in-Tick.ensures ∙ ap (λ k. event_in k 0) w ∙ event_read e r.2) l c.word.ensures
