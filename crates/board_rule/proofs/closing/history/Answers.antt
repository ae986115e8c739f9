use Rattle.std.proofs.Common.{arith, ◌≡◌, ◌∙◌, ◌+◌, ◌<◌, ℕ, List, length, get_or, ◌∷◌, [], ◌++◌, sym}
use Rattle.std.proofs.lemmas.List.{take_more}
use Rattle.std.proofs.lemmas.Option.{slice_get-get_or}
use Rattle.pw_graph.specs.declared.event.Event.{Event}
use Rattle.pw_graph.specs.declared.event.Event.TheVariants.{Begin}
use Rattle.board_rule.proofs.events.ClosingLemmas.{word_at}
use Rattle.board_rule.proofs.closing.history.Goals as goal

pub event_at-requires-clause-is : goal.event_at-requires-clause-is
event_at-requires-clause-is c = let all = c.requires.recorded.0 in let r = c.requires.recorded.1 in let t : ℕ = c.loop-t.t in
    let ws : List ℕ = c.args.words.now.words.items in
    let count = r.count in let end : get_or ws 0 0 ≡ c.word-t-end.result = word_at ws 0 c.word-t-end.result c.word-t-end.ensures in
    let near : t < length all = omega arith in let d : Event = Begin 0 in (
      get_or all t d,
      sym (word_at ws (c.args.events + t) c.word-word.result c.word-word.ensures)
          ∙ r.each t (get_or all t d) (slice_get-get_or all t d near),
      r.ranges t d near,
      r.late t d near,
    )

pub loop-t-preserved : goal.loop-t-preserved
loop-t-preserved c = let t : ℕ = c.loop-t.t in let ws : List ℕ = c.args.words.now.words.items in
    let end : get_or ws 0 0 ≡ c.word-t-end.result = word_at ws 0 c.word-t-end.result c.word-t-end.ensures in let i = c.loop-t.invariant in
    let i₁ = i.1 in let spare = c.push_spare.ensures.spare in (
      λ all r. let count = r.count in let near : t < length all = omega arith in let d : Event = Begin 0 in
          let item : c.event_at.result ≡ get_or all t d =
          c.event_at.ensures (get_or all t d) (sym (word_at ws (c.args.events + t) c.word-word.result c.word-word.ensures)
          ∙ r.each t (get_or all t d) (slice_get-get_or all t d near)) (r.ranges t d near) (r.late t d near) in
          c.push_spare.ensures.list ∙ (λ j. i.0 all r j ++ item j ∷ []) ∙ sym (take_more all t d near),
      omega arith,
    )
