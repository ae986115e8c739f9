use Rattle.std.proofs.Common.{◌∙◌, ℕ, eqb, sym, subst}
use prog.Atomic.{either}
use Rattle.atomic_table.specs.Table.{Allows}
use Rattle.pw_graph.specs.Words.{awake_word, triggered_word}
use Rattle.board_rule.specs.declared.board_shape.BoardShape.{BoardShape}
use Rattle.board_rule.specs.Layout.{layout_of}
use Rattle.board_rule.specs.BoardRule.{Holds}
use Rattle.board_rule.specs.working.Plays.{Leaves}
use Rattle.board_rule.proofs.StepLemmas.{claims}
use Rattle.board_rule.proofs.steps.activation.claim.Goals as goal

pub compare_exchange-requires : goal.compare_exchange-requires
compare_exchange-requires g c = let b = c.args.board.now in let p = layout_of b.board_shape in let t = c.args.token.now in
    let slots : ℕ = b.table.shared.table_id.slots in let after = g.C.Change.after in (
      c.requires.table,
      c.status_word-word.ensures.there,
      subst (λ (k : BoardShape × ℕ × ℕ × ℕ). Allows (Holds (layout_of k.0)) slots t.id t.me k.1 (λ n. either (eqb n k.2) k.3 n) (Leaves after t.me))
          (λ i. (
            sym b.about i,
            sym c.status_word-word.ensures.is i,
            sym (c.triggered-old.ensures ∙ (λ j. triggered_word (c.requires.cycle j))) i,
            sym (c.awake-new.ensures ∙ (λ j. awake_word (c.requires.cycle j))) i,
          ))
          (claims p slots t.id t.me after g.C.Change.is_driver c.args.at c.requires.phase c.requires.after),
    )
