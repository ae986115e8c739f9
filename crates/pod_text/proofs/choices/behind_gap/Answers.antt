-- A piece too many.
use Rattle.std.proofs.Common.{◌∙◌, ◌∷◌, sym, ap, List, ℕ}
use Rattle.std.specs.List.{slice_split}
use Rattle.pod_text.specs.ChoiceWords.{is_dot, behind_first}
use Rattle.pod_text.proofs.ChoiceLemmas.{some_pieces, none_dots}
use Rattle.pod_text.proofs.choices.behind_gap.Goals as goal

pub returns-in-Some-clause-said : goal.returns-in-Some-clause-said
returns-in-Some-clause-said c =
    let pieces = rw c.in-Some.is at c.next_piece.ensures.pieces in
    none_dots c.args.min.now c.args.gap.now c.next_piece.result.0.now (slice_split is_dot c.in-Some._more.now)
    (some_pieces is_dot c.in-Some._more.now)
    ∙ ap (λ (ps : List (List ℕ)). behind_first c.args.min.now (c.args.gap.now ∷ ps)) (sym pieces)
