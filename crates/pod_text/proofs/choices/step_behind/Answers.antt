-- A piece too many.
use Rattle.std.proofs.Common.{◌∙◌, sym, ap, List, ℕ}
use Rattle.std.specs.Prelude.{Some}
use Rattle.std.specs.List.{slice_split}
use Rattle.pod_text.specs.ChoiceWords.{is_slash, behind_max}
use Rattle.pod_text.proofs.ChoiceLemmas.{some_pieces, none_longer}
use Rattle.pod_text.proofs.choices.step_behind.Goals as goal

pub returns-in-Some-clause-said : goal.returns-in-Some-clause-said
returns-in-Some-clause-said c =
    let pieces = rw c.in-Some.is at c.next_piece.ensures.pieces in
    none_longer c.args.min c.args.max c.next_piece.result.0.now (slice_split is_slash c.in-Some._more.now)
    (some_pieces is_slash c.in-Some._more.now)
    ∙ ap (λ (ps : List (List ℕ)). behind_max c.args.min (Some c.args.max) ps) (sym pieces)
