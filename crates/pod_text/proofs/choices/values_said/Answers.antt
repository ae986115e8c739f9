-- One piece more is a number, or says nothing.
use Rattle.std.proofs.Common.{◌∙◌, ◌≡◌, ◌∷◌, ◌++◌, [], List, All, sym, ap, subst}
use Rattle.std.specs.Prelude.{Some, fold}
use Rattle.std.specs.List.{slice_split}
use Rattle.std.proofs.lemmas.List.Elements.{All-push}
use Rattle.pod_codec.specs.declared.pod.Pod.{Pod}
use Rattle.pod_codec.specs.SoundChoices.{IsOfType}
use Rattle.pod_text.specs.ChoiceWords.{is_bar, with_number, int_of}
use Rattle.pod_text.proofs.ChoiceLemmas.{bad_piece, good_piece}
use Rattle.pod_text.proofs.choices.values_said.Goals as goal

pub returns-in-None-clause-said : goal.returns-in-None-clause-said
returns-in-None-clause-said c =
    sym (bad_piece c.pieces.values c.next_piece.result.0.now (slice_split is_bar c.pieces.rest.now) _ c.next_piece.ensures.pieces
    c.in-None.ensures.is)
    ∙ c.pieces.invariant.read

pub returns-in-None-after-clause-ints : goal.returns-in-None-after-clause-ints
returns-in-None-after-clause-ints c =
    subst (All (IsOfType 4)) (sym c.in_ok-push-in-Some.ensures.ok)
    (All-push (IsOfType 4) c.pieces.values c.int_of.result c.pieces.invariant.ints c.int_of.ensures.int)

pub pieces-preserved : goal.pieces-preserved
pieces-preserved c =
    let more = rw c.in-Some-after.is at c.next_piece.ensures.pieces in
    let pushed : c.push.new.self ≡ c.pieces.values ++ int_of c.in-Some.n ∷ [] =
    c.in_ok-push-in-Some.ensures.ok ∙ ap (λ (v : Pod). c.pieces.values ++ v ∷ []) c.int_of.ensures.is in
    record {
      read = ap (λ (vs : List Pod). fold with_number (Some vs) (slice_split is_bar c.in-Some-after.more.now)) pushed
          ∙ sym (good_piece c.pieces.values c.in-Some.n c.next_piece.result.0.now (slice_split is_bar c.pieces.rest.now)
          (slice_split is_bar c.in-Some-after.more.now) more c.in-Some.ensures.is)
          ∙ c.pieces.invariant.read;
      ints = subst (All (IsOfType 4)) (sym c.in_ok-push-in-Some.ensures.ok)
          (All-push (IsOfType 4) c.pieces.values c.int_of.result c.pieces.invariant.ints c.int_of.ensures.int);
    }
