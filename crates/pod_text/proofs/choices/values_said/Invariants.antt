-- The pieces that are left, after the values so far, make the values of the word.
use Rattle.std.proofs.Common.{◌≡◌, length, All}
use Rattle.std.specs.Prelude.{Some, fold}
use Rattle.std.specs.List.{slice_split}
use Rattle.pod_codec.specs.SoundChoices.{IsOfType}
use Rattle.pod_text.specs.ChoiceWords.{is_bar, with_number, values_said}
use Rattle.pod_text.proofs.choices.values_said.Given as goal

abbrev pub invariant-pieces : goal.invariant-pieces
invariant-pieces l = record {
  read : fold with_number (Some l.values) (slice_split is_bar l.rest) ≡ values_said l.fn.word;
  ints : All (IsOfType 4) l.values;
}

abbrev pub decreases-pieces : goal.decreases-pieces
decreases-pieces l = length l.rest
