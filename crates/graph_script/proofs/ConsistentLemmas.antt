-- What is kept beside the lines so far agrees with them.
use Rattle.std.proofs.Common.{◌≡◌, ℕ, ◌+◌, ◌≤◌, false, length, get_or, replicate, sym, ◌∙◌, ap, subst, arith}
use Rattle.std.specs.Prelude.{Option, Some, None}
use Rattle.std.proofs.lemmas.List.{get_or-replicate, length-replicate}
use Rattle.graph_script.specs.declared.reading.Made.{Made}
use Rattle.graph_script.specs.declared.reading.ParsedLine.{ParsedLine}
use Rattle.graph_script.specs.declared.reading.Reading.{Reading}
use Rattle.graph_script.specs.declared.progress.Progress.{Progress}
use Rattle.graph_script.specs.Limits.{epochs_limit}
use Rattle.graph_script.specs.Earlier.{epochs_so_far, is_linked}
use Rattle.graph_script.specs.Grammar.{reading_after, start}
use Rattle.graph_script.specs.working.Progress.{marked, counted, AreBefore}
use Rattle.graph_script.specs.Ranges.{HasNodes}
use Rattle.graph_script.specs.working.Sound.{IsSound, IsConsistent}
use Rattle.graph_script.proofs.FitLemmas.{added, IsFit}
use Rattle.graph_script.proofs.HasNodesLemmas.{HasNodes-more}
use Rattle.graph_script.proofs.SoundLemmas.{reading_after-sound, start-sound}
use Rattle.graph_script.proofs.EarlierLemmas.{epochs-after, linked-after, length-marked}

added-one : (made : Option Made) → added made ≤ 1
added-one None = omega arith
added-one (Some m) = omega arith

-- the nodes of a line are numbers below 64
pub nodes_within : (reading : Reading) (parsed : ParsedLine) → IsSound reading → IsFit reading parsed → HasNodes 64 parsed.command
nodes_within reading parsed sound fit =
    let one = added-one parsed.made in
    let few = sound.script.count in
    HasNodes-more (length reading.script.names + added parsed.made) 64 parsed.command (omega arith) fit.nodes

pub few_epochs : (progress : Progress) → IsConsistent progress → progress.epochs ≤ epochs_limit
few_epochs progress consistent = subst (λ n. n ≤ epochs_limit) (sym consistent.epochs) consistent.sound.order.epochs

pub consistent-after : (number : ℕ) (progress after : Progress) (parsed : ParsedLine) → 1 ≤ number → AreBefore number progress.reading → IsConsistent progress
    → IsFit progress.reading parsed → after.reading ≡ reading_after number progress.reading (Some parsed)
    → after.linked ≡ marked progress.linked parsed.command → after.epochs ≡ counted progress.epochs parsed.command → IsConsistent after
consistent-after number progress after parsed one before consistent fit r l e =
    let there = nodes_within progress.reading parsed consistent.sound fit in
    record {
      sound = subst IsSound (sym r) (reading_after-sound number progress.reading parsed one before consistent.sound fit);
      length = ap length l ∙ length-marked progress.linked parsed.command ∙ consistent.length;
      linked = λ n lt.
          ap (λ xs. get_or xs n false) l
          ∙ linked-after number progress.reading parsed progress.linked consistent.length there consistent.linked n lt
          ∙ ap (λ x. is_linked x n) (sym r);
      epochs = e ∙ ap (λ n. counted n parsed.command) consistent.epochs ∙ sym (epochs-after number progress.reading parsed)
          ∙ ap epochs_so_far (sym r);
    }

pub start-consistent : (progress : Progress) → progress.reading ≡ start → progress.linked ≡ replicate 64 false → progress.epochs ≡ 0
    → IsConsistent progress
start-consistent progress r l e = record {
  sound = subst IsSound (sym r) start-sound;
  length = ap length l ∙ length-replicate 64 false;
  linked = λ n lt. ap (λ xs. get_or xs n false) l ∙ get_or-replicate 64 n false false lt ∙ ap (λ x. is_linked x n) (sym r);
  epochs = e ∙ ap epochs_so_far (sym r);
}
