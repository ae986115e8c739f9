-- The alternatives so far stand in the text, and those that are left follow.
use Rattle.std.proofs.Common.{◌≡◌, ◌++◌, drop}
use Rattle.std.specs.List.{flat_map}
use Rattle.refused_links.specs.Words.{next_words}
use Rattle.refused_links.proofs.words.put_more.Given as goal

abbrev pub invariant-loop-value : goal.invariant-loop-value
invariant-loop-value l = l.text ++ flat_map next_words (drop l.value-index l.values) ≡ l.fn.text ++ flat_map next_words l.fn.values
