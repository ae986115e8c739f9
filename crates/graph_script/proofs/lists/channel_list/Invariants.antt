use Rattle.std.proofs.Common.{◌≡◌, ◌≤◌, length}
use Rattle.std.specs.List.{slice_split}
use Rattle.graph_script.specs.Arguments.{is_comma, channel_list}
use Rattle.graph_script.proofs.ListLemmas.{listed}
use Rattle.graph_script.proofs.lists.channel_list.Given as goal

-- the items that are left, after the numbers that were read, make the list
abbrev pub invariant-loop-n : goal.invariant-loop-n
invariant-loop-n l = record {
  parsed : listed l.channels l.list (slice_split is_comma l.rest) ≡ channel_list l.channels l.fn.word;
  few : length l.list ≤ 8;
}

abbrev pub decreases-loop-n : goal.decreases-loop-n
decreases-loop-n l = length l.rest
