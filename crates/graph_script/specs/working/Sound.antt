-- What holds of the lines so far, whatever they have said. Source: this project's own.
use Rattle.std.specs.Prelude.{◌≡◌, ℕ, ◌<◌, length, All, false, get_or}
use Rattle.std.specs.List.{enumerate_from}
use Rattle.graph_script.specs.declared.reading.Reading.{Reading}
use Rattle.graph_script.specs.declared.progress.Progress.{Progress}
use Rattle.graph_script.specs.Earlier.{is_linked, epochs_so_far}
use Rattle.graph_script.specs.Kinds.{made_of, HasPorts}
use Rattle.graph_script.specs.Making.{all_grown}
use Rattle.graph_script.specs.Order.{HasOrder}
use Rattle.graph_script.specs.Ranges.{HasRanges}

-- numbers, names and nodes are in range, the nodes have the kinds, the ports are there
pub record IsSound (reading : Reading) : Type 0 where
  pub script : HasRanges reading.script
  pub order : HasOrder reading.script
  pub made : made_of reading.script.lines ≡ enumerate_from 0 reading.kinds
  pub grown : all_grown 0 reading.script.lines ≡ length reading.script.names
  pub named : length reading.kinds ≡ length reading.script.names
  pub ports : All (λ l. HasPorts reading.kinds l.command) reading.script.lines

-- and what is kept beside them is read off them: which nodes a link line names, and the number of
-- epochs
pub record IsConsistent (progress : Progress) : Type 0 where
  pub sound : IsSound progress.reading
  pub length : length progress.linked ≡ 64
  pub linked : (n : ℕ) → n < 64
      → get_or progress.linked n false ≡ is_linked progress.reading n
  pub epochs : progress.epochs ≡ epochs_so_far progress.reading
