-- Order: what else holds of every script that is read, of its lines and names together. Source:
-- this project's own.
use Rattle.std.specs.Prelude.{◌≢◌, ◌<◌, ◌≤◌, All, AllPairs, count_by, codes}
use Rattle.graph_script.specs.declared.script.Script.{Script}
use Rattle.graph_script.specs.Limits.{epochs_limit}
use Rattle.graph_script.specs.Earlier.{is_epoch}
use Rattle.graph_script.specs.Making.{NamesMade}

-- line numbers ascend; no two nodes have one name, and no node has that of the built-in driver;
-- epochs are in their limit; a line names only nodes that it or a line before it makes
pub record HasOrder (script : Script) : Type 0 where
  pub ascend : AllPairs (λ a b. a.line < b.line) script.lines
  pub distinct : AllPairs (λ a b. a ≢ b) script.names
  pub other : All (λ name. name ≢ codes "dummy") script.names
  pub epochs : count_by (λ l. is_epoch l.command) script.lines ≤ epochs_limit
  pub made : NamesMade 0 script.lines
