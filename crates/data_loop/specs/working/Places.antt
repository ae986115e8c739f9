-- Where each pool of an epoch is among a loop's own ones, as the loop keeps it.
-- Source: this project's own.
use Rattle.std.specs.Prelude.{ℕ, List, set, replicate}
use Rattle.data_loop.specs.declared.places.Kept.{Kept}
use Rattle.data_loop.specs.declared.places.Kept.TheVariants.{Row, One}

-- the place of each pool; where one at most is an own one, 0 at it and their number at each other
abbrev pub kept_places : Kept → List ℕ
kept_places (Row row) = row
kept_places (One first count pools) = set (replicate pools count) first 0
