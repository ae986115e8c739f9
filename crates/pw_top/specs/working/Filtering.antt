-- What a filter found, by as much of its files as is read: of the second's bytes; of the second;
-- of the first's bytes and the second. Source: this project's own.
use Rattle.std.specs.Prelude.{ℕ, List, Ok}
use Rattle.pw_outside.specs.Files.{Names}
use Rattle.format_filter.specs.declared.format.Format.{Format}
use Rattle.run_results.specs.declared.found.What.{What}
use Rattle.pw_top.specs.FormatFile.{HoldsFormat}
use Rattle.pw_top.specs.FilterFound.{IsFoundOf, GivesFormat}

pub record IsFoundWith (first : Format) (bytes : List ℕ) (what : What) : Type 0 where
  pub second : Format
  pub read : HoldsFormat 2 bytes (Ok second)
  pub found : IsFoundOf first second what

pub record IsFoundAfter (names : Names) (b : List ℕ) (first : Format) (what : What)
    : Type 0 where
  pub second : Format
  pub second_held : GivesFormat names 2 b second
  pub found : IsFoundOf first second what

pub record IsFoundFrom (names : Names) (b bytes : List ℕ) (what : What) : Type 0 where
  pub first : Format
  pub read : HoldsFormat 1 bytes (Ok first)
  pub found : IsFoundAfter names b first what
