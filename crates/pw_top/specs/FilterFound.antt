-- What `filter` found: how its two objects clash.
-- Source: PipeWire's documentation, "SPA POD"; spa/pod/filter.h.
use Rattle.std.specs.Prelude.{◌≡◌, ℕ, List, Ok}
use Rattle.pw_lists.specs.declared.limit.Which.TheVariants as L
use Rattle.pw_outside.specs.Files.{Names}
use Rattle.format_filter.specs.declared.common.Filtered.{Filtered}
use Rattle.format_filter.specs.declared.common.Filtered.TheVariants as F
use Rattle.format_filter.specs.declared.format.Format.{Format}
use Rattle.format_filter.specs.CommonFormat.{Filters}
use Rattle.run_results.specs.declared.clash.Clash.TheVariants.{Types}
use Rattle.run_results.specs.declared.found.What.{What}
use Rattle.run_results.specs.declared.found.What.TheVariants.{Nothing, Clash}
use Rattle.pw_top.specs.Allowed.{IsLoad, Gives}
use Rattle.pw_top.specs.Clashes.{clash_of}
use Rattle.pw_top.specs.FormatFile.{HoldsFormat}
use Rattle.pw_top.specs.PodFile.{pod_file_limit}

-- by what the filter of the two gives: nothing where there is a common format
abbrev pub what_of : Format → Format → Filtered → What
what_of first second (F.Common format) = Nothing
what_of first second (F.Clash key) = Clash (clash_of first second key)
what_of first second F.Types = Clash Types

-- OF TWO FORMATS
pub record IsFoundOf (first second : Format) (what : What) : Type 0 where
  pub filtered : Filtered
  pub filters : Filters first second filtered
  pub found : what ≡ what_of first second filtered

-- the format that the file of the word at this place holds
pub record GivesFormat (names : Names) (place : ℕ) (name : List ℕ) (format : Format) : Type 0 where
  pub bytes : List ℕ
  pub load : Gives (IsLoad names place name pod_file_limit L.PodBytes) bytes
  pub read : HoldsFormat place bytes (Ok format)

-- OF `filter`: of the formats that its two files hold
pub record IsFoundByFilter (names : Names) (a b : List ℕ) (what : What) : Type 0 where
  pub first : Format
  pub second : Format
  pub first_held : GivesFormat names 1 a first
  pub second_held : GivesFormat names 2 b second
  pub found : IsFoundOf first second what
