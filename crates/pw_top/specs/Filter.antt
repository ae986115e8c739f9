-- The expected answer of `filter A B OUT`: two objects are loaded and read as formats, one after
-- the other; what they have in common is stored as an object in its one spelling.
-- Source: PipeWire's documentation, "SPA POD"; spa/pod/filter.h.
use Rattle.std.specs.Prelude.{◌≡◌, ℕ, List, [], ◌∷◌, ◌++◌, codes, Result, Ok, Err}
use Rattle.pw_outside.specs.Files.{Names}
use Rattle.pw_lists.specs.declared.limit.Which.TheVariants as W
use Rattle.pod_codec.specs.declared.pod.Pod.{Pod}
use Rattle.pod_codec.specs.PodValue.{canonical}
use Rattle.pod_codec.specs.Writable.{IsWritable}
use Rattle.format_filter.specs.declared.format.Format.{Format}
use Rattle.format_filter.specs.declared.common.Filtered.{Filtered}
use Rattle.format_filter.specs.declared.common.Filtered.TheVariants.{Common, Clash, Types}
use Rattle.format_filter.specs.CommonFormat.{Filters}
use Rattle.format_filter.specs.FormatWriting.{IsWritten}
use Rattle.run_results.specs.declared.status.Status.{Status}
use Rattle.run_results.specs.declared.status.Status.TheVariants as S
use Rattle.command_frame.specs.declared.work.Content.TheVariants.{Bytes}
use Rattle.command_frame.specs.declared.work.Work.{Work}
use Rattle.run_results.specs.StatusLine.{numbers_line}
use Rattle.pw_top.specs.Answer.{Answer}
use Rattle.pw_top.specs.Allowed.{Binds, Reads, IsLoad}
use Rattle.pw_top.specs.PodFile.{pod_file_limit}
use Rattle.pw_top.specs.FormatFile.{HoldsFormat}

-- the object is stored in OUT
abbrev pub common_work : List ℕ → Pod → Work
common_work out pod = record {
  stores = record { place = 3; name = out; content = Bytes (canonical pod) } ∷ [];
  text = codes "common\n";
}

-- nothing is stored
abbrev pub clash_work : ℕ → Work
clash_work key = record { stores = []; text = codes "clash" ++ numbers_line (key ∷ []) }

abbrev pub types_work : Work
types_work = record { stores = []; text = codes "clash type\n" }

-- an object that cannot be written passes the limit on the bytes of a POD
abbrev pub StoresObject : List ℕ → Pod → Result Work Status → Type 0
StoresObject out pod (Ok work) = IsWritable pod × (work ≡ common_work out pod)
StoresObject out pod (Err status) = (IsWritable pod → ⊥) × (status ≡ S.Limit 3 W.PodBytes)

-- what the filter of two formats gives
abbrev pub GivesFiltered : List ℕ → Filtered → Result Work Status → Type 0
GivesFiltered out (Common format) outcome = (pod : Pod) × IsWritten format pod
    × StoresObject out pod outcome
GivesFiltered out (Clash key) outcome = outcome ≡ Ok (clash_work key)
GivesFiltered out Types outcome = outcome ≡ Ok types_work

abbrev pub FiltersTo : List ℕ → Format → Format → Result Work Status → Type 0
FiltersTo out a b outcome = (filtered : Filtered) × Filters a b filtered
    × GivesFiltered out filtered outcome

-- THE ANSWER: a second file is loaded only where the first is a format
abbrev pub FiltersSecond : List ℕ → Format → Format → Answer → Type 0
FiltersSecond out first second = Reads (FiltersTo out first second)

abbrev pub ReadsSecond : List ℕ → Format → List ℕ → Answer → Type 0
ReadsSecond out first bytes = Binds (Reads (HoldsFormat 2 bytes)) (FiltersSecond out first)

abbrev pub LoadsSecond : Names → List ℕ → List ℕ → Format → Answer → Type 0
LoadsSecond names b out first = Binds (IsLoad names 2 b pod_file_limit W.PodBytes)
    (ReadsSecond out first)

abbrev pub ReadsFirst : Names → List ℕ → List ℕ → List ℕ → Answer → Type 0
ReadsFirst names b out bytes = Binds (Reads (HoldsFormat 1 bytes)) (LoadsSecond names b out)

abbrev pub IsFilterAnswer : Names → List ℕ → List ℕ → List ℕ → Answer → Type 0
IsFilterAnswer names a b out = Binds (IsLoad names 1 a pod_file_limit W.PodBytes)
    (ReadsFirst names b out)
