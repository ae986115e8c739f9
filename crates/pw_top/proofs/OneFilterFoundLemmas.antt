-- ONE FINDING of `filter`: what was found is of what its two formats have in common, which is what its answer stores or puts.
use Rattle.std.proofs.Common.{◌≡◌, ℕ, List, [], refl, sym, subst}
use Rattle.std.specs.Prelude.{Ok}
use Rattle.pw_lists.specs.declared.limit.Which.TheVariants as L
use Rattle.pw_outside.specs.Files.{Names}
use Rattle.format_filter.specs.declared.common.Filtered.{Filtered}
use Rattle.format_filter.specs.declared.format.Format.{Format}
use Rattle.format_filter.proofs.OneFormatLemmas.{filters_one}
use Rattle.run_results.specs.declared.found.What.{What}
use Rattle.command_frame.specs.declared.work.Work.{Work}
use Rattle.pw_top.specs.Answer.{Answer}
use Rattle.pw_top.specs.Allowed.{Reads, IsLoad}
use Rattle.pw_top.specs.Filter.{GivesFiltered, FiltersTo, FiltersSecond, ReadsSecond, LoadsSecond, ReadsFirst, IsFilterAnswer}
use Rattle.pw_top.specs.FilterFound.{what_of, GivesFormat, IsFoundOf, IsFoundByFilter}
use Rattle.pw_top.specs.FormatFile.{HoldsFormat}
use Rattle.pw_top.specs.PodFile.{pod_file_limit}
use Rattle.pw_top.proofs.OneFoundLemmas.{found_as}
use Rattle.pw_top.proofs.OnePartLemmas.{ok_is, part_gave, went, gave_one, load_one, format_one}

-- what the two formats have in common is what is stored or put
abbrev pub FilterSays : Format → Format → List ℕ → What → Work → Type 0
FilterSays first second out what work = (filtered : Filtered) × (what ≡ what_of first second filtered) × GivesFiltered out filtered (Ok work)

holds_one : (place : ℕ) (bytes : List ℕ) (f g : Format) → HoldsFormat place bytes (Ok f) → HoldsFormat place bytes (Ok g) → f ≡ g
holds_one place bytes f g h k = ok_is f g (Ok f) refl (format_one place bytes (Ok f) (Ok g) h k)

both_says : (first second : Format) (out : List ℕ) (what : What) (work : Work) → IsFoundOf first second what
    → FiltersTo out first second (Ok work) → FilterSays first second out what work
both_says first second out what work f to = (
  to.0,
  found_as (what_of first second) f.filtered to.0 what f.found (filters_one first second f.filtered to.0 f.filters to.1),
  to.2,
)

module _ (out : List ℕ) (what : What) (work : Work) where
  -- by the second's bytes
  second_says : (first second : Format) (bytes : List ℕ) (e : Answer) → HoldsFormat 2 bytes (Ok second) → IsFoundOf first second what
      → ReadsSecond out first bytes e → e.outcome ≡ Ok work → FilterSays first second out what work
  second_says first second bytes e read found allowed is =
      let t = went (Reads (HoldsFormat 2 bytes)) (FiltersSecond out first) e work allowed is in
      let gave = part_gave [] (HoldsFormat 2 bytes) t.first t.given t.allowed t.gave in
      let same = holds_one 2 bytes second t.given read gave in
      let gives = part_gave [] (FiltersTo out first t.given) t.rest work t.after t.gives in
      both_says first second out what work found (subst (λ (s : Format). FiltersTo out first s (Ok work)) (sym same) gives)

  module _ (names : Names) (b : List ℕ) (second : Format) (held : GivesFormat names 2 b second) where
    -- by the second's file
    after_says : (first : Format) (e : Answer) → IsFoundOf first second what → LoadsSecond names b out first e → e.outcome ≡ Ok work
        → FilterSays first second out what work
    after_says first e found allowed is =
        let Load = IsLoad names 2 b pod_file_limit L.PodBytes in
        let u = went Load (ReadsSecond out first) e work allowed is in
        let same = gave_one Load (load_one names 2 b pod_file_limit L.PodBytes) held.bytes u.given held.load
        (record { part = u.first; allowed = u.allowed; gives = u.gave }) in
        second_says first second u.given u.rest (subst (λ (bs : List ℕ). HoldsFormat 2 bs (Ok second)) same held.read) found u.after u.gives

    -- by the first's bytes
    first_says : (first : Format) (bytes : List ℕ) (e : Answer) → HoldsFormat 1 bytes (Ok first) → IsFoundOf first second what
        → ReadsFirst names b out bytes e → e.outcome ≡ Ok work → FilterSays first second out what work
    first_says first bytes e read found allowed is =
        let v = went (Reads (HoldsFormat 1 bytes)) (LoadsSecond names b out) e work allowed is in
        let gave = part_gave [] (HoldsFormat 1 bytes) v.first v.given v.allowed v.gave in
        let same = holds_one 1 bytes first v.given read gave in
        let loads = subst (λ (f : Format). LoadsSecond names b out f v.rest) (sym same) v.after in
        after_says first v.rest found loads v.gives

-- OF `filter`
pub filter_says : (names : Names) (a b out : List ℕ) (what : What) (e : Answer) (work : Work) → (found : IsFoundByFilter names a b what)
    → IsFilterAnswer names a b out e → e.outcome ≡ Ok work → FilterSays found.first found.second out what work
filter_says names a b out what e work found allowed is =
    let Load = IsLoad names 1 a pod_file_limit L.PodBytes in
    let w = went Load (ReadsFirst names b out) e work allowed is in
    let same = gave_one Load (load_one names 1 a pod_file_limit L.PodBytes) found.first_held.bytes w.given found.first_held.load
    (record { part = w.first; allowed = w.allowed; gives = w.gave }) in
    first_says out what work names b found.second found.second_held found.first w.given w.rest
    (subst (λ (bs : List ℕ). HoldsFormat 1 bs (Ok found.first)) same found.first_held.read) found.found w.after w.gives
