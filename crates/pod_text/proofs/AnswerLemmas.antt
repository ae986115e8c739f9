-- What a request answers, and that it has no fault but of its load.
use Rattle.std.proofs.Common.{◌≡◌, ℕ, zero, suc, List, [], Ok, Err, refl, subst, arith}
use Rattle.std.specs.Prelude.{Result}
use Rattle.pw_outside.specs.Files.{Names}
use Rattle.command_frame.specs.declared.work.Work.{Work}
use Rattle.command_frame.specs.Allowed.{IsLoad, Reads}
use Rattle.command_frame.specs.Answer.{Answer, Expected}
use Rattle.command_frame.specs.Ending.{Ends, CommandCause, IsDeliverable, IsLateRefusal}
use Rattle.command_frame.proofs.AllowedLemmas.{binds_goes, binds_stops, part_quiet}
use Rattle.command_frame.proofs.LoadLemmas.{load_memory}
use Rattle.format_filter.specs.declared.format.Format.{Format}
use Rattle.pod_text.specs.declared.source.Source.{Source}
use Rattle.pod_text.specs.declared.source.Source.TheVariants as Src
use Rattle.pod_text.specs.declared.status.Status.{Status}
use Rattle.pod_text.specs.declared.status.Status.TheVariants as S
use Rattle.pod_text.specs.Answers.{IsRefusedBy, IsMadeWork, IsMakeAnswer}
use Rattle.pod_text.specs.Delivery.{store_work}
use Rattle.pod_text.specs.DumpMaking.{IsMadePod}
use Rattle.pod_text.specs.Loading.{input_name, source_bytes_limit}
use Rattle.pod_text.specs.Making.{IsFormatPod}
use Rattle.pod_text.specs.Statuses.{statuses, means}

-- where memory was short, nothing is said of what was read
pub memory_free : (source : Source) (read : List ℕ) → IsMadePod source read (Err S.Memory)
memory_free Src.Gains read = tt
memory_free Src.Dump read = tt

-- what was read is refused for itself
pub refused_plain : (source : Source) (read line : List ℕ) (status : Status) → IsRefusedBy source read status line
    → IsLateRefusal 0 0 (means status)
refused_plain Src.Gains read line S.Ok h = absurd h
refused_plain Src.Gains read line (S.Usage word) h = absurd h
refused_plain Src.Gains read line (S.ReadFault place) h = absurd h
refused_plain Src.Gains read line (S.WriteFault place) h = absurd h
refused_plain Src.Gains read line S.PutFault h = absurd h
refused_plain Src.Dump read line S.Ok h = absurd h
refused_plain Src.Dump read line (S.Usage word) h = absurd h
refused_plain Src.Dump read line (S.ReadFault place) h = absurd h
refused_plain Src.Dump read line (S.WriteFault place) h = absurd h
refused_plain Src.Dump read line S.PutFault h = absurd h
refused_plain source read line (S.List number why) h = tt
refused_plain source read line (S.Text number why) h = tt
refused_plain source read line S.TooLong h = tt
refused_plain source read line (S.Absent place) h = tt
refused_plain source read line (S.Limit place) h = tt
refused_plain source read line S.Memory h = tt

-- so is a format
pub format_plain : (format : Format) (status : Status) → IsFormatPod format (Err status) → IsLateRefusal 0 0 (means status)
format_plain format S.Ok h = absurd h
format_plain format (S.Usage word) h = absurd h
format_plain format (S.ReadFault place) h = absurd h
format_plain format (S.WriteFault place) h = absurd h
format_plain format S.PutFault h = absurd h
format_plain format (S.List number why) h = tt
format_plain format (S.Text number why) h = tt
format_plain format S.TooLong h = tt
format_plain format (S.Absent place) h = tt
format_plain format (S.Limit place) h = tt
format_plain format S.Memory h = tt

-- one file can be stored
pub one_deliverable : (name : List ℕ) (at : ℕ) (bytes : List ℕ) → IsDeliverable statuses (store_work name at bytes)
one_deliverable name at bytes zero d l = record { placed = refl; content = tt }
one_deliverable name at bytes (suc i) d l = absurd (omega arith)

-- what a word names is loaded, and made
module _ (source : Source) (from to line : List ℕ) (names : Names) where
  abbrev Load : List ℕ → Expected Status (List ℕ) → Type 0
  Load name = IsLoad statuses names 1 name source_bytes_limit (S.Limit 1)

  abbrev next : List ℕ → Answer Status → Type 0
  next read = Reads statuses (IsMadeWork source to line read)

  pub make_short : Ends statuses (IsMakeAnswer source from to line names) (Err S.Memory)
  make_short = binds_stops statuses (Load (input_name from)) next S.Memory
      (load_memory statuses names 1 (input_name from) source_bytes_limit (S.Limit 1) S.Memory refl)

  pub make_stops : (name : List ℕ) (status : Status) → name ≡ input_name from → Ends statuses (Load name) (Err status)
      → Ends statuses (IsMakeAnswer source from to line names) (Err status)
  make_stops name status is h = binds_stops statuses (Load (input_name from)) next status
      (subst (λ (n : List ℕ). Ends statuses (Load n) (Err status)) is h)

  pub make_goes : (name read shown : List ℕ) (r : Result Work Status) → name ≡ input_name from → shown ≡ read
      → Ends statuses (Load name) (Ok read) → IsMadeWork source to line shown r → CommandCause statuses (IsDeliverable statuses) 0 0 r
      → Ends statuses (IsMakeAnswer source from to line names) r
  make_goes name read shown r is same h made cause = binds_goes statuses (Load (input_name from)) next read r
      (subst (λ (n : List ℕ). Ends statuses (Load n) (Ok read)) is h)
      (part_quiet statuses [] (IsMadeWork source to line read) (IsDeliverable statuses) r
      (subst (λ (x : List ℕ). IsMadeWork source to line x r) same made) cause)
