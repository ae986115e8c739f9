-- ONE ANSWER: two answers of a command line that are allowed, neither out of memory, are the same.
use Rattle.std.proofs.Common.{◌≡◌, ℕ, List, [], sym, ap, subst, ◌∙◌}
use Rattle.std.specs.Prelude.{Result, Ok, Err}
use Rattle.pw_outside.specs.Files.{Names}
use Rattle.pod_codec.specs.declared.pod.Pod.{Pod}
use Rattle.format_filter.specs.declared.format.Format.{Format}
use Rattle.format_filter.specs.declared.common.Filtered.{Filtered}
use Rattle.format_filter.specs.declared.common.Filtered.TheVariants.{Common, Clash, Types}
use Rattle.format_filter.proofs.OneFormatLemmas.{filters_one, written_one}
use Rattle.wav_files.specs.declared.wav.Wav.{Wav}
use Rattle.command_frame.specs.Words.{Words}
use Rattle.pw_top.specs.declared.usage.CommandLine.{CommandLine}
use Rattle.pw_top.specs.declared.usage.CommandLine.TheVariants as C
use Rattle.pw_top.specs.Answer.{Answer}
use Rattle.pw_top.specs.Allowed.{Reads}
use Rattle.pw_top.specs.PodFile.{HoldsPod}
use Rattle.pw_top.specs.FormatFile.{HoldsFormat}
use Rattle.pw_top.specs.Filter.{StoresObject, GivesFiltered, FiltersTo, FiltersSecond, ReadsSecond, LoadsSecond, ReadsFirst}
use Rattle.pw_top.specs.Automate.{GivesPoints, HoldsPoints, AutomatesWave, ReadsPoints, LoadsPoints, ReadsWave}
use Rattle.pw_top.specs.Dump.{DumpsPod, DumpsBytes}
use Rattle.pw_top.specs.Playing.{Happened, Idly}
use Rattle.pw_top.specs.Usage.{command_of}
use Rattle.pw_top.specs.CommandLine.{IsAnswer, IsAnswerTo, IsReadAnswer}
use Rattle.pw_top.proofs.OnePartLemmas.{IsShort, HasOne, OneOutcome, part_one, outcomes_equal, binds_one, load_one, pod_one, held_one, format_one}
use Rattle.pw_top.proofs.OneRunLemmas.{run_one}
use Rattle.pw_top.proofs.OneSoakLemmas.{soak_one}
use Rattle.pw_top.proofs.OneGroupsLemmas.{groups_one}
use Rattle.pw_top.proofs.CheckLemmas.{check_one}

-- what a filter gives
stores_one : (out : List ℕ) (pod : Pod) → OneOutcome (StoresObject out pod)
stores_one out pod (Ok v) (Ok w) h k = ap Ok (h.1 ∙ sym k.1)
stores_one out pod (Ok v) (Err s) h k = absurd (k.0 h.0)
stores_one out pod (Err s) (Ok w) h k = absurd (h.0 k.0)
stores_one out pod (Err s) (Err t) h k = ap Err (h.1 ∙ sym k.1)

filtered_one : (out : List ℕ) (filtered : Filtered) → OneOutcome (GivesFiltered out filtered)
filtered_one out (Common format) x y h k =
    let same = written_one format h.0 k.0 h.1 k.1 in
    stores_one out k.0 x y (subst (λ p. StoresObject out p x) same h.2) k.2
filtered_one out (Clash key) x y h k = h ∙ sym k
filtered_one out Types x y h k = h ∙ sym k

filter_one : (out : List ℕ) (a b : Format) → OneOutcome (FiltersTo out a b)
filter_one out a b x y h k =
    let same = filters_one a b h.0 k.0 h.1 k.1 in
    filtered_one out k.0 x y (subst (λ f. GivesFiltered out f x) same h.2) k.2

-- the commands
dump_bytes_one : (bytes : List ℕ) → HasOne (DumpsBytes bytes)
dump_bytes_one bytes = binds_one (Reads (HoldsPod 1 bytes)) DumpsPod (part_one [] (HoldsPod 1 bytes) (pod_one 1 bytes))
    (λ pod. part_one [] _ (outcomes_equal _))

second_one : (out : List ℕ) (first : Format) (bytes : List ℕ) → HasOne (ReadsSecond out first bytes)
second_one out first bytes = binds_one (Reads (HoldsFormat 2 bytes)) (FiltersSecond out first)
    (part_one [] (HoldsFormat 2 bytes) (format_one 2 bytes))
    (λ second. part_one [] (FiltersTo out first second) (filter_one out first second))

first_one : (names : Names) (b out bytes : List ℕ) → HasOne (ReadsFirst names b out bytes)
first_one names b out bytes = binds_one (Reads (HoldsFormat 1 bytes)) (LoadsSecond names b out)
    (part_one [] (HoldsFormat 1 bytes) (format_one 1 bytes))
    (λ first. binds_one _ (ReadsSecond out first) (load_one names 2 b _ _) (second_one out first))

points_one : (out : List ℕ) (wav : Wav) (bytes : List ℕ) → HasOne (ReadsPoints out wav bytes)
points_one out wav bytes = binds_one (Reads (HoldsPoints 2 bytes)) (AutomatesWave out wav)
    (part_one [] (HoldsPoints 2 bytes) (held_one 2 bytes (GivesPoints 2) (λ pod. outcomes_equal _)))
    (λ points. part_one [] _ (outcomes_equal _))

wave_one : (names : Names) (seq out bytes : List ℕ) → HasOne (ReadsWave names seq out bytes)
wave_one names seq out bytes = binds_one _ (LoadsPoints names seq out) (part_one [] _ (outcomes_equal _))
    (λ wav. binds_one _ (ReadsPoints out wav) (load_one names 2 seq _ _) (points_one out wav))

idle_one : (P : Answer → Type 0) (h : Happened) → HasOne P → HasOne (Idly P h)
idle_one P h one = record { one = λ a b p q. one.one a b p.1 q.1 }

pub command_one : (c : CommandLine) (h : Happened) (names : Names) → HasOne (IsAnswerTo c h names)
command_one (C.Run c) h names = run_one c h names
command_one (C.Dump c) h names = idle_one _ h (binds_one _ DumpsBytes (load_one names 1 c.file _ _) dump_bytes_one)
command_one (C.Filter c) h names = idle_one _ h (binds_one _ (ReadsFirst names c.b c.out) (load_one names 1 c.a _ _)
    (first_one names c.b c.out))
command_one (C.Automate c) h names = idle_one _ h (binds_one _ (ReadsWave names c.seq c.out) (load_one names 1 c.input _ _)
    (wave_one names c.seq c.out))
command_one (C.Check c) h names = idle_one _ h (check_one names c.script c.trace)
command_one (C.Soak c) h names = soak_one c.number h
command_one (C.Groups c) h names = groups_one c h names

read_one : (r : Result CommandLine ℕ) (h : Happened) (names : Names) → HasOne (IsReadAnswer r h names)
read_one (Ok c) h names = command_one c h names
read_one (Err word) h names = record { one = λ a b p q na nb. p ∙ sym q }

-- THE ANSWER of a command line, by what happened in the call and by what the files hold
pub answers_one : (words : Words) (h : Happened) (names : Names) (a b : Answer) → IsAnswer words h names a
    → IsAnswer words h names b → ¬ IsShort a → ¬ IsShort b → a ≡ b
unfolding IsAnswer
answers_one words h names a b p q na nb = (read_one (command_of words) h names).one a b p q na nb
