-- Laws of `specs/working/Filtering.antt`: what is found of two formats is found of the bytes and of the files that hold them.
use Rattle.std.proofs.Common.{ℕ, List}
use Rattle.std.specs.Prelude.{Result, Ok, OnOk, IsSome}
use Rattle.pw_lists.specs.declared.limit.Which.TheVariants as L
use Rattle.pw_outside.specs.Files.{Held, names_in}
use Rattle.format_filter.specs.declared.format.Format.{Format}
use Rattle.run_results.specs.declared.found.What.{What}
use Rattle.run_results.specs.declared.status.Status.{Status}
use Rattle.command_frame.specs.declared.work.Work.{Work}
use Rattle.pw_top.specs.Allowed.{Reads, IsLoad}
use Rattle.pw_top.specs.FilterFound.{IsFoundOf}
use Rattle.pw_top.specs.FormatFile.{HoldsFormat}
use Rattle.pw_top.specs.PodFile.{pod_file_limit}
use Rattle.pw_top.specs.working.Ending.{Ends, Tells}
use Rattle.pw_top.specs.working.Filtering.{IsFoundWith, IsFoundAfter, IsFoundFrom}
use Rattle.pw_top.proofs.AllowedLemmas.{reads_gives}
use Rattle.pw_top.proofs.FoundLemmas.{part_gives_it, ok_then}

module _ (what : What) (r : Result Work Status) where
  -- the second file's bytes are read
  pub second_found : (first second : Format) (bytes : List ℕ) → Ends (Reads (HoldsFormat 2 bytes)) (Ok second)
      → OnOk r (IsFoundOf first second what) → OnOk r (IsFoundWith first bytes what)
  second_found first second bytes told found = ok_then r (IsFoundOf first second what) (IsFoundWith first bytes what)
      (λ f. record { second = second; read = reads_gives (HoldsFormat 2 bytes) second told; found = f }) found

  -- they are loaded
  pub after_found : (held : Held) (b : List ℕ) (first : Format) (bytes : List ℕ)
      → Tells held (λ names. IsLoad names 2 b pod_file_limit L.PodBytes) (Ok bytes)
      → OnOk r (IsFoundWith first bytes what) → OnOk r (IsSome held → IsFoundAfter (names_in held) b first what)
  after_found held b first bytes told found = ok_then r (IsFoundWith first bytes what) (IsSome held → IsFoundAfter (names_in held) b first what)
      (λ f h. record {
        second = f.second;
        second_held = record {
          bytes = bytes;
          load = part_gives_it (IsLoad (names_in held) 2 b pod_file_limit L.PodBytes) bytes (told h);
          read = f.read;
        };
        found = f.found;
      })
      found

  -- the first file's bytes are read
  pub first_found : (held : Held) (b : List ℕ) (first : Format) (bytes : List ℕ) → Ends (Reads (HoldsFormat 1 bytes)) (Ok first)
      → OnOk r (IsSome held → IsFoundAfter (names_in held) b first what)
      → OnOk r (IsSome held → IsFoundFrom (names_in held) b bytes what)
  first_found held b first bytes told found =
      ok_then r (IsSome held → IsFoundAfter (names_in held) b first what) (IsSome held → IsFoundFrom (names_in held) b bytes what)
      (λ f h. record { first = first; read = reads_gives (HoldsFormat 1 bytes) first told; found = f h }) found
