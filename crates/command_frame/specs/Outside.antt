-- The outside of a call at one moment, as far as it reports: what the files hold, what the output
-- was given, and how many loads, stores and puts have failed.
-- Source: this project's own.
use Rattle.std.specs.Prelude.{ℕ}
use Rattle.pw_outside.specs.Files.{Held}
use Rattle.pw_outside.specs.Output.{Given}
use Rattle.pw_outside.specs.declared.files.Files as files
use Rattle.pw_outside.specs.declared.output.Sink as sink

pub record Outside : Type 0 where
  pub held : Held
  pub given : Given
  pub load_faults : ℕ
  pub store_faults : ℕ
  pub put_faults : ℕ

-- what files and an output show of themselves
abbrev pub outside : {F O : Type 0} → files.Ghosts F → sink.Ghosts O → F → O → Outside
outside of_files of_output files output = record {
  held = of_files.held files;
  given = of_output.given output;
  load_faults = of_files.load_faults files;
  store_faults = of_files.store_faults files;
  put_faults = of_output.faults output;
}
