-- What a status of `pipegraph` is to the frame of commands, and the line that is put of it. A put of
-- the text that failed is a write fault at place 0. Source: this project's own.
use Rattle.std.specs.Prelude.{ℕ, zero, suc, if◌then◌else◌, List, []}
use Rattle.command_frame.specs.declared.ending.End.{End}
use Rattle.command_frame.specs.declared.ending.End.TheVariants as E
use Rattle.command_frame.specs.Statuses.{Statuses}
use Rattle.run_results.specs.declared.status.Status.{Status}
use Rattle.run_results.specs.declared.status.Status.TheVariants as S
use Rattle.run_results.specs.StatusLine.{line_of, has_line}

-- of a write that failed, by its place: 0 is that of the text
abbrev pub write_end : ℕ → End
write_end zero = E.PutFault
write_end (suc n) = E.StoreFault (suc n)

abbrev pub means : Status → End
means S.Ok = E.Done
means (S.Usage word) = E.Usage word
means (S.Script line why) = E.Refused
means (S.Wav place why) = E.Refused
means (S.Pod place why) = E.Refused
means (S.Absent place) = E.Refused
means (S.ReadFault place) = E.ReadFault place
means (S.WriteFault place) = write_end place
means (S.Limit place which) = E.Refused
means S.Memory = E.Memory

abbrev pub line_put : Status → List ℕ
line_put status = if has_line status then line_of status else []

abbrev pub statuses : Statuses Status
statuses = record {
  means = means;
  line = line_put;
  done = S.Ok;
  usage = λ word. S.Usage word;
  absent = λ place. S.Absent place;
  read_fault = λ place. S.ReadFault place;
  store_fault = λ place. S.WriteFault place;
  put_fault = S.WriteFault 0;
  memory = S.Memory;
}
