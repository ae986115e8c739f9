-- The number of a status, those of `pipegraph`, and what it is to the frame of commands. Source:
-- this project's own.
use Rattle.std.specs.Prelude.{ℕ, []}
use Rattle.command_frame.specs.declared.ending.End.{End}
use Rattle.command_frame.specs.declared.ending.End.TheVariants as E
use Rattle.command_frame.specs.Statuses.{Statuses}
use Rattle.pod_text.specs.declared.status.Status.{Status}
use Rattle.pod_text.specs.declared.status.Status.TheVariants as S

abbrev pub status_number : Status → ℕ
status_number S.Ok = 0
status_number (S.Usage word) = 1
status_number (S.List line why) = 2
status_number (S.Text line why) = 2
status_number S.TooLong = 4
status_number (S.Absent place) = 5
status_number (S.ReadFault place) = 6
status_number (S.WriteFault place) = 7
status_number S.PutFault = 7
status_number (S.Limit place) = 8
status_number S.Memory = 9

abbrev pub means : Status → End
means S.Ok = E.Done
means (S.Usage word) = E.Usage word
means (S.List line why) = E.Refused
means (S.Text line why) = E.Refused
means S.TooLong = E.Refused
means (S.Absent place) = E.Refused
means (S.ReadFault place) = E.ReadFault place
means (S.WriteFault place) = E.StoreFault place
means S.PutFault = E.PutFault
means (S.Limit place) = E.Refused
means S.Memory = E.Memory

-- no status has a line on standard output, since that may be a pipe
abbrev pub statuses : Statuses Status
statuses = record {
  means = means;
  line = λ status. [];
  done = S.Ok;
  usage = λ word. S.Usage word;
  absent = λ place. S.Absent place;
  read_fault = λ place. S.ReadFault place;
  store_fault = λ place. S.WriteFault place;
  put_fault = S.PutFault;
  memory = S.Memory;
}
