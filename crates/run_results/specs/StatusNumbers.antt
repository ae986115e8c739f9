-- The number of a status, with which the program ends. Source: this project's own; docs/FORMATS.md.
use Rattle.std.specs.Prelude.{ℕ}
use Rattle.run_results.specs.declared.status.Status.{Status}
use Rattle.run_results.specs.declared.status.Status.TheVariants as S

abbrev pub status_number : Status → ℕ
status_number S.Ok = 0
status_number (S.Usage word) = 1
status_number (S.Script line why) = 2
status_number (S.Wav place why) = 3
status_number (S.Pod place why) = 4
status_number (S.Absent place) = 5
status_number (S.ReadFault place) = 6
status_number (S.WriteFault place) = 7
status_number (S.Limit place which) = 8
status_number S.Memory = 9
