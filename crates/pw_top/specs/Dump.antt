-- The expected answer of `dump FILE`: the file is loaded and read, and its value is put as text.
-- Source: this project's own; the value is a POD, PipeWire's documentation, "SPA POD".
use Rattle.std.specs.Prelude.{◌≡◌, ℕ, List, [], Ok}
use Rattle.pw_outside.specs.Files.{Names}
use Rattle.pw_lists.specs.declared.limit.Which.TheVariants as W
use Rattle.pod_codec.specs.declared.pod.Pod.{Pod}
use Rattle.pod_codec.specs.DumpText.{dump_text_of}
use Rattle.command_frame.specs.declared.work.Work.{Work}
use Rattle.pw_top.specs.Answer.{Answer}
use Rattle.pw_top.specs.Allowed.{Binds, Reads, IsLoad}
use Rattle.pw_top.specs.PodFile.{pod_file_limit, HoldsPod}

-- nothing is stored
abbrev pub dump_work : Pod → Work
dump_work pod = record { stores = []; text = dump_text_of pod }

abbrev pub DumpsPod : Pod → Answer → Type 0
DumpsPod pod = Reads (λ outcome. outcome ≡ Ok (dump_work pod))

abbrev pub DumpsBytes : List ℕ → Answer → Type 0
DumpsBytes bytes = Binds (Reads (HoldsPod 1 bytes)) DumpsPod

-- THE ANSWER
abbrev pub IsDumpAnswer : Names → List ℕ → Answer → Type 0
IsDumpAnswer names file = Binds (IsLoad names 1 file pod_file_limit W.PodBytes) DumpsBytes
