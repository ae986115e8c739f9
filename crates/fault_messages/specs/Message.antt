-- The sentence that a status is printed as, for people. Source: this project's own.
use Rattle.std.specs.Prelude.{ℕ, ◌==◌, ◌||◌, Bool, false, bytes_eq, if◌then◌else◌, List, [], ◌++◌, codes, decimal, Option, Some, None}
use Rattle.run_results.specs.declared.status.Status.{Status}
use Rattle.run_results.specs.declared.status.Status.TheVariants as S
use Rattle.system_files.specs.declared.why.FileWhy.{FileWhy}
use Rattle.fault_messages.specs.CycleRoom.{room_part}
use Rattle.fault_messages.specs.Places.{Words, word, place_text, file_part, lines_before}
use Rattle.fault_messages.specs.ScriptMessages.{script_said}
use Rattle.fault_messages.specs.PodMessages.{pod_said}
use Rattle.fault_messages.specs.FileMessages.{wav_said, absent_said, read_said, write_said, limit_text}
use Rattle.fault_messages.specs.Help.{help}
use Rattle.fault_messages.specs.Usages.{usage_text}

-- the words of all commands
abbrev pub synopsis : List ℕ
synopsis = codes "usage: pipegraph run SCRIPT [--loops N] [--ticks N] [--trace] [--steal]\n"
    ++ codes "       pipegraph dump FILE\n"
    ++ codes "       pipegraph filter A B OUT\n"
    ++ codes "       pipegraph automate IN SEQ OUT\n"
    ++ codes "       pipegraph check SCRIPT TRACE\n"
    ++ codes "       pipegraph soak NUMBER\n       pipegraph groups SCRIPT\n"

-- a place and what is wrong there
abbrev pub at_place : List (List ℕ) → ℕ → List ℕ → List ℕ
at_place words place what = place_text words place ++ (codes ": " ++ what)

abbrev pub sentence : Status → Option FileWhy → Words → Option (List ℕ) → List ℕ → List ℕ
sentence S.Ok why words line script = []
sentence (S.Usage i) why words line script = usage_text words i
sentence (S.Script n fault) why words line script =
    at_place words n (script_said fault line (lines_before script n))
sentence (S.Wav place fault) why words line script =
    at_place words place (file_part line ++ wav_said fault)
sentence (S.Pod place fault) why words line script =
    at_place words place (file_part line ++ pod_said fault)
sentence (S.Absent place) why words line script =
    at_place words place (file_part line ++ absent_said line)
sentence (S.ReadFault place) why words line script =
    at_place words place (file_part line ++ read_said why)
sentence (S.WriteFault place) why words line script =
    if place == 0 then codes "standard output cannot be written"
    else at_place words place (file_part line ++ write_said why)
sentence (S.Limit place which) why words line script = at_place words place
    (limit_text which line ++ room_part words which line (lines_before script place))
sentence S.Memory why words line script = codes "no memory was left"

-- where the words ask for help, or there are none: what the commands do
abbrev pub is_help_word : List ℕ → Bool
is_help_word w = bytes_eq w [] || (bytes_eq w (codes "-h") || (bytes_eq w (codes "--help")
    || bytes_eq w (codes "--version")))

abbrev pub asks_help : Status → List (List ℕ) → Bool
asks_help (S.Usage i) words = is_help_word (word words 0)
asks_help _ words = false

-- what is before it, and what follows
abbrev pub before : Status → List ℕ
before S.Ok = []
before _ = codes "pipegraph: "

abbrev pub after : Status → List ℕ
after S.Ok = []
after (S.Usage i) = codes "\n" ++ synopsis
after _ = codes "\n"

-- THE MESSAGE of a status, by why the system refused a file, by the words, by the line of the
-- script that is at fault, where these are at hand, and by the script; nothing where all was done
unfoldable pub message_of : Status → Option FileWhy → Words → Option (List ℕ) → List ℕ → List ℕ
message_of status why words line script =
    if asks_help status words then help
    else before status ++ (sentence status why words line script ++ after status)

-- the message of words that could not be read: the first that is no text, counted from 1; or none
-- was found, and memory was short
abbrev pub no_text : ℕ → List ℕ
no_text n = codes "pipegraph: word " ++ (decimal n ++ codes " is not text in UTF-8\n")

abbrev pub words_message : Option ℕ → List ℕ
words_message None = codes "pipegraph: no memory was left\n"
words_message (Some n) = no_text n
