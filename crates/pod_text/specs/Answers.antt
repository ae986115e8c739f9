-- The expected answer to words, by what the files hold; and, of what was read, the line at fault.
-- Source: this project's own.
use Rattle.std.specs.Prelude.{◌≡◌, ℕ, ◌-◌, List, [], Result, Ok, Err, slice_index_or}
use Rattle.pw_outside.specs.Files.{Names}
use Rattle.command_frame.specs.declared.work.Work.{Work}
use Rattle.command_frame.specs.Allowed.{IsLoad, Reads, Binds}
use Rattle.command_frame.specs.Answer.{Answer}
use Rattle.command_frame.specs.Headline.{IsAnswer}
use Rattle.graph_script.specs.Lexical.{lines_of}
use Rattle.format_filter.specs.declared.format.Format.{Format}
use Rattle.pod_text.specs.declared.source.Source.{Source}
use Rattle.pod_text.specs.declared.status.Status.{Status}
use Rattle.pod_text.specs.declared.status.Status.TheVariants as S
use Rattle.pod_text.specs.declared.words.Request.{Request}
use Rattle.pod_text.specs.declared.words.Request.TheVariants as R
use Rattle.pod_text.specs.Delivery.{put_work, goes_to}
use Rattle.pod_text.specs.Loading.{input_name, source_bytes_limit}
use Rattle.pod_text.specs.Making.{IsFormatPod}
use Rattle.pod_text.specs.DumpMaking.{IsMadePod}
use Rattle.pod_text.specs.Statuses.{statuses}
use Rattle.pod_text.specs.UsageText.{usage_text, version_text}
use Rattle.pod_text.specs.Words.{request_of}

-- what was read is refused, with its line at fault where the status names one
abbrev pub IsRefusedBy : Source → List ℕ → Status → List ℕ → Type 0
IsRefusedBy source read (S.List number why) line = IsMadePod source read (Err (S.List number why))
    × (line ≡ slice_index_or (lines_of read) (number - 1) [])
IsRefusedBy source read (S.Text number why) line = IsMadePod source read (Err (S.Text number why))
    × (line ≡ slice_index_or (lines_of read) (number - 1) [])
IsRefusedBy source read status line = IsMadePod source read (Err status)

-- of what was read, the bytes of its POD go to a word, which is at place 2; or why there are none
abbrev pub IsMadeWork : Source → List ℕ → List ℕ → List ℕ → Result Work Status → Type 0
IsMadeWork source to line read (Ok work) = (bytes : List ℕ) × IsMadePod source read (Ok bytes)
    × (work ≡ goes_to to 2 bytes)
IsMadeWork source to line read (Err status) = IsRefusedBy source read status line

-- of a format, the bytes of its object go to a word, which is at place 1; or why there are none
abbrev pub IsFormatWork : Format → List ℕ → Result Work Status → Type 0
IsFormatWork format to (Ok work) = (bytes : List ℕ) × IsFormatPod format (Ok bytes)
    × (work ≡ goes_to to 1 bytes)
IsFormatWork format to (Err status) = IsFormatPod format (Err status)

-- the commands in words are put
abbrev pub IsHelpWork : Result Work Status → Type 0
IsHelpWork (Ok work) = work ≡ put_work usage_text
IsHelpWork (Err status) = status ≡ S.Memory

-- the version is put
abbrev pub IsVersionWork : Result Work Status → Type 0
IsVersionWork (Ok work) = work ≡ put_work version_text
IsVersionWork (Err status) = status ≡ S.Memory

-- GAINS and POD: what a word names is loaded, and made
abbrev pub IsMakeAnswer : Source → List ℕ → List ℕ → List ℕ → Names → Answer Status → Type 0
IsMakeAnswer source from to line names = Binds statuses
    (IsLoad statuses names 1 (input_name from) source_bytes_limit (S.Limit 1))
    (λ read. Reads statuses (IsMadeWork source to line read))

-- THE ANSWER to a request, which keeps this line of what was read
abbrev pub IsAnswerTo : List ℕ → Request → Names → Answer Status → Type 0
IsAnswerTo line (R.Make source from to) names = IsMakeAnswer source from to line names
IsAnswerTo line (R.Format to format) names = Reads statuses (IsFormatWork format to)
IsAnswerTo line R.Help names = Reads statuses IsHelpWork
IsAnswerTo line R.Version names = Reads statuses IsVersionWork

-- and to words
abbrev pub IsAnswered : List (List ℕ) → List ℕ → Names → Answer Status → Type 0
IsAnswered words line = IsAnswer statuses (request_of words) (IsAnswerTo line)
