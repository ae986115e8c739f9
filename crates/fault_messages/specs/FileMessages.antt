-- What is wrong with a file, in words. Source: WAV faults are those of RIFF WAVE PCM; the
-- sentences and the limits are this project's own.
use Rattle.std.specs.Prelude.{ℕ, Bool, true, false, if◌then◌else◌, List, ◌++◌, codes, Option, Some, None}
use Rattle.graph_script.specs.Lexical.{words_of}
use Rattle.pw_lists.specs.declared.limit.Which.{Which}
use Rattle.pw_lists.specs.declared.limit.Which.TheVariants as W
use Rattle.wav_files.specs.declared.fault.WavFault.{WavFault}
use Rattle.wav_files.specs.declared.fault.WavFault.TheVariants as F
use Rattle.system_files.specs.declared.why.FileWhy.{FileWhy}
use Rattle.system_files.specs.Reasons.{why_said}
use Rattle.fault_messages.specs.Places.{begins, has_quote, is_dash, file_word, file_part}

abbrev pub wav_said : WavFault → List ℕ
wav_said F.NotRiff = codes "this is no RIFF WAVE file; "
    ++ codes "of a sound file ffmpeg -i IN -c:a pcm_s16le OUT.wav makes one"
wav_said F.NoFmt = codes "there is no fmt chunk before the samples"
wav_said F.BadFmt = codes "the fmt chunk is not sound"
wav_said F.NotPcm16 = codes "only PCM of 16 bits a sample is read; "
    ++ codes "sox IN -e signed -b 16 OUT.wav may make that of it"
wav_said F.NoData = codes "there is no data chunk"
wav_said F.Truncated = codes "a chunk passes the end of the file, as where it was cut or written"
    ++ codes " to a pipe; sox --ignore-length A B may mend it"
wav_said F.Uneven = codes "the samples are not whole frames"
wav_said F.ChannelsOrRate = codes "only 1 to 8 channels at 1 to 384000 frames a second are read"
wav_said F.Memory = codes "no memory was left"

-- of a file that is not there: what a file word of a script is, where it may be meant otherwise
abbrev pub absent_text : List ℕ → List ℕ
absent_text file =
    if has_quote file then codes "there is no such file; quotes are a part of the word"
    else (if is_dash file then codes "there is no such file; standard input is /dev/stdin"
    else (if begins file (codes "/") then codes "there is no such file"
    else codes "there is no such file; file words are paths from the working directory"))

abbrev pub absent_said : Option (List ℕ) → List ℕ
absent_said None = codes "there is no such file"
absent_said (Some line) = absent_text (file_word (words_of line))

-- that the system does not read or write it, and its reason, where that is known
abbrev pub read_said : Option FileWhy → List ℕ
read_said why = codes "the file cannot be read" ++ why_said why

abbrev pub write_said : Option FileWhy → List ℕ
write_said why = codes "the file cannot be written" ++ why_said why

abbrev pub limit_said : Which → List ℕ
limit_said W.ScriptBytes = codes "more than 1048576 bytes"
limit_said W.WavBytes = codes "more than 268435456 bytes"
limit_said W.AllWavBytes = codes "more than 536870912 bytes of WAV files in all"
limit_said W.PodBytes = codes "more bytes than a POD may have"
limit_said W.Nodes = codes "more than 63 nodes"
limit_said W.Epochs = codes "more than 1024 lines of cycles and drain"
limit_said W.Links = codes "more than 256 links at a time"
limit_said W.Events = codes "more than 4194304 events; three are counted for each cycle, and two"
    ++ codes " for each active node in it, the driver among them"
limit_said W.SinkSamples =
    codes "the sinks would keep more than 134217728 samples, 23 minutes of stereo at 48000 a second"
limit_said W.BlockBytes = codes "the buffers would have more than 268435456 bytes"
limit_said W.TraceBytes = codes "more than 268435456 bytes"

-- a limit of a file that a line names
abbrev pub is_of_file : Which → Bool
is_of_file W.WavBytes = true
is_of_file W.AllWavBytes = true
is_of_file W.PodBytes = true
is_of_file _ = false

abbrev pub limit_text : Which → Option (List ℕ) → List ℕ
limit_text which line =
    if is_of_file which then (file_part line ++ limit_said which) else limit_said which
