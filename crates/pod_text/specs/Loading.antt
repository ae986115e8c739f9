-- What is read: its name among the files, its bytes at most, and the word that names it. Source:
-- this project's own.
use Rattle.std.specs.Prelude.{ℕ, List, codes, if◌then◌else◌}
use Rattle.pod_text.specs.FileWords.{is_dash}

-- the bytes of what is read, at most: 32 MiB
abbrev pub source_bytes_limit : ℕ
source_bytes_limit = 33554432

-- `-` is standard input
abbrev pub input_name : List ℕ → List ℕ
input_name word = if is_dash word then codes "/dev/stdin" else word
