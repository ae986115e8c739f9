-- What a sentence has behind it of why the system refused a file. Source: this project's own; the
-- reasons are those of POSIX, open(), read() and write().
use Rattle.std.specs.Prelude.{ℕ, List, [], codes, Option, Some, None}
use Rattle.system_files.specs.declared.why.FileWhy.{FileWhy}
use Rattle.system_files.specs.declared.why.FileWhy.TheVariants as Y

-- the reason, where it is one of these
abbrev pub why_said : Option FileWhy → List ℕ
why_said None = []
why_said (Some Y.NoFolder) = codes ": there is no such folder, or it can have no such file"
why_said (Some Y.Folder) = codes ": it is a folder"
why_said (Some Y.Permission) = codes ": the system does not permit it"
why_said (Some Y.Full) = codes ": no room is left"
