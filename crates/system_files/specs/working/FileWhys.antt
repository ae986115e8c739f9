-- Why a load or a store failed, by the kind of the system's error.
-- Source: POSIX, open(), read() and write(): ENOENT, ENOTDIR, EISDIR, EACCES and EPERM, ENOSPC.
use Rattle.std.specs.Prelude.{Option, Some, None}
use Rattle.std.specs.declared.io.ErrorKind.{ErrorKind}
use Rattle.std.specs.declared.io.ErrorKind.TheVariants as K
use Rattle.system_files.specs.declared.why.FileWhy.{FileWhy}
use Rattle.system_files.specs.declared.why.FileWhy.TheVariants.{NoFolder, Folder, Permission, Full}

-- a file that is to be made is not found where a folder of its path is not there
abbrev pub why_of : ErrorKind → Option FileWhy
why_of K.NotFound = Some NoFolder
why_of K.NotADirectory = Some NoFolder
why_of K.IsADirectory = Some Folder
why_of K.PermissionDenied = Some Permission
why_of K.StorageFull = Some Full
why_of _ = None
