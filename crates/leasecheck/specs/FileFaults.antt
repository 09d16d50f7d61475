-- Files that can't be opened or read.
use Rattle.std.specs.Prelude.{◌≡◌, Option, Some, None}
use Rattle.std.specs.declared.io.ErrorKind.{ErrorKind}
use Rattle.std.specs.declared.io.ErrorKind.TheVariants as kind
use Rattle.leasecheck.specs.declared.failure.Failure.{Failure}
use Rattle.leasecheck.specs.declared.failure.Failure.TheVariants as failure
use Rattle.leasecheck.specs.declared.file_fault.FileFault.{FileFault}
use Rattle.leasecheck.specs.declared.file_fault.FileFault.TheVariants as fault

-- by the kind of the error; want of memory is no fault of the file
unfoldable pub fault_of : ErrorKind → Option FileFault
fault_of kind.OutOfMemory = None
fault_of kind.NotFound = Some fault.Missing
fault_of kind.PermissionDenied = Some fault.Forbidden
fault_of kind.IsADirectory = Some fault.Folder
fault_of kind.NotADirectory = Some fault.NoFolder
fault_of kind.InvalidFilename = Some fault.LongName
fault_of kind.FilesystemLoop = Some fault.ManyLinks
fault_of _ = Some fault.Unreadable

abbrev pub failure_by : Option FileFault → Failure
failure_by None = failure.Memory
failure_by (Some why) = failure.File why

-- what a read, or the opening of a file, fails as
abbrev pub reading_failure : ErrorKind → Failure
reading_failure why = failure_by (fault_of why)

-- a read failed, or a file could not be opened
abbrev pub FailsReading : Failure → Type 0
FailsReading failed = (why : ErrorKind) × (failed ≡ reading_failure why)
