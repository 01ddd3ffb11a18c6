-- How a program that answers lines ends. Assumes nothing.
use Rattle.std.specs.Prelude.{◌≡◌, Result, Ok, Err, ⊤}
use Rattle.std.specs.IoError.{error_kind}
use Rattle.std.specs.declared.io.ErrorKind.TheVariants.{BrokenPipe}
use Rattle.lines.specs.declared.failure.Failure.{Failure}
use Rattle.lines.specs.declared.failure.Failure.TheVariants.{Write}

-- an answer could not be written, since the reader of the answers has closed the pipe
abbrev pub IsClosedPipe : Failure → Type 0
IsClosedPipe (Write error) = error_kind error ≡ BrokenPipe
IsClosedPipe other = ⊥

-- the input has ended, or nobody reads the answers any more
abbrev pub IsSuccess : Result (Unit {0}) Failure → Type 0
IsSuccess (Ok end) = ⊤
IsSuccess (Err failure) = IsClosedPipe failure
