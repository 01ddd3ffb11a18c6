-- The text of a record is told of its bytes.
use Rattle.std.proofs.Common.{◌≡◌, Ok, refl}
use Rattle.specification.specs.Outcome.{Outcome, done, refused}
use Rattle.specification.specs.Record.{Made}
use Rattle.commands.specs.Told.{told}
use Rattle.commands.specs.Scratch.{bytes_made}
use Rattle.commands.specs.Replies.{bytes_text}
use Rattle.words.specs.Words.{◌>>=◌}

pub record_told : (o : Outcome Made) → (told o >>= λ made. Ok (bytes_text made.bytes)) ≡ (told (bytes_made o) >>= λ bytes. Ok (bytes_text bytes))
record_told (done m) = refl
record_told (refused number values) = refl
