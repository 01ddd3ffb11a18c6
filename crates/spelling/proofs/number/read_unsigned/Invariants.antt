-- The digits passed spell the number; those left, behind it, spell the whole.
use Rattle.std.proofs.Common.{◌≡◌, ◌<◌, ◌^◌, drop}
use Rattle.spelling.specs.Number.{spelled_from}
use Rattle.spelling.proofs.number.read_unsigned.Given as goal

abbrev pub invariant-loop-byte : goal.invariant-loop-byte
invariant-loop-byte l = (l.number < 2 ^ 64) × (spelled_from 0 l.text ≡ spelled_from l.number (drop l.byte-index l.text))
