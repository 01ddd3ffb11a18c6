-- Stepping over one record gives a part at the end of the caller's bytes.
use mathlib.Core.Path.{◌≡◌, sym}
use mathlib.Core.Bool.{true, ◌||◌}
use mathlib.Core.List.{List}
use mathlib.Core.Logic.{◌⊎◌, inl, inr}
use Prim.Native.Nat.{ℕ, ◌<◌, ◌≤◌}
use lib.Dec.{ltb}
use lib.ListN.{length, drop}
use lib.Seq.{drop-length}
use borrow.Author.Tests.{lt-ltb, le-ltb}
use Rattle.specification.specs.Record.{length_field, rest_of}
use Rattle.specification.specs.RecordClaims.{SteppingClaims}
use Rattle.specification.proofs.TestLaws.{or-true}

step-over : (bytes : List ℕ) → 2 ≤ length bytes → 13 ≤ length_field bytes → length_field bytes ≤ length bytes → rest_of bytes ≡ drop (length_field bytes) bytes
unfolding rest_of
step-over bytes h k m = rw (le-ltb (length bytes) 2 h, le-ltb (length_field bytes) 13 k, le-ltb (length bytes) (length_field bytes) m)

step-to-end : (bytes : List ℕ) → (length bytes < 2) ⊎ ((length_field bytes < 13) ⊎ (length bytes < length_field bytes)) → rest_of bytes ≡ drop (length bytes) bytes
unfolding rest_of
step-to-end bytes h = rw (faulty h) (sym (drop-length bytes))
  where
    faulty : (length bytes < 2) ⊎ ((length_field bytes < 13) ⊎ (length bytes < length_field bytes))
        → (ltb (length bytes) 2 || ltb (length_field bytes) 13 || ltb (length bytes) (length_field bytes)) ≡ true
    faulty (inl h) = rw (lt-ltb (length bytes) 2 h)
    faulty (inr (inl h)) = rw (lt-ltb (length_field bytes) 13 h, or-true (ltb (length bytes) 2))
    faulty (inr (inr h)) = rw (lt-ltb (length bytes) (length_field bytes) h) (or-true (ltb (length bytes) 2 || ltb (length_field bytes) 13))

pub stepping_claims : SteppingClaims
stepping_claims = record { over = step-over; at_end = step-to-end }
