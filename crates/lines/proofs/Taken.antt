-- What is consumed of a reader with a piece of a line.
use Rattle.std.proofs.Common.{◌≡◌, ◌≢◌, ℕ, ◌+◌, ◌≤◌, List, [], ◌∷◌, All, IfSome, length, take, sym, subst, ap, ◌∙◌, arith, length-append}
use Rattle.std.specs.Prelude.{Option}
use Rattle.std.specs.Io.{StartsWith}
use Rattle.std.specs.Io.KnownBytes.{Consumes, Keeps}
use Rattle.std.specs.Io.BufRead.{DropsConsumable}
use Rattle.std.proofs.BufReadLemmas.{Consumes_shown}
use Rattle.std.proofs.Transfers.{starts_with_length}
use Rattle.lines.specs.Pieces.{TakesPiece, with_end}
use Rattle.lines.specs.contracts.line.End.{the_type}
use denote.Enum.Bare.{sameb}
use mir.Val.{bool_byte}
use Rattle.lines.specs.declared.line.End.{End}
use Rattle.lines.specs.declared.line.End.TheVariants.{Feed, Input, Shown}

-- after `fill_buf` showed a piece with what ends it, `consume` takes both
pub takes_piece : (a b c : Option (List ℕ)) (buffered : Option ℕ) (shown piece : List ℕ) (end : End) (n : ℕ)
    → All (λ byte. byte ≢ 10) piece → StartsWith shown (with_end piece end) → (end ≡ Input → shown ≡ []) → n ≡ length (with_end piece end)
    → IfSome a (λ xs. StartsWith xs shown) → IfSome a (λ xs. length shown ≡ 0 → xs ≡ []) → Keeps a b
    → IfSome a (λ _. IfSome buffered (λ k. length shown ≤ k)) → DropsConsumable b c buffered n
    → TakesPiece a c piece end
takes_piece a b c buffered shown piece end n one_line begins input count front empty kept fits drops =
    let within : n ≤ length shown = subst (λ k. k ≤ length shown) (sym count) (starts_with_length shown (with_end piece end) begins) in
    let moved = Consumes_shown a b c buffered shown n within front empty kept fits drops in
    record {
      one_line = one_line;
      taken = subst (Consumes a c) (ap (λ k. take k shown) count ∙ begins) moved.0;
      input = λ ends. moved.1 (ap length (input ends));
    }

-- as many as the piece and the line feed that ends it
pub count_with_end : (piece : List ℕ) (end : End) → length piece + bool_byte (sameb the_type end Feed) ≡ length (with_end piece end)
count_with_end piece Feed = omega (arith, length-append piece (10 ∷ []))
count_with_end piece Input = omega arith
count_with_end piece Shown = omega arith
