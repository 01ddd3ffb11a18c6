-- What is held of a line, and of a line with a piece more.
use Rattle.std.proofs.Common.{◌≡◌, ℕ, zero, suc, ◌-◌, ◌<◌, min, List, [], ◌∷◌, ◌++◌, length, take, Bool, true, false, ◌↔◌, IsTrue, refl, sym, ap, ◌∙◌, arith, take_all, length-append, length-take, ◌||◌, nat_lt}
use Rattle.lines.specs.Lines.{Holds}
use Rattle.lines.specs.Pieces.{Took}
use Rattle.lines.specs.declared.line.Line.{Line}
use Rattle.std.proofs.lemmas.Grind.{common_steps}

-- as many as there are
within_room : (room n : ℕ) (bytes : List ℕ) → n ≡ min room (length bytes) → take room bytes ≡ take n bytes
within_room zero n bytes e = let none : n ≡ 0 = omega arith in rw none refl
within_room (suc room) n [] e = sym (take_all n [] (omega arith))
within_room (suc room) n (b ∷ bytes) e =
    let next : n ≡ suc (min room (length bytes)) = omega arith in
    rw next (ap (λ l. b ∷ l) (within_room room (min room (length bytes)) bytes refl))

-- what is kept of two parts, if the first is kept already
kept_front : (most room : ℕ) (read bytes : List ℕ) → room ≡ most - length (take most read) → take most (read ++ bytes) ≡ take most read ++ take (min room (length bytes)) bytes
kept_front zero room read bytes e = let none : min room (length bytes) ≡ 0 = omega arith in rw none refl
kept_front (suc most) room [] bytes e = within_room (suc most) (min room (length bytes)) bytes (omega arith)
kept_front (suc most) room (b ∷ read) bytes e = ap (λ l. b ∷ l) (kept_front most room read bytes (omega arith))

-- whether there is more than is kept, if a piece comes behind what was read
longer_more : (most : ℕ) (read bytes : List ℕ) (was : Bool) → (IsTrue was ↔ (most < length read)) → IsTrue (was || nat_lt (most - length (take most read)) (length bytes)) ↔ (most < length (read ++ bytes))
longer_more most read bytes true h = (λ _. omega (arith, h.0 refl, length-append read bytes), λ _. refl)
longer_more most read bytes false h = grind (arith, common_steps, h, length-append, length-take)

-- what a vector that grew by as many as there is room for holds
held_more : (old new : Line) (read bytes : List ℕ) → Holds old read → new.bytes.items ≡ old.bytes.items ++ take (min (4096 - length old.bytes.items) (length bytes)) bytes
    → new.is_long ≡ (old.is_long || nat_lt (4096 - length old.bytes.items) (length bytes)) → Holds new (read ++ bytes)
held_more old new read bytes held items long = record {
  front = items ∙ rw held.front (sym (kept_front 4096 _ read bytes refl));
  longer = rw (long, held.front) (longer_more 4096 read bytes old.is_long held.longer);
}

pub took_more : (old new : Line) (bytes : List ℕ) → new.bytes.items ≡ old.bytes.items ++ take (min (4096 - length old.bytes.items) (length bytes)) bytes
    → new.is_long ≡ (old.is_long || nat_lt (4096 - length old.bytes.items) (length bytes)) → new.is_last ≡ old.is_last → Took old new bytes
took_more old new bytes items long last = record { held = λ read held. held_more old new read bytes held items long; last = last }
