-- What was read so far of a line, and of the whole line at its end.
use Rattle.std.proofs.Common.{◌≡◌, ◌≢◌, ◌↔◌, ℕ, ◌+◌, ◌-◌, ◌≤◌, List, [], ◌∷◌, ◌++◌, All, None, Some, IfSome, OnSome, IsTrue, Bool, true, false, not, length, get_or, refl, sym, subst, ap, ◌∙◌, arith, length-append, length-take, append_assoc, append-nil, take_at, ne_eqb, eq-eqb, min}
use Rattle.std.specs.Prelude.{Option, nat_lt, ◌==◌}
use Rattle.std.proofs.lemmas.Bool.{lt-ltb}
use Rattle.std.proofs.lemmas.Grind.{common_steps}
use Rattle.std.proofs.lemmas.List.Elements.{All-append, All-take}
use Rattle.std.specs.Io.KnownBytes.{Consumes, IsAtEnd}
use Rattle.std.specs.Io.BufRead.{DropsThrough, first_piece, take_through, drop_through, strip_last}
use Rattle.std.proofs.KnownBytes.{Consumes-trans}
use Rattle.std.proofs.BufReadLemmas.{take_through-append, drop_through-append}
use Rattle.lines.specs.Lines.{Holds}
use Rattle.lines.specs.Pieces.{Took, TakesPiece}
use Rattle.lines.specs.declared.line.Line.{Line}
use Rattle.lines.specs.declared.line.End.TheVariants.{Feed, Input, Shown}

abbrev pub NoLineFeed : List ℕ → Type 0
NoLineFeed = All (λ byte. byte ≢ 10)

-- the line holds what was read of it, which has no line feed yet
pub record SoFar (before now : Option (List ℕ)) (line : Line) : Type 0 where
  pub read : List ℕ
  pub held : Holds line read
  pub one_line : NoLineFeed read
  pub taken : Consumes before now read
  pub not_last : line.is_last ≡ false

pub goes_on : (before now next : Option (List ℕ)) (old new : Line) (piece : List ℕ) → SoFar before now old → Took old new piece → TakesPiece now next piece Shown → SoFar before next new
goes_on before now next old new piece so_far took takes = record {
  read = so_far.read ++ piece;
  held = took.held so_far.read so_far.held;
  one_line = All-append (λ byte. byte ≢ 10) so_far.read piece so_far.one_line takes.one_line;
  taken = Consumes-trans before now next so_far.read piece so_far.taken takes.taken;
  not_last = took.last ∙ so_far.not_last;
}

-- ---- a line with its line feed, and one that the input ended

strip_line_feed : (line : List ℕ) → strip_last 10 (line ++ 10 ∷ []) ≡ line
strip_line_feed line =
    let long : length (line ++ 10 ∷ []) ≡ length line + 1 = omega (arith, length-append line (10 ∷ [])) in
    let last : length (line ++ 10 ∷ []) - 1 ≡ length line = omega arith in
    let some : nat_lt 0 (length (line ++ 10 ∷ [])) ≡ true = lt-ltb _ _ (omega arith) in
    let is : get_or (line ++ 10 ∷ []) (length line) 0 ≡ 10 = grind (arith, common_steps) in
    rw (some, last, is) (take_at line (10 ∷ []) (length line) refl)

line_fed : (line left : List ℕ) → NoLineFeed line → (first_piece 10 (line ++ 10 ∷ left) ≡ line) × (drop_through 10 (line ++ 10 ∷ left) ≡ left)
line_fed line left one_line = (ap (strip_last 10) (take_through-append 10 line (10 ∷ left) one_line) ∙ strip_line_feed line, drop_through-append 10 line (10 ∷ left) one_line)

strip_none : (line : List ℕ) → NoLineFeed line → strip_last 10 line ≡ line
strip_none [] one_line = refl
strip_none (byte ∷ line) one_line =
    let other : get_or (byte ∷ line) (length (byte ∷ line) - 1) 0 ≢ 10 = one_line (length (byte ∷ line) - 1) 0 (omega arith) in
    let test : (get_or (byte ∷ line) (length (byte ∷ line) - 1) 0 == 10) ≡ false = ne_eqb _ _ other in
    let some : nat_lt 0 (length (byte ∷ line)) ≡ true = lt-ltb _ _ (omega arith) in
    rw (some, test) refl

line_unfed : (line : List ℕ) → NoLineFeed line → (first_piece 10 line ≡ line) × (drop_through 10 line ≡ [])
line_unfed line one_line =
    let whole : take_through 10 line ≡ line = ap (take_through 10) (sym (append-nil line)) ∙ take_through-append 10 line [] one_line ∙ append-nil line in
    (ap (strip_last 10) whole ∙ strip_none line one_line, ap (drop_through 10) (sym (append-nil line)) ∙ drop_through-append 10 line [] one_line)

few : (line : Line) (read : List ℕ) → Holds line read → length line.bytes.items ≤ 4096
few line read held = omega (arith, ap length held.front, length-take 4096 read)

kept : (line : Line) (read : List ℕ) → Holds line read → NoLineFeed read → NoLineFeed line.bytes.items
kept line read held one_line = subst NoLineFeed (sym held.front) (All-take (λ byte. byte ≢ 10) 4096 read one_line)

-- what is promised of a line that was read to its end
pub record Whole (before after : Option (List ℕ)) (line : Line) : Type 0 where
  pub few : length line.bytes.items ≤ 4096
  pub one_line : NoLineFeed line.bytes.items
  pub held : IfSome before (λ bytes. Holds line (first_piece 10 bytes))
  pub rest : DropsThrough before after 10

fed : (before after : Option (List ℕ)) (line : Line) (read : List ℕ) → Holds line read → NoLineFeed read → Consumes before after (read ++ 10 ∷ [])
    → IfSome before (λ bytes. Holds line (first_piece 10 bytes)) × DropsThrough before after 10 × IfSome before (λ bytes. IsTrue true ↔ (bytes ≢ []))
fed None after line read held one_line taken = (tt, tt, tt)
fed (Some bytes) None line read held one_line taken = absurd taken
fed (Some bytes) (Some left) line read held one_line taken =
    let all : bytes ≡ read ++ 10 ∷ left = taken ∙ append_assoc read (10 ∷ []) left in
    let parts = line_fed read left one_line in
    let long : length bytes ≡ length read + (length left + 1) = ap length all ∙ length-append read (10 ∷ left) ∙ omega arith in
    (subst (Holds line) (sym (ap (first_piece 10) all ∙ parts.0)) held, ap Some (sym (ap (drop_through 10) all ∙ parts.1)), (λ _ none. omega (arith, ap length none), λ _. refl))

pub at_line_feed : (before now next : Option (List ℕ)) (old new : Line) (piece : List ℕ) → SoFar before now old → Took old new piece → TakesPiece now next piece Feed
    → Whole before next new × IfSome before (λ bytes. IsTrue true ↔ (bytes ≢ []))
at_line_feed before now next old new piece so_far took takes =
    let read = so_far.read ++ piece in
    let held = took.held so_far.read so_far.held in
    let one_line = All-append (λ byte. byte ≢ 10) so_far.read piece so_far.one_line takes.one_line in
    let taken = subst (Consumes before next) (sym (append_assoc so_far.read piece (10 ∷ []))) (Consumes-trans before now next so_far.read (piece ++ 10 ∷ []) so_far.taken takes.taken) in
    let ends = fed before next new read held one_line taken in
    (record { few = few new read held; one_line = kept new read held one_line; held = ends.0; rest = ends.1 }, ends.2)

known_before : (before now : Option (List ℕ)) (read : List ℕ) (P : Type 0) → Consumes before now read → OnSome now P → OnSome before P
known_before None now read P taken ends = tt
known_before (Some bytes) None read P taken ends = absurd taken
known_before (Some bytes) (Some left) read P taken ends = ends

-- there is a byte where one is kept
some_kept : (bytes : List ℕ) (count : ℕ) (empty : Bool) → count ≡ min 4096 (length bytes) → empty ≡ (count == 0) → IsTrue (not empty) ↔ (bytes ≢ [])
some_kept [] count empty kept is =
    let none : count ≡ 0 = omega arith in
    let yes : empty ≡ true = is ∙ eq-eqb count 0 none in
    (λ some. absurd (cc), λ some. absurd (some refl))
some_kept (byte ∷ bytes) count empty kept is =
    let some : count ≢ 0 = omega arith in
    let no : empty ≡ false = is ∙ ne_eqb count 0 some in
    (λ _ none. absurd (cc), λ _. ap not no)

unfed : (before after : Option (List ℕ)) (line : Line) (read : List ℕ) (empty : Bool) → Holds line read → NoLineFeed read → Consumes before after read → OnSome before (IsAtEnd after)
    → empty ≡ (length line.bytes.items == 0)
    → IfSome before (λ bytes. Holds line (first_piece 10 bytes)) × DropsThrough before after 10 × IfSome before (λ bytes. IsTrue (not empty) ↔ (bytes ≢ []))
unfed None after line read empty held one_line taken ends is = (tt, tt, tt)
unfed (Some bytes) None line read empty held one_line taken ends is = absurd taken
unfed (Some bytes) (Some left) line read empty held one_line taken ends is =
    let all : bytes ≡ read = taken ∙ ap (λ l. read ++ l) ends ∙ append-nil read in
    let parts = line_unfed read one_line in
    let count : length line.bytes.items ≡ min 4096 (length bytes) = ap length held.front ∙ length-take 4096 read ∙ ap (λ l. min 4096 (length l)) (sym all) in
    (subst (Holds line) (sym (ap (first_piece 10) all ∙ parts.0)) held, ap Some (ends ∙ sym (ap (drop_through 10) all ∙ parts.1)), some_kept bytes (length line.bytes.items) empty count is)

pub at_input : (before now next : Option (List ℕ)) (old new line : Line) (piece : List ℕ) (empty : Bool) → SoFar before now old → Took old new piece → TakesPiece now next piece Input
    → line.bytes ≡ new.bytes → line.is_long ≡ new.is_long → empty ≡ (length line.bytes.items == 0)
    → Whole before next line × IfSome before (λ bytes. IsTrue (not empty) ↔ (bytes ≢ [])) × OnSome before (IsAtEnd next)
at_input before now next old new line piece empty so_far took takes same_bytes same_length is =
    let read = so_far.read ++ piece in
    let of_new = took.held so_far.read so_far.held in
    let held : Holds line read = record { front = ap (λ v. v.items) same_bytes ∙ of_new.front; longer = rw same_length of_new.longer } in
    let one_line = All-append (λ byte. byte ≢ 10) so_far.read piece so_far.one_line takes.one_line in
    let taken = Consumes-trans before now next so_far.read piece so_far.taken takes.taken in
    let at_end = known_before before now so_far.read (IsAtEnd next) so_far.taken (takes.input refl) in
    let ends = unfed before next line read empty held one_line taken at_end is in
    (record { few = few line read held; one_line = kept line read held one_line; held = ends.0; rest = ends.1 }, ends.2, at_end)
