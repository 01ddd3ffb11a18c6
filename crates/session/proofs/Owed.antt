-- What has been written so far, what stands to be written, and what the lines that are left will be answered: together all that is written.
use Rattle.std.proofs.Common.{◌≡◌, ◌≢◌, ℕ, length, take, drop, List, [], ◌∷◌, ◌++◌, Bool, true, false, ◌&&◌, Option, Some, None, Result, Ok, Err, IsTrue, ◌↔◌, IfSome, refl, sym, ap, subst, ◌∙◌, append_assoc, append-nil, take-append-drop}
use Rattle.std.specs.Prelude.{IfErr, OnSome, slice_get}
use Rattle.std.specs.Io.KnownBytes.{Appends, Keeps, IsAtEnd}
use Rattle.std.specs.Io.BufRead.{DropsThrough, drop_through, first_piece}
use Rattle.std.proofs.Math.Bool.{and_assoc}
use Rattle.std.proofs.KnownBytes.{Appends-nil, Appends-trans, Appends-kept}
use Rattle.lines.specs.Lines.{AppendsFront, Holds, lines_of}
use Rattle.lines.specs.declared.failure.Failure.{Failure}
use Rattle.lines.specs.declared.failure.Failure.TheVariants.{Read, Write, Memory, Endless}
use Rattle.lines.specs.declared.line.Line.{Line}
use Rattle.session.specs.Session.{AnsweredLines, by_length, answered, answered_in_order, written_for, layouts_after, obeyed_for, empty_layouts, AnswersFirst, HasAnswer, Answers}
use Rattle.commands.specs.Layouts.{Layouts}
use Rattle.lines.proofs.LineLaws.{first_line_of}
use Rattle.session.proofs.HeldLaws.{answered-held}

-- the layouts behind the lines that have been read, and whether they were obeyed
abbrev pub Reached : Type 0
Reached = Layouts × Bool

-- of the known bytes, `left` are left: `written` answers the lines that have been read, but for `text`
pub record OwedKnown (bytes left : List ℕ) (before after : Option (List ℕ)) (text : List ℕ) (l : Reached) : Type 0 where
  pub lines : List (List ℕ)
  pub written : List ℕ
  pub added : Appends before after written
  pub all : lines_of bytes ≡ lines ++ lines_of left
  pub answers : (more : List (List ℕ)) → written_for empty_layouts (lines ++ more) ≡ written ++ (text ++ written_for l.0 more)
  pub reached : layouts_after empty_layouts lines ≡ l.0
  pub told : obeyed_for empty_layouts lines ≡ l.1

-- of the bytes `was`, `now` are left; the writer held `before` and holds `after`; `text` stands to be written, and l is reached
abbrev pub Owed : Option (List ℕ) → Option (List ℕ) → Option (List ℕ) → Option (List ℕ) → List ℕ → Reached → Type 0
Owed None now before after text l = Unit {0}
Owed (Some bytes) None before after text l = ⊥
Owed (Some bytes) (Some left) before after text l = OwedKnown bytes left before after text l

pub at_start : (bytes held : Option (List ℕ)) → Owed bytes bytes held held [] (empty_layouts, true)
unfolding answered_in_order
at_start None held = tt
at_start (Some bytes) held = record { lines = []; written = []; added = Appends-nil held; all = refl; answers = λ more. refl; reached = refl; told = refl }

-- with what is owed, all is written
owed_all : (bytes left : List ℕ) (before after : Option (List ℕ)) (text : List ℕ) (l : Reached) (a : OwedKnown bytes left before after text l)
    → a.written ++ (text ++ written_for l.0 (lines_of left)) ≡ written_for empty_layouts (lines_of bytes)
owed_all bytes left before after text l a = sym (a.answers (lines_of left)) ∙ ap (written_for empty_layouts) (sym a.all)

-- the writer keeps what it holds
pub kept : (was now before mid after : Option (List ℕ)) (text : List ℕ) (l : Reached) → Owed was now before mid text l → Keeps mid after → Owed was now before after text l
kept None now before mid after text l owed keeps = tt
kept (Some bytes) None before mid after text l owed keeps = absurd owed
kept (Some bytes) (Some left) before mid after text l owed keeps =
    record { lines = owed.lines; written = owed.written; added = Appends-kept before mid after owed.written owed.added keeps; all = owed.all; answers = owed.answers; reached = owed.reached; told = owed.told }

-- the layouts after lines and one more, and whether they were obeyed
after-last : (l : Layouts) (lines : List (List ℕ)) (line : List ℕ) → layouts_after l (lines ++ line ∷ []) ≡ (answered (layouts_after l lines) line).layouts
unfolding answered_in_order
after-last l [] line = refl
after-last l (first ∷ lines) line = after-last (answered l first).layouts lines line

told-last : (l : Layouts) (lines : List (List ℕ)) (line : List ℕ) → obeyed_for l (lines ++ line ∷ []) ≡ (obeyed_for l lines && (answered (layouts_after l lines) line).all_obeyed)
unfolding answered_in_order
told-last l [] line = by_case (answered l line).all_obeyed
  where
    by_case : (obeyed : Bool) → (obeyed && true) ≡ obeyed
    by_case true = refl
    by_case false = refl
told-last l (first ∷ lines) line =
    ap (λ rest. (answered l first).all_obeyed && rest) (told-last (answered l first).layouts lines line) ∙ sym (and_assoc (answered l first).all_obeyed _ _)

-- a line has been read and answered
pub answers : (was now next before after : Option (List ℕ)) (l : Reached) (line : Line) (text : List ℕ) (both : Layouts) (obeyed : Bool) → Owed was now before after [] l
    → IfSome now (λ bytes. IsTrue true ↔ (bytes ≢ [])) → IfSome now (λ bytes. Holds line (first_piece 10 bytes)) → DropsThrough now next 10
    → text ≡ (by_length l.0 line.is_long line.bytes.items).text → both ≡ (by_length l.0 line.is_long line.bytes.items).layouts
    → obeyed ≡ (by_length l.0 line.is_long line.bytes.items).all_obeyed → Owed was next before after text (both, l.1 && obeyed)
unfolding answered_in_order
answers None now next before after l line text both obeyed owed more holds rest texts reaches tells = tt
answers (Some bytes) None next before after l line text both obeyed owed more holds rest texts reaches tells = absurd owed
answers (Some bytes) (Some left) next before after l line text both obeyed owed more holds rest texts reaches tells =
    let first = first_piece 10 left in
    let lines = owed.lines ++ first ∷ [] in
    let all : lines_of bytes ≡ lines ++ lines_of (drop_through 10 left) =
    owed.all ∙ ap (λ (ls : List (List ℕ)). owed.lines ++ ls) (first_line_of left (more.0 refl)) ∙ sym (append_assoc owed.lines (first ∷ []) (lines_of (drop_through 10 left))) in
    let same = answered-held l.0 line first holds in
    rw (rest, texts, reaches, tells, ← same) record {
      lines = lines;
      written = owed.written;
      added = owed.added;
      all = all;
      answers = λ ls. ap (written_for empty_layouts) (append_assoc owed.lines (first ∷ []) ls) ∙ owed.answers (first ∷ ls);
      reached = after-last empty_layouts owed.lines first ∙ ap (λ at. (answered at first).layouts) owed.reached;
      told = told-last empty_layouts owed.lines first ∙ ap (λ at. obeyed_for empty_layouts owed.lines && (answered at first).all_obeyed) owed.reached ∙ ap (λ so_far. so_far && (answered l.0 first).all_obeyed) owed.told;
    }

-- the text is written
pub writes : (was now before mid after : Option (List ℕ)) (text : List ℕ) (l : Reached) → Owed was now before mid text l → Appends mid after text → Owed was now before after [] l
writes None now before mid after text l owed added = tt
writes (Some bytes) None before mid after text l owed added = absurd owed
writes (Some bytes) (Some left) before mid after text l owed added =
    record {
      lines = owed.lines;
      written = owed.written ++ text;
      added = Appends-trans before mid after owed.written text owed.added added;
      all = owed.all;
      answers = λ more. owed.answers more ∙ sym (append_assoc owed.written text (written_for l.0 more));
      reached = owed.reached;
      told = owed.told;
    }

take-front : {A : Type 0} (front rest : List A) → take (length front) (front ++ rest) ≡ front
take-front [] rest = refl
take-front (x ∷ front) rest = ap (λ xs. x ∷ xs) (take-front front rest)

-- a front and what stands behind it
is_front : (before after : Option (List ℕ)) (front rest all : List ℕ) → Appends before after front → front ++ rest ≡ all → AppendsFront before after all
is_front before after front rest all added whole =
    (length front, subst (Appends before after) (sym (take-front front rest) ∙ ap (take (length front)) whole) added)

-- a front of the text is written
pub writes-front : (was now before mid after : Option (List ℕ)) (text : List ℕ) (l : Reached) → Owed was now before mid text l → AppendsFront mid after text
    → IfSome was (λ bytes. AppendsFront before after (written_for empty_layouts (lines_of bytes)))
writes-front None now before mid after text l owed added = tt
writes-front (Some bytes) None before mid after text l owed added = absurd owed
writes-front (Some bytes) (Some left) before mid after text l owed (n, added) =
    let behind = written_for l.0 (lines_of left) in
    let joined : take n text ++ (drop n text ++ behind) ≡ text ++ behind = sym (append_assoc (take n text) (drop n text) behind) ∙ ap (λ (t : List ℕ). t ++ behind) (take-append-drop n text) in
    is_front before after (owed.written ++ take n text) (drop n text ++ behind) (written_for empty_layouts (lines_of bytes))
    (Appends-trans before mid after owed.written (take n text) owed.added added)
    (append_assoc owed.written (take n text) (drop n text ++ behind) ∙ ap (λ (t : List ℕ). owed.written ++ t) joined ∙ owed_all bytes left before mid text l owed)

-- what is written so far is a front
pub front : (was now before after : Option (List ℕ)) (text : List ℕ) (l : Reached) → Owed was now before after text l → IfSome was (λ bytes. AppendsFront before after (written_for empty_layouts (lines_of bytes)))
front was now before after text l owed = writes-front was now before after after text l owed (0, Appends-nil after)

-- the lines that were read have been answered
first_answered : (bytes left : List ℕ) (before after : Option (List ℕ)) (l : Reached) (a : OwedKnown bytes left before after [] l)
    → AnswersFirst (length a.lines) before after (lines_of bytes)
unfolding answered_in_order
first_answered bytes left before after l a = subst (Appends before after) is a.added
  where
    is : a.written ≡ written_for empty_layouts (take (length a.lines) (lines_of bytes))
    is = sym (append-nil a.written) ∙ sym (a.answers []) ∙ ap (written_for empty_layouts) (append-nil a.lines ∙ sym (ap (take (length a.lines)) a.all ∙ take-front a.lines (lines_of left)))

-- if neither a write nor memory failed, they have been answered
pub whole_answers : {T : Type 0} (result : Result T Failure) (was now before after : Option (List ℕ)) (l : Reached) → IfErr result (λ why. why ≢ Memory)
    → Owed was now before after [] l → IfErr result (λ why. IfSome was (λ bytes. Answers why before after (lines_of bytes)))
whole_answers (Ok x) was now before after l other owed = tt
whole_answers (Err why) None now before after l other owed = tt
whole_answers (Err why) (Some bytes) None before after l other owed = absurd owed
whole_answers (Err why) (Some bytes) (Some left) before after l other owed = by_why why other
  where
    by_why : (why : Failure) → why ≢ Memory → Answers why before after (lines_of bytes)
    by_why (Write error) other = tt
    by_why (Read error) other = (length owed.lines, first_answered bytes left before after l owed)
    by_why Memory other = absurd (other refl)
    by_why Endless other = (length owed.lines, first_answered bytes left before after l owed)

line_behind : (front : List (List ℕ)) (line : List ℕ) (rest : List (List ℕ)) → slice_get (front ++ line ∷ rest) (length front) ≡ Some line
line_behind [] line rest = refl
line_behind (first ∷ front) line rest = line_behind front line rest

-- if memory failed, the line behind them has an answer with a text
answered_before : (was now before after : Option (List ℕ)) (l : Reached) (line : Line) → Owed was now before after [] l
    → IfSome now (λ bytes. IsTrue true ↔ (bytes ≢ [])) → IfSome now (λ bytes. Holds line (first_piece 10 bytes)) → (by_length l.0 line.is_long line.bytes.items).text ≢ []
    → IfSome was (λ bytes. Answers Memory before after (lines_of bytes))
answered_before None now before after l line owed more holds text = tt
answered_before (Some bytes) None before after l line owed more holds text = absurd owed
answered_before (Some bytes) (Some left) before after l line owed more holds text = (length owed.lines, first_answered bytes left before after l owed, has)
  where
    first : List ℕ
    first = first_piece 10 left

    all : lines_of bytes ≡ owed.lines ++ first ∷ lines_of (drop_through 10 left)
    all = owed.all ∙ ap (λ (ls : List (List ℕ)). owed.lines ++ ls) (first_line_of left (more.0 refl))

    read : take (length owed.lines) (lines_of bytes) ≡ owed.lines
    read = ap (take (length owed.lines)) owed.all ∙ take-front owed.lines (lines_of left)

    next : slice_get (lines_of bytes) (length owed.lines) ≡ Some first
    next = ap (λ (ls : List (List ℕ)). slice_get ls (length owed.lines)) all ∙ line_behind owed.lines first (lines_of (drop_through 10 left))

    is : (answered (layouts_after empty_layouts (take (length owed.lines) (lines_of bytes))) first).text ≡ (by_length l.0 line.is_long line.bytes.items).text
    is = ap (λ (ls : List (List ℕ)). (answered (layouts_after empty_layouts ls) first).text) read ∙ ap (λ at. (answered at first).text) owed.reached ∙ ap (λ (a : AnsweredLines). a.text) (answered-held l.0 line first holds)

    has : HasAnswer (length owed.lines) (lines_of bytes)
    has = rw next (λ none. text (sym is ∙ none))

pub answers_before : {T : Type 0} (result : Result T Failure) (was now before after : Option (List ℕ)) (l : Reached) (line : Line) → IfErr result (λ why. why ≡ Memory)
    → Owed was now before after [] l → IfSome now (λ bytes. IsTrue true ↔ (bytes ≢ [])) → IfSome now (λ bytes. Holds line (first_piece 10 bytes)) → (by_length l.0 line.is_long line.bytes.items).text ≢ []
    → IfErr result (λ why. IfSome was (λ bytes. Answers why before after (lines_of bytes)))
answers_before (Ok x) was now before after l line memory owed more holds text = tt
answers_before (Err why) was now before after l line memory owed more holds text = rw memory (answered_before was now before after l line owed more holds text)

-- no line is left
pub whole : (was now before after : Option (List ℕ)) (l : Reached) → Owed was now before after [] l → OnSome was (IsAtEnd now) → IfSome was (λ bytes. Appends before after (written_for empty_layouts (lines_of bytes)))
unfolding answered_in_order
whole None now before after l owed end = tt
whole (Some bytes) None before after l owed end = absurd owed
whole (Some bytes) (Some []) before after l owed end = subst (Appends before after) (sym (append-nil owed.written) ∙ owed_all bytes [] before after [] l owed) owed.added
whole (Some bytes) (Some (b ∷ left)) before after l owed end = absurd (let no : b ∷ left ≡ [] = end in cc)

-- no line is left, so that what is told of those that were read is told of all
pub whole_told : (was now before after : Option (List ℕ)) (text : List ℕ) (l : Reached) → Owed was now before after text l → OnSome was (IsAtEnd now)
    → IfSome was (λ bytes. l.1 ≡ obeyed_for empty_layouts (lines_of bytes))
whole_told None now before after text l owed end = tt
whole_told (Some bytes) None before after text l owed end = absurd owed
whole_told (Some bytes) (Some []) before after text l owed end = sym (ap (obeyed_for empty_layouts) (owed.all ∙ append-nil owed.lines) ∙ owed.told)
whole_told (Some bytes) (Some (b ∷ left)) before after text l owed end = absurd (let no : b ∷ left ≡ [] = end in cc)

-- a reader that has no more line is at its end
pub at_end : (was now : Option (List ℕ)) → IfSome now (λ bytes. IsTrue false ↔ (bytes ≢ [])) → OnSome was (IsAtEnd now)
at_end None now more = tt
at_end (Some bytes) None more = tt
at_end (Some bytes) (Some []) more = refl
at_end (Some bytes) (Some (b ∷ left)) more = absurd (let no : false ≡ true = more.1 (λ e. cc) in cc)

-- a reader whose bytes were known is at its end behind the last line
pub at_last : (was now next before after : Option (List ℕ)) (text : List ℕ) (l : Reached) → Owed was now before after text l → OnSome now (IsAtEnd next) → OnSome was (IsAtEnd next)
at_last None now next before after text l owed last = tt
at_last (Some bytes) None next before after text l owed last = absurd owed
at_last (Some bytes) (Some left) next before after text l owed last = last
