-- Lines behind a byte order mark: what is promised of them is promised of all that was read.
use Rattle.std.proofs.Common.{◌≡◌, ◌≢◌, ℕ, List, [], ◌++◌, Option, Some, None, Result, Ok, Err, IfSome, refl, sym, ap, ◌∙◌, append-nil}
use Rattle.std.specs.Prelude.{IfOk, IfErr, OnOk, OnSome}
use Rattle.std.specs.Fmt.{option_append}
use Rattle.std.specs.Io.KnownBytes.{Appends, Keeps, IsAtEnd}
use Rattle.std.proofs.KnownBytes.{Appends-nil, Appends-trans, Appends-kept}
use Rattle.lines.specs.Lines.{AppendsFront, lines_of}
use Rattle.lines.specs.Mark.{without_mark, IsBehindMark}
use Rattle.lines.specs.declared.failure.Failure.{Failure}
use Rattle.lines.specs.declared.failure.Failure.TheVariants.{Read, Write, Memory, Endless}
use Rattle.session.specs.declared.end.Ended.{Ended}
use Rattle.session.specs.Session.{answered_in_order, written_for, obeyed_for, empty_layouts, lines_in, output_of, all_obeyed, Answers}

-- if the bytes are known, `read` has them without the mark
abbrev pub Reads : Option (List ℕ) → Option (List ℕ) → Type 0
Reads was read = IfSome was (λ bytes. read ≡ Some (without_mark bytes))

-- what was taken, and then what is left
pub goes_on : (was now read : Option (List ℕ)) (taken : List ℕ) → IsBehindMark was taken now → read ≡ option_append (Some taken) now → Reads was read
goes_on None now read taken start is = tt
goes_on (Some bytes) None read taken start is = absurd (cc)
goes_on (Some bytes) (Some left) read taken start is = is ∙ start

-- what was taken, if nothing is left
pub ends : (was now : Option (List ℕ)) (taken : List ℕ) → IsBehindMark was taken now → OnSome was (IsAtEnd now) → Reads was (Some taken)
ends None now taken start end = tt
ends (Some bytes) None taken start end = absurd (cc)
ends (Some bytes) (Some left) taken start end = ap Some (sym (append-nil taken) ∙ ap (λ rest. taken ++ rest) (sym end)) ∙ start

-- nothing is written yet
kept_all : (before after : Option (List ℕ)) → Keeps before after → Appends before after []
kept_all before after keeps = Appends-kept before before after [] (Appends-nil before) keeps

-- the writer was flushed before
flushed : (before mid after : Option (List ℕ)) (text : List ℕ) → Keeps before mid → Appends mid after text → Appends before after text
flushed before mid after text keeps added = Appends-trans before mid after [] text (kept_all before mid keeps) added

-- no line has been answered
pub no_answer : {T : Type 0} (result : Result T Failure) (was before after : Option (List ℕ)) → IfErr result (λ why. why ≢ Memory) → Keeps before after
    → IfErr result (λ why. IfSome was (λ bytes. Answers why before after (lines_in bytes)))
unfolding answered_in_order
no_answer (Ok x) was before after other keeps = tt
no_answer (Err why) None before after other keeps = tt
no_answer (Err why) (Some bytes) before after other keeps = by_why why other
  where
    by_why : (why : Failure) → why ≢ Memory → Answers why before after (lines_in bytes)
    by_why (Write error) other = tt
    by_why (Read error) other = (0, kept_all before after keeps)
    by_why Memory other = absurd (other refl)
    by_why Endless other = (0, kept_all before after keeps)

-- ---- what each clause of the lines says of all that was read

pub front : (was read before mid after : Option (List ℕ)) → Reads was read → Keeps before mid
    → IfSome read (λ bytes. AppendsFront mid after (written_for empty_layouts (lines_of bytes))) → IfSome was (λ bytes. AppendsFront before after (output_of bytes))
unfolding output_of
front None read before mid after reads keeps h = tt
front (Some bytes) read before mid after reads keeps h =
    let (n, added) : AppendsFront mid after (written_for empty_layouts (lines_in bytes)) = rw reads at h in
    (n, flushed before mid after _ keeps added)

pub whole : (result : Result Ended Failure) (was read before mid after : Option (List ℕ)) → Reads was read → Keeps before mid
    → OnOk result (IfSome read (λ bytes. Appends mid after (written_for empty_layouts (lines_of bytes)))) → OnOk result (IfSome was (λ bytes. Appends before after (output_of bytes)))
unfolding output_of
whole (Err why) was read before mid after reads keeps h = tt
whole (Ok ended) None read before mid after reads keeps h = tt
whole (Ok ended) (Some bytes) read before mid after reads keeps h = flushed before mid after _ keeps (rw reads at h)

pub obeyed : (result : Result Ended Failure) (was read : Option (List ℕ)) → Reads was read
    → IfOk result (λ ended. IfSome read (λ bytes. ended.all_obeyed ≡ obeyed_for empty_layouts (lines_of bytes))) → IfOk result (λ ended. IfSome was (λ bytes. ended.all_obeyed ≡ all_obeyed bytes))
unfolding all_obeyed
obeyed (Err why) was read reads h = tt
obeyed (Ok ended) None read reads h = tt
obeyed (Ok ended) (Some bytes) read reads h = rw reads at h

pub answers : (result : Result Ended Failure) (was read before mid after : Option (List ℕ)) → Reads was read → Keeps before mid
    → IfErr result (λ why. IfSome read (λ bytes. Answers why mid after (lines_of bytes))) → IfErr result (λ why. IfSome was (λ bytes. Answers why before after (lines_in bytes)))
answers (Ok ended) was read before mid after reads keeps h = tt
answers (Err why) None read before mid after reads keeps h = tt
answers (Err why) (Some bytes) read before mid after reads keeps h = by_why why (rw reads at h)
  where
    by_why : (why : Failure) → Answers why mid after (lines_in bytes) → Answers why before after (lines_in bytes)
    by_why (Write error) h = tt
    by_why (Read error) h = (h.0, flushed before mid after _ keeps h.1)
    by_why Memory h = (h.0, flushed before mid after _ keeps h.1, h.2)
    by_why Endless h = (h.0, flushed before mid after _ keeps h.1)
