-- A line as it is held is answered as the whole of it.
use Rattle.std.proofs.Common.{◌≡◌, ◌≤◌, ℕ, List, Bool, true, false, inl, inr, length, refl, sym, ◌∙◌}
use Rattle.std.specs.Prelude.{nat_lt}
use Rattle.std.proofs.lemmas.Bool.{lt-ltb, le-ltb, cases_lt}
use Rattle.std.proofs.lemmas.List.{take_all}
use Rattle.lines.specs.Lines.{Holds}
use Rattle.lines.specs.declared.line.Line.{Line}
use Rattle.commands.specs.Layouts.{Layouts}
use Rattle.session.specs.Session.{answered, by_length}

pub answered-held : (ls : Layouts) (line : Line) (whole : List ℕ) → Holds line whole → answered ls whole ≡ by_length ls line.is_long line.bytes.items
unfolding answered
answered-held ls line whole held = by_case line.is_long refl
  where
    by_case : (long : Bool) → line.is_long ≡ long → by_length ls (nat_lt 4096 (length whole)) whole ≡ by_length ls long line.bytes.items
    by_case true e = rw (lt-ltb 4096 (length whole) (held.longer.0 e)) refl
    by_case false e =
        let few : length whole ≤ 4096 = elim (cases_lt 4096 (length whole)) [
          | inl more ↦ absurd (let no : false ≡ true = sym e ∙ held.longer.1 more in cc)
          | inr few ↦ few
        ] in
        rw (le-ltb 4096 (length whole) few, held.front, take_all 4096 whole few) refl
