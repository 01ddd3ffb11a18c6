-- What the reader answers: 11 if the front bytes hold no whole record, else 9 for want of words, else 11 for a false verdict, else the layout.
use mathlib.Core.Path.{◌≡◌, refl, sym, ap, subst, ◌∙◌}
use mathlib.Core.Bool.{Bool, true, false, not, ◌&&◌}
use mathlib.Core.List.{List, [], ◌∷◌}
use mathlib.Core.Logic.{◌≢◌, ◌⊎◌, inl, inr, ◌↔◌}
use Prim.Native.Nat.{ℕ, ◌<◌, ◌≤◌}
use native.Mathlib.Decide.{ℕ_discrete}
use native.Mathlib.Omega.{arith}
use lib.Dec.{eqb}
use lib.ListN.{get_or}
use borrow.Author.Tests.{eq-eqb, ne_eqb}
use Rattle.specification.specs.Outcome.{Outcome, done, refused, refuse_if, ◌>>◌, ◌>>=◌}
use Rattle.specification.specs.Verdict.{Judged, judge, freed_by, words_needed}
use Rattle.specification.specs.Record.{verdict_byte, fields_right, is_normal_form, layout_from, WasRead, read_of, read_frees}
use Rattle.specification.specs.RecordClaims.{WholeRecord, ReadRefused, no_record, too_short, false_verdict, ReaderClaims}
use Rattle.specification.proofs.ReachLaws.{and-true}
use Rattle.specification.proofs.NormalTest.{normal_tested}
use Rattle.specification.proofs.JudgeLaws.{Judging, is_judged, too_few, judging}
use Rattle.specification.proofs.ReaderLaws.{fields_tested, fields-pass, whole-accepted, buffer_read, verdict_read}
use Rattle.specification.proofs.OutcomeLaws.{clash, false-unless, refuse-yes, refuse-no, bind_done, bind-refused}

-- ---- a whole record or not

abbrev whole_test : List ℕ → Bool
whole_test bytes = fields_right bytes && is_normal_form (layout_from bytes)

whole-tested : (bytes : List ℕ) → (whole_test bytes ≡ true) ↔ WholeRecord bytes
whole-tested bytes = (
  λ e. let p = and-true (fields_right bytes) (is_normal_form (layout_from bytes)) e in record { fields = fields_tested bytes p.0; form = (normal_tested (layout_from bytes)).0 p.1 },
  λ w. rw (fields-pass bytes w.fields, (normal_tested (layout_from bytes)).1 w.form),
)

whole? : (bytes : List ℕ) → Dec (WholeRecord bytes)
whole? bytes = go (whole_test bytes) refl
  where
    go : (t : Bool) → whole_test bytes ≡ t → Dec (WholeRecord bytes)
    go true e = yes ((whole-tested bytes).0 e)
    go false e = no (λ w. let z : true ≡ false = sym ((whole-tested bytes).1 w) ∙ e in let y : ◌≡◌ {A = ℕ} 0 1 = cc in absurd (omega arith))

-- ---- the answers

module _ (bytes : List ℕ) (words : ℕ) where
  read-no-record : ¬ (WholeRecord bytes) → read_of bytes words ≡ refused 11 []
  unfolding read_of
  read-no-record n = go (fields_right bytes) refl (false-unless (whole_test bytes) (whole-tested bytes).0 n)
    where
      go : (t : Bool) → fields_right bytes ≡ t → (t && is_normal_form (layout_from bytes)) ≡ false → read_of bytes words ≡ refused 11 []
      go false e f = refuse-yes 11 [] _ (ap not e)
      go true e f = refuse-no 11 [] _ (ap not e) ∙ refuse-yes 11 [] _ (ap not f)

  -- the last step: 11 for a false verdict, else the layout
  abbrev verdict_checked : Judged → Outcome WasRead
  verdict_checked j = refuse_if (not (eqb (verdict_byte j.answer) (get_or bytes 3 0))) 11 [] >> done (record { layout = layout_from bytes; answer = j.answer })

  read_whole : WholeRecord bytes → read_of bytes words ≡ judge (layout_from bytes).axes words >>= verdict_checked
  unfolding read_of
  read_whole w = refuse-no 11 [] _ (ap not (fields-pass bytes w.fields)) ∙ refuse-no 11 [] _ (ap not ((normal_tested (layout_from bytes)).1 w.form))

  judging-whole : WholeRecord bytes → Judging (words_needed (layout_from bytes).axes) words (judge (layout_from bytes).axes words)
  judging-whole w = judging (layout_from bytes) (whole-accepted bytes w) w.form.few words

  read-too-short : WholeRecord bytes → judge (layout_from bytes).axes words ≡ refused 9 (words_needed (layout_from bytes).axes ∷ [])
      → read_of bytes words ≡ refused 9 (words_needed (layout_from bytes).axes ∷ [])
  read-too-short w e = read_whole w ∙ bind-refused verdict_checked e

  read-false : WholeRecord bytes → (j : Judged) → judge (layout_from bytes).axes words ≡ done j → verdict_byte j.answer ≢ get_or bytes 3 0 → read_of bytes words ≡ refused 11 []
  read-false w j e n = read_whole w ∙ bind_done verdict_checked e ∙ refuse-yes 11 [] _ (ap not (ne_eqb (verdict_byte j.answer) (get_or bytes 3 0) n))

  pub read_done : WholeRecord bytes → (j : Judged) → judge (layout_from bytes).axes words ≡ done j → verdict_byte j.answer ≡ get_or bytes 3 0
      → read_of bytes words ≡ done (record { layout = layout_from bytes; answer = j.answer })
  read_done w j e t = read_whole w ∙ bind_done verdict_checked e ∙ refuse-no 11 [] _ (ap not (eq-eqb (verdict_byte j.answer) (get_or bytes 3 0) t))

  -- ---- refused exactly so

  refuses-back : {number : ℕ} {values : List ℕ} → ReadRefused bytes words number values → read_of bytes words ≡ refused number values
  refuses-back (no_record n) = read-no-record n
  refuses-back (too_short w h) = go (judging-whole w)
    where
      go : Judging (words_needed (layout_from bytes).axes) words (judge (layout_from bytes).axes words) → read_of bytes words ≡ refused 9 (words_needed (layout_from bytes).axes ∷ [])
      go (is_judged k j e f) = absurd (omega arith)
      go (too_few k e) = read-too-short w e
  refuses-back (false_verdict w j e n) = read-false w j e n

  refuses-forth : {number : ℕ} {values : List ℕ} → read_of bytes words ≡ refused number values → ReadRefused bytes words number values
  refuses-forth {number} {values} e = go (whole? bytes)
    where
      told : {n : ℕ} {vs : List ℕ} → read_of bytes words ≡ refused n vs → ReadRefused bytes words n vs → ReadRefused bytes words number values
      told {n} {vs} q r =
          let same_number : n ≡ number = cc in
          let same-values : vs ≡ values = cc in
          subst (λ (m : ℕ). ReadRefused bytes words m values) same_number (subst (λ (ws : List ℕ). ReadRefused bytes words n ws) same-values r)

      byte : WholeRecord bytes → (j : Judged) → judge (layout_from bytes).axes words ≡ done j → Dec (verdict_byte j.answer ≡ get_or bytes 3 0) → ReadRefused bytes words number values
      byte w j q (yes t) = absurd (clash (sym (read_done w j q t) ∙ e))
      byte w j q (no n) = told (read-false w j q n) (false_verdict w j q n)

      judged : WholeRecord bytes → Judging (words_needed (layout_from bytes).axes) words (judge (layout_from bytes).axes words) → ReadRefused bytes words number values
      judged w (is_judged h j q f) = byte w j q (ℕ_discrete (verdict_byte j.answer) (get_or bytes 3 0))
      judged w (too_few h q) = told (read-too-short w q) (too_short w h)

      go : Dec (WholeRecord bytes) → ReadRefused bytes words number values
      go (yes w) = judged w (judging-whole w)
      go (no n) = told (read-no-record n) (no_record n)

  -- ---- the words freed

  frees-whole : WholeRecord bytes → read_frees bytes words ≡ freed_by (judge (layout_from bytes).axes words)
  unfolding read_frees
  frees-whole w = rw (fields-pass bytes w.fields, (normal_tested (layout_from bytes)).1 w.form)

  frees-no-record : ¬ (WholeRecord bytes) → read_frees bytes words ≡ 0
  unfolding read_frees
  frees-no-record n = rw (false-unless (whole_test bytes) (whole-tested bytes).0 n)

  frees-needed : WholeRecord bytes → words_needed (layout_from bytes).axes ≤ words → read_frees bytes words ≡ words_needed (layout_from bytes).axes
  unfolding freed_by
  frees-needed w h = frees-whole w ∙ go (judging-whole w)
    where
      go : Judging (words_needed (layout_from bytes).axes) words (judge (layout_from bytes).axes words) → freed_by (judge (layout_from bytes).axes words) ≡ words_needed (layout_from bytes).axes
      go (is_judged k j e f) = ap freed_by e ∙ f
      go (too_few k e) = absurd (omega arith)

  frees-too-short : words < words_needed (layout_from bytes).axes → Dec (WholeRecord bytes) → read_frees bytes words ≡ 0
  unfolding freed_by
  frees-too-short h (no n) = frees-no-record n
  frees-too-short h (yes w) = frees-whole w ∙ go (judging-whole w)
    where
      go : Judging (words_needed (layout_from bytes).axes) words (judge (layout_from bytes).axes words) → freed_by (judge (layout_from bytes).axes words) ≡ 0
      go (is_judged k j e f) = absurd (omega arith)
      go (too_few k e) = ap freed_by e

  frees_none : (¬ (WholeRecord bytes)) ⊎ (words < words_needed (layout_from bytes).axes) → read_frees bytes words ≡ 0
  frees_none (inl n) = frees-no-record n
  frees_none (inr h) = frees-too-short h (whole? bytes)

pub reader_claims : ReaderClaims
reader_claims = record {
  fields_told = λ bytes. (fields_tested bytes, fields-pass bytes);
  normal_tested = normal_tested;
  refuses = λ bytes words number values. (refuses-forth bytes words, refuses-back bytes words);
  buffer_read = buffer_read;
  verdict_read = verdict_read;
  frees = frees-needed;
  frees_none = frees_none;
}
