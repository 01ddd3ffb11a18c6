-- What the writer answers: 1 and 3 as for any layout, and for an accepted one 8, then 10, then 9, else the record of the normal form with its verdict.
use mathlib.Core.Path.{◌≡◌, refl, sym, ap, ◌∙◌}
use mathlib.Core.Bool.{Bool, true, false}
use mathlib.Core.List.{List, [], ◌∷◌}
use Prim.Native.Nat.{ℕ, ◌<◌, ◌≤◌}
use native.Mathlib.Omega.{arith}
use lib.Dec.{ltb}
use borrow.Author.Tests.{lt-ltb, le-ltb, ltb-false}
use Rattle.specification.specs.Outcome.{Outcome, done, refused, refuse_if, ◌>>◌, ◌>>=◌}
use Rattle.specification.specs.Layout.{LayoutModel, rank, IsAccepted, handed}
use Rattle.specification.specs.Normal.{normal_of, overfull, normal_form}
use Rattle.specification.specs.Verdict.{Judged, judge, words_needed}
use Rattle.specification.specs.Record.{record_length, record_bytes, Made, written, write_frees, write_answer}
use Rattle.specification.specs.RecordClaims.{WriterClaims}
use Rattle.specification.specs.RecordsAgree.{AnsweredExactly}
use Rattle.specification.proofs.ReachClaimed.{handed-answers}
use Rattle.specification.proofs.RecordFields.{length-record_bytes}
use Rattle.specification.proofs.WriterLaws.{normal-accepted, form-done, form-eight, normal-few}
use Rattle.specification.proofs.JudgeLaws.{Judging, is_judged, too_few, judging, freed-is-needed}
use Rattle.specification.proofs.OutcomeLaws.{clash, passed, refuse-yes, refuse-no, bound, bind_done, bind-refused, done_inj}

-- the record of a normal form as it was judged
abbrev pub record_of : LayoutModel → Judged → Made
record_of n j = record { bytes = record_bytes n j.answer; freed = j.freed }

-- what the writer does once the normal form is there
abbrev from_form : ℕ → ℕ → LayoutModel → Outcome Made
from_form room words n = refuse_if (ltb room (record_length (rank n))) 10 (record_length (rank n) ∷ []) >> (judge n.axes words >>= λ j. done (record_of n j))

-- ---- an accepted layout

module _ (x : LayoutModel) (room words : ℕ) (a : IsAccepted x) where
  written-eight : overfull x.axes ≡ true → written x room words ≡ refused 8 []
  unfolding written
  written-eight o = bind-refused _ (form-eight x a o)

  written-from-form : overfull x.axes ≡ false → written x room words ≡ from_form room words (normal_of x)
  unfolding written
  written-from-form o = bind_done (from_form room words) (form-done x a o)

  written-ten : overfull x.axes ≡ false → room < record_length (rank (normal_of x)) → written x room words ≡ refused 10 (record_length (rank (normal_of x)) ∷ [])
  written-ten o h = written-from-form o ∙ refuse-yes 10 (record_length (rank (normal_of x)) ∷ []) _ (lt-ltb room (record_length (rank (normal_of x))) h)

  written-judged : overfull x.axes ≡ false → record_length (rank (normal_of x)) ≤ room → written x room words ≡ judge (normal_of x).axes words >>= λ j. done (record_of (normal_of x) j)
  written-judged o h = written-from-form o ∙ refuse-no 10 (record_length (rank (normal_of x)) ∷ []) _ (le-ltb room (record_length (rank (normal_of x))) h)

  pub written-made : overfull x.axes ≡ false → record_length (rank (normal_of x)) ≤ room → (j : Judged) → judge (normal_of x).axes words ≡ done j
      → written x room words ≡ done (record_of (normal_of x) j)
  written-made o h j e = written-judged o h ∙ bind_done (λ j. done (record_of (normal_of x) j)) e

  judging-form : overfull x.axes ≡ false → Judging (words_needed (normal_of x).axes) words (judge (normal_of x).axes words)
  judging-form o = judging (normal_of x) (normal-accepted x a) (normal-few x o) words

  -- the answer is the one that `AnsweredExactly` says
  pub answered-exactly : AnsweredExactly x room words (write_answer (written x room words))
  unfolding write_answer
  answered-exactly = record {
    eight = λ o. ap write_answer (written-eight o);
    ten = λ o h. ap write_answer (written-ten o h);
    nine = λ o h k. nine o h k (judging-form o);
    made = λ o h k. made o h k (judging-form o);
  }
    where
      nine : overfull x.axes ≡ false → record_length (rank (normal_of x)) ≤ room → words < words_needed (normal_of x).axes
          → Judging (words_needed (normal_of x).axes) words (judge (normal_of x).axes words) → write_answer (written x room words) ≡ refused 9 (words_needed (normal_of x).axes ∷ [])
      nine o h k (is_judged g j e f) = absurd (omega arith)
      nine o h k (too_few g e) = ap write_answer (written-judged o h ∙ bind-refused (λ j. done (record_of (normal_of x) j)) e)

      made : overfull x.axes ≡ false → record_length (rank (normal_of x)) ≤ room → words_needed (normal_of x).axes ≤ words
          → Judging (words_needed (normal_of x).axes) words (judge (normal_of x).axes words) → write_answer (written x room words) ≡ done (record_length (rank (normal_of x)))
      made o h k (is_judged g j e f) = ap write_answer (written-made o h j e) ∙ ap done (length-record_bytes (normal_of x) j.answer)
      made o h k (too_few g e) = absurd (omega arith)

-- ---- a record that was made

-- the layout is not overfull, the room suffices, and the record is that of the normal form as it was judged, the words needed freed
pub record Writes (x : LayoutModel) (room words : ℕ) (m : Made) : Type 0 where
  pub few : overfull x.axes ≡ false
  pub room_enough : record_length (rank (normal_of x)) ≤ room
  pub j : Judged
  pub judged : judge (normal_of x).axes words ≡ done j
  pub is : m ≡ record_of (normal_of x) j
  pub frees : m.freed ≡ words_needed (normal_of x).axes

pub writes : (x : LayoutModel) (room words : ℕ) (m : Made) → IsAccepted x → written x room words ≡ done m → Writes x room words m
writes x room words m a e = go (overfull x.axes) refl
  where
    go : (t : Bool) → overfull x.axes ≡ t → Writes x room words m
    go true o = absurd (clash (sym e ∙ written-eight x room words a o))
    go false o =
        let p = passed (ltb room (record_length (rank (normal_of x)))) 10 (record_length (rank (normal_of x)) ∷ []) (sym (written-from-form x room words a o) ∙ e) in
        let b = bound p.1 in
        let q : m ≡ record_of (normal_of x) b.what = sym (done_inj b.after) in
        record {
          few = o;
          room_enough = ltb-false room (record_length (rank (normal_of x))) p.0;
          j = b.what;
          judged = b.was;
          is = q;
          frees = ap (λ (m : Made). m.freed) q ∙ freed-is-needed (judging-form x room words a o) b.was;
        }

-- ---- any layout

written-handed : (x : LayoutModel) (room words number : ℕ) (values : List ℕ) → handed x 0 ≡ refused number values → written x room words ≡ refused number values
unfolding written normal_form ◌>>◌
written-handed x room words number values e = bind-refused _ (rw e)

pub writer_claims : WriterClaims
unfolding write_frees
writer_claims = record {
  handed_in = λ l room words number values h. written-handed l room words number values (((handed-answers l 0).refuses number values).1 h);
  frees = λ l room words m a e. ap write_frees e ∙ (writes l room words m a e).frees;
  frees_none = λ l room words number values e. ap write_frees e;
}
