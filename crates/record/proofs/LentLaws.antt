-- A call that answered was lent what the verdict needs; so as many words, or the most that any verdict needs, are enough for the next one.
use Rattle.std.proofs.Common.{◌≡◌, ◌⊎◌, inl, inr, ℕ, ◌<◌, ◌≤◌, List, [], ◌∷◌, length, take, refl, sym, ap, ◌∙◌, arith}
use Rattle.std.proofs.lemmas.Bool.{cases_lt}
use Rattle.specification.specs.Axis.{Axis}
use Rattle.specification.specs.Outcome.{Outcome, done}
use Rattle.specification.specs.Layout.{LayoutModel, rank}
use Rattle.specification.specs.Normal.{normal_of}
use Rattle.specification.specs.Verdict.{Judged, judge, words_needed}
use Rattle.specification.specs.Record.{Made, record_length, written, write_answer, read_of, layout_from, Writing}
use Rattle.specification.proofs.OutcomeLaws.{clash, done_inj}
use Rattle.specification.proofs.PlanCases.{judged-with}
use Rattle.specification.proofs.RecordFields.{length-record_bytes}
use Rattle.specification.proofs.VerdictLaws.{verdict_claims}
use Rattle.specification.proofs.WriterAnswers.{Writes, writes, written-made}
use Rattle.specification.proofs.ReaderLaws.{Reads, reads}
use Rattle.specification.proofs.ReaderAnswers as reader
use Rattle.injectivity.proofs.WordsLaws.{enough_words}
use Rattle.view.specs.Model.{model_of}
use Rattle.record.specs.Reading.{layout_read}
use Rattle.record.specs.Writer.{wrote_of}
use Rattle.record.specs.Lent.{IsLentAgain, LentClaims}
use Rattle.record.proofs.SameLaws.{writing, fronted, accepted, front_is}
use Rattle.record.proofs.RunningLaws.{read_back, read_done, written_back}

-- ---- the words of the second call

enough : (axes : List Axis) (scratch scratch' : List ℕ) → words_needed axes ≤ length scratch → IsLentAgain scratch scratch' → words_needed axes ≤ length scratch'
enough axes scratch scratch' h (inl more) = omega arith
enough axes scratch scratch' h (inr most) = omega (arith, enough_words axes)

-- ---- what a call was lent that answered

judged_lent : (axes : List Axis) (words : ℕ) (j : Judged) → judge axes words ≡ done j → words_needed axes ≤ words
judged_lent axes words j e = go (cases_lt words (words_needed axes))
  where
    go : (words < words_needed axes) ⊎ (words_needed axes ≤ words) → words_needed axes ≤ words
    go (inl h) = absurd (clash (sym e ∙ (verdict_claims.needed axes words (words_needed axes ∷ [])).1 (h, refl)))
    go (inr h) = h

-- a record that was made, by its verdict
module _ {x : LayoutModel} {output scratch output-then scratch-then : List ℕ} {n : ℕ} (w : Writing x output scratch (done n) output-then scratch-then) where
  made_by : Writes x (length output) (length scratch) (fronted w).made
  made_by = writes x (length output) (length scratch) (fronted w).made (accepted w) (fronted w).was

  wrote_lent : words_needed (normal_of x).axes ≤ length scratch
  wrote_lent = judged_lent (normal_of x).axes (length scratch) made_by.j made_by.judged

  as_long : record_length (rank (normal_of x)) ≡ n
  as_long = sym (length-record_bytes (normal_of x) made_by.j.answer) ∙ ap (λ (m : Made). length m.bytes) (sym made_by.is) ∙ (fronted w).long

  -- the same is made with other room and words that are enough
  made_again : (room words : ℕ) → n ≤ room → words_needed (normal_of x).axes ≤ words → written x room words ≡ done (fronted w).made
  made_again room words h k =
      written-made x room words (accepted w) made_by.few (omega (arith, as_long)) made_by.j (judged-with (normal_of x).axes (length scratch) words made_by.j made_by.judged k) ∙ ap done (sym made_by.is)

  write_again : (output' scratch' output-then' scratch-then' : List ℕ) (answer : Outcome ℕ) → IsLentAgain scratch scratch' → n ≤ length output' → Writing x output' scratch' answer output-then' scratch-then'
      → (answer ≡ done n) × (take n output-then' ≡ take n output-then)
  unfolding write_answer
  write_again output' scratch' output-then' scratch-then' answer s h v =
      let e = made_again (length output') (length scratch') h (enough (normal_of x).axes scratch scratch' wrote_lent s) in
      let a : answer ≡ done n = v.answer_is ∙ ap write_answer e ∙ ap done (fronted w).long in
      let v' : Writing x output' scratch' (done n) output-then' scratch-then' = rw a at v in
      (a, front_is v' ∙ ap (λ (m : Made). m.bytes) (done_inj (sym (fronted v').was ∙ e)) ∙ sym (front_is w))

-- a layout that was read
module _ (bytes scratch : List ℕ) (x : LayoutModel) (e : done x ≡ layout_read (read_of bytes (length scratch))) where
  read_by : Reads bytes (length scratch) (read_done (read_of bytes (length scratch)) e).0
  read_by = reads bytes (length scratch) (read_done (read_of bytes (length scratch)) e).0 (read_done (read_of bytes (length scratch)) e).1

  layout_is : layout_from bytes ≡ x
  layout_is = sym ((read_done (read_of bytes (length scratch)) e).2 ∙ ap (λ w. w.layout) read_by.is)

  read_lent : words_needed x.axes ≤ length scratch
  read_lent = rw layout_is at (judged_lent (layout_from bytes).axes (length scratch) read_by.j read_by.judged)

  read_again : (scratch' : List ℕ) → IsLentAgain scratch scratch' → layout_read (read_of bytes (length scratch')) ≡ done x
  read_again scratch' s =
      let k = enough (layout_from bytes).axes scratch scratch' (judged_lent (layout_from bytes).axes (length scratch) read_by.j read_by.judged) s in
      ap layout_read (reader.read_done bytes (length scratch') read_by.whole read_by.j (judged-with (layout_from bytes).axes (length scratch) (length scratch') read_by.j read_by.judged k) read_by.true_byte) ∙ ap done layout_is

pub lent_claims : LentClaims
lent_claims = record {
  lent_to_write = λ l output scratch output-then scratch-then wrote n w e. wrote_lent (rw e at (writing l output scratch wrote output-then scratch-then w));
  lent_to_read = λ bytes scratch scratch-then l r. read_lent bytes scratch (model_of l) r.answer_is;
  write_write = λ l output scratch output-then scratch-then wrote n w e output' scratch' output-then' scratch-then' wrote' s h w'.
      write_again (rw e at (writing l output scratch wrote output-then scratch-then w)) output' scratch' output-then' scratch-then' (wrote_of wrote') s h (writing l output' scratch' wrote' output-then' scratch-then' w');
  write_read = λ l output scratch output-then scratch-then wrote n w e scratch' scratch-then' answer s r.
      let v = rw e at (writing l output scratch wrote output-then scratch-then w) in
      r.answer_is ∙ read_back (model_of l) output scratch output-then scratch-then n (accepted v) v (length scratch') (enough (normal_of (model_of l)).axes scratch scratch' (wrote_lent v) s);
  read_read = λ bytes scratch scratch-then l r scratch' scratch-then' answer s r'. r'.answer_is ∙ read_again bytes scratch (model_of l) r.answer_is scratch' s;
  read_write = λ bytes scratch scratch-then l b r output scratch' output-then scratch-then' wrote s k w.
      written_back bytes scratch (model_of l) b r.answer_is output scratch' output-then scratch-then' (wrote_of wrote) (enough (model_of l).axes scratch scratch' (read_lent bytes scratch (model_of l) r.answer_is) s) k
      (writing l output scratch' wrote output-then scratch-then' w);
}
