-- The rows of a sheet: runs along its first axis, from each index of its second on.
use Rattle.std.proofs.Common.{◌≡◌, refl, sym, ap, ◌∙◌, ℕ, ◌+◌, ◌*◌, ◌<◌, List, [], ◌∷◌, ℤ, mod-eq_of_lt, arith}
use Rattle.std.proofs.lemmas.Int.{ints}
use Rattle.specification.specs.Axis.{Axis, positions, product, extents}
use Rattle.positions.specs.Positions.{place_at, words_at, word_of, IsPlacedIn}
use Rattle.positions.specs.Runs.{run_at, IsRunIn}
use Rattle.positions.proofs.RunLaws.{run-placed}
use Rattle.copying.specs.Copy.{copies}
use Rattle.copying.proofs.CopiesLaws.{copies-same}
use Rattle.copying.proofs.FrontLaws.{copies-front}

axis-place : (place : ℕ) (a : Axis) (i : ℕ) → i < a.extent → place_at place (a ∷ []) i ≡ run_at place (word_of a.stride) i
unfolding place_at words_at
axis-place place a i h = rw (mod-eq_of_lt h) (omega arith)

alone : (a : Axis) → positions (a ∷ []) ≡ a.extent
unfolding product
alone a = omega arith

module _ (place : ℕ) (run rows : Axis) (j : ℕ) (h : j < rows.extent) where
  row-place : run_at place (word_of rows.stride) j ≡ place_at place (rows ∷ []) j
  row-place = sym (axis-place place rows j h)

  pub row-placed : (size : ℕ) → IsPlacedIn place (run ∷ rows ∷ []) size → IsRunIn (run_at place (word_of rows.stride) j) (word_of run.stride) run.extent size
  row-placed size f = run-placed place run (rows ∷ []) size j (run_at place (word_of rows.stride) j) f (rw (alone rows) h) row-place

-- the same extents, axis by axis
pub same-extents : {a b c d : ℕ} → a ∷ b ∷ [] ≡ c ∷ d ∷ [] → (a ≡ c) × (b ≡ d)
same-extents e = grind (arith, ints, e)

-- the copies of the rows before j, and of row j
module _ (place into : ℕ) (run rows run' rows' : Axis) (from to : List ℤ) where
  abbrev pub rows_copied : ℕ → List ℤ
  rows_copied j = copies (place_at place (run ∷ rows ∷ [])) (place_at into (run' ∷ rows' ∷ [])) from (run.extent * j) to

  pub row-copied : (j : ℕ) → j < rows.extent → extents (run' ∷ rows' ∷ []) ≡ extents (run ∷ rows ∷ [])
      → copies (run_at (run_at place (word_of rows.stride) j) (word_of run.stride)) (run_at (run_at into (word_of rows'.stride) j) (word_of run'.stride)) from run.extent (rows_copied j) ≡ rows_copied (j + 1)
  row-copied j h e =
      let w = same-extents e in
      let k : j < rows'.extent = omega (arith, h, w.1) in
      copies-same _ _ _ _ from run.extent (rows_copied j)
      (λ i l. rw (row-place place run rows j h) (sym (axis-place _ run i l)))
      (λ i l. rw (row-place into run' rows' j k) (sym (axis-place _ run' i (omega (arith, l, w.0)))))
      ∙ ap (λ (n : ℕ). copies (place_at (place_at place (rows ∷ []) j) (run ∷ [])) (place_at (place_at into (rows' ∷ []) j) (run' ∷ [])) from n (copies (place_at place (run ∷ rows ∷ [])) (place_at into (run' ∷ rows' ∷ [])) from (n * j) to)) (sym (alone run))
      ∙ copies-front place into (run ∷ []) (run' ∷ []) (rows ∷ []) (rows' ∷ []) from j to (alone run' ∙ w.0 ∙ sym (alone run))
      ∙ ap (λ (n : ℕ). copies (place_at place (run ∷ rows ∷ [])) (place_at into (run' ∷ rows' ∷ [])) from (n * (j + 1)) to) (alone run)

-- before the first row nothing is copied, and after the last the whole sheet
pub no-row : (place into : ℕ) (run rows run' rows' : Axis) (from to : List ℤ) → to ≡ rows_copied place into run rows run' rows' from to 0
unfolding copies
no-row place into run rows run' rows' from to = let n : run.extent * 0 ≡ 0 = omega arith in rw n refl

pub all-rows : (run rows : Axis) → run.extent * rows.extent ≡ positions (run ∷ rows ∷ [])
unfolding product
all-rows run rows = omega arith
