-- Lines and positions written one after another.
use Rattle.std.proofs.Common.{◌≡◌, ℕ, ◌+◌, List, [], ◌∷◌, ◌++◌, filter, Bool, true, false, sym, ap, ◌∙◌, arith}
use Rattle.std.specs.Prelude.{if◌then◌else◌}
use Rattle.std.specs.List.{flat_map, range_with_len}
use Rattle.std.proofs.lemmas.List.{map-id, append-nil}
use Rattle.std.proofs.lemmas.List.FromFn.{filter_of_map_range_with_len_more}
use Rattle.std.proofs.lemmas.List.Concat.{flat_map-append}

-- one number more of a range is looked at
range_more : (p : ℕ → Bool) (n : ℕ) → filter p (range_with_len 0 (n + 1)) ≡ filter p (range_with_len 0 n) ++ (if p n then n ∷ [] else [])
range_more p n =
    ap (filter p) (sym (map-id (range_with_len 0 (n + 1)))) ∙ filter_of_map_range_with_len_more p (λ k. k) 0 n n (omega arith)
    ∙ ap (λ numbers. filter p numbers ++ (if p n then n ∷ [] else [])) (map-id (range_with_len 0 n))

module _ (p : ℕ → Bool) (text : ℕ → List ℕ) (n : ℕ) where
  more : (t : Bool) → p n ≡ t → flat_map text (filter p (range_with_len 0 (n + 1))) ≡ flat_map text (filter p (range_with_len 0 n)) ++ flat_map text (if t then n ∷ [] else [])
  more t e = ap (flat_map text) (range_more p n ∙ ap (λ b. filter p (range_with_len 0 n) ++ (if b then n ∷ [] else [])) e) ∙ flat_map-append text (filter p (range_with_len 0 n)) (if t then n ∷ [] else [])

  pub chosen : p n ≡ true → flat_map text (filter p (range_with_len 0 (n + 1))) ≡ flat_map text (filter p (range_with_len 0 n)) ++ text n
  chosen e = more true e ∙ ap (λ last. flat_map text (filter p (range_with_len 0 n)) ++ last) (append-nil (text n))

  pub passed_over : p n ≡ false → flat_map text (filter p (range_with_len 0 (n + 1))) ≡ flat_map text (filter p (range_with_len 0 n))
  passed_over e = more false e ∙ append-nil _
