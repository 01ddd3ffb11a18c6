-- Lists in which each entry comes after all before it.
use Rattle.std.proofs.Common.{ℕ, zero, suc, ◌<◌, List, [], ◌∷◌, length, get_or, Bool, true, false, filter, arith}
use Rattle.std.specs.Prelude.{if◌then◌else◌}

module _ {A : Type 0} (R : A → A → Type 0) where
  -- each comes after an entry
  unfoldable pub AllAfter : A → List A → Type 0
  AllAfter a [] = Unit {0}
  AllAfter a (b ∷ list) = R a b × AllAfter a list

  unfoldable pub Rising : List A → Type 0
  Rising [] = Unit {0}
  Rising (a ∷ list) = AllAfter a list × Rising list

  after-at : (a : A) (list : List A) → AllAfter a list → (i : ℕ) (d : A) → i < length list → R a (get_or list i d)
  unfolding AllAfter
  after-at a [] after i d h = absurd (omega arith)
  after-at a (b ∷ list) after zero d h = after.0
  after-at a (b ∷ list) after (suc i) d h = after-at a list after.1 i d (omega arith)

  pub rising_at : (list : List A) → Rising list → (i : ℕ) (d : A) → suc i < length list → R (get_or list i d) (get_or list (suc i) d)
  unfolding Rising
  rising_at [] r i d h = absurd (omega arith)
  rising_at (a ∷ list) r zero d h = after-at a list r.0 0 d (omega arith)
  rising_at (a ∷ list) r (suc i) d h = rising_at list r.1 i d (omega arith)

  after-filter : (p : A → Bool) (a : A) (list : List A) → AllAfter a list → AllAfter a (filter p list)
  unfolding AllAfter
  after-filter p a [] after = tt
  after-filter p a (b ∷ list) after = go (p b) (after-filter p a list after.1)
    where
      go : (t : Bool) → AllAfter a (filter p list) → AllAfter a (if t then b ∷ filter p list else filter p list)
      go true rest = (after.0, rest)
      go false rest = rest

  pub rising_filter : (p : A → Bool) (list : List A) → Rising list → Rising (filter p list)
  unfolding Rising
  rising_filter p [] r = tt
  rising_filter p (a ∷ list) r = go (p a) (rising_filter p list r.1)
    where
      go : (t : Bool) → Rising (filter p list) → Rising (if t then a ∷ filter p list else filter p list)
      go true rest = (after-filter p a list r.0, rest)
      go false rest = rest
