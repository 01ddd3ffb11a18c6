-- What the count of a judgement says of axes that are searched (RULES, "The verdict: search").
use Rattle.std.specs.Prelude.{List, ◌↔◌, ◌≡◌, ℕ, suc, ◌<◌, ◌≤◌, length, Result, Ok}
use Rattle.specification.specs.Axis.{Axis}
use Rattle.specification.specs.Search.{ActiveAxis, half, CompletesAt}
use Rattle.specification.specs.Verdict.{block_of, others_of}
use Rattle.specification.specs.CountClaims.{IsSetApart, IsLarger, TwoCollide}
use Rattle.specification.specs.BlockClaims.{ActiveAxisOf, entry_at}
use Rattle.view.specs.declared.layout.Refusal.{Refusal}
use Rattle.injectivity.specs.declared.Judgement.{Judgement}
use Rattle.injectivity.specs.declared.Judgement.TheVariants.{Distinct, Repeated}

-- the axes of the block that are not set apart
abbrev pub others_in : List Axis → List ActiveAxis
others_in axes = others_of (block_of axes)

-- vector `place` of the half that is looked at is the first that a and b complete
pub record IsFirst (axes : List Axis) (a b : ActiveAxis) (place : ℕ) : Type 0 where
  pub within : place ≤ half (others_in axes)
  pub completed : CompletesAt a b (others_in axes) place
  pub none_before : (n : ℕ) → 0 < n → n < place → ¬ (CompletesAt a b (others_in axes) n)

-- what the answer says of axes that come to the search: of the two set apart, and of the vectors of the others
pub record SearchTells (axes : List Axis) (answer : Result Judgement Refusal) : Type 0 where
  pub one : ActiveAxis
  pub other : ActiveAxis
  pub set_apart : IsSetApart axes one other
  pub one_active : ActiveAxisOf axes one
  pub other_active : ActiveAxisOf axes other
  pub one_larger : IsLarger one other
  pub others_smaller : (i : ℕ) → i < length (others_in axes) → IsLarger other (entry_at (others_in axes) i)
  -- count 0: the two alone collide; above 0: the first vector that they complete; Distinct: they complete none of half
  pub alone : (answer ≡ Ok (Repeated 0)) ↔ TwoCollide one other
  pub place : (c : ℕ) → (answer ≡ Ok (Repeated (suc c))) ↔ (¬ (TwoCollide one other)) × IsFirst axes one other (suc c)
  pub passed : (answer ≡ Ok (Distinct (half (others_in axes))))
      ↔ (¬ (TwoCollide one other)) × ((n : ℕ) → 0 < n → n ≤ half (others_in axes) → ¬ (CompletesAt one other (others_in axes) n))
