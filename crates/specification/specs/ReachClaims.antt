-- Claims on reach: which offsets a layout has at its ends, which layouts are accepted, and which check-in lets pass.
-- RULES, "Layouts that are accepted", "Check-in".
use Rattle.std.specs.List.{list_any}
use Rattle.std.specs.Prelude.{true, false, List, ◌⊎◌, ◌↔◌, ◌≡◌, ℕ, ◌<◌, ◌≤◌, ◌≤ℤ◌}
use Rattle.specification.specs.Axis.{positions, is_empty}
use Rattle.specification.specs.Outcome.{pass, refused}
use Rattle.specification.specs.Layout.{LayoutModel, rank, offset_at, IsAccepted, lowest, highest, is_in_reach, handed, HandedRefused}
use Rattle.specification.specs.CheckIn.{is_too_wide, bounds}

-- the lowest and the highest offset are offsets of positions, and none lies outside
pub record Reach (l : LayoutModel) : Type 0 where
  pub low_at : ℕ
  pub low_is : low_at < positions l.axes
  pub low : offset_at l low_at ≡ lowest l
  pub high_at : ℕ
  pub high_is : high_at < positions l.axes
  pub high : offset_at l high_at ≡ highest l
  pub between : (k : ℕ) → k < positions l.axes → (lowest l ≤ℤ offset_at l k) × (offset_at l k ≤ℤ highest l)

-- reach, and what is accepted
pub record ReachClaims : Type 0 where
  pub reach : (l : LayoutModel) → is_empty l.axes ≡ false → Reach l
  -- empty: there is no position
  pub empty_is : (l : LayoutModel) → (is_empty l.axes ≡ true) ↔ (positions l.axes ≡ 0)
  -- the test of lowest and highest says which layouts are accepted
  pub tested : (l : LayoutModel) → IsAccepted l ↔ (rank l ≤ 16) × (is_in_reach l ≡ true)
  -- a call goes on past refusals 1 and 3 exactly if its layout is accepted and its list has at most 16 entries
  pub handed_passes : (l : LayoutModel) (entries : ℕ) → (handed l entries ≡ pass) ↔ IsAccepted l × (entries ≤ 16)
  pub handed_refuses : (l : LayoutModel) (entries number : ℕ) (values : List ℕ) → (handed l entries ≡ refused number values) ↔ HandedRefused l entries number values
  -- check-in lets pass exactly the accepted layouts that are empty or have no extent above 2^63
  pub checked : (l : LayoutModel) → rank l ≤ 16 → (bounds l ≡ pass) ↔ IsAccepted l × ((is_empty l.axes ≡ true) ⊎ (list_any is_too_wide l.axes ≡ false))
