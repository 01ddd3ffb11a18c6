-- Check-in of a sheet: what passes is its layout, and accepted; a sheet that fits is not refused.
use Rattle.std.proofs.Common.{◌≡◌, refl, sym, ℕ, List, Result, Ok, Err, IfOk, IsOk}
use lib.IntN.{ℤ}
use Rattle.specification.specs.Layout.{IsAccepted}
use Rattle.specification.specs.CheckIn.{check_in}
use Rattle.specification.specs.CheckInClaims.{layout_of, IsCheckedIn, CheckInClaims}
use Rattle.specification.specs.ViewClaims.{AcceptedClaims}
use Rattle.view.specs.declared.layout.Layout.{Layout}
use Rattle.view.specs.declared.layout.Refusal.{Refusal}
use Rattle.view.specs.Model.{model_of, layout_outcome}

pub checked : (buffer : ℕ) (offset : ℤ) (extents : List ℕ) (strides : List ℤ) (r : Result Layout Refusal) → CheckInClaims → AcceptedClaims
    → layout_outcome r ≡ check_in buffer offset extents strides
    → IfOk r (λ l. model_of l ≡ layout_of buffer offset extents strides) × IfOk r (λ l. IsAccepted (model_of l)) × (IsCheckedIn buffer offset extents strides → IsOk r)
checked buffer offset extents strides (Ok l) c a e =
    (sym ((c.passes buffer offset extents strides (model_of l)).0 (sym e)).1, a.checked_in buffer offset extents strides (model_of l) (sym e), λ h. refl)
checked buffer offset extents strides (Err why) c a e = (tt, tt, λ h. let p = (c.passes buffer offset extents strides (layout_of buffer offset extents strides)).1 (h, refl) in absurd cc)
