-- The refusals that a call with a list on a layout begins with: 1 and 3, then 4 for a length that is not the rank.
use mathlib.Core.Path.{◌≡◌}
use mathlib.Core.Bool.{not}
use mathlib.Core.List.{List}
use Prim.Native.Nat.{ℕ}
use lib.Dec.{eqb}
use lib.ListN.{length}
use borrow.Author.Tests.{eq-eqb, ne_eqb}
use Rattle.specification.specs.Outcome.{Outcome, refused, pass, refuse_if, ◌>>◌}
use Rattle.specification.specs.Layout.{rank, handed}
use Rattle.view.specs.declared.layout.Layout.{Layout}
use Rattle.view.specs.Model.{model_of}
use Rattle.view.proofs.AxesLaws.{length_first_axes}

-- the rank of the model is the layout's
pub rank_model_of : (l : Layout) → rank (model_of l) ≡ l.rank
rank_model_of l = length_first_axes l.axes l.rank

module _ {A : Type 0} (l : Layout) (list values : List ℕ) (next : Outcome A) where
  -- the chain of rules
  abbrev listed : Outcome A
  listed = handed (model_of l) (length list) >> (refuse_if (not (eqb (length list) (rank (model_of l)))) 4 values >> next)

  pub listed_refused : {number : ℕ} {given : List ℕ} → refused number given ≡ handed (model_of l) (length list) → listed ≡ refused number given
  unfolding ◌>>◌
  listed_refused e = rw (← e)

  pub listed_wrong : pass ≡ handed (model_of l) (length list) → (length list ≡ l.rank → ⊥) → listed ≡ refused 4 values
  unfolding refuse_if ◌>>◌
  listed_wrong e n = rw (← e, rank_model_of l, ne_eqb (length list) l.rank n)

  pub listed_next : pass ≡ handed (model_of l) (length list) → length list ≡ l.rank → listed ≡ next
  unfolding refuse_if ◌>>◌
  listed_next e n = rw (← e, rank_model_of l, eq-eqb (length list) l.rank n)
