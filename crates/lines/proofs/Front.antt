-- What was written so far of bytes, and what is left of them.
use Rattle.std.proofs.Common.{◌≡◌, ℕ, ◌+◌, List, ◌++◌, take, drop, sym, ap, subst, ◌∙◌}
use Rattle.std.specs.Prelude.{Option}
use Rattle.std.proofs.Math.Seq.{take-add}
use Rattle.std.proofs.lemmas.List.{drop-drop}
use Rattle.std.specs.Io.KnownBytes.{Appends, Keeps}
use Rattle.std.proofs.KnownBytes.{Appends-trans, Appends-kept}

-- a front of the bytes is written, and the rest is left
pub record Written (before now : Option (List ℕ)) (bytes left : List ℕ) : Type 0 where
  pub count : ℕ
  pub rest : left ≡ drop count bytes
  pub front : Appends before now (take count bytes)

pub more_written : (before now next : Option (List ℕ)) (bytes left : List ℕ) (n : ℕ) → Written before now bytes left → Appends now next (take n left) → Written before next bytes (drop n left)
more_written before now next bytes left n so_far more = record {
  count = so_far.count + n;
  rest = ap (drop n) so_far.rest ∙ drop-drop n so_far.count bytes;
  front = subst (Appends before next) (ap (λ l. take so_far.count bytes ++ take n l) so_far.rest ∙ sym (take-add so_far.count n bytes)) (Appends-trans before now next _ _ so_far.front more);
}

pub still_written : (before now next : Option (List ℕ)) (bytes left : List ℕ) → Written before now bytes left → Keeps now next → Written before next bytes left
still_written before now next bytes left so_far kept = record { count = so_far.count; rest = so_far.rest; front = Appends-kept before now next _ so_far.front kept }
