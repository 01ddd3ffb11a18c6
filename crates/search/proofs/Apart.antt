-- A block by extent: the two longest, and the others in axis order.
use Rattle.std.proofs.Common.{◌≡◌, ◌∙◌, ℕ, zero, suc, ◌+◌, ◌*◌, ◌-◌, ◌<◌, ◌≤◌, List, [], ◌∷◌, Option, Some, None, IfSome, IfNone, if◌then◌else◌, leb, length, get_or, drop, refl, sym, ap, subst, arith}
use borrow.Author.Tests.{le-leb, lt-leb}
use Rattle.std.specs.List.{All}
use Rattle.std.proofs.lemmas.List.Elements.{All-nil, All-cons}
use Rattle.specification.specs.Tests.{sort_by}
use Rattle.specification.specs.Search.{ActiveAxis, span_sum, half}
use Rattle.specification.specs.Verdict.{lower, longer, others_of, searched, plan_past_search, by_many}
use Rattle.specification.proofs.AxisOrder.{Perm, nil, skip, swap, trans}
use Rattle.specification.proofs.Sorting.{sort-perm, perm-length}
use Rattle.sorting.specs.Numbered.{IsNumbered}
use Rattle.sorting.proofs.SortedAxes.{perm-numbered}
use Rattle.walk.specs.Underway.{IsCountable}
use Rattle.search.specs.Block.{Sides, IsSearchable, searched_plan, block_plan}
use Rattle.search.specs.SetUp.{IsParted}
use Rattle.search.specs.declared.Searched.{Searched}

abbrev none : ActiveAxis
none = record { axis = 0; extent = 0; stride = 0 }

-- ---- in any order

pub span-perm : {l m : List ActiveAxis} → Perm l m → span_sum l ≡ span_sum m
unfolding span_sum
span-perm nil = refl
span-perm (skip {a} p) = ap (λ (k : ℕ). (a.extent - 1) * a.stride + k) (span-perm p)
span-perm swap = omega arith
span-perm (trans p q) = span-perm p ∙ span-perm q

pub sides-perm : {l m : List ActiveAxis} → Perm l m → Sides l → Sides m
sides-perm nil s = s
sides-perm (skip p) s = (s.0, sides-perm p s.1)
sides-perm swap s = (s.1.0, (s.0, s.1.1))
sides-perm (trans p q) s = sides-perm q (sides-perm p s)

-- ---- the two in front

countable-of : (l : List ActiveAxis) → Sides l → All IsCountable l
countable-of [] s = All-nil IsCountable
countable-of (a ∷ rest) s = All-cons IsCountable a rest (omega (arith, s.0.long), s.0.low) (countable-of rest s.1)

front-two : (s : List ActiveAxis) → 1 < length s → s ≡ get_or s 0 none ∷ get_or s 1 none ∷ drop 2 s
front-two [] h = absurd (omega arith)
front-two (a ∷ []) h = absurd (omega arith)
front-two (a ∷ b ∷ more) h = refl

numbered-drop : (n : ℕ) (l : List ActiveAxis) → IsNumbered l → IsNumbered (drop n l)
numbered-drop zero l n = n
numbered-drop (suc k) [] n = n
numbered-drop (suc k) (a ∷ l) n = numbered-drop k l n.1

module _ (block sorted : List ActiveAxis) (e : sorted ≡ sort_by longer block) (many : 1 < length block) (w : IsSearchable block) where
  abbrev a : ActiveAxis
  a = get_or sorted 0 none

  abbrev b : ActiveAxis
  b = get_or sorted 1 none

  by-extent : Perm block sorted
  by-extent = rw e (sort-perm longer block)

  pub numbered-others : IsNumbered (drop 2 sorted)
  numbered-others = numbered-drop 2 sorted (perm-numbered by-extent w.numbered)

  in_front : sorted ≡ a ∷ b ∷ drop 2 sorted
  in_front = front-two sorted (omega (arith, perm-length by-extent))

  module _ (others : List ActiveAxis) (o : others ≡ sort_by lower (drop 2 sorted)) where
    parts : Perm block (a ∷ b ∷ others)
    parts = trans (subst (Perm block) in_front by-extent) (skip (skip (rw o (sort-perm lower (drop 2 sorted)))))

    pub parted : IsParted a b others
    parted =
        let s = sides-perm parts w.sides in
        record {
          first = s.0;
          second = s.1.0;
          few = omega (arith, perm-length parts, w.few);
          countable = countable-of others s.1.1;
          fits = omega (arith, span-perm parts, w.fits);
        }

    by-many : by_many block (sort_by longer block) ≡ (if leb (half others) 4194304 then searched a b others else plan_past_search block)
    unfolding by_many others_of
    by-many =
        let l : sort_by longer block ≡ a ∷ b ∷ drop 2 sorted = sym e ∙ in_front in
        let q : others_of block ≡ others = ap (λ (z : List ActiveAxis). sort_by lower (drop 2 z)) (sym e) ∙ sym o in
        ap (by_many block) l ∙ ap (λ (z : List ActiveAxis). if leb (half z) 4194304 then searched a b z else plan_past_search block) q

    pub searched-block : (r : Option Searched) → IfSome r (λ s. (half others ≤ 4194304) × (searched_plan s ≡ searched a b others))
        → IfNone r (4194304 < half others)
        → block_plan r (plan_past_search block) ≡ by_many block (sort_by longer block)
    searched-block None f g = rw (by-many, lt-leb (half others) 4194304 g) refl
    searched-block (Some s) f g = rw (by-many, le-leb (half others) 4194304 f.0) f.1
