-- Claims on the views: when each passes, what a refusal says, what the new layout is, and what becomes of the offset of an index vector.
-- RULES, "Permute", "Diagonal view", "Broadcast", "Layouts that are accepted".
use Rattle.std.specs.Prelude.{false, List, [], ◌∷◌, map, ◌≢◌, ◌↔◌, ◌≡◌, ℕ, suc, ◌+◌, ◌*◌, ◌/◌, ◌<◌, ◌≤◌, ◌==◌, ℤ, pos, length, if◌then◌else◌, slice_index}
use Rattle.integer.specs.Range.{most_unsigned}
use Rattle.specification.specs.Axis.{Axis, extents, offset_sum}
use Rattle.specification.specs.Outcome.{done, refused, pass}
use Rattle.specification.specs.Layout.{LayoutModel, rank, Ranges, IsAccepted}
use Rattle.specification.specs.CheckIn.{check_in}
use Rattle.specification.specs.Tied.{IsTied}
use Rattle.specification.specs.Views.{axis_at, permute, pairs_of, class_of, kept, place_of, stride_sum, members, diagonal_view, broadcast}
use Rattle.specification.specs.Normal.{normal_of, overfull}
use Rattle.specification.specs.Record.{WasRead, read_of}
use Rattle.specification.specs.Calls.{Call, permuting, diagonal, broadcasting, after_call, end_of}
use Rattle.specification.specs.ViewRules.{Permutes, pair_at, Fuses, Broadcasts, Passes, Refuses}

-- ---- answers

-- a call passes exactly as the rules say, is refused exactly as they say, and a refusal leaves the layout
pub record AnswerClaims : Type 0 where
  pub passes : (l : LayoutModel) (c : Call) → ((after_call l c).answer ≡ pass) ↔ Passes l c
  pub refuses : (l : LayoutModel) (c : Call) (number : ℕ) (values : List ℕ) → ((after_call l c).answer ≡ refused number values) ↔ Refuses l c number values
  pub left : (l : LayoutModel) (c : Call) (number : ℕ) (values : List ℕ) → (after_call l c).answer ≡ refused number values → (after_call l c).layout ≡ l

-- ---- acceptance and machine ranges

-- whatever the views, check-in and the reader yield is accepted
pub record AcceptedClaims : Type 0 where
  pub views : (l : LayoutModel) (c : Call) → IsAccepted l → IsAccepted (after_call l c).layout
  pub ends : (l : LayoutModel) (calls : List Call) → IsAccepted l → IsAccepted (end_of l calls)
  pub checked_in : (buffer : ℕ) (offset : ℤ) (extents : List ℕ) (strides : List ℤ) (l : LayoutModel) → check_in buffer offset extents strides ≡ done l → IsAccepted l
  pub was_read : (bytes : List ℕ) (words : ℕ) (w : WasRead) → read_of bytes words ≡ done w → IsAccepted w.layout

-- the targets of a broadcast are unsigned numbers of 64 bits
abbrev pub TargetsFit : Call → Type 0
TargetsFit (permuting order) = Unit {0}
TargetsFit (diagonal pairs) = Unit {0}
TargetsFit (broadcasting targets) = (i : ℕ) → slice_index targets i ≤ most_unsigned

-- a layout in the ranges of the machine types stays in them, so each call can answer with a machine's layout
pub record RangeClaims : Type 0 where
  pub view_ranges : (l : LayoutModel) (c : Call) → TargetsFit c → Ranges l → Ranges (after_call l c).layout
  pub normal_ranges : (l : LayoutModel) → Ranges l → overfull l.axes ≡ false → Ranges (normal_of l)

-- ---- the new layout

-- permute: axis i of the new layout is axis order[i] of the old one
pub record IsPermuted (l : LayoutModel) (order : List ℕ) (new : LayoutModel) : Type 0 where
  pub same_buffer : new.buffer ≡ l.buffer
  pub same_offset : new.offset ≡ l.offset
  pub same_rank : rank new ≡ rank l
  pub axis_is : (i : ℕ) → i < rank l → axis_at new.axes i ≡ axis_at l.axes (slice_index order i)

-- broadcast: the targets are the extents; an axis that has its target already keeps its stride, another gets stride 0
pub record IsStretched (l : LayoutModel) (targets : List ℕ) (new : LayoutModel) : Type 0 where
  pub same_buffer : new.buffer ≡ l.buffer
  pub same_offset : new.offset ≡ l.offset
  pub extents_are : extents new.axes ≡ targets
  pub kept_stride : (i : ℕ) → i < rank l → (axis_at l.axes i).extent ≡ slice_index targets i → (axis_at new.axes i).stride ≡ (axis_at l.axes i).stride
  pub still_stride : (i : ℕ) → i < rank l → (axis_at l.axes i).extent ≢ slice_index targets i → (axis_at new.axes i).stride ≡ pos 0

-- diagonal_view: the new axis of the class of axis a, whose lowest axis is a
pub record FusedAxis (l : LayoutModel) (pairs : List (ℕ × ℕ)) (a : ℕ) (new : Axis) : Type 0 where
  -- the least extent: at most that of each tied axis, and that of one of them
  pub at_most : (b : ℕ) → b < rank l → IsTied pairs a b → new.extent ≤ (axis_at l.axes b).extent
  pub one : ℕ
  pub one_in_rank : one < rank l
  pub one_tied : IsTied pairs a one
  pub one_is : new.extent ≡ (axis_at l.axes one).extent
  pub sum_is : new.stride ≡ stride_sum (pos 0) (members l pairs a)

-- one axis for each class, at the place that counts the kept axes below it
pub record Diagonal (l : LayoutModel) (pairs : List (ℕ × ℕ)) (new : LayoutModel) : Type 0 where
  pub same_buffer : new.buffer ≡ l.buffer
  pub same_offset : new.offset ≡ l.offset
  pub rank_is : rank new ≡ length (kept pairs (rank l))
  pub class_is : (a : ℕ) → a < rank l → ((b : ℕ) → b < a → ¬ (IsTied pairs a b)) → (place_of pairs (rank l) a < rank new) × FusedAxis l pairs a (axis_at new.axes (place_of pairs (rank l) a))

-- what each view answers with if it passes
pub record NewLayoutClaims : Type 0 where
  pub permuted : (l : LayoutModel) (order : List ℕ) → Permutes l order → IsPermuted l order (permute l order).layout
  pub diagonal_is : (l : LayoutModel) (pairs : List (ℕ × ℕ)) → Fuses l pairs → Diagonal l pairs (diagonal_view l pairs).layout
  pub stretched : (l : LayoutModel) (targets : List ℕ) → Broadcasts l targets → IsStretched l targets (broadcast l targets).layout

-- ---- classes and pairs

-- each entry is below the next
abbrev pub IsAscending : List ℕ → Type 0
IsAscending list = (i : ℕ) → suc i < length list → slice_index list i < slice_index list (suc i)

-- a is an entry of the list
pub record Entry (list : List ℕ) (a : ℕ) : Type 0 where
  pub place : ℕ
  pub in_list : place < length list
  pub there : slice_index list place ≡ a

-- the lists that diagonal_view goes by: the class of an axis, the axes that classes stand at, and the pairs in flat numbers
pub record ClassClaims : Type 0 where
  -- the class of a, ascending: exactly the axes below the rank that are tied to it
  pub class_ascends : (pairs : List (ℕ × ℕ)) (rank a : ℕ) → IsAscending (class_of pairs rank a)
  pub class_is : (pairs : List (ℕ × ℕ)) (rank a b : ℕ) → Entry (class_of pairs rank a) b ↔ (b < rank) × IsTied pairs a b
  -- the kept axes, ascending: exactly those below the rank with no lower axis tied to them
  pub kept_ascends : (pairs : List (ℕ × ℕ)) (rank : ℕ) → IsAscending (kept pairs rank)
  pub kept_is : (pairs : List (ℕ × ℕ)) (rank a : ℕ) → Entry (kept pairs rank) a ↔ (a < rank) × ((b : ℕ) → b < a → ¬ (IsTied pairs a b))
  -- pair i is (number 2i, number 2i + 1), and there is one for each two numbers
  pub pair_is : (numbers : List ℕ) (i : ℕ) → i < length (pairs_of numbers) → pair_at (pairs_of numbers) i ≡ (slice_index numbers (2 * i), slice_index numbers (2 * i + 1))
  pub pairs_are : (numbers : List ℕ) → length (pairs_of numbers) ≡ length numbers / 2

-- ---- offsets

-- of an index vector over the targets, the indices that move: an axis that was stretched stands still
unfoldable pub held_back : List Axis → List ℕ → List ℕ → List ℕ
held_back [] targets index = []
held_back (a ∷ rest) [] index = []
held_back (a ∷ rest) (t ∷ targets) [] = []
held_back (a ∷ rest) (t ∷ targets) (i ∷ index) = (if a.extent == t then i else 0) ∷ held_back rest targets index

-- what the views do to the offset of an index vector
pub record ViewClaims : Type 0 where
  -- axis order[i] becomes axis i, and takes its index along
  pub permuted : (l : LayoutModel) (order index : List ℕ) → (permute l order).answer ≡ pass → length index ≡ rank l
      → offset_sum (permute l order).layout.axes (map (λ a. slice_index index a) order) ≡ offset_sum l.axes index
  -- an axis that was stretched reads the same reading at each index
  pub stretched : (l : LayoutModel) (targets index : List ℕ) → (broadcast l targets).answer ≡ pass → length index ≡ rank l
      → offset_sum (broadcast l targets).layout.axes index ≡ offset_sum l.axes (held_back l.axes targets index)
  -- of an index vector whose tied axes have one index: a class takes that index
  pub fused : (l : LayoutModel) (pairs : List (ℕ × ℕ)) (index : List ℕ) → (diagonal_view l pairs).answer ≡ pass → length index ≡ rank l
      → ((a b : ℕ) → IsTied pairs a b → slice_index index a ≡ slice_index index b)
      → offset_sum (diagonal_view l pairs).layout.axes (map (λ a. slice_index index a) (kept pairs (rank l))) ≡ offset_sum l.axes index
