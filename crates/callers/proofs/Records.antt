-- A record and what it asks for: made exactly if there is room.
use Rattle.std.proofs.Common.{◌≡◌, refl, ℕ, ◌<◌, ◌≤◌, ◌⊎◌, Bool, true, false, List, inl, inr}
use Rattle.std.proofs.lemmas.Bool.{cases_lt}
use Rattle.specification.specs.Outcome.{done, refused}
use Rattle.specification.specs.Layout.{LayoutModel, rank}
use Rattle.specification.specs.Normal.{normal_of, overfull}
use Rattle.specification.specs.Verdict.{words_needed}
use Rattle.specification.specs.Record.{record_length}
use Rattle.specification.specs.RecordsAgree.{AnsweredExactly}
use Rattle.callers.specs.Records.{HasRoom}

module _ (x : LayoutModel) (room words : ℕ) where
  -- a record was made: there was room
  pub had_room : (n : ℕ) → AnsweredExactly x room words (done n) → HasRoom x room words
  had_room n a = go (overfull x.axes) refl (cases_lt room (record_length (rank (normal_of x)))) (cases_lt words (words_needed (normal_of x).axes))
    where
      go : (b : Bool) → overfull x.axes ≡ b → (room < record_length (rank (normal_of x))) ⊎ (record_length (rank (normal_of x)) ≤ room)
          → (words < words_needed (normal_of x).axes) ⊎ (words_needed (normal_of x).axes ≤ words) → HasRoom x room words
      go true e r w = let p = a.eight e in absurd cc
      go false e (inl r) w = let p = a.ten e r in absurd cc
      go false e (inr r) (inl w) = let p = a.nine e r w in absurd cc
      go false e (inr r) (inr w) = record { few = e; room_there = r; words_there = w }

  -- with room no record is refused
  pub not_refused : (number : ℕ) (values : List ℕ) → AnsweredExactly x room words (refused number values) → ¬ (HasRoom x room words)
  not_refused number values a h = let p = a.made h.few h.room_there h.words_there in absurd cc

  -- it has as many bytes as its normal form asks for
  pub as_long : (n : ℕ) → AnsweredExactly x room words (done n) → n ≡ record_length (rank (normal_of x))
  as_long n a = let h = had_room n a in let p = a.made h.few h.room_there h.words_there in cc
