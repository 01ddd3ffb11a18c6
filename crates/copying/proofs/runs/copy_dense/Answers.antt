-- What is written over the part is what the source has there.
use Rattle.std.proofs.Common.{rules, ◌≡◌, ◌∙◌, refl, sym, ap, ℕ, pos, take, drop, length, arith}
use Rattle.std.proofs.lemmas.Slice.{put_mid-paste}
use Rattle.std.proofs.lemmas.List.{get_or-drop, get_or-take}
use Rattle.copying.proofs.CopiesLaws.{copies-dense}
use Rattle.copying.proofs.runs.copy_dense.Goals as goal

pub returns : goal.returns
returns c =
    let a = c.args in
    let part = c.copy_from_slice.new.self in
    let long : length part ≡ a.count = search rules in
    let whole : part ≡ take a.count (drop a.source a.from.now) = c.copy_from_slice.ensures.after ∙ ap (λ (n : ℕ). take n (drop a.source a.from.now)) (omega arith) in
    put_mid-paste a.destination _ a.to.now part part a.count refl (omega arith) (sym long)
    ∙ sym (copies-dense a.source a.destination a.from.now part a.count a.to.now (omega (arith, long)) c.requires.in_destination
    (λ i h. rw whole (get_or-take a.count (drop a.source a.from.now) i (pos 0) h ∙ get_or-drop a.source a.from.now i (pos 0))))
