-- A dense run is a part of its list on both sides.
use Rattle.std.proofs.Common.{◌<◌, ◌^◌, ◌∙◌, length, rules}
use Rattle.positions.specs.Runs.{IsRunIn}
use Rattle.positions.proofs.RunLaws.{dense-within, run-dense}
use Rattle.copying.proofs.CopiesLaws.{copies-same}
use Rattle.copying.proofs.runs.copy_run.Goals as goal

pub copy_dense-requires-clause-in_source : goal.copy_dense-requires-clause-in_source
copy_dense-requires-clause-in_source c =
    let r : IsRunIn c.args.source.place 1 c.args.count (length c.args.from.now) = rw c.if-source-eq1.true at c.requires.in_source in
    dense-within c.args.source.place c.args.count (length c.args.from.now) c.requires.some (search rules) (search rules) r

pub copy_dense-requires-clause-in_destination : goal.copy_dense-requires-clause-in_destination
copy_dense-requires-clause-in_destination c =
    let r : IsRunIn c.args.destination.place 1 c.args.count (length c.args.to.now) = rw c.if-destination-eq1.true at c.requires.in_destination in
    dense-within c.args.destination.place c.args.count (length c.args.to.now) c.requires.some (search rules) (search rules) r

pub returns-then-destination-eq1 : goal.returns-then-destination-eq1
returns-then-destination-eq1 c =
    let a = c.args in
    let s = a.source.place in
    let d = a.destination.place in
    let r : IsRunIn s 1 a.count (length a.from.now) = rw c.if-source-eq1.true at c.requires.in_source in
    let q : IsRunIn d 1 a.count (length a.to.now) = rw c.if-destination-eq1.true at c.requires.in_destination in
    let m : length a.from.now < 2 ^ 64 = search rules in
    let n : length a.to.now < 2 ^ 64 = search rules in
    let f : s < 2 ^ 64 = search rules in
    let g : d < 2 ^ 64 = search rules in
    rw (c.if-source-eq1.true, c.if-destination-eq1.true) (c.copy_dense.ensures ∙ copies-same _ _ _ _ a.from.now a.count a.to.now
    (λ i h. run-dense s a.count (length a.from.now) i (dense-within s a.count (length a.from.now) c.requires.some f m r) m h)
    (λ i h. run-dense d a.count (length a.to.now) i (dense-within d a.count (length a.to.now) c.requires.some g n q) n h))
