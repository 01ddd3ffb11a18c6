-- Row by row.
use Rattle.std.proofs.Common.{◌≡◌, ◌<◌, ◌≤◌, ◌+◌, ◌-◌, ◌*◌, ◌∷◌, ◌∙◌, ℕ, refl, sym, ap, length, rules, arith}
use Rattle.specification.specs.Axis.{positions}
use Rattle.positions.specs.Positions.{word_of, place_at}
use Rattle.positions.specs.Runs.{run_at}
use Rattle.positions.proofs.RunLaws.{place-run, run-placed}
use Rattle.means.specs.Rows.{mean_from}
use Rattle.means.proofs.RowLaws.{row-more, part-length, row-end, row-within, next-row, all-means}
use Rattle.means.proofs.rows.write_rows.Goals as goal

pub slice_bounds-write_row-end : goal.slice_bounds-write_row-end
slice_bounds-write_row-end c =
    let a = c.args in
    let i = c.loop-done.invariant in
    row-end a.row a.others.now (length c.loop-done.out) c.loop-done.done c.loop-done.position.number (search rules) (i.number (search rules)) i.within

pub write_row-requires-clause-in_readings : goal.write_row-requires-clause-in_readings
write_row-requires-clause-in_readings c i h =
    let a = c.args in
    let v = c.loop-done.invariant in
    let e : c.loop-done.done + a.row.extent ≤ length c.loop-done.out = row-end a.row a.others.now (length c.loop-done.out) c.loop-done.done c.loop-done.position.number (search rules) (v.number (search rules)) v.within in
    let k : i < a.row.extent = omega (arith, h, part-length c.loop-done.out c.loop-done.done a.row.extent e) in
    let s : c.cast_unsigned-step.result ≡ word_of a.row.stride = search rules in
    let p : c.place.result ≡ place_at a.start a.others.now c.loop-done.position.number = c.place.ensures ∙ rw (v.start, v.axes) refl in
    run-placed a.start a.along (a.row ∷ a.others.now) (length a.readings.now) (i + a.row.extent * c.loop-done.position.number) _ c.requires.in_readings (row-within a.row a.others.now k v.within)
    (rw (p, s) (sym (place-run a.start a.row a.others.now c.loop-done.position.number i k)))

pub loop-done-preserved : goal.loop-done-preserved
loop-done-preserved c =
    let a = c.args in
    let i = c.loop-done.invariant in
    let n = c.next.ensures in
    let d = i.number (search rules) in
    let r = c.loop-done.position.number in
    let l : length c.loop-done.out ≡ positions (a.row ∷ a.others.now) = search rules in
    let e : c.loop-done.done + a.row.extent ≤ length c.loop-done.out = row-end a.row a.others.now (length c.loop-done.out) c.loop-done.done r l d i.within in
    let s : c.cast_unsigned-step.result ≡ word_of a.row.stride = search rules in
    let p : c.place.result ≡ place_at a.start a.others.now r = c.place.ensures ∙ rw (i.start, i.axes) refl in
    let f = λ (k : ℕ). mean_from a.readings.now a.along (place_at a.start (a.row ∷ a.others.now) k) in
    record {
      axes = n.axes ∙ i.axes;
      start = n.start ∙ i.start;
      number = λ h. next-row a.row a.others.now c.loop-done.position.axes (length a.out.now) c.loop-done.done r c.next.new.self.number c.requires.as_many d i.axes n.on n.last h;
      within = omega (arith, n.within, ap positions (n.axes ∙ i.axes));
      front = row-more f (λ i. mean_from a.readings.now a.along (run_at c.place.result c.cast_unsigned-step.result i)) c.loop-done.out c.write_row.new.out c.loop-done.done (c.loop-done.done + a.row.extent - c.loop-done.done) a.row.extent
          (λ i h. rw (p, s, d) (ap (mean_from a.readings.now a.along) (sym (place-run a.start a.row a.others.now r i h)))) (omega (arith, c.loop-done-test.true)) i.front (c.write_row.ensures ∙ rw (part-length c.loop-done.out c.loop-done.done a.row.extent e) refl);
    }

pub returns : goal.returns
returns c =
    let a = c.args in
    all-means (λ k. mean_from a.readings.now a.along (place_at a.start (a.row ∷ a.others.now) k)) c.loop-done.out c.loop-done.done (length a.out.now) (search rules) (search rules) c.loop-done.invariant.front
