use Rattle.std.proofs.Common.{Err, rules}
use Rattle.lines.specs.declared.failure.Failure.TheVariants.{Endless}
use Rattle.session.specs.declared.end.Ended.{Ended}
use Rattle.session.proofs.Owed.{at_start, kept, answers, writes, writes-front, front, whole, at_end, at_last, whole_answers, whole_told, answers_before}
use Rattle.session.proofs.session.answer_lines.Goals as goal

pub loop-init : goal.loop-init
loop-init g c = rw c.empty-layouts.ensures (at_start (g.R.Read.remaining c.args.input.now) (g.W.Write.contents c.args.out.now))

pub returns-in_err-read-clause-front : goal.returns-in_err-read-clause-front
returns-in_err-read-clause-front g c = front _ _ _ _ _ _ (kept _ _ _ _ _ _ _ c.loop.invariant c.in_err-read.ensures.kept)

pub returns-then-not-branch-clause-whole : goal.returns-then-not-branch-clause-whole
returns-then-not-branch-clause-whole g c =
    whole _ _ _ _ _ (kept _ _ _ _ _ _ _ c.loop.invariant c.in_ok-read.ensures.kept) (at_end _ _ (rw c.if-not-branch.true at c.in_ok-read.ensures.more))

pub returns-then-not-branch-clause-front : goal.returns-then-not-branch-clause-front
returns-then-not-branch-clause-front g c = front _ _ _ _ _ _ (kept _ _ _ _ _ _ _ c.loop.invariant c.in_ok-read.ensures.kept)

pub returns-in_err-all_obeyed-clause-front : goal.returns-in_err-all_obeyed-clause-front
returns-in_err-all_obeyed-clause-front g c = front _ _ _ _ _ _ (kept _ _ _ _ _ _ _ c.loop.invariant c.in_ok-read.ensures.kept)

pub returns-in-Err-clause-front : goal.returns-in-Err-clause-front
returns-in-Err-clause-front g c =
    let more = rw c.if-not-branch.false at c.in_ok-read.ensures.more in
    let owed = answers _ _ _ _ _ _ _ _ _ _ (kept _ _ _ _ _ _ _ c.loop.invariant c.in_ok-read.ensures.kept) more c.in_ok-read.ensures.line c.in_ok-read.ensures.rest c.in_ok-all_obeyed.ensures.text c.in_ok-all_obeyed.ensures.layouts c.in_ok-all_obeyed.ensures.obeyed in
    writes-front _ _ _ _ _ _ _ owed (rw c.as_bytes.ensures.value at c.write_front.ensures.front)

pub returns-then-line-clause-whole : goal.returns-then-line-clause-whole
returns-then-line-clause-whole g c =
    let more = rw c.if-not-branch.false at c.in_ok-read.ensures.more in
    let owed = answers _ _ _ _ _ _ _ _ _ _ (kept _ _ _ _ _ _ _ c.loop.invariant c.in_ok-read.ensures.kept) more c.in_ok-read.ensures.line c.in_ok-read.ensures.rest c.in_ok-all_obeyed.ensures.text c.in_ok-all_obeyed.ensures.layouts c.in_ok-all_obeyed.ensures.obeyed in
    let text = rw c.as_bytes.ensures.value at c.in-Ok.ensures.all in
    whole _ _ _ _ _ (kept _ _ _ _ _ _ _ (writes _ _ _ _ _ _ _ owed text) c.flush.ensures.bytes) (at_last _ _ _ _ _ _ _ c.loop.invariant (c.in_ok-read.ensures.last c.if-line.true))

pub returns-then-line-clause-front : goal.returns-then-line-clause-front
returns-then-line-clause-front g c =
    let more = rw c.if-not-branch.false at c.in_ok-read.ensures.more in
    let owed = answers _ _ _ _ _ _ _ _ _ _ (kept _ _ _ _ _ _ _ c.loop.invariant c.in_ok-read.ensures.kept) more c.in_ok-read.ensures.line c.in_ok-read.ensures.rest c.in_ok-all_obeyed.ensures.text c.in_ok-all_obeyed.ensures.layouts c.in_ok-all_obeyed.ensures.obeyed in
    let text = rw c.as_bytes.ensures.value at c.in-Ok.ensures.all in
    front _ _ _ _ _ _ (kept _ _ _ _ _ _ _ (writes _ _ _ _ _ _ _ owed text) c.flush.ensures.bytes)

pub loop-preserved : goal.loop-preserved
loop-preserved g c =
    let more = rw c.if-not-branch.false at c.in_ok-read.ensures.more in
    let owed = answers _ _ _ _ _ _ _ _ _ _ (kept _ _ _ _ _ _ _ c.loop.invariant c.in_ok-read.ensures.kept) more c.in_ok-read.ensures.line c.in_ok-read.ensures.rest c.in_ok-all_obeyed.ensures.text c.in_ok-all_obeyed.ensures.layouts c.in_ok-all_obeyed.ensures.obeyed in
    let text = rw c.as_bytes.ensures.value at c.in-Ok.ensures.all in
    writes _ _ _ _ _ _ _ owed text

pub returns-clause-front : goal.returns-clause-front
returns-clause-front g c = front _ _ _ _ _ _ c.loop.invariant

pub returns-in_err-read-clause-answers : goal.returns-in_err-read-clause-answers
returns-in_err-read-clause-answers g c = whole_answers _ _ _ _ _ _ (search rules) (kept _ _ _ _ _ _ _ c.loop.invariant c.in_err-read.ensures.kept)

pub returns-in_err-all_obeyed-clause-answers : goal.returns-in_err-all_obeyed-clause-answers
returns-in_err-all_obeyed-clause-answers g c =
    answers_before _ _ _ _ _ _ _ (search rules) (kept _ _ _ _ _ _ _ c.loop.invariant c.in_ok-read.ensures.kept) (rw c.if-not-branch.false at c.in_ok-read.ensures.more) c.in_ok-read.ensures.line c.in_err-all_obeyed.ensures.memory

pub returns-clause-answers : goal.returns-clause-answers
returns-clause-answers g c = whole_answers {T = Ended} (Err Endless) _ _ _ _ _ (λ e. cc) c.loop.invariant

pub returns-then-not-branch-clause-obeyed : goal.returns-then-not-branch-clause-obeyed
returns-then-not-branch-clause-obeyed g c =
    whole_told _ _ _ _ _ _ (kept _ _ _ _ _ _ _ c.loop.invariant c.in_ok-read.ensures.kept) (at_end _ _ (rw c.if-not-branch.true at c.in_ok-read.ensures.more))

pub returns-in_err-map_err-clause-front : goal.returns-in_err-map_err-clause-front
returns-in_err-map_err-clause-front g c =
    let more = rw c.if-not-branch.false at c.in_ok-read.ensures.more in
    let owed = answers _ _ _ _ _ _ _ _ _ _ (kept _ _ _ _ _ _ _ c.loop.invariant c.in_ok-read.ensures.kept) more c.in_ok-read.ensures.line c.in_ok-read.ensures.rest c.in_ok-all_obeyed.ensures.text c.in_ok-all_obeyed.ensures.layouts c.in_ok-all_obeyed.ensures.obeyed in
    let text = rw c.as_bytes.ensures.value at c.in-Ok.ensures.all in
    front _ _ _ _ _ _ (kept _ _ _ _ _ _ _ (writes _ _ _ _ _ _ _ owed text) c.flush.ensures.bytes)

pub returns-then-line-clause-obeyed : goal.returns-then-line-clause-obeyed
returns-then-line-clause-obeyed g c =
    let more = rw c.if-not-branch.false at c.in_ok-read.ensures.more in
    let owed = answers _ _ _ _ _ _ _ _ _ _ (kept _ _ _ _ _ _ _ c.loop.invariant c.in_ok-read.ensures.kept) more c.in_ok-read.ensures.line c.in_ok-read.ensures.rest c.in_ok-all_obeyed.ensures.text c.in_ok-all_obeyed.ensures.layouts c.in_ok-all_obeyed.ensures.obeyed in
    let text = rw c.as_bytes.ensures.value at c.in-Ok.ensures.all in
    whole_told _ _ _ _ _ _ (writes _ _ _ _ _ _ _ owed text) (at_last _ _ _ _ _ _ _ c.loop.invariant (c.in_ok-read.ensures.last c.if-line.true))
