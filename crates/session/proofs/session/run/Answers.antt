use Rattle.std.proofs.Common.{rules}
use Rattle.session.proofs.Marked.{goes_on, ends, no_answer, front, whole, obeyed}
use Rattle.session.proofs.session.run.Goals as goal

pub returns-in_err-start-clause-answers : goal.returns-in_err-start-clause-answers
returns-in_err-start-clause-answers g c = no_answer _ _ _ _ (search rules) c.flush.ensures.bytes

pub returns-then-start-clause-whole : goal.returns-then-start-clause-whole
returns-then-start-clause-whole g c =
    whole _ _ _ _ _ _ (ends _ _ _ c.in_ok-start.ensures.start (c.in_ok-start.ensures.end c.if-start.true)) c.flush.ensures.bytes c.answer_lines.ensures.whole

pub returns-then-start-clause-front : goal.returns-then-start-clause-front
returns-then-start-clause-front g c =
    front _ _ _ _ _ (ends _ _ _ c.in_ok-start.ensures.start (c.in_ok-start.ensures.end c.if-start.true)) c.flush.ensures.bytes c.answer_lines.ensures.front

pub returns-then-start-clause-obeyed : goal.returns-then-start-clause-obeyed
returns-then-start-clause-obeyed g c =
    obeyed _ _ _ (ends _ _ _ c.in_ok-start.ensures.start (c.in_ok-start.ensures.end c.if-start.true)) c.answer_lines.ensures.obeyed

pub returns-clause-whole : goal.returns-clause-whole
returns-clause-whole g c =
    whole _ _ _ _ _ _ (goes_on _ _ _ _ c.in_ok-start.ensures.start c.chain.ensures.bytes) c.flush.ensures.bytes c.answer_lines-2.ensures.whole

pub returns-clause-front : goal.returns-clause-front
returns-clause-front g c =
    front _ _ _ _ _ (goes_on _ _ _ _ c.in_ok-start.ensures.start c.chain.ensures.bytes) c.flush.ensures.bytes c.answer_lines-2.ensures.front

pub returns-clause-obeyed : goal.returns-clause-obeyed
returns-clause-obeyed g c =
    obeyed _ _ _ (goes_on _ _ _ _ c.in_ok-start.ensures.start c.chain.ensures.bytes) c.answer_lines-2.ensures.obeyed
