use Rattle.std.proofs.Common.{rules, ◌+◌, Err, sym, ap, ◌∙◌, refl}
use Rattle.words.specs.Texts.{misspelled_entry}
use Rattle.words.specs.Words.{listed}
use Rattle.words.proofs.Listed.{with_front, goes_on, stops, ends, drop_map, drop_map_end}
use Rattle.words.proofs.word.spelled_by.Goals as goal

pub returns-in-None-clause-spelled : goal.returns-in-None-clause-spelled
returns-in-None-clause-spelled g c =
    let spelled = g.T.Spelled.spelled in
    let rest = drop_map (λ text. text.now) c.args.entries.now c.loop-text.text-index _ c.loop-text-test.true in
    sym c.loop-text.invariant.so_far
    ∙ ap (λ texts. with_front c.loop-text.list.items (listed spelled g.T.Spelled.form c.args.word (c.loop-text.text-index + 1) texts)) rest
    ∙ stops spelled g.T.Spelled.form c.args.word (c.loop-text.text-index + 1) c.loop-text.list.items _ _ c.in-None.ensures
    ∙ rw c.form.ensures (ap (λ w. Err (misspelled_entry c.args.word w.0 w.1 g.T.Spelled.form)) (sym (c.new.ensures ∙ rw (c.len.ensures, c.loop-text.invariant.one_each) refl)))

pub loop-text-preserved : goal.loop-text-preserved
loop-text-preserved g c =
    let spelled = g.T.Spelled.spelled in
    let rest = drop_map (λ text. text.now) c.args.entries.now c.loop-text.text-index _ c.loop-text-test.true in
    record {
      one_each = search rules;
      so_far = rw c.in_ok-push-in-Some.ensures.items (sym (goes_on spelled g.T.Spelled.form c.args.word (c.loop-text.text-index + 1) c.loop-text.list.items _ _ c.in-Some.x c.in-Some.ensures)
          ∙ ap (λ texts. with_front c.loop-text.list.items (listed spelled g.T.Spelled.form c.args.word (c.loop-text.text-index + 1) texts)) (sym rest)
          ∙ c.loop-text.invariant.so_far);
    }

pub returns-clause-spelled : goal.returns-clause-spelled
returns-clause-spelled g c =
    let spelled = g.T.Spelled.spelled in
    let rest = drop_map_end (λ text. text.now) c.args.entries.now c.loop-text.text-index c.loop-text-test.false in
    sym c.loop-text.invariant.so_far
    ∙ ap (λ texts. with_front c.loop-text.list.items (listed spelled g.T.Spelled.form c.args.word (c.loop-text.text-index + 1) texts)) rest
    ∙ ends spelled g.T.Spelled.form c.args.word (c.loop-text.text-index + 1) c.loop-text.list.items
