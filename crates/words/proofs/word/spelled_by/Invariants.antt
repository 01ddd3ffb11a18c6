use Rattle.std.proofs.Common.{◌≡◌, ◌+◌, vec_len, map, drop}
use Rattle.words.specs.Words.{listed}
use Rattle.words.proofs.Listed.{with_front}
use Rattle.words.proofs.word.spelled_by.Given as goal

abbrev pub invariant-loop-text : goal.invariant-loop-text
invariant-loop-text g l = record {
  one_each : vec_len l.list ≡ l.text-index;
  so_far : with_front l.list.items (listed g.T.Spelled.spelled g.T.Spelled.form l.word (l.text-index + 1) (drop l.text-index (map (λ text. text.now) l.entries)))
      ≡ listed g.T.Spelled.spelled g.T.Spelled.form l.word 1 (map (λ text. text.now) l.entries);
}
