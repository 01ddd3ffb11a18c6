-- `put` meets its contract: a number that is there stays, another is put into a free word.
use Rattle.std.proofs.Common.{◌∙◌, ap, arith}
use Rattle.std.specs.FinSet.{insert}
use Rattle.enumeration.proofs.TableLaws.{put-inside, placed-put, numbers-put, numbers-same, free-put}
use Rattle.enumeration.proofs.table.Table.put.Goals as goal

pub returns-in_default-clause-numbers : goal.returns-in_default-clause-numbers
returns-in_default-clause-numbers c = numbers-same _ _ _ c.in_default.ensures.found ∙ ap (λ v. insert v.numbers c.args.n) c.self.view_is

pub bounds-words-place : goal.bounds-words-place
bounds-words-place c =
    let r = ap (λ v. v.room) c.self.view_is in
    put-inside _ _ _ _ _ c.self.invariant c.in-Err.ensures.missed (omega (arith, r, c.requires.room))

pub invariant_of-self-2 : goal.invariant_of-self-2
invariant_of-self-2 c =
    let r = ap (λ v. v.room) c.self.view_is in
    let p = c.in-Err.ensures.missed in
    placed-put _ _ _ _ _ c.self.invariant p (omega (arith, r, c.requires.room)) (omega arith) _ (omega arith) (omega arith)

pub returns : goal.returns
returns c =
    let r = ap (λ v. v.room) c.self.view_is in
    record {
      numbers = numbers-put _ _ _ _ _ c.self.invariant c.in-Err.ensures.missed (omega (arith, r, c.requires.room)) (omega arith)
          ∙ ap (λ v. insert v.numbers c.args.n) c.self.view_is;
      room = omega (arith, r, free-put c.self.inside.words.now c.self.inside.homes c.in-Err.place c.args.n);
    }
