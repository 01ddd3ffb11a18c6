-- The block as the code holds it (RULES, "The verdict: block").
use Rattle.std.specs.Prelude.{◌≡◌, ◌<◌, length}
use Rattle.specification.specs.Search.{total, span_sum}
use Rattle.search.specs.Block.{IsSearchable}
use Rattle.search.specs.declared.Searched.{Searched}
use Rattle.search.specs.declared.Searched.TheVariants.{Repeated as search_repeated, Distinct as search_distinct}
use Rattle.injectivity.specs.declared.Judgement.{Judgement}
use Rattle.injectivity.specs.declared.Judgement.TheVariants.{Distinct, Repeated}
use Rattle.injectivity.specs.declared.block.InterleavedBlock.TheInside.{Inside}

-- a block that can be judged, with its total and its span: it never has one axis, since no span is before the first
pub record IsJudgeable (block : Inside) : Type 0 where
  pub searchable : IsSearchable block.axes.now
  pub many : 1 < length block.axes.now
  pub positive : 0 < block.total
  pub total_is : block.total ≡ total block.axes.now
  pub span_is : block.span ≡ span_sum block.axes.now

-- what a search answers is the judgement
abbrev pub judgement_of : Searched → Judgement
judgement_of (search_repeated count) = Repeated count
judgement_of (search_distinct count) = Distinct count
