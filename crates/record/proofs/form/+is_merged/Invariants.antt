-- `is_merged` goes on with fewer axes.
use Rattle.std.proofs.Common.{length}
use Rattle.record.proofs.form.+is_merged.Given as goal

abbrev pub decreases-is_merged : goal.decreases-is_merged
decreases-is_merged l = length l.axes.now
