-- `put_axes` goes on with fewer axes.
use Rattle.std.proofs.Common.{length}
use Rattle.record.proofs.fields.+put_axes.Given as goal

abbrev pub decreases-put_axes : goal.decreases-put_axes
decreases-put_axes l = length l.axes.now
