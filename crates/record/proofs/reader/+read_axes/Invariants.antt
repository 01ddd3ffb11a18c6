-- `read_axes` goes on with fewer axes.
use Rattle.std.proofs.Common.{length}
use Rattle.record.proofs.reader.+read_axes.Given as goal

abbrev pub decreases-read_axes : goal.decreases-read_axes
decreases-read_axes l = length l.axes.now
