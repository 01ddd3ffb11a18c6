-- Two lists handed in, read as axes.
use Rattle.std.specs.Prelude.{not, ◌||◌, List, [], ◌==◌, ℕ, ℤ, length}
use Rattle.specification.specs.Axis.{Axis, axes_of_lists}
use Rattle.specification.specs.Layout.{is_too_long}
use Rattle.specification.specs.Outcome.{Outcome, done, refuse_if, ◌>>◌}
use Rattle.view.specs.declared.axes.Lists.{Lists}

-- 1 if either has more than 16 entries, 2 if their lengths differ; else the axes that they are
unfoldable pub paired : List ℕ → List ℤ → Outcome (List Axis)
paired extents strides =
    refuse_if (is_too_long extents || is_too_long strides) 1 []
    >> refuse_if (not (length extents == length strides)) 2 []
    >> done (axes_of_lists extents strides)

-- the axes that two lists are
abbrev pub axes_in : Lists → List Axis
axes_in lists = axes_of_lists lists.extents.now lists.strides.now
