-- The status after lines whose input has ended. Assumes nothing.
use Rattle.std.specs.Prelude.{ℕ, Bool, not, ◌&&◌, if◌then◌else◌}

-- 3 if it is asked for and a line was answered with an error or a refusal
abbrev pub status_after : Bool → Bool → ℕ
status_after strict all_obeyed = if strict && not all_obeyed then 3 else 0
