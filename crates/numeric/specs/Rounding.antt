-- Rust's `round(x) as usize` and `ceil(x) as usize`, on any f64. Assumes nothing.
use Rattle.std.specs.Prelude.{ℕ, ◌+◌, ◌-◌, ◌*◌, ◌/◌, ◌^◌, min, Float}
use Rattle.std.specs.Float.{nan, inf, fin}
use Rattle.std.specs.Float.Ieee.{up, down}
use Rattle.std.specs.Prelude.{if◌then◌else◌}

-- round(x) as usize. "Round: half away from zero"; a NaN gives 0, a negative number 0, what is too large the largest usize
unfoldable pub round_usize : Float → ℕ
round_usize nan = 0
round_usize (inf s) = if s then 0 else 2 ^ 64 - 1
round_usize (fin s m e) = if s then 0 else min ((2 * (m * up e) + down e) / (2 * down e)) (2 ^ 64 - 1)

-- ceil(x) as usize
unfoldable pub ceil_usize : Float → ℕ
ceil_usize nan = 0
ceil_usize (inf s) = if s then 0 else 2 ^ 64 - 1
ceil_usize (fin s m e) = if s then 0 else min ((m * up e + down e - 1) / down e) (2 ^ 64 - 1)
