-- `numeric::convert::kept_digits` meets its contract: each arm is a case of `digits`, and the shifted 1 is a power of 2. Assumes nothing.
use Rattle.std.proofs.Common.{ℕ, ◌+◌, ◌-◌, ◌/◌, ◌%◌, ◌^◌, ◌<◌, ◌≤◌, arith, pow_pos, pow_mono}
use Rattle.numeric.proofs.Narrow.{unit}
use Rattle.numeric.proofs.convert.kept_digits.Goals as goal

shift : (b : ℕ) → 0x3680_0000_0000_0000 ≤ b → 926 - b / 0x10_0000_0000_0000 ≤ 54
shift b h = omega arith

low : (b : ℕ) → b % 0x10_0000_0000_0000 + 0x10_0000_0000_0000 < 2 ^ 63
low b = omega arith

pub nearest_even-requires : goal.nearest_even-requires
nearest_even-requires c =
    let b = c.args.b in
    let e = unit (926 - b / 0x10_0000_0000_0000) (shift b c.if-b-ge3927138875067072512.true) in
    record { u_nonzero = rw e (pow_pos _); u_bound = rw e (pow_mono (shift b c.if-b-ge3927138875067072512.true)); d_bound = low b }
