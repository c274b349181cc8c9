-- The tests pick the case; what is left is less than 65,534. Assumes nothing.
use Rattle.std.proofs.Common.{◌<◌, T, sym, refl, subst, arith, lit<}
use lib.Ieee.{of_bits, neg}
use Rattle.send_app.specs.Bytes.{nearest16}
use Rattle.send_app.proofs.NearestLaws.{fits-64, whole-few}
use Rattle.send_app.proofs.bytes.nearest_16.Goals as goal

pub overflow_add-result : goal.overflow_add-result
overflow_add-result c =
    let h : c.truncating_f64_to_u64.result < 65534 = rw c.truncating_f64_to_u64.ensures (whole-few _ c.if-twice-2.true) in
    record { fits = omega (arith, h) }

pub overflow_cast-result : goal.overflow_cast-result
overflow_cast-result c =
    let h : c.truncating_f64_to_u64.result < 65534 = rw c.truncating_f64_to_u64.ensures (whole-few _ c.if-twice-2.true) in
    omega (arith, h)

pub returns-then-twice-2 : goal.returns-then-twice-2
unfolding nearest16
returns-then-twice-2 c =
    let h : c.truncating_f64_to_u64.result < 65534 = rw c.truncating_f64_to_u64.ensures (whole-few _ c.if-twice-2.true) in
    (rw (c.if-twice.true, c.if-twice-2.true, ← c.truncating_f64_to_u64.ensures) refl, omega (arith, h))

pub returns-then-twice : goal.returns-then-twice
unfolding nearest16
returns-then-twice c = (rw (c.if-twice.true, c.if-twice-2.false) refl, lit< tt)

pub returns : goal.returns
unfolding nearest16
returns c = (rw c.if-twice.false refl, lit< tt)

pub truncating_f64_to_u64-requires-clause-lower_bound : goal.truncating_f64_to_u64-requires-clause-lower_bound
unfolding of_bits neg
truncating_f64_to_u64-requires-clause-lower_bound c = subst T (sym c.if-twice.true) tt

pub truncating_f64_to_u64-requires-clause-upper_bound : goal.truncating_f64_to_u64-requires-clause-upper_bound
truncating_f64_to_u64-requires-clause-upper_bound c = fits-64 _ c.if-twice-2.true
