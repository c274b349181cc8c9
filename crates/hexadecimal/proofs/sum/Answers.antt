-- The sum so far and the sum from place i on are together the whole, up to multiples of 256. Assumes nothing.
use native.Mathlib.Omega.{arith}
use Rattle.hexadecimal.specs.Hex.{unhex}
use Rattle.hexadecimal.proofs.ByPlace.{total-step, total-end}
use Rattle.hexadecimal.proofs.HexLaws.{length-unhex}
use Rattle.hexadecimal.proofs.sum.Goals as goal

pub loop-i-preserved : goal.loop-i-preserved
loop-i-preserved c =
    let s = c.args.s.now in
    let l = length-unhex s in
    let e = c.byte.ensures.0 in
    let t = total-step (unhex s) c.loop-i.i (omega arith) in
    (omega arith, omega arith)

pub returns : goal.returns
returns c =
    let s = c.args.s.now in
    omega (arith, total-end (unhex s) c.loop-i.i (omega (arith, length-unhex s)))
