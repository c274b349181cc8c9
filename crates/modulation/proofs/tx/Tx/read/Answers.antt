-- `Tx::read` meets its contract: a read that no check refuses fills the slice, and any other changes nothing. Assumes nothing.
use Rattle.refusal.proofs.RefusalLaws.{accepted-none}
use Rattle.modulation.proofs.Calls.{none-refused, read-filled, read-refused, above}
use native.Mathlib.Omega.{arith}
use Rattle.modulation.proofs.tx.Tx.read.Goals as goal

pub returns-then-is_err : goal.returns-then-is_err
returns-then-is_err c = (read-refused c.args.self c.args.out.now _ c.check-answer.ensures c.if-is_err.ensures.negation, omega arith)

pub fill_equal-requires : goal.fill_equal-requires
fill_equal-requires c =
    let n = none-refused _ _ (accepted-none _ _ c.check-answer.ensures c.if-is_err.ensures.negation) in
    (c.if-self-eq-DSP_RATE.true, n.0, n.1)

pub returns-then-self-eq-DSP_RATE : goal.returns-then-self-eq-DSP_RATE
returns-then-self-eq-DSP_RATE c =
    let f = c.fill_equal.ensures in
    (read-filled c.args.self _ c.args.out.now _ _ _ (accepted-none _ _ c.check-answer.ensures c.if-is_err.ensures.negation) f, f.few)

pub fill_rising-requires : goal.fill_rising-requires
fill_rising-requires c =
    let n = none-refused _ _ (accepted-none _ _ c.check-answer.ensures c.if-is_err.ensures.negation) in
    (above _ c.args.self.rising.low c.if-self-eq-DSP_RATE.false, n.0, n.1)

pub returns : goal.returns
returns c =
    let f = c.fill_rising.ensures in
    (read-filled c.args.self _ c.args.out.now _ _ _ (accepted-none _ _ c.check-answer.ensures c.if-is_err.ensures.negation) f, f.few)
