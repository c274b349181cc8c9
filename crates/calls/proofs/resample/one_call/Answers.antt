-- `resample::one_call` meets its contract: the parts that it lends are the next samples of the input and the unwritten output. Assumes nothing.
use Prim.Native.Nat.{ℕ, min, ◌+◌, ◌-◌}
use mathlib.Core.Path.{ap, ◌∙◌}
use native.Mathlib.Omega.{arith}
use lib.ListN.{length}
use Rattle.calls.proofs.Calls.{call-written, call-steps, call-within}
use Rattle.calls.proofs.resample.one_call.Goals as goal

pub overflow_add-result : goal.overflow_add-result
overflow_add-result c =
    let pe = c.part_end-end.ensures in
    let e-is = pe.0 ∙ ap (λ (k : ℕ). c.args.p.read + min k (length c.args.input.now - c.args.p.read)) c.samples_for-samples.ensures in
    let mc = c.make_call-done.ensures in
    let to = c.numbers_of-t in
    let w = call-written c.args.p c.args.kind c.args.n _ _ c.args.output.now c.requires.0 e-is (pe.2 c.requires.0.read) _ _ _ mc.output_after in
    omega (arith, w, to.ensures.1, c.output-1.given.1, c.well_formed)

pub returns : goal.returns
returns c =
    let pe = c.part_end-end.ensures in
    let e-is = pe.0 ∙ ap (λ (k : ℕ). c.args.p.read + min k (length c.args.input.now - c.args.p.read)) c.samples_for-samples.ensures in
    let mc = c.make_call-done.ensures in
    let to = c.numbers_of-t in record { stepped = call-steps c.args.p c.args.kind c.args.n _ _ c.args.output.now c.requires.0 e-is (pe.2 c.requires.0.read) _ _ _ mc.output_after to.result to.ensures.0 to.ensures.1 _ _ _ c.tell.ensures; within = call-within c.args.p c.args.kind c.args.n _ _ c.args.output.now c.requires.0 e-is (pe.2 c.requires.0.read) _ _ _ mc.output_after _ to.ensures.1 }
