-- `state::one_step` meets its contract: the parts that it lends are the next samples, and room for what can wait. Assumes nothing.
use native.Mathlib.Omega.{arith}
use Rattle.snapshot.proofs.StateCalls.{step-moves, prefix-length}
use Prim.Native.Nat.{ℕ}
use lib.ListN.{length-replicate}
use lib.Seq.{length-take-le}
use mathlib.Core.Path.{sym}
use Rattle.snapshot.proofs.state.one_step.Goals as goal

pub slice_bounds-make_call-end-2 : goal.slice_bounds-make_call-end-2
slice_bounds-make_call-end-2 c = sym (length-take-le _ _ (rw (c.filled-bytes.ensures, length-replicate {A = ℕ} 512 0) (c.part_end-b.ensures.2 (omega arith))))

pub slice_bounds-make_call-end-3 : goal.slice_bounds-make_call-end-3
slice_bounds-make_call-end-3 c = sym (length-take-le _ _ (rw (c.filled-events.ensures, length-replicate {A = ℕ} 64 0) (c.part_end-e.ensures.2 (omega arith))))

pub returns : goal.returns
returns c =
    let pe = c.part_end-end in
    let pb = c.part_end-b in
    let pv = c.part_end-e in
    step-moves c.args.p c.args.k _ _ _ _ _ _ _ _ pe.ensures.0 (pe.ensures.2 c.requires.read)
    (prefix-length _ _ _ c.filled-bytes.ensures pb.ensures.0) (prefix-length _ _ _ c.filled-events.ensures pv.ensures.0) c.make_call-c.ensures
