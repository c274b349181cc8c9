-- `hear::resample_into` meets its contract: the call has the room that `max_output_len` gives, so nothing is cut off. Assumes nothing.
use lib.ListN.{length}
use Rattle.modem.proofs.Resampled.{room-is, room-few, resamples}
use Rattle.resampling.specs.ResampleRep.{state_of}
use mathlib.Core.Path.{sym, ◌∙◌}
use lib.Seq.{length-take-le}
use native.Mathlib.Omega.{arith}
use Rattle.modem.proofs.hear.resample_into.Goals as goal

pub slice_bounds-run-end-2 : goal.slice_bounds-run-end-2
unfolding state_of
slice_bounds-run-end-2 c =
    let m = c.max_output_len-room.ensures in
    let n = length c.args.samples.now in
    let e = c.unwrap_or-need.ensures ∙ room-is (state_of c.args.r) n c.max_output_len-room.result (omega (arith, c.requires.1)) m in
    let f = room-few (state_of c.args.r) n c.requires.1 c.args.r.rates.src_low c.requires.0 in
    omega (arith, e, f, c.requires.2)

pub slice_bounds-run-end-3 : goal.slice_bounds-run-end-3
unfolding state_of
slice_bounds-run-end-3 c = sym (length-take-le _ _ ((let s = c in
    let m = c.max_output_len-room.ensures in
    let n = length s.args.samples.now in
    let e = c.unwrap_or-need.ensures ∙ room-is (state_of s.args.r) n c.max_output_len-room.result (omega (arith, s.requires.1)) m in
    let f = room-few (state_of s.args.r) n s.requires.1 s.args.r.rates.src_low s.requires.0 in
    omega (arith, e, f, s.requires.2))))

pub returns : goal.returns
unfolding state_of
returns c =
    let w = c.widen_into.ensures in
    let m = c.max_output_len-room.ensures in
    let p = c.run-p.ensures in
    let n = length c.args.samples.now in
    let e = c.unwrap_or-need.ensures ∙ room-is (state_of c.args.r) n c.max_output_len-room.result (omega (arith, c.requires.1)) m in
    let f = room-few (state_of c.args.r) n c.requires.1 c.args.r.rates.src_low c.requires.0 in
    resamples c.args.r _ c.args.samples.now c.args.out.now _ _ _ e c.requires.2 (rw (← e) at f) (rw w.front at p.output_after)
