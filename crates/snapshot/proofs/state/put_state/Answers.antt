-- `state::put_state` meets its contract: the parts, one behind the other. Assumes nothing.
use Rattle.snapshot.proofs.StateCalls.{put-long, state-put}
use Rattle.modem.specs.RxRep.{receiver_of}
use native.Mathlib.Omega.{arith}
use lib.ListN.{length}
use mathlib.Core.Path.{◌≡◌, ap}
use Rattle.snapshot.proofs.state.put_state.Goals as goal

pub put_rings-requires : goal.put_rings-requires
put_rings-requires c = omega (arith, c.requires, put-long _ _ _ _ c.put_resampler.ensures.put)

pub put-requires-3 : goal.put-requires-3
put-requires-3 c =
    let many : length c.own_numbers-own.result ≡ 6 = ap length c.own_numbers-own.ensures in
    omega (arith, many, c.requires, put-long _ _ _ _ c.put_resampler.ensures.put, put-long _ _ _ _ c.put_rings.ensures.put, put-long _ _ _ _ c.put.ensures, put-long _ _ _ _ c.put-2.ensures)

pub put-requires-4 : goal.put-requires-4
put-requires-4 c =
    let n = c.last_numbers-last.ensures in
    let many : length c.last_numbers-last.result ≡ 8 = ap length n in
    omega (arith, many, c.requires, put-long _ _ _ _ c.put_resampler.ensures.put, put-long _ _ _ _ c.put_rings.ensures.put, put-long _ _ _ _ c.put.ensures, put-long _ _ _ _ c.put-2.ensures, put-long _ _ _ _ c.put-3.ensures)

pub returns : goal.returns
returns c =
    state-put (receiver_of c.args.rx) _ _ _ _ _ _ _ _ _ _ _ _ _ c.demodulator-demod.ensures c.core-core.ensures c.tone_numbers-tone.ensures c.mark_numbers-mark.ensures c.own_numbers-own.ensures c.last_numbers-last.ensures c.put_resampler.ensures c.put_rings.ensures c.put.ensures c.put-2.ensures c.put-3.ensures c.put-4.ensures
