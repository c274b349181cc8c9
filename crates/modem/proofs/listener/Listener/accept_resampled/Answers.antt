-- What the resampler makes fits the array, and the two steps are the definition's. Assumes nothing.
use Prim.Native.Nat.{◌≤◌}
use mathlib.Core.Path.{refl, ap}
use native.Mathlib.Omega.{arith}
use lib.ListN.{length}
use Rattle.resampling.specs.ResampleRep.{state_of}
use Rattle.modem.specs.Listener.{heard_by}
use Rattle.modem.specs.ListenerRep.{demod_of, FewErrors}
use Rattle.demodulation.specs.Demod.{Demodulator}
use Rattle.modem.proofs.ErrorLaws.{errors-on}
use Rattle.modem.proofs.RxLaws.{steps-few}
use Rattle.modem.proofs.RxCalls.{listener-sound-of, listener-listens}
use Rattle.modem.proofs.Resampled.{fits-scratch, steps-fit, all-heard}
use Rattle.modem.specs.Hear.{resampled}
use Rattle.modem.proofs.listener.Listener.accept_resampled.Goals as goal

pub slice_bounds-scratch-end : goal.slice_bounds-scratch-end
slice_bounds-scratch-end c =
    fits-scratch _ _ _ _ _ c.resample_into-p.ensures c.args.self.resampler.rates.src_low c.args.self.to_8000 c.requires.few

pub overflow_add-state : goal.overflow_add-state
overflow_add-state c = omega (arith, c.requires.end)

pub invariant_of-state-clause-few : goal.invariant_of-state-clause-few
unfolding demod_of FewErrors
invariant_of-state-clause-few c =
    let l = c.args.self in
    let p = c.resample_into-p.ensures in
    let few = steps-fit l.resampler c.args.samples.now l.resampler.rates.src_low l.to_8000 c.requires.few in
    let g = all-heard _ _ _ _ _ _ p.samples few c.hear-h.ensures in
    errors-on _ _ _ _ _ (listener-sound-of l).errors (ap (λ (x : Demodulator). x.deframer) g.after) (steps-few (demod_of l) _ (listener-listens l (listener-sound-of l)))

pub returns : goal.returns
unfolding demod_of heard_by state_of
returns c =
    let p = c.resample_into-p.ensures in
    let h = c.hear-h.ensures in
    let few : length (resampled (state_of c.args.self.resampler) c.args.samples.now).out ≤ 1026 =
    steps-fit c.args.self.resampler c.args.samples.now c.args.self.resampler.rates.src_low c.args.self.to_8000 c.requires.few in
    let g = all-heard _ _ _ _ _ _ p.samples few h in
    record {
      demod = rw (p.state, g.after);
      heard = g.heard;
      count = g.count;
      few = h.few;
      rest = h.rest;
      places = h.places;
      accepted = refl;
    }
