-- By the contracts of its parts. Assumes nothing.
use mathlib.Core.Path.{refl, ap, ◌∙◌}
use Rattle.resampling.specs.Resample.{State}
use Rattle.resampling.specs.ResampleRep.{state_of}
use Rattle.modem.specs.Listener.{fresh_demod}
use Rattle.modem.specs.ListenerRep.{demod_of, FewErrors}
use Rattle.demodulation.specs.Demod.{Demodulator}
use Rattle.modem.proofs.ErrorLaws.{errors-new}
use Rattle.modem.proofs.Receiving.{fresh-resampler, fresh-dst}
use Rattle.modem.proofs.listener.Listener.fresh_at.Goals as goal

pub invariant_of-result-clause-to_8000 : goal.invariant_of-result-clause-to_8000
unfolding state_of
invariant_of-result-clause-to_8000 c =
    ap (λ (x : State). x.dst) (fresh-resampler c.args.rate c.requires _ _ c.new.ensures.state_value) ∙ fresh-dst c.args.rate

pub invariant_of-result-clause-few : goal.invariant_of-result-clause-few
unfolding FewErrors
invariant_of-result-clause-few c = errors-new _ c.args.kind c.args.role (ap (λ (x : Demodulator). x.deframer) c.new-2.ensures.result_value)

pub returns : goal.returns
unfolding demod_of fresh_demod state_of
returns c =
    let st = fresh-resampler c.args.rate c.requires _ _ c.new.ensures.state_value in
    record { demod = rw (st, c.new-2.ensures.result_value); accepted = refl }
