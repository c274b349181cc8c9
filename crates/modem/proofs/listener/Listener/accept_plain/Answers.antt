-- At equal rates the samples are heard as they come. Assumes nothing.
use mathlib.Core.Path.{refl}
use Rattle.modem.specs.ListenerRep.{FewErrors}
use Rattle.modem.proofs.Resampled.{plain-takes, plain-few}
use Rattle.modem.proofs.listener.Listener.accept_plain.Goals as goal

pub invariant_of-self-clause-few : goal.invariant_of-self-clause-few
unfolding FewErrors
invariant_of-self-clause-few c = plain-few c.args.self c.args.samples.now _ _ c.hear_plain-h.result c.hear_plain-h.ensures

pub returns : goal.returns
returns c =
    plain-takes c.args.self _ c.args.samples.now _ _ c.hear_plain-h.result refl refl refl c.requires.1 c.hear_plain-h.ensures
