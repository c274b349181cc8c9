-- How the code holds what specs/Demod.antt speaks of: the rings apart from the rest, which is small. Assumes nothing.
use Rattle.std.specs.Prelude.{◌≡◌, Float}
use Rattle.demodulation.specs.Correlation.{multiplied}
use Rattle.demodulation.specs.Demod as plain
use Rattle.demodulation.specs.declared.carrier.CarrierDetector.{CarrierDetector}
use Rattle.demodulation.specs.declared.demod.Latch.{Latch}
use Rattle.demodulation.specs.declared.correlator.Rings.{Rings}
use Rattle.demodulation.specs.declared.demod.Core.{Core}
use Rattle.demodulation.specs.declared.demod.CoreStep.{CoreStep}
use Rattle.demodulation.specs.declared.demod.Demodulator.{Demodulator}
use Rattle.demodulation.specs.declared.demod.Step.{Step}

-- rings and core together
abbrev pub demodulator : Rings → Core → plain.Demodulator
demodulator rings c =
    record {
      kind = c.kind;
      rings = rings;
      corr = c.corr;
      dominance = c.dominance;
      gate_open = c.gate_open;
      carrier = c.carrier;
      latch = c.latch;
      timing = c.timing;
      deframer = c.deframer;
    }

abbrev pub demodulator_of : Demodulator → plain.Demodulator
demodulator_of d = demodulator d.rings d.core

-- a step's answer, put together with the rings
abbrev pub step_with : Rings → CoreStep → plain.Step
step_with rings x = record { state = demodulator rings x.core; heard = x.heard; event = x.event }

abbrev pub stepped : Step → plain.Step
stepped x = record { state = demodulator_of x.state; heard = x.heard; event = x.event }

-- the core after "products, phases, ring place; dominance", and after "event; timing; slice", whatever the rings are
abbrev pub Feeds : Core → Float → Core → Type 0
Feeds c s r = (rings : Rings) → demodulator (multiplied rings c.corr s) r ≡ plain.fed (demodulator rings c) s

abbrev pub Finishes : Core → CarrierDetector → Latch → Float → CoreStep → Type 0
Finishes c carrier latch soft r = (rings : Rings) → step_with rings r ≡ plain.finished (demodulator rings c) carrier latch soft

-- what each value of the type keeps (proofs/DemodLaws.antt, demod-sound-of)
abbrev pub DemodSound : Demodulator → Type 0
DemodSound d = plain.Tuned (demodulator_of d)
