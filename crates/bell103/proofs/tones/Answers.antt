-- Each frequency's bits are the definition's, and the match told which role it is.
use Rattle.bell103.specs.Roles.{tones_of}
use Rattle.bell103.proofs.tones.Goals as goal

pub returns-in-Answer : goal.returns-in-Answer
unfolding tones_of lib.Ieee.of_bits lib.Ieee.of_int
returns-in-Answer c = rw c.in-Answer.is

pub returns-in-Originate : goal.returns-in-Originate
unfolding tones_of lib.Ieee.of_bits lib.Ieee.of_int
returns-in-Originate c = rw c.in-Originate.is
