-- The table has the magnitudes; the test picks the sign. Assumes nothing.
use Prim.Native.Nat.{ℕ, ◌-◌, ◌<◌}
use mathlib.Core.Path.{ap, ◌∙◌}
use native.Mathlib.Omega.{arith}
use borrow.Author.Tests.{lt-ltb, le-ltb}
use lib.Ieee.{neg}
use Rattle.wav.specs.Sample.{part_of, mu_of}
use Rattle.wav.proofs.SampleLaws.{power-15, mu-at, mu-few}
use Rattle.wav.proofs.sample.mu_law.Goals as goal

pub part-requires : goal.part-requires
part-requires c = (mu-few _ c.if-m-lt128.true, power-15)

pub returns-then-m-lt128 : goal.returns-then-m-lt128
unfolding mu_of
returns-then-m-lt128 c = rw (lt-ltb _ _ c.if-m-lt128.true) (c.part.ensures ∙ ap (λ (m : ℕ). part_of m 32768) (mu-at _ c.if-m-lt128.true))

pub part-requires-2 : goal.part-requires-2
part-requires-2 c = let h : 255 - c.args.n - 128 < 128 = omega arith in (mu-few _ h, power-15)

pub returns : goal.returns
unfolding mu_of
returns c =
    let h : 255 - c.args.n - 128 < 128 = omega arith in
    rw (le-ltb _ _ c.if-m-lt128.false) (ap neg (c.part-2.ensures ∙ ap (λ (m : ℕ). part_of m 32768) (mu-at _ h)))
