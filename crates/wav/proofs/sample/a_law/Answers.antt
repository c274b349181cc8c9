-- The table has the magnitudes; the test picks the sign. Assumes nothing.
use Prim.Native.Nat.{ℕ, ◌-◌, ◌<◌}
use mathlib.Core.Path.{ap, ◌∙◌}
use native.Mathlib.Omega.{arith}
use borrow.Author.Tests.{lt-ltb, le-ltb}
use lib.Ieee.{neg}
use Rattle.wav.specs.Sample.{part_of, a_of}
use Rattle.wav.proofs.SampleLaws.{power-15, a_at, a-few}
use Rattle.wav.proofs.sample.a_law.Goals as goal

pub part-requires : goal.part-requires
part-requires c = (a-few _ c.if-m-lt128.true, power-15)

pub returns-then-m-lt128 : goal.returns-then-m-lt128
unfolding a_of
returns-then-m-lt128 c = rw (lt-ltb _ _ c.if-m-lt128.true) (ap neg (c.part.ensures ∙ ap (λ (m : ℕ). part_of m 32768) (a_at _ c.if-m-lt128.true)))

pub part-requires-2 : goal.part-requires-2
part-requires-2 c = let h : c.args.n - 128 < 128 = omega (arith, c.requires) in (a-few _ h, power-15)

pub returns : goal.returns
unfolding a_of
returns c =
    let h : c.args.n - 128 < 128 = omega (arith, c.requires) in
    rw (le-ltb _ _ c.if-m-lt128.false) (c.part-2.ensures ∙ ap (λ (m : ℕ). part_of m 32768) (a_at _ h))
