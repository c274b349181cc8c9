-- A store behind the first n makes the first n + 1 of them and the code. Assumes nothing.
use mathlib.Core.List.{[], ◌∷◌}
use Prim.Native.Nat.{◌+◌}
use native.Mathlib.Numerals.{add-one}
use native.Mathlib.Omega.{arith}
use lib.ListN.{length-set, take}
use lib.Seq.{take-suc-set, drop-set-lt}
use borrow.Author.Rules.{rules}
use Rattle.happenings.specs.Happening.{happenings_of}
use Rattle.happenings.proofs.HappeningLaws.{codes-append}
use Rattle.demodulation.proofs.hearing.put.Goals as goal

pub returns : goal.returns
unfolding happenings_of
returns c =
    record {
      waits = rw (add-one, take-suc-set c.args.codes.now c.args.n c.args.code (search rules)) (codes-append (take c.args.n c.args.codes.now) (c.args.code ∷ []));
      count = search rules;
      rest = drop-set-lt (c.args.n + 1) c.args.codes.now c.args.n c.args.code (omega arith);
      places = simp length-set (search rules);
    }
