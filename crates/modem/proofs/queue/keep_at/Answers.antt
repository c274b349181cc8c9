-- A store behind the first n makes the first n + 1 of them and the byte. Assumes nothing.
use native.Mathlib.Numerals.{add-one}
use lib.ListN.{length-set}
use lib.Seq.{take-suc-set}
use borrow.Author.Rules.{rules}
use Rattle.modem.proofs.queue.keep_at.Goals as goal

pub returns : goal.returns
returns c =
    record {
      waits = rw (add-one, take-suc-set c.args.held.now c.args.n c.args.b (search rules));
      count = search rules;
      places = simp length-set (search rules);
    }
