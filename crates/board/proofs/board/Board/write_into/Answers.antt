-- `Board::write_into` meets its contract: what the listener refuses is refused, and what is heard in any other write is judged. Assumes nothing.
use Rattle.std.specs.Prelude.{is_ok}
use mathlib.Core.Path.{sym, ap}
use lib.Seq.{length-take-le}
use Rattle.refusal.proofs.RefusalLaws.{accepted-none}
use Rattle.board.proofs.Writing.{writes-refused, count-few, judgeable, writes-accepted}
use Rattle.board.proofs.board.Board.write_into.Goals as goal

pub slice_bounds-codes-end : goal.slice_bounds-codes-end
slice_bounds-codes-end c =
    let s = c in
    let w = c.hear-w in
    let z = accepted-none w.result.answer _ w.ensures.answer (ap is_ok c.in-Ok.is) in
    count-few s.args.self s.args.samples.now _ _ w.result w.ensures z

pub slice_bounds-judge_all-end : goal.slice_bounds-judge_all-end
slice_bounds-judge_all-end c = sym (length-take-le _ _ ((let s = c in
    let w = c.hear-w in
    let z = accepted-none w.result.answer _ w.ensures.answer (ap is_ok c.in-Ok.is) in
    count-few s.args.self s.args.samples.now _ _ w.result w.ensures z)))

pub judge_all-requires : goal.judge_all-requires
judge_all-requires c =
    let s = c in
    let w = c.hear-w in
    let z = accepted-none w.result.answer _ w.ensures.answer (ap is_ok c.in-Ok.is) in
    judgeable s.args.self s.args.samples.now _ _ w.result w.ensures z

pub returns-in-Err : goal.returns-in-Err
returns-in-Err c =
    let s = c in
    let w = c.hear-w in
    writes-refused s.args.self s.args.samples.now _ _ w.result w.ensures c.in-Err.why (rw c.in-Err.is at w.ensures.answer) _

pub returns-in-Ok : goal.returns-in-Ok
returns-in-Ok c =
    let s = c in
    let w = c.hear-w in
    let z = accepted-none w.result.answer _ w.ensures.answer (ap is_ok c.in-Ok.is) in
    writes-accepted s.args.self s.args.samples.now _ _ w.result w.ensures z _ _ _ c.judge_all.ensures
