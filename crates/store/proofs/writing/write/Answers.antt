-- 1, 2 and 41 in this order; else the line at the first unused byte. Assumes nothing.
use mathlib.Core.Path.{refl, sym, ◌∙◌}
use native.Mathlib.Omega.{arith}
use Rattle.refusal.specs.Refusals.{first}
use Rattle.store.specs.Store.{write_of, write_number}
use Rattle.store.proofs.Judging.{rate-fits}
use Rattle.store.proofs.Placing.{room-count, no-station, no_room, with-room}
use Rattle.store.proofs.writing.write.Goals as goal

pub returns-then-station-eq0 : goal.returns-then-station-eq0
returns-then-station-eq0 c =
    no-station _ _ _ _ c.in_ok-check_rate.ensures.admitted c.if-station-eq0.true

pub overflow_sub-n : goal.overflow_sub-n
overflow_sub-n c =
    let b = c.args.buffer.now in
    (room-count b _ _ c.store_len-n.ensures.0 c.store_len-n.ensures.1 c.unused_from-at.ensures).0

pub returns-then-n-at-lt15 : goal.returns-then-n-at-lt15
returns-then-n-at-lt15 c =
    let b = c.args.buffer.now in
    let r = (room-count b _ _ c.store_len-n.ensures.0 c.store_len-n.ensures.1 c.unused_from-at.ensures).1 in
    no_room b _ _ _ c.in_ok-check_rate.ensures.admitted c.if-station-eq0.false (omega (arith, r, c.if-n-at-lt15.true))

pub line_of-line-requires : goal.line_of-line-requires
line_of-line-requires c =
    rate-fits _ c.in_ok-check_rate.ensures.admitted

pub returns : goal.returns
returns c =
    let b = c.args.buffer.now in
    let u = c.unused_from-at.ensures in
    let r = (room-count b _ _ c.store_len-n.ensures.0 c.store_len-n.ensures.1 u).1 in
    with-room b _ _ _ c.in_ok-check_rate.ensures.admitted c.if-station-eq0.false (omega (arith, r, c.if-n-at-lt15.false)) _ _ _ u c.line_of-line.ensures c.put_line.ensures
