-- `receive::one_call` meets its contract: the parts that it lends are the next samples, and what is unwritten of bytes and events. Assumes nothing.
use Rattle.calls.proofs.ReceiverCalls.{bytes_fit, events-fit, call-steps, call-within}
use native.Mathlib.Omega.{arith}
use Rattle.calls.proofs.receive.one_call.Goals as goal

pub overflow_add-result : goal.overflow_add-result
overflow_add-result c =
    let pe = c.part_end-end in
    let pf = c.part_end-b_end in
    let pg = c.part_end-e_end in
    let m = c.make_call-c in
    let g = c.bytes-1.given in
    omega (arith, bytes_fit c.args.p c.args.k _ c.args.bytes.now c.args.events.now c.requires.0 _ _ _ pe.ensures.0 (pe.ensures.2 c.requires.0.read) pf.ensures.0 pg.ensures.0 m.result.answer _ _ _ m.ensures, g.1, c.well_formed)

pub overflow_add-result-2 : goal.overflow_add-result-2
overflow_add-result-2 c =
    let pe = c.part_end-end in
    let pf = c.part_end-b_end in
    let pg = c.part_end-e_end in
    let m = c.make_call-c in
    let g = c.events-1.given in
    omega (arith, events-fit c.args.p c.args.k _ c.args.bytes.now c.args.events.now c.requires.0 _ _ _ pe.ensures.0 (pe.ensures.2 c.requires.0.read) pf.ensures.0 pg.ensures.0 m.result.answer _ _ _ m.ensures, g.1, c.well_formed)

pub returns : goal.returns
returns c =
    let pe = c.part_end-end in
    let pf = c.part_end-b_end in
    let pg = c.part_end-e_end in
    let m = c.make_call-c in
    let t = c.tell_heard in record { stepped = call-steps c.args.p c.args.k _ c.args.bytes.now c.args.events.now c.requires.0 _ _ _ pe.ensures.0 (pe.ensures.2 c.requires.0.read) pf.ensures.0 pg.ensures.0 m.result.answer _ _ _ m.ensures _ _ _ t.ensures; within = call-within c.args.p c.args.k _ c.args.bytes.now c.args.events.now c.requires.0 _ _ _ pe.ensures.0 (pe.ensures.2 c.requires.0.read) pf.ensures.0 pg.ensures.0 m.result.answer _ _ _ m.ensures }
