-- `frames::one_bit` meets its contract. Assumes nothing.
use Prim.Native.Nat.{◌+◌}
use lib.ListN.{take, drop}
use mathlib.Core.Path.{ap, ◌∙◌}
use Rattle.framing.specs.Frame.{Deframed, push_bit}
use Rattle.calls.proofs.FrameCalls.{push-told}
use Rattle.calls.proofs.frames.one_bit.Goals as goal

pub returns : goal.returns
returns c =
    let a = c.args in
    let p = c.push_bit-p.ensures.0 ∙ ap (push_bit a.d) c.is_yes.ensures in
    let y = c.yield_of in record { value = ap (λ (q : Deframed). q.state) p; answers_after = push-told _ _ y.result.kind y.result.byte (take a.at a.answers.now) (drop (a.at + 6) a.answers.now) _ p y.ensures c.tell_pushed.ensures }
