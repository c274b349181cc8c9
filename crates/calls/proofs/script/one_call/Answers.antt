-- A call leads from a place to the next. Assumes nothing.
use mathlib.Core.Path.{ap, ◌∙◌}
use Rattle.std.specs.Prelude.{ℕ, ◌+◌, ◌-◌, length, min}
use Rattle.calls.specs.Answers.{bit}
use Rattle.calls.specs.ScriptSteps.{standing}
use Rattle.calls.proofs.Steps.{call-steps, byte-bit}
use Rattle.calls.proofs.script.one_call.Goals as goal

pub returns-clause-stepped : goal.returns-clause-stepped
returns-clause-stepped g c =
    let a = c.args in
    let s = g.S.Scripted in
    let m = c.make_call-c in
    let e-is = ap (λ (k : ℕ). a.p.read + k) (c.min.ensures ∙ ap (λ (k : ℕ). min k (length a.«data».now - a.p.read)) c.bytes_for.ensures) in
    let f-is = ap (λ (k : ℕ). a.p.written + k) (c.min-2.ensures ∙ ap (λ (k : ℕ). min k (length a.samples.now - a.p.written)) c.places_for.ensures) in
    let waits-is = c.from-waits.ensures ∙ byte-bit _ ∙ ap bit c.waits.ensures in
    call-steps s.sends (standing (s.state_of a.sender.now) a.p.read a.p.written) a.kind a.n a.«data».now a.samples.now c.requires.1 _ _ e-is f-is _ m.ensures.part_after m.auto.part _ _ _ _ waits-is c.put_row.ensures
