-- The first i calls were run: what they leave stands in front, and the sender is the one behind them. Assumes nothing.
use Rattle.std.proofs.Common.{◌≡◌, ◌≤◌, length, take, drop, ◌-◌, ◌*◌}
use Rattle.calls.specs.Resample.{after}
use Rattle.calls.specs.Script.{sent_from, sender_after}
use Rattle.calls.proofs.script.all_calls.Given as goal

abbrev pub invariant-loop-i : goal.invariant-loop-i
invariant-loop-i g l = let s = g.S.Scripted in
    ((l.place.read ≤ length l.«data») × (l.place.written ≤ length l.samples))
    × (after l.i (take l.place.written l.samples) (take (3 * l.i) l.answers) (sent_from s.sends (l.calls - l.i) (s.state_of l.state) (drop l.place.read l.«data») (drop (2 * l.i) l.script) (drop l.place.written l.samples) (drop (3 * l.i) l.answers)) ≡ sent_from s.sends l.calls (s.state_of l.initial.state) l.«data» l.script l.initial.samples l.initial.answers)
    × (sender_after s.sends (l.calls - l.i) (s.state_of l.state) (drop l.place.read l.«data») (drop (2 * l.i) l.script) (drop l.place.written l.samples) ≡ sender_after s.sends l.calls (s.state_of l.initial.state) l.«data» l.script l.initial.samples)
