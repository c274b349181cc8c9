-- The sender's state behind a script of its calls. Assumes nothing.
use Rattle.std.specs.Prelude.{ℕ, List, ◌++◌, ltb, length, drop, Float}
use Rattle.std.specs.Prelude.{if◌then◌else◌}
use Rattle.refusal.specs.Refusals.{Reply, given, refused}
use Rattle.modulation.specs.Numbers.{keying_numbers, bit_numbers, pending_numbers}
use Rattle.modulation.specs.Tx.{Sender}
use Rattle.calls.specs.Send.{sender_run}
use Rattle.snapshot.specs.ReceiverState.{resampler_numbers}
use Rattle.snapshot.specs.ResamplerState.{Traced, traced}

-- the resampler; the oscillator, the symbol clock, the amplitude and the counts; the bits that wait; the samples not yet read: 4,921 numbers
unfoldable pub sender_numbers : Sender → List Float
sender_numbers s = resampler_numbers s.modulator.resampler ++ (keying_numbers s ++ (bit_numbers s ++ pending_numbers s))

abbrev pub sender_length : ℕ
sender_length = 4921

-- they stand at the front of a list; one that is shorter stays as it was
abbrev pub sender_shown : Sender → List Float → List Float
sender_shown s l = if ltb (length l) sender_length then l else sender_numbers s ++ drop sender_length l

-- where `new` refuses, nothing is shown
abbrev pub shown_after : Reply Unit → Sender → List Float → List Float
shown_after (given u) s l = sender_shown s l
shown_after (refused k) s l = l

-- the calls of the script, and the state behind them
unfoldable pub sender_state_run : ℕ → ℕ → List ℕ → List ℕ → List Float → List ℕ → List Float → Traced
sender_state_run rate role bytes script out ans l =
    let s = sender_run rate role bytes script out ans in
    traced s.run (shown_after s.answer s.state l)
