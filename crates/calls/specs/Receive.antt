-- Whole lists of calls of the receiver, each list from a fresh state. Assumes nothing.
use Rattle.std.specs.Prelude.{ℕ, zero, suc, min, ◌+◌, ◌/◌, ◌*◌, Bool, List, [], ◌∷◌, ◌++◌, map, length, get_or, take, drop, Float}
use Rattle.std.specs.Prelude.{if◌then◌else◌}
use Rattle.refusal.specs.Refusals.{rate_refused}
use Rattle.modem.specs.Rx.{Receiver, receiver, fresh_receiver, written, carrier_of, errors_of}
use Rattle.calls.specs.Answers.{number_in, count_in, bit}
use Rattle.calls.specs.Roles.{role_of}
use Rattle.calls.specs.declared.receive.Call.{Call}

-- ---- one call: a write, then a read, then events
-- the receiver after a read of at most b bytes and after at most e events were taken, the oldest first
abbrev pub relieved : ℕ → ℕ → Receiver → Receiver
relieved b e r = receiver r.demod (drop b r.waiting) (drop e r.logged) r.accepted

-- what a call gives: the write's refusal, 0 where it is accepted, and its bad stops, 0 where it is refused; the bytes read; the events taken; and the
-- receiver afterwards
pub record Called : Type 0 where
  pub number : ℕ
  pub bad_stops : ℕ
  pub bytes : List ℕ
  pub events : List Bool
  pub state : Receiver

-- a write of these samples; then at most b of the bytes that wait are read, and at most e of the events that wait are taken.
-- A refused write leaves the receiver as it was, and bytes and events are taken all the same
unfoldable pub called : Receiver → List Float → ℕ → ℕ → Called
called r xs b e =
    let w = written r xs in
    record {
      number = number_in w.answer;
      bad_stops = count_in w.answer;
      bytes = take b w.state.waiting;
      events = take e w.state.logged;
      state = relieved b e w.state;
    }

-- the six numbers of a call's answer: refusal, bytes read, events taken, carrier, framing errors since fresh, and the write's bad stops
abbrev pub call_reply : Called → List ℕ
call_reply c = c.number ∷ length c.bytes ∷ length c.events ∷ bit (carrier_of c.state) ∷ errors_of c.state ∷ c.bad_stops ∷ []

-- ---- a script: three numbers for each call
-- of the first call: samples in the write, bytes to read at most, events to take at most
abbrev pub to_write : List ℕ → ℕ
to_write script = get_or script 0 0

abbrev pub to_read : List ℕ → ℕ
to_read script = get_or script 1 0

abbrev pub to_take : List ℕ → ℕ
to_take script = get_or script 2 0

-- the whole calls of a script; and those among them that have room for their answers, six numbers each
abbrev pub calls_in : List ℕ → ℕ
calls_in script = length script / 3

abbrev pub calls_for : List ℕ → List ℕ → ℕ
calls_for script ans = min (calls_in script) (length ans / 6)

-- what a list of calls leaves: how many were run, and the lent bytes, events and answers
pub record Run : Type 0 where
  pub calls : ℕ
  pub bytes : List ℕ
  pub events : List ℕ
  pub answers : List ℕ

abbrev pub ran : ℕ → List ℕ → List ℕ → List ℕ → Run
ran k bs es ans = record { calls = k; bytes = bs; events = es; answers = ans }

-- k calls, the bytes and events that they gave and their answers, before what the later ones leave
abbrev pub after : ℕ → List ℕ → List ℕ → List ℕ → Run → Run
after k bs es ans r = ran (k + r.calls) (bs ++ r.bytes) (es ++ r.events) (ans ++ r.answers)

-- k calls. Each writes the next samples, as many as the script says or what is left of them. What it reads and takes, at most what the script says
-- and what has room, stands behind what the earlier calls gave; an event is 1 for up and 0 for down. What stands behind the last stays
unfoldable pub received_from : ℕ → Receiver → List Float → List ℕ → List ℕ → List ℕ → List ℕ → Run
received_from zero r xs script bs es ans = ran 0 bs es ans
received_from (suc k) r xs script bs es ans =
    let c = called r (take (to_write script) xs) (min (to_read script) (length bs)) (min (to_take script) (length es)) in
    after 1 c.bytes (map bit c.events) (call_reply c)
    (received_from k c.state (drop (to_write script) xs) (drop 3 script) (drop (length c.bytes) bs) (drop (length c.events) es) (drop 6 ans))

-- a rate that `new` refuses runs no call and writes nothing
unfoldable pub receive_run : ℕ → ℕ → List Float → List ℕ → List ℕ → List ℕ → List ℕ → Run
receive_run rate role xs script bs es ans =
    if rate_refused rate then ran 0 bs es ans else received_from (calls_for script ans) (fresh_receiver rate (role_of role)) xs script bs es ans

-- the i-th call of a script
abbrev pub call_in : List ℕ → ℕ → Call
call_in script i = record { samples = get_or script (3 * i) 0; bytes = get_or script (3 * i + 1) 0; events = get_or script (3 * i + 2) 0 }
