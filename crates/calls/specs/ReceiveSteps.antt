-- One call of the receiver between two places of a list of calls, as the code holds them. Assumes nothing.
use Rattle.std.specs.Prelude.{ℕ, min, ◌+◌, ◌≤◌, ◌≡◌, List, ◌++◌, map, length, take, drop, Float}
use Rattle.modem.specs.RxRep.{receiver_of}
use Rattle.modem.specs.Rx.{Receiver}
use Rattle.modem.specs.declared.rx.Rx.{Rx}
use Rattle.calls.specs.Receive.{Called, called, relieved, call_reply}
use Rattle.calls.specs.Answers.{bit, heard_of}
use Rattle.calls.specs.declared.answers.Heard.{Heard}
use Rattle.calls.specs.declared.receive.Call.{Call}
use Rattle.calls.specs.declared.receive.Place.{Place}

-- events taken off a receiver into a whole buffer: how many, the receiver afterwards, and the buffer
pub record Takes (r : Receiver) (buf : List ℕ) (n : ℕ) (r' : Receiver) (buf' : List ℕ) : Type 0 where
  pub count : n ≡ length (take (length buf) r.logged)
  pub state : r' ≡ relieved 0 (length buf) r
  pub buffer : buf' ≡ map bit (take (length buf) r.logged) ++ drop n buf

-- a call c of the definitions was run: its answer, the receiver afterwards, and two buffers, with all that they have room for
pub record Calls (c : Called) (bs es : List ℕ) (h : Heard) (s : Rx) (bs' es' : List ℕ) : Type 0 where
  pub reply : heard_of h ≡ call_reply c
  pub state : receiver_of s ≡ c.state
  pub bytes : bs' ≡ c.bytes ++ drop (length c.bytes) bs
  pub events : es' ≡ map bit c.events ++ drop (length c.events) es

-- a place within the samples, the bytes and the events
pub record Within (p : Place) (xs : List Float) (bs es : List ℕ) : Type 0 where
  pub read : p.read ≤ length xs
  pub bytes : p.bytes ≤ length bs
  pub events : p.events ≤ length es

-- what the call at p gives
abbrev pub call_at : Place → Call → List Float → List ℕ → List ℕ → Called
call_at p k xs bs es =
    called (receiver_of p.state) (take k.samples (drop p.read xs)) (min k.bytes (length (drop p.bytes bs))) (min k.events (length (drop p.events es)))

-- a call leads from p to q, and from bs and es to bs' and es', and to ans', where the answers were before, six numbers, and behind
pub record Stepped (p q : Place) (k : Call) (xs : List Float) (bs bs' es es' before behind ans' : List ℕ) : Type 0 where
  pub state : receiver_of q.state ≡ (call_at p k xs bs es).state
  pub left : drop q.read xs ≡ drop k.samples (drop p.read xs)
  pub bytes_at : q.bytes ≡ p.bytes + length (call_at p k xs bs es).bytes
  pub events_at : q.events ≡ p.events + length (call_at p k xs bs es).events
  pub bytes : bs' ≡ take p.bytes bs ++ ((call_at p k xs bs es).bytes ++ drop (length (call_at p k xs bs es).bytes) (drop p.bytes bs))
  pub events : es' ≡ take p.events es ++ (map bit (call_at p k xs bs es).events ++ drop (length (call_at p k xs bs es).events) (drop p.events es))
  pub answers : ans' ≡ before ++ (call_reply (call_at p k xs bs es) ++ behind)
