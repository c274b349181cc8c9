-- How the code lays the state into a lent slice, and one call between two places of a script. Assumes nothing.
use Rattle.std.specs.Prelude.{ℕ, min, ◌+◌, ◌≤◌, ◌≡◌, List, ◌++◌, length, take, drop, Float}
use Rattle.modem.specs.Queue.{most_bytes, most_events}
use Rattle.modem.specs.RxRep.{receiver_of}
use Rattle.calls.specs.Receive.{called}
use Rattle.calls.specs.declared.receive.Call.{Call}
use Rattle.snapshot.specs.declared.state.Spot.{Spot}

-- xs stands behind the first `at` of a list; all else is as it was
pub record Put (at : ℕ) (xs before after : List Float) : Type 0 where
  pub room : at + length xs ≤ length before
  pub is : after ≡ take at before ++ (xs ++ drop (at + length xs) before)

-- a list of n numbers is put
pub record PutMany (at n : ℕ) (xs before after : List Float) : Type 0 where
  pub put : Put at xs before after
  pub many : length xs ≡ n

-- a place within the samples
pub record Standing (p : Spot) (xs : List Float) : Type 0 where
  pub read : p.read ≤ length xs

-- a call leads from p to q
pub record Moves (p q : Spot) (k : Call) (xs : List Float) : Type 0 where
  pub state : receiver_of q.state ≡ (called (receiver_of p.state) (take k.samples (drop p.read xs)) (min k.bytes most_bytes) (min k.events most_events)).state
  pub left : drop q.read xs ≡ drop k.samples (drop p.read xs)
  pub stands : Standing q xs
