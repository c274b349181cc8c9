-- The bits that wait to be sent, read from their ring as a list, oldest first: what stands in unused places is no part of any promise.
-- Assumes nothing.
use Rattle.std.specs.Prelude.{ℕ, zero, suc, ◌+◌, ◌≤◌, ◌<◌, ◌≡◌, refl, Bool, false, cond, List, [], ◌∷◌, ◌++◌, leb, ltb, length, get_or}
use Rattle.std.proofs.Common.{ap}
use Rattle.framing.specs.Frame.{mark}
use Rattle.modulation.specs.declared.bits.Taken.{Taken}

-- "At most 4,096 bits wait"
abbrev pub most_bits : ℕ
most_bits = 4096

-- "33 waiting + new bits exceed 4,096"
abbrev pub bits_refused : ℕ → ℕ → Bool
bits_refused waiting new = ltb most_bits (waiting + new)

-- the next place of the ring: behind the last comes the first
unfoldable pub place_after : ℕ → ℕ
place_after h = cond (leb 4096 (h + 1)) 0 (h + 1)

-- the bits that wait: so many, from place h of the ring a on
unfoldable pub queued : List Bool → ℕ → ℕ → List Bool
queued a h zero = []
queued a h (suc n) = get_or a h false ∷ queued a (place_after h) n

pub queued_none : (a : List Bool) (h : ℕ) → queued a h 0 ≡ []
unfolding queued
queued_none a h = refl

pub queued_length : (a : List Bool) (h n : ℕ) → length (queued a h n) ≡ n
unfolding queued
queued_length a h zero = refl
queued_length a h (suc n) = ap suc (queued_length a (place_after h) n)

-- what every function keeps: 4,096 places, the oldest bit in one of them, and no more wait than have one
pub record BitsHeld (a : List Bool) (head waiting : ℕ) : Type 0 where
  pub places : length a ≡ most_bits
  pub at : head < most_bits
  pub room : waiting ≤ most_bits

-- these bits come behind the n of the ring a that wait; m wait then, in the ring b
pub record Joined (head : ℕ) (a : List Bool) (n : ℕ) (new : List Bool) (b : List Bool) (m : ℕ) : Type 0 where
  pub waits : queued b head m ≡ queued a head n ++ new
  pub count : m ≡ n + length new
  pub held : BitsHeld b head m

-- the next symbol: the oldest bit, or mark while idle
abbrev pub next_bit : List Bool → Bool
next_bit [] = mark
next_bit (b ∷ bs) = b

-- the bits that then wait
abbrev pub rest_bits : List Bool → List Bool
rest_bits [] = []
rest_bits (b ∷ bs) = bs

-- the next bit is taken from the ring
pub record Takes (a : List Bool) (head waiting : ℕ) (t : Taken) : Type 0 where
  pub bit : t.bit ≡ next_bit (queued a head waiting)
  pub rest : queued a t.head t.waiting ≡ rest_bits (queued a head waiting)
  pub held : BitsHeld a t.head t.waiting
