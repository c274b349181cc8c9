-- The sender's state as lists of f64, for comparisons bit for bit. An f32 stands as the f64 of its value. Assumes nothing.
use Rattle.std.specs.Prelude.{ℕ, ◌-◌, Bool, List, [], ◌∷◌, ◌++◌, map, length, replicate, Float}
use Rattle.numeric.specs.F64.{whole, zero64, one64}
use Rattle.std.specs.Prelude.{if◌then◌else◌}
use Rattle.modulation.specs.Bits.{most_bits}
use Rattle.modulation.specs.Tx.{Sender}

-- a place for each that there can be, those behind the last 0.0
abbrev pub places_for : ℕ → List Float → List Float
places_for most xs = xs ++ replicate (most - length xs) zero64

-- mark as 1.0 and space as 0.0
abbrev pub mark_number : Bool → Float
mark_number b = if b then one64 else zero64

-- the oscillator's phase and its increment; how much of the symbol is over, and the bit that sounds; the output scale; samples given; how many
-- bits and how many samples wait
abbrev pub keying_numbers : Sender → List Float
keying_numbers s =
    let k = s.modulator.keyer in
    k.nco.phase ∷ k.nco.inc ∷ k.sym_pos ∷ mark_number k.current ∷ s.modulator.amplitude
    ∷ whole s.served ∷ whole (length k.bits) ∷ whole (length s.modulator.pending) ∷ []

-- the bits that wait, oldest first
abbrev pub bit_numbers : Sender → List Float
bit_numbers s = places_for most_bits (map mark_number s.modulator.keyer.bits)

-- the samples that were made and not yet read, oldest first
abbrev pub pending_numbers : Sender → List Float
pending_numbers s = places_for 64 s.modulator.pending
