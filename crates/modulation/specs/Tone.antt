-- The tones of the bits that wait (tx.rs: `next_symbol` and the inner loop of `read`): the oscillator, the symbol clock and the bits, at
-- 8,000 Hz. Assumes nothing.
use Rattle.std.specs.Prelude.{ℕ, zero, suc, Bool, true, false, List, [], ◌∷◌, Float}
use Rattle.numeric.specs.F64.{◌⊕◌, ◌⊖◌, ◌⊘◌, ◌≤ᶠ◌, one64}
use Rattle.std.specs.Prelude.{if◌then◌else◌}
use Rattle.modulation.specs.Bits.{next_bit, rest_bits}
use Rattle.bell103.specs.Roles.{samples_per_symbol}
use Rattle.modulation.specs.Nco.{nco_set_freq, nco_next}
use Rattle.bell103.specs.declared.TonePair.{TonePair}
use Rattle.modulation.specs.declared.nco.Nco.{Nco}

-- the oscillator, how much of the symbol is over, the bit that sounds, and the bits that wait, oldest first
pub record Keyer : Type 0 where
  pub nco : Nco
  pub sym_pos : Float
  pub current : Bool
  pub bits : List Bool

abbrev pub keyer : Nco → Float → Bool → List Bool → Keyer
keyer n s c b = record { nco = n; sym_pos = s; current = c; bits = b }

-- one sample's share of a symbol: 1.0 / samples_per_symbol()
abbrev pub symbol_step : Float
symbol_step = one64 ⊘ samples_per_symbol

-- true is mark
abbrev pub tone_of : TonePair → Bool → Float
tone_of t true = t.mark
tone_of t false = t.space

-- the next symbol: the oldest bit, or mark while idle; the oscillator keeps its phase
unfoldable pub keyed : TonePair → Nco → Float → List Bool → Keyer
keyed t n pos bs = keyer (nco_set_freq n (tone_of t (next_bit bs))) pos (next_bit bs) (rest_bits bs)

-- the symbol clock: from 1.0 on the next symbol begins, and what is over 1.0 is kept
unfoldable pub clocked : TonePair → Nco → Float → Bool → List Bool → Keyer
clocked t n pos current bs = if one64 ≤ᶠ pos then keyed t n (pos ⊖ one64) bs else keyer n pos current bs

-- one sample, and the keyer after it
pub record Tick : Type 0 where
  pub value : Float
  pub after : Keyer

abbrev pub tick : Float → Keyer → Tick
tick v k = record { value = v; after = k }

unfoldable pub ticked : TonePair → Keyer → Tick
ticked t k =
    tick (nco_next k.nco).value (clocked t (nco_next k.nco).state (k.sym_pos ⊕ symbol_step) k.current k.bits)

-- n samples, and the keyer after them
pub record Sound : Type 0 where
  pub samples : List Float
  pub after : Keyer

abbrev pub sound : List Float → Keyer → Sound
sound xs k = record { samples = xs; after = k }

unfoldable pub generated : ℕ → TonePair → Keyer → Sound
generated zero t k = sound [] k
generated (suc n) t k =
    sound ((ticked t k).value ∷ (generated n t (ticked t k).after).samples) (generated n t (ticked t k).after).after
