-- A fresh sender refuses nothing of what `send` asks before the text; how long a call is. Assumes nothing.
use Rattle.std.proofs.Common.{◌≡◌, ℕ, ◌+◌, ◌*◌, Bool, true, false, List, [], ◌∷◌, ◌++◌, length, refl, ap, ◌∙◌, arith}
use lib.Ieee.{Float}
use Rattle.std.specs.Prelude.{if◌then◌else◌}
use Rattle.refusal.specs.Refusals.{given, refused}
use Rattle.framing.specs.Framing.{marks, frames_of}
use Rattle.modulation.specs.Requests.{Request, write, idle_mark, asked}
use Rattle.bell103.specs.declared.Role.{Role}
use Rattle.modulation.specs.Tx.{Sender, sender, adjusted, amplitude_refused, at_amplitude, amplitude_of, fresh_modulator, fresh_sender}
use Rattle.modulation.specs.Queueing.{requested, requested_asks}
use Rattle.send_app.specs.Call.{half, call_of, bit_periods, opened_of}

-- the amplitude has no say in the bits that wait
same_bits : (s : Sender) (a : Float) → (amplitude_of s a).state.modulator.keyer.bits ≡ s.modulator.keyer.bits
unfolding amplitude_of
same_bits s a = go (amplitude_refused a)
  where
    go : (t : Bool)
        → (if t then adjusted (refused 6) s else adjusted (given tt) (sender (at_amplitude s.modulator a) s.served)).state.modulator.keyer.bits ≡ s.modulator.keyer.bits
    go true = refl
    go false = refl

none : (rate : ℕ) (role : Role) → (fresh_sender rate role).modulator.keyer.bits ≡ []
unfolding fresh_modulator
none rate role = refl

bits-after : (s : Sender) (r : Request) (q : List Bool) → s.modulator.keyer.bits ≡ q → (requested s r).state.modulator.keyer.bits ≡ asked q r
bits-after s r q e = requested_asks s r ∙ ap (λ (l : List Bool). asked l r) e

-- these bits wait then
pub opening-waits : (rate : ℕ) (role : Role)
    → (opened_of (fresh_sender rate role)).modulator.keyer.bits ≡ marks 300 ++ frames_of (0x55 ∷ []) ++ marks 60 ++ frames_of (0x0A ∷ [])
unfolding opened_of frames_of
opening-waits rate role =
    bits-after _ (write (0x0A ∷ [])) _ (bits-after _ (idle_mark 60) _ (bits-after _ (write (0x55 ∷ [])) _ (bits-after _ (idle_mark 300) _ (same_bits _ half ∙ none rate role))))

pub periods : (text : List ℕ) → bit_periods (call_of text) ≡ 440 + 10 * length text
unfolding call_of bit_periods
periods text = omega arith
