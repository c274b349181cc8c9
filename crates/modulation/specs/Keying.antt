-- What moves with each sample of the sender that has no floats, as the code holds it, and what holds of it. Assumes nothing.
use Rattle.std.specs.Prelude.{ℕ, zero, suc, ◌+◌, ◌-◌, ◌*◌, ◌/◌, ◌%◌, ◌≤◌, ◌<◌, ◌≡◌, Bool, List, [], ◌∷◌, ◌++◌, length, take, ℤ}
use Rattle.modulation.specs.Bits.{queued, BitsHeld}
use Rattle.modulation.specs.Table.{places, entry_of}
use Rattle.modulation.specs.TableTx.{Phase, phase, begun}
use Rattle.modulation.specs.declared.table_tx.Hops.{Hops}
use Rattle.modulation.specs.declared.table_tx.Keying.{Keying}

-- the bits stand in a ring beside what moves with each sample
abbrev pub phase_of : List Bool → Keying → Phase
phase_of a k = phase k.place k.current k.symbols k.samples (queued a k.head k.waiting)

-- no place is moved on by more than a turn
pub record HopsHeld (h : Hops) : Type 0 where
  pub mark : h.mark ≤ places
  pub space : h.space ≤ places

-- what every function keeps: as many symbols began as begin with a sample that was given
pub record Keyed (a : List Bool) (k : Keying) : Type 0 where
  pub bits : BitsHeld a k.head k.waiting
  pub at : k.place < places
  pub clock : k.symbols ≡ (3 * k.samples + 77) / 80
  pub few : k.samples ≤ 4294967296

-- a symbol that begins with the next sample has begun
pub record Begins (a : List Bool) (k b : Keying) : Type 0 where
  pub is : phase_of a b ≡ begun (phase_of a k)
  pub bits : BitsHeld a b.head b.waiting
  pub place : b.place ≡ k.place
  pub samples : b.samples ≡ k.samples
  pub clock : b.symbols ≡ 3 * k.samples / 80 + 1

-- ---- the samples of a symbol that goes on
-- so many samples of a tone, from a place on
unfoldable pub tone_samples : ℕ → ℕ → ℕ → List ℤ
tone_samples zero hop p = []
tone_samples (suc n) hop p = entry_of p ∷ tone_samples n hop ((p + hop) % places)

-- the place behind them
unfoldable pub place_behind : ℕ → ℕ → ℕ → ℕ
place_behind zero hop p = p
place_behind (suc n) hop p = place_behind n hop ((p + hop) % places)

-- a slice that has them at `from` up to `to`, behind what stood there before
pub record Holds (hop p from to : ℕ) (out out' : List ℤ) (r : ℕ) : Type 0 where
  pub long : length out' ≡ length out
  pub samples : take to out' ≡ take from out ++ tone_samples (to - from) hop p
  pub place : r ≡ place_behind (to - from) hop p
  pub at : r < places
