-- How the code holds what specs/Modulator.antt speaks of, and what its parts make of it. Assumes nothing.
use Rattle.std.specs.Prelude.{ℕ, min, ◌+◌, ◌-◌, ◌≤◌, ◌<◌, ◌≡◌, Bool, List, [], ◌∷◌, map, length, take, drop, Float}
use Rattle.modulation.specs.Bits.{queued, BitsHeld}
use Rattle.refusal.specs.Refusals.{dsp_rate, highest_rate}
use Rattle.resampling.specs.Resample.{state, ran_over}
use Rattle.resampling.specs.ResampleRep.{state_of}
use Rattle.modulation.specs.Tone.{Keyer, keyer, generated}
use Rattle.modulation.specs.Modulator.{Modulator, modulator, passed, pass, scaled}
use Rattle.bell103.specs.declared.TonePair.{TonePair}
use Rattle.resampling.specs.declared.resample.Resampler.{Resampler}
use Rattle.modulation.specs.declared.modulate.Wave.{Wave}
use Rattle.modulation.specs.declared.modulate.Settings.{Settings}
use Rattle.modulation.specs.declared.modulate.TickedEight.{TickedEight}
use Rattle.modulation.specs.declared.modulate.Passed.{Passed}

-- the bits stand in a ring beside what moves with each sample
abbrev pub keyer_of : List Bool → Wave → Keyer
keyer_of a w = keyer w.nco w.sym_pos w.current (queued a w.head w.waiting)

-- the bits that wait stand in a ring of 4,096 places
abbrev pub WaveHeld : List Bool → Wave → Type 0
WaveHeld a w = BitsHeld a w.head w.waiting

-- eight samples, oldest first
abbrev pub eight_of : TickedEight → List Float
eight_of t = t.first ∷ t.second ∷ t.third ∷ t.fourth ∷ t.fifth ∷ t.sixth ∷ t.seventh ∷ t.eighth ∷ []

-- the samples that are pending stand in an array from one place to another
abbrev pub pending_in : List Float → ℕ → ℕ → List Float
pending_in a from upto = take (upto - from) (drop from a)

-- with nothing pending, a pass reads the settings, which it leaves as they are
abbrev pub modulator_by : List Bool → Settings → Wave → Resampler → Modulator
modulator_by a s w r = modulator s.rate s.tones (keyer_of a w) (state_of r) [] s.amplitude

-- a resampler from 8,000 to this rate
pub record Rising (rate : ℕ) (r : Resampler) : Type 0 where
  pub low : dsp_rate ≤ rate
  pub high : rate ≤ highest_rate
  pub src : r.src_rate ≡ dsp_rate
  pub dst : r.dst_rate ≡ rate

-- 64 places, and what is pending stands in some of them
pub record PendingHeld (a : List Float) (from upto : ℕ) : Type 0 where
  pub places : length a ≡ 64
  pub ordered : from ≤ upto
  pub room : upto ≤ 64

-- samples generated and resampled: the first `count` of an array
pub record MakesInto (a : List Bool) (tones : TonePair) (w : Wave) (r : Resampler) (n : ℕ) (out : List Float) (count : ℕ) (w' : Wave) (r' : Resampler) : Type 0 where
  pub keyer : keyer_of a w' ≡ (generated n tones (keyer_of a w)).after
  pub samples : take count out ≡ (ran_over (state_of r) (length out) (generated n tones (keyer_of a w)).samples).out
  pub within : count ≤ length out
  pub state : state_of r' ≡ state r.src_rate r.dst_rate (ran_over (state_of r) (length out) (generated n tones (keyer_of a w)).samples).flow
  pub held : BitsHeld a w'.head w'.waiting

-- what is pending, handed over to the front of a slice of n places
pub record HandsOver (waiting : List Float) (n : ℕ) (out : List Float) (count : ℕ) : Type 0 where
  pub places : length out ≡ n
  pub samples : take count out ≡ take n waiting
  pub count_is : count ≡ min n (length waiting)

-- samples narrowed and scaled: those for which a slice of n places has room, and the others in front of `pending`
pub record SharesInto (xs : List Float) (a : Float) (n : ℕ) (rest : List Float) (count : ℕ) (pending : List Float) : Type 0 where
  pub samples : take count rest ≡ take n (map (scaled a) xs)
  pub count_is : count ≡ min n (length xs)
  pub surplus : take (length xs - count) pending ≡ drop n (map (scaled a) xs)
  pub places : length pending ≡ 64

-- at a rate of 8,000, where the resampler copies, a pass makes a sample more than the n places of the rest
pub record EqualInto (a : List Bool) (tones : TonePair) (amplitude : Float) (w : Wave) (n : ℕ) (rest pending : List Float) (w' : Wave) : Type 0 where
  pub keyer : keyer_of a w' ≡ (generated (n + 1) tones (keyer_of a w)).after
  pub samples : take n rest ≡ take n (map (scaled amplitude) (generated (n + 1) tones (keyer_of a w)).samples)
  pub surplus : take 1 pending ≡ drop n (map (scaled amplitude) (generated (n + 1) tones (keyer_of a w)).samples)
  pub places : length pending ≡ 64
  pub held : BitsHeld a w'.head w'.waiting

-- a pass over a rest of n places handed over `count` samples, the first of `rest`; the others stand in front of `pending`
pub record PassesInto (m : Modulator) (n : ℕ) (a : List Bool) (rest : List Float) (count : ℕ) (pending : List Float) (upto : ℕ) (w : Wave) (r : Resampler) : Type 0 where
  pub is : passed (take count rest) (modulator m.rate m.tones (keyer_of a w) (state_of r) (pending_in pending 0 upto) m.amplitude) ≡ pass m n
  pub within : count ≤ n
  pub dry : count < n → upto ≡ 0
  pub pending_held : PendingHeld pending 0 upto
  pub rising : Rising m.rate r
  pub held : BitsHeld a w.head w.waiting

-- the same, as the code answers it
abbrev pub PassesOver : List Bool → Settings → Wave → Resampler → ℕ → List Float → List Float → Passed → Type 0
PassesOver a s w r n rest pending p = PassesInto (modulator_by a s w r) n a rest p.count pending p.upto p.wave p.resampler
