-- Refusals: what a refused call gives, the numbers, and the check of rates. Assumes nothing.
use Rattle.std.specs.Prelude.{ℕ, zero, suc, Bool, true, false, not, ◌&&◌, ◌||◌, ltb, eqb, Result, Ok, Err}
use Rattle.refusal.specs.declared.Refusal.{Refusal}
use Rattle.refusal.specs.declared.Refusal.TheVariants.{Rate, Station, TooManySamples, BadSample, OutputTooShort, Amplitude, TooManyBits, OutOfSamples, BytesWait, BitsWait, NoSettings, StoreFull, TooManyLengths, WildSample, TooManyCalls, CallTooLong, NoReadings}

-- "A refused call returns its number alone"
pub data Reply (A : Type 0) : Type 0 where
  given : A → Reply A
  refused : ℕ → Reply A

-- "Checks run in ascending number; the first that applies is given": n if it applies, else what the rest gives; 0 where none applies
unfoldable pub first : Bool → ℕ → ℕ → ℕ
first true n rest = n
first false n rest = rest

-- the number of each case
abbrev pub number_of : Refusal → ℕ
number_of Rate = 1
number_of Station = 2
number_of TooManySamples = 3
number_of BadSample = 4
number_of OutputTooShort = 5
number_of Amplitude = 6
number_of TooManyBits = 7
number_of OutOfSamples = 31
number_of BytesWait = 32
number_of BitsWait = 33
number_of NoSettings = 40
number_of StoreFull = 41
number_of TooManyLengths = 42
number_of WildSample = 43
number_of TooManyCalls = 44
number_of CallTooLong = 45
number_of NoReadings = 46

-- what each case of an answer gives
abbrev pub reply_in : {A : Type 0} → Result A Refusal → Reply A
reply_in (Ok a) = given a
reply_in (Err r) = refused (number_of r)

-- the answer that a number stands for: 0 stands for acceptance
abbrev pub reply_of : ℕ → Reply Unit
reply_of zero = given tt
reply_of (suc k) = refused (suc k)

-- "Rates are whole numbers": the rate inside the modem, in samples a second, and the lower limit of refusal 1
abbrev pub dsp_rate : ℕ
dsp_rate = 8000

-- the upper limit of refusal 1
abbrev pub highest_rate : ℕ
highest_rate = 48000

-- "1 rate outside 8,000 to 48,000": of one device rate
unfoldable pub rate_refused : ℕ → Bool
rate_refused r = ltb r dsp_rate || ltb highest_rate r

-- "1 rate outside 8,000 to 48,000, or neither rate 8,000": of the resampler's two
unfoldable pub rates_refused : ℕ → ℕ → Bool
rates_refused src dst = rate_refused src || rate_refused dst || (not (eqb src dsp_rate) && not (eqb dst dsp_rate))
