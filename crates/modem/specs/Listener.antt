-- What hears: the resampler, and the demodulator behind it at 8,000 Hz. A receiver has it and two queues; a board has it and the decoder of tide
-- lines. Assumes nothing.
use Rattle.std.specs.Prelude.{ℕ, ◌+◌, ◌≤◌, ◌≡◌, not, List, [], ◌++◌, ◌∷◌, ltb, length, Float}
use Rattle.std.specs.Prelude.{if◌then◌else◌}
use Rattle.refusal.specs.Refusals.{dsp_rate, first, rate_refused}
use Rattle.resampling.specs.Resample as resample
use Rattle.demodulation.specs.Demod.{Demodulator, hearing, fresh_demodulator, Tuned}
use Rattle.happenings.specs.Happening.{bad_stops_in}
use Rattle.happenings.specs.declared.happening.Happening.{Happening}
use Rattle.numeric.specs.Convert.{all_in_range}
use Rattle.modem.specs.Hear.{resampled}
use Rattle.bell103.specs.declared.Role.{Role}
use Rattle.demodulation.specs.declared.kind.Kind.{Kind}

pub record Demod : Type 0 where
  pub resampler : resample.State
  pub inner : Demodulator

abbrev pub demod : resample.State → Demodulator → Demod
demod s d = record { resampler = s; inner = d }

-- what a list of samples is heard as: the state after them, and all that happened, in order
pub record Heard : Type 0 where
  pub after : Demod
  pub happenings : List Happening

unfoldable pub heard_by : Demod → List Float → Heard
heard_by d xs =
    let r = resampled d.resampler xs in
    let h = hearing d.inner r.out in
    record {
      after = demod (resample.state d.resampler.src d.resampler.dst r.flow) h.after;
      happenings = h.happenings;
    }

-- fresh, for whom it listens, a device rate and the role of this end
unfoldable pub fresh_demod : Kind → ℕ → Role → Demod
fresh_demod kind rate role = demod (resample.fresh rate dsp_rate) (fresh_demodulator kind role)

-- the rate that a fresh one is made at: refused 1 it is made all the same, at 8,000
unfoldable pub admitted : ℕ → ℕ
admitted rate = if rate_refused rate then dsp_rate else rate

-- of a list of samples, where so many were accepted:
-- "3 more than 1,024 samples. 4 a sample not finite or beyond ±1. 31 the call would pass 4,294,967,296 samples for this receiver"
unfoldable pub samples_refused : List Float → ℕ → ℕ
samples_refused xs accepted =
    first (ltb 1024 (length xs)) 3
    (first (not (all_in_range xs)) 4
    (first (ltb 4294967296 (accepted + length xs)) 31 0))

-- a Demod that a fresh one and its writes gave: it goes down to 8,000 Hz
pub record Listens (d : Demod) : Type 0 where
  pub from : dsp_rate ≤ d.resampler.src
  pub to : d.resampler.dst ≡ dsp_rate
  pub tuned : Tuned d.inner

-- ---- a list of accepted writes, one after the other
unfoldable pub heard_over : Demod → List (List Float) → Heard
heard_over d [] = record { after = d; happenings = [] }
heard_over d (xs ∷ xss) =
    let h = heard_by d xs in
    let rest = heard_over h.after xss in
    record { after = rest.after; happenings = h.happenings ++ rest.happenings }

-- the number of their samples
abbrev pub samples_in : List (List Float) → ℕ
samples_in [] = 0
samples_in (xs ∷ xss) = length xs + samples_in xss

-- the bad stops among what these samples are heard as, and among what a list of accepted writes is
unfoldable pub bad_stops_by : Demod → List Float → ℕ
bad_stops_by d xs = bad_stops_in (heard_by d xs).happenings

unfoldable pub bad_stops_over : Demod → List (List Float) → ℕ
bad_stops_over d xss = bad_stops_in (heard_over d xss).happenings
