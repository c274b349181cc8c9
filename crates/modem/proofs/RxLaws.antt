-- Laws of the receiver's definitions, for those who call it. Assumes nothing.
use Prim.Native.Nat.{ℕ, ◌+◌, ◌*◌, ◌≤◌}
use mathlib.Core.Path.{◌≡◌, refl, sym, subst}
use mathlib.Core.Bool.{Bool, true, false, ◌||◌}
use borrow.Author.Tests.{ltb-false}
use lib.Dec.{ltb}
use mathlib.Core.List.{List, [], ◌∷◌}
use native.Mathlib.Omega.{arith}
use lib.ListN.{length, length-append}
use lib.Ieee.{Float}
use Rattle.refusal.specs.Refusals.{dsp_rate, rate_refused}
use Rattle.resampling.specs.Resample as resample
use Rattle.resampling.proofs.ResampleLaws.{ran-few, ran-none, output-few}
use Rattle.framing.specs.Framing.{held, AreBytes}
use Rattle.framing.proofs.FramingLaws.{held-most}
use Rattle.demodulation.specs.Demod.{fresh_demodulator}
use Rattle.demodulation.proofs.DemodLaws.{hearing-completed, hearing-bytes, hearing-tuned, fresh-tuned}
use Rattle.modem.specs.Listener.{Demod, heard_by, fresh_demod, Listens, heard_over, samples_in, bad_stops_by, bad_stops_over}
use Rattle.modem.specs.Hear.{resampled}
use Rattle.bell103.specs.declared.Role.{Role}
use Rattle.demodulation.specs.declared.kind.Kind.{Kind}
use Rattle.happenings.specs.Happening.{bytes_in, bad_stops_in}
use Rattle.happenings.proofs.HappeningLaws.{bytes-append, bads-append}

-- ---- n samples make n + 2 steps at most, and none make none
pub steps-few : (d : Demod) (xs : List Float) → Listens d → length (resampled d.resampler xs).out ≤ 3 * length xs
unfolding resampled
steps-few d [] l = rw (ran-none d.resampler (resample.max_output_len d.resampler.src d.resampler.dst 0)) (omega arith)
steps-few d (x ∷ xs) l =
    let n = length (x ∷ xs) in
    let f = ran-few d.resampler (x ∷ xs) in
    let o : resample.max_output_len d.resampler.src d.resampler.dst n ≤ n + 2 =
    subst (λ (z : ℕ). resample.max_output_len d.resampler.src z n ≤ n + 2) (sym l.to) (output-few d.resampler.src n l.from) in
    omega (arith, f, o)

steps-most : (d : Demod) (xs : List Float) → Listens d → length (resampled d.resampler xs).out ≤ length xs + 2
unfolding resampled
steps-most d xs l =
    let n = length xs in
    let o : resample.max_output_len d.resampler.src d.resampler.dst n ≤ n + 2 =
    subst (λ (z : ℕ). resample.max_output_len d.resampler.src z n ≤ n + 2) (sym l.to) (output-few d.resampler.src n l.from) in
    omega (arith, ran-few d.resampler xs, o)

-- ---- a write
-- ten for each byte heard and each bad stop are at most the bits held before and three for each sample
pub heard-completed : (d : Demod) (xs : List Float) → Listens d
    → 10 * (length (bytes_in (heard_by d xs).happenings) + bad_stops_by d xs) + held (heard_by d xs).after.inner.deframer ≤ held d.inner.deframer + 3 * length xs
unfolding heard_by bad_stops_by
heard-completed d xs l = omega (arith, hearing-completed d.inner (resampled d.resampler xs).out, steps-few d xs l)

-- and at most the bits held before, one for each sample, and two
pub heard-most : (d : Demod) (xs : List Float) → Listens d → 10 * (length (bytes_in (heard_by d xs).happenings) + bad_stops_by d xs) ≤ 11 + length xs
unfolding heard_by bad_stops_by
heard-most d xs l = omega (arith, hearing-completed d.inner (resampled d.resampler xs).out, steps-most d xs l, held-most d.inner.deframer)

pub heard-bytes : (d : Demod) (xs : List Float) → Listens d → AreBytes (bytes_in (heard_by d xs).happenings)
unfolding heard_by
heard-bytes d xs l = hearing-bytes d.inner (resampled d.resampler xs).out l.tuned

pub heard-listens : (d : Demod) (xs : List Float) → Listens d → Listens (heard_by d xs).after
unfolding heard_by
heard-listens d xs l = record { from = l.from; to = l.to; tuned = hearing-tuned d.inner (resampled d.resampler xs).out l.tuned }

-- the bad stops of a list of accepted writes are those of each
pub bads-none : (d : Demod) → bad_stops_over d [] ≡ 0
unfolding bad_stops_over heard_over bad_stops_in
bads-none d = refl

pub bads-first : (d : Demod) (xs : List Float) (xss : List (List Float)) → bad_stops_over d (xs ∷ xss) ≡ bad_stops_by d xs + bad_stops_over (heard_by d xs).after xss
unfolding bad_stops_over heard_over bad_stops_by
bads-first d xs xss = bads-append (heard_by d xs).happenings (heard_over (heard_by d xs).after xss).happenings

pub over-completed : (d : Demod) (xss : List (List Float)) → Listens d
    → 10 * (length (bytes_in (heard_over d xss).happenings) + bad_stops_over d xss) + held (heard_over d xss).after.inner.deframer
    ≤ held d.inner.deframer + 3 * samples_in xss
unfolding heard_over
over-completed d [] l = unfold bytes_in in rw (bads-none d) (omega arith)
over-completed d (xs ∷ xss) l =
    let h = heard_by d xs in
    let rest = heard_over h.after xss in
    rw (bads-first d xs xss, bytes-append h.happenings rest.happenings, length-append (bytes_in h.happenings) (bytes_in rest.happenings))
    (omega (arith, heard-completed d xs l, over-completed h.after xss (heard-listens d xs l)))

pub fresh-listens : (kind : Kind) (rate : ℕ) (role : Role) → rate_refused rate ≡ false → Listens (fresh_demod kind rate role)
unfolding fresh_demod resample.fresh rate_refused
fresh-listens kind rate role e = record { from = ltb-false rate dsp_rate (first_off (ltb rate dsp_rate) _ e); to = refl; tuned = fresh-tuned kind role }
  where
    first_off : (a b : Bool) → a || b ≡ false → a ≡ false
    first_off true b e = e
    first_off false b e = refl

pub fresh-idle : (kind : Kind) (rate : ℕ) (role : Role) → held (fresh_demod kind rate role).inner.deframer ≡ 0
unfolding fresh_demod fresh_demodulator
fresh-idle kind rate role = refl

-- from a fresh receiver on, bytes heard and bad stops together number at most the samples accepted
pub heard-at-most-samples : (kind : Kind) (rate : ℕ) (role : Role) → rate_refused rate ≡ false → (xss : List (List Float))
    → length (bytes_in (heard_over (fresh_demod kind rate role) xss).happenings) + bad_stops_over (fresh_demod kind rate role) xss ≤ samples_in xss
heard-at-most-samples kind rate role e xss = omega (arith, over-completed (fresh_demod kind rate role) xss (fresh-listens kind rate role e), fresh-idle kind rate role)
