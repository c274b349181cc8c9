-- The resampler never stops for want of output: going down to 8,000 from any rate up to 96,000, a call whose room is what `max_output_len`
-- gives ends with no output ready, and more room changes nothing. Assumes nothing.
use Prim.Native.Nat.{ℕ, ◌+◌, ◌-◌, ◌*◌, ◌/◌, ◌%◌, ◌^◌, ◌≤◌, ◌<◌}
use mathlib.Core.Path.{◌≡◌, sym, ◌∙◌, subst}
use mathlib.Core.Bool.{false}
use mathlib.Core.List.{List}
use native.Mathlib.Nat.{le_trans, le_refl, mul-le-mul_left, mul-le-mul_right, div-add-mod, mod-lt}
use native.Mathlib.Omega.{arith}
use lib.Dec.{lit<, lit≤}
use lib.ListN.{length}
use lib.Ieee.{Float, binary64, round}
use Rattle.numeric.specs.F64.{◌⊘◌, whole}
use Rattle.numeric.specs.Bounds.{AtMost, AtLeast}
use Rattle.numeric.specs.Counts.{output_len}
use Rattle.numeric.proofs.Whole.{div-whole}
use Rattle.numeric.proofs.BoundLaws.{round-at-most, round-at-least}
use Rattle.refusal.specs.Refusals.{dsp_rate}
use Rattle.resampling.specs.Flow.{Flow, Ran, fed}
use Rattle.resampling.specs.Resample.{filter_of, fresh}
use Rattle.resampling.proofs.FlowLaws.{fed-length}
use Rattle.resampling.proofs.Settled.{most_samples, Settled, Falling, none-least, start-settled}
use Rattle.resampling.proofs.Flowing.{flowing, fed-flows, flowing-settled}

-- the laws below hold up to this rate
abbrev pub top_rate : ℕ
top_rate = 96000

-- the step in units of 2 ^ -20, rounded down
abbrev pub step_units : ℕ → ℕ
step_units rate = rate * 2 ^ 20 / 8000

pub step-falling : (rate : ℕ) → dsp_rate ≤ rate → rate ≤ top_rate → Falling (step_units rate) (filter_of rate dsp_rate)
unfolding filter_of
step-falling rate l h =
    let is : whole rate ⊘ whole 8000 ≡ round binary64 false rate 8000 = div-whole rate 8000 (lit< tt) (omega arith) (lit≤ tt) in
    let short : AtMost (round binary64 false rate 8000) 12 (2 ^ 0) = round-at-most rate 8000 12 0 (lit< tt) (lit< tt) (lit≤ tt) (omega arith) in
    record {
      short = subst (λ (z : Float). AtMost z 12 (2 ^ 0)) (sym is) short;
      long =
          subst (λ (z : Float). AtLeast z (step_units rate) (2 ^ 20)) (sym is)
          (round-at-least rate 8000 (step_units rate) 20 (lit< tt) (omega arith) (lit≤ tt) short.is (omega arith));
      low = omega arith;
      high = omega arith;
    }

-- the room that `max_output_len` gives takes the place past n samples
pub room-enough : (rate n : ℕ) → dsp_rate ≤ rate → rate ≤ top_rate → n ≤ 2 ^ 20 → n * 2 ^ 20 ≤ output_len n rate dsp_rate * step_units rate
room-enough rate n l h few =
    let q = (2 * (n * 8000) + rate) / (2 * rate) in
    let σ = step_units rate in
    let a : 2 * rate * q + (2 * (n * 8000) + rate) % (2 * rate) ≡ 2 * (n * 8000) + rate = div-add-mod (2 * (n * 8000) + rate) (2 * rate) in
    let b : (2 * (n * 8000) + rate) % (2 * rate) < 2 * rate = mod-lt (2 * (n * 8000) + rate) (omega arith) in
    meet rate n q σ ((2 * (n * 8000) + rate) % (2 * rate)) l h few a b (omega arith)
  where
    meet : (rate n q σ r : ℕ) → dsp_rate ≤ rate → rate ≤ top_rate → n ≤ 2 ^ 20 → 2 * rate * q + r ≡ 2 * (n * 8000) + rate → r < 2 * rate
        → rate * 2 ^ 20 ≤ σ * 8000 + 8000 → n * 2 ^ 20 ≤ (q + 2) * σ
    meet rate n q σ r l h few a b c =
        let less : q * 8000 ≤ q * rate = mul-le-mul_left q l in
        let most : (q + 2) * (rate * 2 ^ 20) ≤ (q + 2) * (σ * 8000 + 8000) = mul-le-mul_left (q + 2) c in
        omega arith

-- ---- a call
-- what a call with room enough does: it is the run that asks for none, ends with nothing ready, and makes no more than `max_output_len` says
pub record Flows (rate k : ℕ) (xs : List Float) (s : Flow) (r : Ran) : Type 0 where
  pub run : r ≡ flowing (filter_of rate dsp_rate) xs s
  pub settled : Settled (k + length xs) r.flow
  pub within : length r.out ≤ output_len (length xs) rate dsp_rate

module _ (rate k : ℕ) (xs : List Float) (s : Flow) (l : dsp_rate ≤ rate) (h : rate ≤ top_rate) (few : length xs ≤ 2 ^ 20) (all : k + length xs ≤ most_samples) (p : Settled k s) where
  enough : (room : ℕ) → output_len (length xs) rate dsp_rate ≤ room → fed (filter_of rate dsp_rate) room xs s ≡ flowing (filter_of rate dsp_rate) xs s
  enough room o =
      let e : length xs * 2 ^ 20 ≤ room * step_units rate = le_trans (room-enough rate (length xs) l h few) (mul-le-mul_right (step_units rate) o) in
      fed-flows (step_units rate) (filter_of rate dsp_rate) (step-falling rate l h) xs room k ((k - 2) * 2 ^ 20) s all p (none-least k s p) (omega arith)

  pub never-starves : (room : ℕ) → output_len (length xs) rate dsp_rate ≤ room → Flows rate k xs s (fed (filter_of rate dsp_rate) room xs s)
  never-starves room o =
      let e = enough room o in
      let e₀ = enough (output_len (length xs) rate dsp_rate) (le_refl _) in
      record {
        run = e;
        settled = subst (λ (r : Ran). Settled (k + length xs) r.flow) (sym e) (flowing-settled (step_units rate) (filter_of rate dsp_rate) (step-falling rate l h) xs k s all p);
        within = subst (λ (r : Ran). length r.out ≤ output_len (length xs) rate dsp_rate) (e₀ ∙ sym e) (fed-length (filter_of rate dsp_rate) (output_len (length xs) rate dsp_rate) xs s);
      }

  pub room-irrelevant : (room room' : ℕ) → output_len (length xs) rate dsp_rate ≤ room → output_len (length xs) rate dsp_rate ≤ room'
      → fed (filter_of rate dsp_rate) room xs s ≡ fed (filter_of rate dsp_rate) room' xs s
  room-irrelevant room room' o o' = enough room o ∙ sym (enough room' o')

-- a fresh resampler
pub fresh-settled : (rate : ℕ) → Settled 0 (fresh rate dsp_rate).flow
unfolding fresh
fresh-settled rate = start-settled _
