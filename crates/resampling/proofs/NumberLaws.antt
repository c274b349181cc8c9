-- The resampler's state shown number by number, over lists. Assumes nothing.
use Prim.Native.Nat.{ℕ, suc, ◌+◌, ◌-◌, ◌<◌}
use mathlib.Core.Path.{◌≡◌, refl, sym, ap, ◌∙◌}
use mathlib.Core.Bool.{Bool, true, false}
use mathlib.Core.List.{List, [], ◌++◌, append-nil}
use native.Mathlib.Nat.{sub-zero}
use native.Mathlib.Numerals.{add-one}
use native.Mathlib.Omega.{arith}
use lib.ListN.{length, get_or, set, take, replicate}
use lib.Seq.{append_snoc, length-take-le, take-suc-set}
use lib.Ieee.{Float, nan}
use Rattle.numeric.specs.F64.{zero64}
use Rattle.std.specs.Prelude.{if◌then◌else◌}
use Rattle.resampling.specs.Design.{lowpass, most_taps}
use Rattle.resampling.specs.Resample.{taps_of, faster}
use Rattle.resampling.specs.FilterRep.{ring_back, walk, history_of}
use Rattle.resampling.specs.FlowRep.{flow_of}
use Rattle.resampling.specs.ResampleRep.{state_of}
use Rattle.resampling.specs.Numbers.{tap_numbers, history_numbers}
use Rattle.resampling.specs.declared.resample.Resampler.{Resampler}
use Rattle.resampling.proofs.Ring.{history-length}

-- ---- a ring, newest first
pub newest-start : (n pos : ℕ) (ring : List Float) → walk (n - 0) n (ring_back n pos) ring ≡ history_of n pos ring
unfolding history_of
newest-start n pos ring = rw (sub-zero n)

pub newest-step : (n idx i : ℕ) (ring a : List Float) → i < n → i < length a
    → take (i + 1) (set a i (get_or ring (ring_back n idx) nan)) ++ walk (n - (i + 1)) n (ring_back n (ring_back n idx)) ring ≡ take i a ++ walk (n - i) n (ring_back n idx) ring
unfolding walk
newest-step n idx i ring a h l =
    let k : n - i ≡ suc (n - (i + 1)) = omega arith in
    rw (k, add-one i, take-suc-set a i (get_or ring (ring_back n idx) nan) l)
    (append_snoc (take i a) (get_or ring (ring_back n idx) nan) (walk (n - suc i) n (ring_back n (ring_back n idx)) ring))

pub newest-end : (n idx i : ℕ) (ring a : List Float) → i ≡ n → take i a ++ walk (n - i) n (ring_back n idx) ring ≡ take n a
unfolding walk
newest-end n idx i ring a is =
    let z : n - i ≡ 0 = omega arith in
    rw (z, append-nil, is)

-- ---- a state's
module _ (r : Resampler) where
  pub taps-length : length (taps_of r.src_rate r.dst_rate) ≡ r.n_taps
  taps-length = rw (← r.are) (length-take-le r.n_taps r.taps (omega (arith, r.high, r.taps_long)))

  -- where there are taps, the ring has a place
  pub ring-place : 0 < r.n_taps → r.moving.fir_pos < r.n_taps
  unfolding taps_of
  ring-place some = by r.identity refl
    where
      by : (b : Bool) → r.identity ≡ b → r.moving.fir_pos < r.n_taps
      by false e = r.place e
      by true e =
          let z : length (taps_of r.src_rate r.dst_rate) ≡ 0 = ap (λ (x : Bool). length (if x then [] else lowpass (faster r.src_rate r.dst_rate))) (sym r.equal ∙ e) in
          absurd (omega (arith, z, taps-length, some))

  pub taps-shown : (xs : List Float) → xs ≡ take r.n_taps r.taps ++ replicate (most_taps - r.n_taps) zero64 → xs ≡ tap_numbers (state_of r)
  unfolding state_of
  taps-shown xs is = rw (taps-length, ← r.are) is

  pub history-shown : (newest xs : List Float) → take r.n_taps newest ≡ history_of r.n_taps r.moving.fir_pos r.fir_hist
      → xs ≡ take r.n_taps newest ++ replicate (most_taps - r.n_taps) zero64 → xs ≡ history_numbers (state_of r)
  unfolding state_of flow_of
  history-shown newest xs are is =
      let n = history-length r.n_taps r.moving.fir_pos r.fir_hist in
      rw (n, ← are) is
