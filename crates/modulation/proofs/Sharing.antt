-- What a pass leaves in the slice and in `pending`, from what its parts ensure. Assumes nothing.
use Prim.Native.Nat.{ℕ, ◌-◌, min}
use mathlib.Core.Path.{◌≡◌, sym, ap, ap₂, ◌∙◌}
use mathlib.Core.Bool.{Bool}
use mathlib.Core.List.{List, [], ◌++◌, map}
use native.Mathlib.Omega.{arith}
use lib.ListN.{length, take, drop, length-drop, length-map}
use lib.Seq.{take_at, length-take-le}
use lib.Ieee.{Float}
use Rattle.numeric.specs.Counts.{need}
use Rattle.refusal.specs.Refusals.{given}
use Rattle.modulation.specs.Bits.{BitsHeld}
use Rattle.resampling.specs.Resample.{State, state, ran_over, ran_into, max_output_len, outcome}
use Rattle.resampling.specs.Flow.{Ran}
use Rattle.resampling.proofs.ResampleLaws.{ran-within, run-count, run-state, run-samples}
use Rattle.resampling.specs.ResampleRep.{state_of}
use Rattle.bell103.specs.declared.TonePair.{TonePair}
use Rattle.resampling.specs.declared.resample.Resampler.{Resampler}
use Rattle.modulation.specs.declared.modulate.Wave.{Wave}
use Rattle.modulation.specs.Tone.{Keyer, Sound, sound, generated}
use Rattle.modulation.specs.Modulator.{Modulator, modulator, scaled, made_for, batch, passed, handed, pass}
use Rattle.modulation.specs.ModulatorRep.{keyer_of, Rising, HandsOver, SharesInto, MakesInto, PassesInto}
use Rattle.std.proofs.lemmas.List.{take-map, drop-map}
use Rattle.modulation.proofs.Slices.{take-least, drop-least, take_rest}
use Rattle.modulation.proofs.Counts.{surplus}

-- ---- `hand_over`
pub hands : (waiting ys tail : List Float) (n c : ℕ) → c ≡ min n (length waiting) → ys ≡ take c waiting → length (ys ++ tail) ≡ n → HandsOver waiting n (ys ++ tail) c
hands waiting ys tail n c e ey l =
    let len : length ys ≡ c = rw ey (length-take-le c waiting (omega arith)) in
    record { places = l; samples = take_at ys tail c len ∙ ey ∙ sym (take-least n c waiting e); count_is = e }

-- ---- `share`
pub shares : (xs : List Float) (a : Float) (n c : ℕ) (ys tail zs behind : List Float) → c ≡ min n (length xs) → ys ≡ map (scaled a) (take c xs)
    → zs ≡ map (scaled a) (take (length xs - c) (drop c xs)) → length (zs ++ behind) ≡ 64 → SharesInto xs a n (ys ++ tail) c (zs ++ behind)
shares xs a n c ys tail zs behind e ey ez l =
    let f = scaled a in
    let e' : c ≡ min n (length (map f xs)) = rw length-map e in
    let yl : length ys ≡ c = rw (ey, length-map) (length-take-le c xs (omega arith)) in
    let zl : length zs ≡ length xs - c = rw (ez, length-map, take_rest c xs) (length-drop c xs) in
    record {
      samples = take_at ys tail c yl ∙ ey ∙ sym (take-map f c xs) ∙ sym (take-least n c (map f xs) e');
      count_is = e;
      surplus = take_at zs behind (length xs - c) zl ∙ ez ∙ ap (map f) (take_rest c xs) ∙ sym (drop-map f c xs) ∙ sym (drop-least n c (map f xs) e');
      places = l;
    }

-- ---- `make`
pub makes : (a : List Bool) (t : TonePair) (w w' : Wave) (r r' : Resampler) (n : ℕ) (xs out out' : List Float) (count : ℕ)
    → sound xs (keyer_of a w') ≡ generated n t (keyer_of a w) → BitsHeld a w'.head w'.waiting → length out' ≡ length out
    → outcome (given count) (state_of r') out' ≡ ran_into (state_of r) xs out → MakesInto a t w r n out' count w' r'
unfolding state_of
makes a t w w' r r' n xs out out' count eg held lo ep =
    let ex : xs ≡ (generated n t (keyer_of a w)).samples = ap (λ (z : Sound). z.samples) eg in
    let R = ran_over (state_of r) (length out) xs in
    let same : R ≡ ran_over (state_of r) (length out') (generated n t (keyer_of a w)).samples = ap₂ (ran_over (state_of r)) (sym lo) ex in
    record {
      keyer = ap (λ (z : Sound). z.after) eg;
      samples = run-samples (state_of r) (state_of r') xs out out' count ep ∙ ap (λ (z : Ran). z.out) same;
      within = omega (arith, run-count (state_of r) (state_of r') xs out out' count ep, ran-within (state_of r) (length out) xs);
      state = run-state (state_of r) (state_of r') xs out out' count ep ∙ ap (λ (z : Ran). state r.src_rate r.dst_rate z.flow) same;
      held = held;
    }

-- ---- a pass
joined : (r : ℕ) (t : TonePair) (a : Float) {xs xs' : List Float} {k k' : Keyer} {q q' : State} {ps ps' : List Float} → xs ≡ xs' → k ≡ k' → q ≡ q' → ps ≡ ps'
    → passed xs (modulator r t k q ps a) ≡ passed xs' (modulator r t k' q' ps' a)
joined r t a e f g h = λ i. passed (e i) (modulator r t (f i) (g i) (h i) a)

module _ (rate : ℕ) (t : TonePair) (amp : Float) (a : List Bool) (w w' : Wave) (r r' : Resampler) (n k count : ℕ) (out rest pending : List Float) where
  abbrev before : Modulator
  before = modulator rate t (keyer_of a w) (state_of r) [] amp

  pub pass-into : Rising rate r → length out ≡ max_output_len 8000 rate (need n rate) → MakesInto a t w r (need n rate) out k w' r'
      → SharesInto (take k out) amp n rest count pending → PassesInto before n a rest count pending (k - count) w' r'
  unfolding pass handed batch state_of
  pass-into up lo m s =
      let f = scaled amp in
      let lk : length (take k out) ≡ k = length-take-le k out m.within in
      let R : ran_over (state_of r) (length out) (generated (need n rate) t (keyer_of a w)).samples ≡ made_for before n =
      ap (λ (l : ℕ). ran_over (state_of r) l (generated (need n rate) t (keyer_of a w)).samples) (rw (up.src, up.dst) lo) in
      let made : take k out ≡ (made_for before n).out = m.samples ∙ ap (λ (z : Ran). z.out) R in
      let z0 : k - count - 0 ≡ length (take k out) - count = omega arith in
      record {
        is =
            joined rate t amp (s.samples ∙ ap (λ (l : List Float). take n (map f l)) made) m.keyer
            (m.state ∙ ap (λ (z : Ran). state r.src_rate r.dst_rate z.flow) R)
            (ap (λ (i : ℕ). take i pending) z0 ∙ s.surplus ∙ ap (λ (l : List Float). drop n (map f l)) made);
        within = omega (arith, s.count_is);
        dry = λ h. omega (arith, s.count_is, lk);
        pending_held = record { places = s.places; ordered = omega arith; room = omega (arith, s.count_is, lk, m.within, lo, surplus rate n up.low up.high) };
        rising =
            record {
              low = up.low;
              high = up.high;
              src = ap (λ (z : State). z.src) m.state ∙ up.src;
              dst = ap (λ (z : State). z.dst) m.state ∙ up.dst;
            };
        held = m.held;
      }

-- ---- a pass at a rate of 8,000
