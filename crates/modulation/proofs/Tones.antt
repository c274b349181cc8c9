-- A symbol, a sample and a slice of samples at 8,000 Hz, from what the code's parts ensure. Assumes nothing.
use Prim.Native.Nat.{ℕ, zero, suc, ◌+◌, ◌-◌, ◌<◌, ◌≤◌}
use mathlib.Core.Path.{◌≡◌, refl, ap, ap₂, ◌∙◌}
use mathlib.Core.Bool.{Bool, true, false}
use mathlib.Core.List.{List, [], ◌∷◌, ◌++◌, append_assoc, append-nil}
use native.Mathlib.Numerals.{add-one}
use native.Mathlib.Omega.{arith}
use lib.ListN.{length, set, take, length-set}
use lib.Seq.{take-suc-set, take_all}
use lib.Ieee.{Float}
use Rattle.numeric.specs.F64.{◌⊕◌, ◌⊖◌, ◌⊘◌, ◌≤ᶠ◌, one64}
use Rattle.numeric.specs.Sine.{sine_of}
use Rattle.modulation.specs.Bits.{queued, Takes}
use Rattle.bell103.specs.Roles.{samples_per_symbol}
use Rattle.modulation.specs.Nco.{nco_set_freq, nco_next}
use Rattle.numeric.specs.Phase.{turned}
use Rattle.modulation.specs.declared.bits.Taken.{Taken}
use Rattle.bell103.specs.declared.TonePair.{TonePair}
use Rattle.modulation.specs.declared.nco.Nco.{Nco}
use Rattle.modulation.specs.Tone.{Keyer, keyer, tone_of, keyed, clocked, Tick, tick, ticked, Sound, sound, generated}

pub keyed-is : (a : List Bool) (h n : ℕ) (t : TonePair) (nco tuned : Nco) (pos freq : Float) (k : Taken) → Takes a h n k → freq ≡ tone_of t k.bit
    → tuned ≡ nco_set_freq nco freq → keyer tuned pos k.bit (queued a k.head k.waiting) ≡ keyed t nco pos (queued a h n)
unfolding keyed
keyed-is a h n t nco tuned pos freq k u ef et = rw (et, ef, u.bit, u.rest)

-- ---- a sample
module _ (t : TonePair) (k : Keyer) (p d : Float) (e : p ≡ turned k.nco.phase k.nco.inc) (ed : d ≡ samples_per_symbol) where
  abbrev on : Nco
  on = record { phase = p; inc = k.nco.inc; sample_rate = k.nco.sample_rate }

  pub after-symbol : (k' : Keyer) → one64 ≤ᶠ k.sym_pos ⊕ one64 ⊘ d ≡ true → k' ≡ keyed t on (k.sym_pos ⊕ one64 ⊘ d ⊖ one64) k.bits → k' ≡ (ticked t k).after
  unfolding ticked clocked nco_next
  after-symbol k' w ek = rw (← e, ← ed, w, ek)

  pub after_on : one64 ≤ᶠ k.sym_pos ⊕ one64 ⊘ d ≡ false → keyer on (k.sym_pos ⊕ one64 ⊘ d) k.current k.bits ≡ (ticked t k).after
  unfolding ticked clocked nco_next
  after_on w = rw (← e, ← ed, w)

pub once : (t : TonePair) (k k' : Keyer) (v : Float) → k' ≡ (ticked t k).after → v ≡ sine_of k.nco.phase → tick v k' ≡ ticked t k
unfolding ticked nco_next
once t k k' v e ev = ap₂ tick ev e

-- a sample, and then others
pub then : (n : ℕ) (t : TonePair) (k k' k'' : Keyer) (v : Float) (xs : List Float) → tick v k' ≡ ticked t k → sound xs k'' ≡ generated n t k' → sound (v ∷ xs) k'' ≡ generated (suc n) t k
unfolding generated
then n t k k' k'' v xs e es =
    let es' : sound xs k'' ≡ generated n t (ticked t k).after = es ∙ ap (λ (z : Tick). generated n t z.after) e in
    ap₂ (λ (x : Float) (s : Sound). sound (x ∷ s.samples) s.after) (ap (λ (z : Tick). z.value) e) es'

pub then-none : (t : TonePair) (k : Keyer) → sound [] k ≡ generated 0 t k
unfolding generated
then-none t k = refl

-- m samples, and then j others
abbrev followed : TonePair → ℕ → Sound → Sound
followed t j s = sound (s.samples ++ (generated j t s.after).samples) (generated j t s.after).after

generated-more : (m j : ℕ) (t : TonePair) (k : Keyer) → generated (m + j) t k ≡ followed t j (generated m t k)
unfolding generated
generated-more zero j t k = let z : 0 + j ≡ j = omega arith in rw z
generated-more (suc m) j t k =
    let z : suc m + j ≡ suc (m + j) = omega arith in
    rw z (ap (λ (s : Sound). sound ((ticked t k).value ∷ s.samples) s.after) (generated-more m j t (ticked t k).after))

-- ---- a slice of samples
pub left-turn : (n i : ℕ) → i < n → n - i ≡ suc (n - (i + 1))
left-turn n i h = omega arith

pub left-none : (n i : ℕ) → n ≤ i → n - i ≡ 0
left-none n i h = omega arith

pub one_set : {A : Type 0} (out : List A) (i : ℕ) (v : A) → i < length out → take (i + 1) (set out i v) ≡ take i out ++ (v ∷ [])
one_set out i v h = rw add-one (take-suc-set out i v h)

-- o is out with the n samples xs stored from place i on
pub record Stored (out : List Float) (i n : ℕ) (o xs : List Float) : Type 0 where
  pub long : length o ≡ length out
  pub front : take (i + n) o ≡ take i out ++ xs

module _ (out : List Float) (i : ℕ) where
  stored_one : (v : Float) → i < length out → Stored out i 1 (set out i v) (v ∷ [])
  stored_one v h = record { long = length-set out i v; front = one_set out i v h }

  stored_more : (n : ℕ) (o xs : List Float) (v : Float) → i + n < length out → Stored out i n o xs → Stored out i (suc n) (set o (i + n) v) (xs ++ (v ∷ []))
  stored_more n o xs v h s =
      let z : i + suc n ≡ i + n + 1 = omega arith in
      let l : i + n < length o = omega (arith, s.long) in
      record {
        long = length-set o (i + n) v ∙ s.long;
        front = rw (z, one_set o (i + n) v l, s.front, append_assoc);
      }

  pub stored-eight : (a b c d e f g h : Float) → i + 7 < length out
      → Stored out i 8 (set (set (set (set (set (set (set (set out i a) (i + 1) b) (i + 2) c) (i + 3) d) (i + 4) e) (i + 5) f) (i + 6) g) (i + 7) h) (a ∷ b ∷ c ∷ d ∷ e ∷ f ∷ g ∷ h ∷ [])
  stored-eight a b c d e f g h l =
      stored_more 7 _ _ h (omega arith) (
      stored_more 6 _ _ g (omega arith) (
      stored_more 5 _ _ f (omega arith) (
      stored_more 4 _ _ e (omega arith) (
      stored_more 3 _ _ d (omega arith) (stored_more 2 _ _ c (omega arith) (stored_more 1 _ _ b (omega arith) (stored_one a (omega arith))))))))

-- the samples written, and those that are left to generate
abbrev pub sound_at : List Float → ℕ → ℕ → TonePair → Keyer → Sound
sound_at out i n t k = sound (take i out ++ (generated (n - i) t k).samples) (generated (n - i) t k).after

module _ (n : ℕ) (t : TonePair) where
  pub sound-turn : (out : List Float) (i : ℕ) (k : Keyer) (v : Float) (k' : Keyer) → i < n → i < length out → tick v k' ≡ ticked t k
      → sound_at (set out i v) (i + 1) n t k' ≡ sound_at out i n t k
  unfolding generated
  sound-turn out i k v k' h l e =
      let ev : v ≡ (ticked t k).value = ap (λ (z : Tick). z.value) e in
      let ek : k' ≡ (ticked t k).after = ap (λ (z : Tick). z.after) e in
      rw (left-turn n i h, ← ev, ← ek, one_set out i v l, append_assoc)

  -- m samples
  pub sound_more : (out o xs : List Float) (i m : ℕ) (k k' : Keyer) → i + m ≤ n → Stored out i m o xs → sound xs k' ≡ generated m t k
      → sound_at o (i + m) n t k' ≡ sound_at out i n t k
  sound_more out o xs i m k k' h s e =
      let z : n - i ≡ m + (n - (i + m)) = omega arith in
      let on : Sound → Sound = λ x. sound (take i out ++ (followed t (n - (i + m)) x).samples) (followed t (n - (i + m)) x).after in
      rw (z, generated-more m (n - (i + m)) t k, s.front, append_assoc) (ap on e)

  pub sound-done : (out : List Float) (i : ℕ) (k : Keyer) → length out ≡ n → length out ≤ i → sound out k ≡ sound_at out i n t k
  unfolding generated
  sound-done out i k l h =
      let g : n ≤ i = omega arith in
      rw (left-none n i g, take_all i out h, append-nil)

pub generated-length : (n : ℕ) (t : TonePair) (k : Keyer) → length (generated n t k).samples ≡ n
unfolding generated
generated-length zero t k = refl
generated-length (suc n) t k = ap suc (generated-length n t _)
