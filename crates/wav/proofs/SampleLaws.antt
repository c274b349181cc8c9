-- Parts of a power of two as f32, NaNs, and the tables of G.711. Assumes nothing.
use Prim.Native.Nat.{ℕ, zero, suc, ◌+◌, ◌-◌, ◌*◌, ◌/◌, ◌^◌, ◌≤◌, ◌<◌}
use mathlib.Core.Path.{◌≡◌, refl, sym, ap, ◌∙◌}
use mathlib.Core.Bool.{true, false}
use mathlib.Core.List.{List, [], ◌∷◌}
use native.Mathlib.Nat.{add-zero, zero-add, add-suc, suc-add, le_of_suc-le-suc, not-suc-le-zero, lt_trans, mul_assoc}
use native.Mathlib.Omega.{arith}
use lib.Bits.{bit_xor}
use lib.Dec.{leb, leb→le, lit≤}
use lib.ListN.{get_or}
use lib.Pow.{pow-add, pow_pos, pow_mono, shl_lt, pow-lt}
use lib.IntN.{pos}
use lib.Ieee.{Float, nan, inf, fin, binary32, binary64, down, round, neg, div, of_int, of_bits, is_nan}
use lib.Ieee.Exact.{HasValue, round_exact}
use lib.Ieee.Fits.{down_pos}
use lib.Ieee.Scale.{round_same}
use Rattle.numeric.specs.Convert.{narrowed}
use Rattle.numeric.proofs.Whole.{div-whole}
use Rattle.numeric.proofs.Tested.{at-number}
use Rattle.wav.specs.Sample.{Power, part_of, pcm_of, mu_magnitude, mu_of, a_magnitude, a_of, sample_of, sample_in}
use Rattle.wav.specs.declared.sample.Encoding.{Encoding}
use Rattle.wav.specs.declared.sample.Encoding.TheVariants as coding

pub is-nan : (x : Float) → is_nan x ≡ true → x ≡ nan
unfolding is_nan
is-nan nan e = refl
is-nan (inf s) e = absurd (let z : ◌≡◌ {A = ℕ} 0 1 = cc in omega arith)
is-nan (fin s m t) e = absurd (let z : ◌≡◌ {A = ℕ} 0 1 = cc in omega arith)

pub zero-over-zero : div binary32 (of_bits binary32 0) (of_bits binary32 0) ≡ nan
unfolding div of_bits
zero-over-zero = refl

pub narrow-nan : narrowed nan ≡ nan
unfolding narrowed
narrow-nan = refl

-- a float that is a / c, narrowed, is a / c rounded once
narrow-value : (x : Float) (a c : ℕ) → 0 < c → HasValue x false a c → narrowed x ≡ round binary32 false a c
unfolding narrowed
narrow-value nan a c p h = absurd h
narrow-value (inf s) a c p h = absurd h
narrow-value (fin s m e) a c p h = rw h.0 (round_same binary32 false (m * _) (down e) a c (down_pos e) p h.1)

-- an f64 holds n / 2 ^ j exactly
part-exact : (n j : ℕ) → n ≤ 0x1_0000_0000 → j ≤ 31 → HasValue (round binary64 false n (2 ^ j)) false n (2 ^ j)
part-exact n j h l =
    let small : n < 2 ^ 53 = omega arith in
    let k : 1074 - j + j ≡ 1074 = omega arith in
    round_exact binary64 false n (2 ^ j) n (1074 - j) (pow_pos j) small (lt_trans (shl_lt 53 (1074 - j) small) (pow-lt {i = 53 + (1074 - j)} {j = 2098} (omega arith)))
    (ap (λ (z : ℕ). n * 2 ^ z) (sym k) ∙ ap (λ (z : ℕ). n * z) (pow-add 2 (1074 - j) j) ∙ sym (mul_assoc n (2 ^ (1074 - j)) (2 ^ j)))

pub part-is : (n d : ℕ) → n ≤ 0x1_0000_0000 → Power d → narrowed (div binary64 (of_int binary64 (pos n)) (of_int binary64 (pos d))) ≡ part_of n d
unfolding part_of
part-is n d h p =
    let j = p.0 in
    let l : j ≤ 53 = omega (arith, p.1) in
    rw p.2
    (ap narrowed (div-whole n (2 ^ j) (pow_pos j) (omega arith) (pow_mono l)) ∙ narrow-value _ n (2 ^ j) (pow_pos j) (part-exact n j h p.1))

-- ---- the powers of two that are used
pub power-7 : Power 128
power-7 = (7, lit≤ tt, refl)

pub power-15 : Power 32768
power-15 = (15, lit≤ tt, refl)

pub power-23 : Power 0x80_0000
power-23 = (23, lit≤ tt, refl)

pub power-31 : Power 0x8000_0000
power-31 = (31, lit≤ tt, refl)

pub power-few : (d : ℕ) → Power d → d ≤ 2 ^ 53
power-few d p = let l : p.0 ≤ 53 = omega (arith, p.1) in rw p.2 (pow_mono l)

-- ---- the encoding decides
pub sample-at : {k q : Encoding} (word : ℕ) {r : Float} → k ≡ q → r ≡ sample_in q word → r ≡ sample_in k word
sample-at word e h = rw e h

pub over-one : (n : ℕ) → n ≡ n / 1
over-one n = omega arith

-- ---- tables: the first 128 values of f are one list, which antt computes, and it holds f m at the place m
abbrev pub tabled : ℕ → ℕ → (ℕ → ℕ) → List ℕ
tabled zero i f = []
tabled (suc n) i f = f i ∷ tabled n (suc i) f

table-from : (n i : ℕ) (f : ℕ → ℕ) (m : ℕ) → m < n → get_or (tabled n i f) m 0 ≡ f (i + m)
table-from zero i f m h = absurd (not-suc-le-zero h)
table-from (suc n) i f zero h = ap f (sym (add-zero i))
table-from (suc n) i f (suc m) h = table-from n (suc i) f m (le_of_suc-le-suc h) ∙ ap f (suc-add i m ∙ sym (add-suc i m))

-- µ-law and A-law, by seven bits as the code has them
abbrev pub mu : List ℕ
mu = tabled 128 0 mu_magnitude

abbrev pub a_seven : ℕ → ℕ
a_seven m = a_magnitude (bit_xor m 0x55)

abbrev pub a : List ℕ
a = tabled 128 0 a_seven

pub mu-at : (m : ℕ) → m < 128 → get_or mu m 0 ≡ mu_magnitude m
mu-at m h = table-from 128 0 mu_magnitude m h ∙ ap mu_magnitude (zero-add m)

pub a_at : (m : ℕ) → m < 128 → get_or a m 0 ≡ a_seven m
a_at m h = table-from 128 0 a_seven m h ∙ ap a_seven (zero-add m)

pub mu-few : (m : ℕ) → m < 128 → get_or mu m 0 ≤ 0x1_0000_0000
mu-few m h = leb→le _ _ (at-number 128 (λ i. leb (get_or mu i 0) 0x1_0000_0000) tt m h)

pub a-few : (m : ℕ) → m < 128 → get_or a m 0 ≤ 0x1_0000_0000
a-few m h = leb→le _ _ (at-number 128 (λ i. leb (get_or a i 0) 0x1_0000_0000) tt m h)

-- ---- examples: G.711's zeros and ends, the 8-bit zero, and the largest of 32 bits, which is rounded to 1.0
pub examples : (sample_of coding.MuLaw 0xFF ≡ part_of 0 32768) × (sample_of coding.MuLaw 0x00 ≡ neg (part_of 32124 32768)) × (sample_of coding.MuLaw 0x80 ≡ part_of 32124 32768)
    × (sample_of coding.ALaw 0xD5 ≡ part_of 8 32768) × (sample_of coding.ALaw 0x55 ≡ neg (part_of 8 32768)) × (sample_of coding.ALaw 0x2A ≡ neg (part_of 32256 32768)) × (sample_of coding.ALaw 0xAA ≡ part_of 32256 32768)
    × (sample_of coding.Pcm8 128 ≡ of_bits binary32 0) × (sample_of coding.Pcm8 0 ≡ of_bits binary32 0xBF80_0000) × (sample_of coding.Pcm32 0x7FFF_FFFF ≡ of_bits binary32 0x3F80_0000)
unfolding mu_of a_of pcm_of part_of of_bits round neg
examples = (refl, refl, refl, refl, refl, refl, refl, refl, refl, refl)
