-- What the code of durations goes by: its sums fit, each length is looked at, and what each answer promises. Assumes nothing.
use Rattle.std.specs.Prelude.{Ok, Err}
use Prim.Native.Nat.{ℕ, zero, suc, ◌+◌, ◌*◌, ◌<◌, ◌≤◌}
use mathlib.Core.Path.{◌≡◌, refl, sym, ap, ◌∙◌}
use mathlib.Core.Bool.{Bool, true, false, ◌||◌, true≢false}
use mathlib.Core.List.{List, [], ◌∷◌}
use native.Mathlib.Nat.{mul-le-mul}
use native.Mathlib.Omega.{arith}
use lib.Dec.{ltb}
use lib.ListN.{length, get_or, drop}
use borrow.Author.Tests.{ltb-false, le-ltb}
use Rattle.numeric.specs.Fold.{fold}
use Rattle.numeric.specs.Limits.{any_above}
use Rattle.numeric.specs.Counts.{samples_for_bits}
use Rattle.numeric.proofs.Loops.{fold_step, fold_end}
use Rattle.refusal.specs.Refusals.{given, refused, number_of, highest_rate, rate_refused}
use Rattle.refusal.specs.declared.Refusal.{Refusal}
use Rattle.bell103.specs.Durations.{longest, most_lengths, exact_of, measure_of, exact_reply, joined, with_bits, carried, total_bits, any_too_long, sum_reply, Measures, Sums}
use Rattle.bell103.specs.declared.durations.Duration.{Duration}
use Rattle.bell103.specs.declared.durations.Measure.{Measure}
use Rattle.bell103.proofs.DurationLaws.{rest_below, rounded-nearest, carried-whole}

neither : (a b : Bool) → (a || b) ≡ false → (a ≡ false) × (b ≡ false)
neither true b e = absurd (true≢false e)
neither false b e = (refl, e)

-- ---- what fits
pub rate-high : (rate : ℕ) → rate_refused rate ≡ false → rate ≤ 96000
unfolding rate_refused
rate-high rate e = let h : rate ≤ highest_rate = ltb-false highest_rate rate (neither (ltb rate 8000) (ltb highest_rate rate) e).1 in omega arith

pub product_small : (rate n : ℕ) → rate ≤ 96000 → n ≤ longest → n * rate ≤ 100663296000
product_small rate n r h = omega (arith, mul-le-mul h r)

pub exact-small : (rate n : ℕ) {d : Duration} → rate ≤ 96000 → n ≤ longest → d ≡ exact_of rate n → (d.quotient ≤ 335544320) × (d.remainder < 300)
exact-small rate n r h e = rw e (omega (arith, product_small rate n r h), omega arith)

pub joined_small : (a b : Duration) {d : Duration} → a.remainder < 300 → b.remainder < 300 → d ≡ joined a b → (d.quotient ≤ a.quotient + b.quotient + 1) × (d.remainder < 300)
joined_small a b p q e = rw e (omega arith, omega arith)

-- ---- the lengths, one behind the other
pub carry-on : (rate : ℕ) (ns : List ℕ) (i : ℕ) (d r : Duration) → i < length ns → r ≡ with_bits rate d (get_or ns i 0) → fold (with_bits rate) d (drop i ns) ≡ carried rate ns
    → fold (with_bits rate) r (drop (i + 1) ns) ≡ carried rate ns
carry-on rate ns i d r h e s = ap (λ (x : Duration). fold (with_bits rate) x (drop (i + 1) ns)) e ∙ sym (fold_step (with_bits rate) d ns i 0 h) ∙ s

pub carry-end : (rate : ℕ) (ns : List ℕ) (i : ℕ) (d : Duration) → length ns ≤ i → fold (with_bits rate) d (drop i ns) ≡ carried rate ns → d ≡ carried rate ns
carry-end rate ns i d h s = sym (fold_end (with_bits rate) d ns i h) ∙ s

-- ---- lengths one by one
-- of a list with none that is too long, none is
pub none-too-long : (ns : List ℕ) (i : ℕ) → any_too_long ns ≡ false → i < length ns → get_or ns i 0 ≤ longest
unfolding any_too_long
none-too-long [] i e h = absurd (omega arith)
none-too-long (n ∷ ns) zero e h = ltb-false longest n (neither (ltb longest n) (any_too_long ns) e).0
none-too-long (n ∷ ns) (suc i) e h = none-too-long ns i (neither (ltb longest n) (any_too_long ns) e).1 (omega arith)

-- one that is too long is one above the longest
pub too-long : (ns : List ℕ) → any_above longest ns ≡ any_too_long ns
unfolding any_above any_too_long
too-long [] = refl
too-long (n ∷ ns) = ap (λ (t : Bool). ltb longest n || t) (too-long ns)

-- ---- the answers
unlike : {A : Type 0} (k : ℕ) (x : A) → refused k ≡ given x → ⊥
unlike k x e = let z : ◌≡◌ {A = ℕ} 0 1 = cc in omega arith

pub measures_none : (rate n : ℕ) (why : Refusal) → refused (number_of why) ≡ exact_reply rate n → Measures rate n (Err why)
measures_none rate n why e =
    record { reply = e; below = λ m h. absurd (unlike (number_of why) m h); nearest = λ m h. absurd (unlike (number_of why) m h) }

pub measures : (rate n : ℕ) (d : Duration) (k : ℕ) → d ≡ exact_of rate n → k ≡ samples_for_bits n rate → rate_refused rate ≡ false → n ≤ longest
    → Measures rate n (Ok (record { exact = d; rounded = k }))
unfolding exact_reply
measures rate n d k e f r h =
    record {
      reply = rw (e, f, r, le-ltb longest n h) refl;
      below = λ m g. rw (same m g) (rest_below rate n);
      nearest = λ m g. rw (same m g) (rounded-nearest rate n);
    }
  where
    same : (m : Measure) → given (record { exact = d; rounded = k }) ≡ given m → m ≡ measure_of rate n
    same m g = cc

pub sums_none : (rate : ℕ) (ns : List ℕ) (why : Refusal) → refused (number_of why) ≡ sum_reply rate ns → Sums rate ns (Err why)
sums_none rate ns why e =
    record { reply = e; whole = λ d h. absurd (unlike (number_of why) d h); below = λ d h. absurd (unlike (number_of why) d h) }

pub sums : (rate : ℕ) (ns : List ℕ) (d : Duration) → d ≡ carried rate ns → rate_refused rate ≡ false → length ns ≤ most_lengths → any_too_long ns ≡ false → Sums rate ns (Ok d)
unfolding sum_reply
sums rate ns d e r h l =
    record {
      reply = rw (r, le-ltb most_lengths (length ns) h, l) (ap given e);
      whole = λ k g. same k g ∙ carried-whole rate ns;
      below = λ k g. rw (same k g ∙ carried-whole rate ns) (rest_below rate (total_bits ns));
    }
  where
    same : (k : Duration) → given d ≡ given k → k ≡ carried rate ns
    same k g = cc
