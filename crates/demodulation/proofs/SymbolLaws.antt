-- A board's symbols, over a list of samples at 8,000 Hz from a fresh demodulator on. Assumes nothing.
use Prim.Native.Nat.{ℕ, suc, ◌+◌, ◌≤◌, ◌<◌}
use mathlib.Core.Path.{◌≡◌, refl, ap, ◌∙◌, subst}
use mathlib.Core.Bool.{Bool, true, false}
use mathlib.Core.List.{List, [], ◌∷◌, ◌++◌}
use native.Mathlib.Nat.{zero-add, add-zero}
use native.Mathlib.Omega.{arith}
use lib.Dec.{ltb}
use lib.ListN.{length}
use borrow.Author.Tests.{ltb-true, ltb-false}
use lib.Ieee.{Float}
use Rattle.demodulation.specs.Correlation.{places, advanced}
use Rattle.demodulation.specs.Timing.{ticked, sliced_bits, fresh_timing}
use Rattle.demodulation.specs.Pace.{numbered, boundaries, Paced}
use Rattle.demodulation.proofs.PaceLaws.{paced-tight, paced-wider}
use Rattle.demodulation.specs.Demod.{Demodulator, Step, fed, finished, step_of, fresh_demodulator, hearing, bits_at}
use Rattle.demodulation.proofs.DemodLaws.{step_waits, step-decodes, corr-after, step-kind}
use Rattle.demodulation.proofs.FreshLaws.{stays_open, next_place_lem, fills, stays-filled}
use Rattle.demodulation.specs.Symbols.{soft_of, ends_symbol, symbol_ends}
use Rattle.bell103.specs.declared.Role.{Role}
use Rattle.demodulation.specs.declared.kind.Kind.{Kind}
use Rattle.demodulation.specs.declared.kind.Kind.TheVariants.{ForBoard}
use Rattle.demodulation.specs.declared.timing.Timing.{Timing}
use Rattle.demodulation.specs.declared.correlator.Correlator.{Correlator}

-- ---- one sample
module _ (d : Demodulator) (s : Float) where
  pub ends-filled : (advanced d.corr).filled ≡ true → ends_symbol d s ≡ (ticked d.kind d.timing (soft_of d s)).boundary
  unfolding ends_symbol fed
  ends-filled e = rw e

  pub ends-waiting : (advanced d.corr).filled ≡ false → ends_symbol d s ≡ false
  unfolding ends_symbol fed
  ends-waiting e = rw e

  -- the timing ticks once the rings are filled, and not before
  timing-ticks : (advanced d.corr).filled ≡ true → (step_of d s).state.timing ≡ (ticked d.kind d.timing (soft_of d s)).state
  unfolding fed finished
  timing-ticks e = ap (λ (x : Step). x.state.timing) (step-decodes d s e)

  timing-waits : (advanced d.corr).filled ≡ false → (step_of d s).state.timing ≡ d.timing
  unfolding fed
  timing-waits e = ap (λ (x : Step). x.state.timing) (step_waits d s e)

  -- what `ends_symbol` says is what the slicer goes by: a bit for the deframer where a symbol ends and the detector is up
  pub bits-at-ends : bits_at d s ≡ sliced_bits (ends_symbol d s) (step_of d s).state.carrier.detected (soft_of d s)
  unfolding bits_at fed finished
  bits-at-ends = go (advanced d.corr).filled refl
    where
      go : (b : Bool) → (advanced d.corr).filled ≡ b → bits_at d s ≡ sliced_bits (ends_symbol d s) (step_of d s).state.carrier.detected (soft_of d s)
      go true e = rw (ends-filled e, step-decodes d s e, e)
      go false e = rw (ends-waiting e, e) (unfold sliced_bits in refl)

-- ---- filled rings
filled_on : (d : Demodulator) (s : Float) → (advanced d.corr).filled ≡ true → (advanced (step_of d s).state.corr).filled ≡ true
filled_on d s e = rw (corr-after d s) (stays-filled (advanced d.corr) e)

-- the soft decisions of a list of samples, all of which count
softs : Demodulator → List Float → List Float
softs d [] = []
softs d (s ∷ ss) = soft_of d s ∷ softs (step_of d s).state ss

softs-length : (d : Demodulator) (ss : List Float) → length (softs d ss) ≡ length ss
unfolding softs
softs-length d [] = refl
softs-length d (s ∷ ss) = omega (arith, softs-length (step_of d s).state ss)

-- the symbols are the timing's
ends-are : (d : Demodulator) (n : ℕ) (ss : List Float) → (advanced d.corr).filled ≡ true
    → symbol_ends d n ss ≡ boundaries d.kind d.timing n (softs d ss)
unfolding softs symbol_ends boundaries
ends-are d n [] e = refl
ends-are d n (s ∷ ss) e =
    rw (ends-filled d s e, ends-are (step_of d s).state (n + 1) ss (filled_on d s e), timing-ticks d s e, step-kind d s)

-- ---- from a fresh demodulator on
-- the rings are not filled yet: n samples came, and the timing is fresh
record Filling (kind : Kind) (n : ℕ) (d : Demodulator) : Type 0 where
  at : d.corr.pos ≡ n
  empty : d.corr.filled ≡ false
  timing : d.timing ≡ fresh_timing
  kind-is : d.kind ≡ kind

fresh-filling : (kind : Kind) (role : Role) → Filling kind 0 (fresh_demodulator kind role)
unfolding fresh_demodulator
fresh-filling kind role = record { at = refl; empty = refl; timing = refl; kind-is = refl }

module _ (kind : Kind) (n : ℕ) (d : Demodulator) (s : Float) (f : Filling kind n d) where
  -- the 27th sample fills them
  still-empty : n + 1 < places → (advanced d.corr).filled ≡ false
  still-empty h = stays_open d.corr f.empty (omega (arith, f.at))

  now-filled : places ≤ n + 1 → (advanced d.corr).filled ≡ true
  now-filled h = fills d.corr (omega (arith, f.at))

  next-at : n + 1 < places → (advanced d.corr).pos ≡ n + 1
  next-at h = next_place_lem d.corr (omega (arith, f.at)) ∙ ap (λ (k : ℕ). k + 1) f.at

  filling-on : n + 1 < places → Filling kind (n + 1) (step_of d s).state
  filling-on h =
      record {
        at = ap (λ (c : Correlator). c.pos) (corr-after d s) ∙ next-at h;
        empty = ap (λ (c : Correlator). c.filled) (corr-after d s) ∙ still-empty h;
        timing = timing-waits d s (still-empty h) ∙ f.timing;
        kind-is = step-kind d s ∙ f.kind-is;
      }

fresh-ends : (n : ℕ) (d : Demodulator) (ss : List Float) → (advanced d.corr).filled ≡ true → Filling ForBoard n d
    → symbol_ends d n ss ≡ boundaries ForBoard fresh_timing n (softs d ss)
fresh-ends n d ss u f =
    ends-are d n ss u
    ∙ ap (λ (k : Kind). boundaries k d.timing n (softs d ss)) f.kind-is
    ∙ ap (λ (t : Timing). boundaries ForBoard t n (softs d ss)) f.timing

filled-paced : (n : ℕ) (d : Demodulator) (ss : List Float) → n ≡ 26 → (advanced d.corr).filled ≡ true → Filling ForBoard n d
    → Paced 22 31 53 (n + length ss) (symbol_ends d n ss)
filled-paced n d ss e u f =
    rw (fresh-ends n d ss u f, ← softs-length d ss)
    (subst (λ (k : ℕ). Paced 22 31 k (n + length (softs d ss)) (boundaries ForBoard fresh_timing n (softs d ss))) (ap (λ (k : ℕ). k + 27) e) (paced-tight n (softs d ss)))

-- as tight as it is: the first symbol ends at sample 53, which is the 27th with filled rings
filling-paced : (ss : List Float) (n : ℕ) (d : Demodulator) → n < 27 → Filling ForBoard n d → Paced 22 31 53 (n + length ss) (symbol_ends d n ss)
unfolding symbol_ends
filling-paced [] n d h f = record { apart = tt; first = omega arith; next = tt }
filling-paced (s ∷ ss) n d h f = go (ltb (n + 1) places) refl (filling-paced ss (n + 1) (step_of d s).state)
  where
    count : n + 1 + length ss ≡ n + length (s ∷ ss)
    count = omega arith

    last : (n : ℕ) → n < 27 → 27 ≤ n + 1 → n ≡ 26
    last n h k = omega arith

    go : (b : Bool) → ltb (n + 1) places ≡ b → (n + 1 < places → Filling ForBoard (n + 1) (step_of d s).state → Paced 22 31 53 (n + 1 + length ss) (symbol_ends (step_of d s).state (n + 1) ss))
        → Paced 22 31 53 (n + length (s ∷ ss)) (symbol_ends d n (s ∷ ss))
    go true e ih =
        let l = ltb-true (n + 1) places e in
        rw (ends-waiting d s (still-empty ForBoard n d s f l), ← count) (ih l (filling-on ForBoard n d s f l))
    go false e ih = filled-paced n d (s ∷ ss) (last n h (ltb-false (n + 1) places e)) (now-filled ForBoard n d s f (ltb-false (n + 1) places e)) f

pub symbols-paced-tight : (role : Role) (ss : List Float) → Paced 22 31 53 (length ss) (symbol_ends (fresh_demodulator ForBoard role) 0 ss)
symbols-paced-tight role ss =
    subst (λ (n : ℕ). Paced 22 31 53 n (symbol_ends (fresh_demodulator ForBoard role) 0 ss)) (zero-add (length ss))
    (filling-paced ss 0 (fresh_demodulator ForBoard role) (omega arith) (fresh-filling ForBoard role))

-- "For every list of accepted samples from a fresh board on, neighbouring boundaries then lie 21 to 33 steps apart, and the first comes
-- within 32 steps of the ring filling", which sample 27 does
pub symbols-paced : (role : Role) (ss : List Float) → Paced 21 33 (27 + 32) (length ss) (symbol_ends (fresh_demodulator ForBoard role) 0 ss)
symbols-paced role ss = paced-wider 53 (27 + 32) (length ss) (symbol_ends (fresh_demodulator ForBoard role) 0 ss) (omega arith) (symbols-paced-tight role ss)

-- ---- one list after another
pub ends-none : (d : Demodulator) (n : ℕ) → symbol_ends d n [] ≡ []
unfolding symbol_ends
ends-none d n = refl

pub ends-append : (d : Demodulator) (n : ℕ) (xs ys : List Float) → symbol_ends d n (xs ++ ys) ≡ symbol_ends d n xs ++ symbol_ends (hearing d xs).after (n + length xs) ys
unfolding symbol_ends hearing
ends-append d n [] ys = rw (add-zero n)
ends-append d n (x ∷ xs) ys =
    ap (numbered (ends_symbol d x) (n + 1)) (ends-append (step_of d x).state (n + 1) xs ys)
    ∙ in-front (ends_symbol d x) (n + 1) (symbol_ends (step_of d x).state (n + 1) xs) (symbol_ends (hearing (step_of d x).state xs).after (n + 1 + length xs) ys)
    ∙ ap (λ (k : ℕ). numbered (ends_symbol d x) (n + 1) (symbol_ends (step_of d x).state (n + 1) xs) ++ symbol_ends (hearing (step_of d x).state xs).after k ys) (count n (length xs))
  where
    in-front : (b : Bool) (k : ℕ) (us vs : List ℕ) → numbered b k (us ++ vs) ≡ numbered b k us ++ vs
    in-front true k us vs = refl
    in-front false k us vs = refl

    count : (n k : ℕ) → n + 1 + k ≡ n + suc k
    count n k = omega arith
