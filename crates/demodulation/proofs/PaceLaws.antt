-- "Timing held within one symbol": whatever the soft decisions are, a board's boundaries keep their pace. The phase behind a boundary is
-- from -0.15 to 0.1875 and a little, each step adds 0.0375, and all of that keeps the order of floats; so how long the least and the
-- greatest phase take to reach 1.0, worked out in f64, says how long any phase between them takes. Assumes nothing.
use Prim.Native.Nat.{ℕ, zero, suc, ◌+◌, ◌≤◌, ◌<◌}
use mathlib.Core.Path.{◌≡◌, refl, ◌∙◌, subst}
use mathlib.Core.Bool.{Bool, true, false, not, ◌&&◌}
use mathlib.Core.Logic.{inl, inr}
use mathlib.Core.List.{List, [], ◌∷◌}
use native.Mathlib.Omega.{arith}
use lib.Dec.{T, ltb}
use lib.ListN.{length}
use borrow.Author.Tests.{ltb-true, ltb-false}
use lib.Ieee.{Float, of_bits, of_int, neg, add, sub, mul, div, lt, le, eq}
use lib.Ieee.Scale.{finite}
use Rattle.numeric.specs.F64.{◌⊕◌, ◌⊖◌, ◌⊗◌, ◌⊘◌, ◌≤ᶠ◌, f64, zero64, one64}
use Rattle.std.specs.Bool.{if◌then◌else◌}
use Rattle.numeric.proofs.Tested.{at-number, both_left, both_right}
use Rattle.numeric.specs.Bounds.{non_negative}
use Rattle.numeric.proofs.Signed.{le-through, le-other, add-mono, le-self}
use Rattle.numeric.specs.Interval.{Within}
use Rattle.numeric.proofs.IntervalLaws.{within-finite, within-self, within_wider, within-reaches, within-short, within-add, within-sub, within-scale}
use Rattle.bell103.specs.Roles.{samples_per_symbol}
use Rattle.demodulation.specs.Timing.{error_of, held_error, moved_by, gardner_gain, next_phase, crossed, residue_of, bounded, fresh_timing}
use Rattle.demodulation.specs.Pace.{boundaries, Apart, FirstBy, NextBy, Paced, Between}
use Rattle.demodulation.proofs.TimingLaws.{crossed-phase, crossed-inc, tick-ends, tick-goes-on}
use Rattle.demodulation.specs.declared.kind.Kind.TheVariants.{ForBoard}
use Rattle.demodulation.specs.declared.timing.Timing.{Timing}

-- ---- a board's error
-- from -1.0 to 1.0, whatever it was held from
pub held-within : (e : Float) → Within (neg one64) one64 (held_error e)
unfolding held_error neg of_bits le lt eq
held-within e = go (e ≤ᶠ one64) refl (neg one64 ≤ᶠ e) refl
  where
    go : (p : Bool) → e ≤ᶠ one64 ≡ p → (q : Bool) → neg one64 ≤ᶠ e ≡ q
        → Within (neg one64) one64 (if p then (if q then e else neg one64) else one64)
    go true h true k = record { least = tt; most = tt; low = rw k tt; high = rw h tt }
    go true h false k = record { least = tt; most = tt; low = tt; high = tt }
    go false h q k = record { least = tt; most = tt; low = tt; high = tt }

-- one that is from -1.0 to 1.0 is left as it is
pub held_same : (e : Float) → Within (neg one64) one64 e → held_error e ≡ e
unfolding held_error
held_same e w = go (e ≤ᶠ one64) (neg one64 ≤ᶠ e) w.high w.low
  where
    go : (p q : Bool) → T p → T q → (if p then (if q then e else neg one64) else one64) ≡ e
    go true true h k = refl
    go true false h k = absurd k
    go false q h k = absurd h

-- ---- the numbers
-- what each step adds to the phase: 1.0 / (8000.0 / 300.0), which is 0.0375
abbrev pub tick_step : Float
tick_step = one64 ⊘ samples_per_symbol

-- the least phase behind a boundary, -0.15, and the greatest, 0.18750000000000008
abbrev pub least_phase : Float
least_phase = f64 0xBFC3_3333_3333_3333

abbrev pub most_phase : Float
most_phase = f64 0x3FC8_0000_0000_0003

-- the phase at a boundary is below this one
abbrev top_phase : Float
top_phase = one64 ⊕ tick_step

record Numbers : Type 0 where
  one : T (finite one64)
  step : T (finite tick_step)
  top : T (finite top_phase)
  gain : T (non_negative gardner_gain)
  -- 0.15 times an error from -1.0 to 1.0
  gain-low : T (finite (gardner_gain ⊗ neg one64))
  gain-high : T (finite (gardner_gain ⊗ one64))
  -- 1.0 less than the phase at a boundary
  rest-low : T (finite (one64 ⊖ one64))
  rest-high : T (finite (top_phase ⊖ one64))
  -- with the error, and without
  sum_low : T (finite (one64 ⊖ one64 ⊕ gardner_gain ⊗ neg one64))
  sum-high : T (finite (top_phase ⊖ one64 ⊕ gardner_gain ⊗ one64))
  least : T (finite least_phase)
  most : T (finite most_phase)
  least-sum : T (least_phase ≤ᶠ one64 ⊖ one64 ⊕ gardner_gain ⊗ neg one64)
  most-sum : T (top_phase ⊖ one64 ⊕ gardner_gain ⊗ one64 ≤ᶠ most_phase)
  least-rest : T (least_phase ≤ᶠ one64 ⊖ one64)
  most-rest : T (top_phase ⊖ one64 ≤ᶠ most_phase)
  most-under : T (most_phase ≤ᶠ one64)
  zero-finite : T (finite zero64)
  zero-under : T (zero64 ≤ᶠ one64)
  least_zero : T (least_phase ≤ᶠ zero64)
  least_on : T (finite (least_phase ⊕ tick_step))
  least_step : T (least_phase ≤ᶠ least_phase ⊕ tick_step)

numbers : Numbers
unfolding of_bits of_int neg add sub mul div le lt eq
numbers =
    record {
      one = tt;
      step = tt;
      top = tt;
      gain = tt;
      gain-low = tt;
      gain-high = tt;
      rest-low = tt;
      rest-high = tt;
      sum_low = tt;
      sum-high = tt;
      least = tt;
      most = tt;
      least-sum = tt;
      most-sum = tt;
      least-rest = tt;
      most-rest = tt;
      most-under = tt;
      zero-finite = tt;
      zero-under = tt;
      least_zero = tt;
      least_on = tt;
      least_step = tt;
    }

-- ---- the phase behind a boundary
residue-within : (t : Timing) (soft : Float) → Within one64 top_phase t.sym_phase → Within least_phase most_phase (residue_of ForBoard t soft)
residue-within t soft w = go t.have_mid
  where
    rest : Within (one64 ⊖ one64) (top_phase ⊖ one64) (t.sym_phase ⊖ one64)
    rest = within-sub numbers.rest-low numbers.rest-high w (within-self one64 numbers.one)

    go : (b : Bool) → Within least_phase most_phase (if b then moved_by (t.sym_phase ⊖ one64) (held_error (error_of soft t.last_sym t.mid_sym)) else t.sym_phase ⊖ one64)
    go true =
        within_wider least_phase most_phase numbers.least numbers.most numbers.least-sum numbers.most-sum
        (within-add numbers.sum_low numbers.sum-high rest
        (within-scale gardner_gain numbers.gain numbers.gain-low numbers.gain-high (held-within (error_of soft t.last_sym t.mid_sym))))
    go false = within_wider least_phase most_phase numbers.least numbers.most numbers.least-rest numbers.most-rest rest

-- ---- from boundary to boundary
-- the phase k steps on, where none of them is a boundary
ran : Float → ℕ → Float
ran p zero = p
ran p (suc k) = ran p k ⊕ tick_step

-- of the phases from lo to hi none reaches 1.0 in fewer than `least` steps, and each does in `most`
record Span (lo hi : Float) (least most : ℕ) : Type 0 where
  ends : (k : ℕ) → k < suc most → T (finite (ran lo k) && finite (ran hi k))
  short : (k : ℕ) → k < least → T (not (one64 ≤ᶠ ran hi k))
  reaches : T (one64 ≤ᶠ ran lo most)

-- worked out: behind a boundary 22 to 31 steps, and 27 for a fresh timing
span : Span least_phase most_phase 22 31
unfolding ran of_bits of_int add div le lt eq
span =
    record {
      ends = at-number 32 (λ k. finite (ran least_phase k) && finite (ran most_phase k)) tt;
      short = at-number 22 (λ k. not (one64 ≤ᶠ ran most_phase k)) tt;
      reaches = tt;
    }

span-fresh : Span zero64 zero64 27 27
unfolding ran of_bits of_int add div le lt eq
span-fresh =
    record {
      ends = at-number 28 (λ k. finite (ran zero64 k) && finite (ran zero64 k)) tt;
      short = at-number 27 (λ k. not (one64 ≤ᶠ ran zero64 k)) tt;
      reaches = tt;
    }

-- a timing k steps behind a boundary, or behind the start, whose phase was then from lo to hi
record Running (lo hi : Float) (k : ℕ) (t : Timing) : Type 0 where
  step : t.sym_inc ≡ tick_step
  phase : Within (ran lo k) (ran hi k) t.sym_phase
  under : T (t.sym_phase ≤ᶠ one64)

running-fresh : Running zero64 zero64 0 fresh_timing
unfolding ran
running-fresh = record { step = refl; phase = within-self zero64 numbers.zero-finite; under = numbers.zero-under }

module _ (lo hi : Float) (least most : ℕ) (S : Span lo hi least most) (t : Timing) (soft : Float) (k : ℕ) (h : k < most) (r : Running lo hi k t) where
  -- the phase one step on
  on : Within (ran lo (suc k)) (ran hi (suc k)) (next_phase t)
  unfolding ran
  on =
      let f = S.ends (suc k) (omega arith) in
      rw r.step
      (within-add (both_left (finite (ran lo (suc k))) (finite (ran hi (suc k))) f) (both_right (finite (ran lo (suc k))) (finite (ran hi (suc k))) f)
      r.phase (within-self tick_step numbers.step))

  -- at a boundary
  at_top : T (one64 ≤ᶠ next_phase t) → Within one64 top_phase (next_phase t)
  at_top e =
      record {
        least = numbers.one;
        most = numbers.top;
        low = e;
        high =
            rw r.step
            (add-mono t.sym_phase one64 tick_step tick_step (within-finite r.phase) numbers.one numbers.step numbers.step
            r.under (le-self tick_step numbers.step));
      }

  -- no boundary before its time, and none missed
  not-early : (one64 ≤ᶠ next_phase t) ≡ true → least ≤ suc k
  not-early e = go (ltb (suc k) least) refl
    where
      go : (b : Bool) → ltb (suc k) least ≡ b → least ≤ suc k
      go true u = absurd (within-short one64 numbers.one (S.short (suc k) (ltb-true (suc k) least u)) on (rw e tt))
      go false u = ltb-false (suc k) least u

  not_late : (one64 ≤ᶠ next_phase t) ≡ false → suc k < most
  not_late e = go (ltb (suc k) most) refl
    where
      same : (k most : ℕ) → k < most → most ≤ suc k → most ≡ suc k
      same k most h u = omega arith

      go : (b : Bool) → ltb (suc k) most ≡ b → suc k < most
      go true u = ltb-true (suc k) most u
      go false u =
          absurd (subst T e (within-reaches one64 numbers.one
          (subst (λ (n : ℕ). T (one64 ≤ᶠ ran lo n)) (same k most h (ltb-false (suc k) most u)) S.reaches) on))

  -- the timing after either
  running-on : (one64 ≤ᶠ next_phase t) ≡ false → Running lo hi (suc k) (crossed t soft)
  running-on e =
      record {
        step = crossed-inc t soft ∙ r.step;
        phase = rw (crossed-phase t soft) on;
        under = rw (crossed-phase t soft) (le-other one64 (next_phase t) numbers.one (within-finite on) e);
      }

  running-anew : (one64 ≤ᶠ next_phase t) ≡ true → Running least_phase most_phase 0 (bounded ForBoard (crossed t soft) soft)
  unfolding ran bounded
  running-anew e =
      let w = residue-within (crossed t soft) soft (rw (crossed-phase t soft) (at_top (rw e tt))) in
      record {
        step = crossed-inc t soft ∙ r.step;
        phase = w;
        under = le-through (residue_of ForBoard (crossed t soft) soft) most_phase one64 (within-finite w) numbers.most numbers.one w.high numbers.most-under;
      }

-- ---- over a list
-- the boundaries among n steps, where the first is due from step `from` to step `to`, and each later one 22 to 31 steps behind the one before
abbrev Due : ℕ → ℕ → ℕ → List ℕ → Type 0
Due from to n [] = n < to
Due from to n (b ∷ rest) = (from ≤ b) × (b ≤ to) × Due (b + 22) (b + 31) n rest

-- from any timing on that is k steps behind a boundary, which was step b
abbrev Goes : List Float → Type 0
Goes softs =
    (lo hi : Float) (least most : ℕ) → Span lo hi least most → (t : Timing) (n b k : ℕ) → n ≡ b + k → k < most → Running lo hi k t
    → Due (b + least) (b + most) (n + length softs) (boundaries ForBoard t n softs)

goes_none : Goes []
unfolding boundaries
goes_none lo hi least most S t n b k e h r = omega arith

goes_one : (soft : Float) (softs : List Float) → Goes softs → Goes (soft ∷ softs)
unfolding boundaries
goes_one soft softs ih lo hi least most S t n b k e h r = go (one64 ≤ᶠ next_phase t) refl
  where
    count : n + 1 + length softs ≡ n + length (soft ∷ softs)
    count = omega arith

    go : (p : Bool) → (one64 ≤ᶠ next_phase t) ≡ p → Due (b + least) (b + most) (n + length (soft ∷ softs)) (boundaries ForBoard t n (soft ∷ softs))
    go true u =
        rw (tick-ends ForBoard t soft u, ← count) (
          omega (arith, not-early lo hi least most S t soft k h r u),
          omega arith,
          ih least_phase most_phase 22 31 span (bounded ForBoard (crossed t soft) soft) (n + 1) (n + 1) 0 (omega arith) (omega arith) (running-anew lo hi least most S t soft k h r u),
        )
    go false u =
        rw (tick-goes-on ForBoard t soft u, ← count)
        (ih lo hi least most S (crossed t soft) (n + 1) b (suc k) (omega arith) (not_late lo hi least most S t soft k h r u) (running-on lo hi least most S t soft k h r u))

goes : (softs : List Float) → Goes softs
goes [] = goes_none
goes (soft ∷ softs) = goes_one soft softs (goes softs)

-- ---- the claim
due-apart : (a n : ℕ) (rest : List ℕ) → Due (a + 22) (a + 31) n rest → Apart 22 31 (a ∷ rest)
due-apart a n [] d = tt
due-apart a n (b ∷ rest) d = (d.0, d.1, due-apart b n rest d.2)

due-next : (a n : ℕ) (rest : List ℕ) → Due (a + 22) (a + 31) n rest → NextBy 31 n (a ∷ rest)
due-next a n [] d = d
due-next a n (b ∷ rest) d = due-next b n rest d.2

due-paced : (from to n : ℕ) (numbers : List ℕ) → Due from to n numbers → Paced 22 31 to n numbers
due-paced from to n [] d = record { apart = tt; first = d; next = tt }
due-paced from to n (a ∷ rest) d = record { apart = due-apart a n rest d.2; first = d.1; next = due-next a n rest d.2 }

-- as tight as it is: neighbours 22 to 31 steps apart, the first at step 27, behind n others
pub paced-tight : (n : ℕ) (softs : List Float) → Paced 22 31 (n + 27) (n + length softs) (boundaries ForBoard fresh_timing n softs)
paced-tight n softs =
    due-paced (n + 27) (n + 27) (n + length softs) (boundaries ForBoard fresh_timing n softs)
    (goes softs zero64 zero64 27 27 span-fresh fresh_timing n n 0 (omega arith) (omega arith) running-fresh)

apart-wider : (xs : List ℕ) → Apart 22 31 xs → Apart 21 33 xs
apart-wider [] h = tt
apart-wider (a ∷ []) h = tt
apart-wider (a ∷ b ∷ rest) h = (omega (arith, h.0), omega (arith, h.1), apart-wider (b ∷ rest) h.2)

first-wider : (limit more steps : ℕ) (xs : List ℕ) → limit ≤ more → FirstBy limit steps xs → FirstBy more steps xs
first-wider limit more steps [] l h = omega arith
first-wider limit more steps (a ∷ rest) l h = omega arith

next-wider : (steps : ℕ) (xs : List ℕ) → NextBy 31 steps xs → NextBy 33 steps xs
next-wider steps [] h = tt
next-wider steps (a ∷ []) h = omega arith
next-wider steps (a ∷ b ∷ rest) h = next-wider steps (b ∷ rest) h

-- to the bounds asked for
pub paced-wider : (limit more steps : ℕ) (numbers : List ℕ) → limit ≤ more → Paced 22 31 limit steps numbers → Paced 21 33 more steps numbers
paced-wider limit more steps numbers l p =
    record { apart = apart-wider numbers p.apart; first = first-wider limit more steps numbers l p.first; next = next-wider steps numbers p.next }

-- "neighbouring boundaries then lie 21 to 33 steps apart, and the first comes within 32 steps", for every list of soft decisions, NaNs and
-- infinities too; and however long the list, a boundary is never more than 33 steps off
pub paced : (n : ℕ) (softs : List Float) → Paced 21 33 (n + 32) (n + length softs) (boundaries ForBoard fresh_timing n softs)
paced n softs = paced-wider (n + 27) (n + 32) (n + length softs) (boundaries ForBoard fresh_timing n softs) (omega arith) (paced-tight n softs)

-- ---- a board is never deaf for want of a boundary
goes_by : (least most steps m a : ℕ) (rest : List ℕ) → Apart least most (a ∷ rest) → NextBy most steps (a ∷ rest) → a ≤ m + most → m + most ≤ steps
    → Between m (m + most) (a ∷ rest)
goes_by least most steps m a [] p q h l = inl (omega (arith, q), h)
goes_by least most steps m a (b ∷ rest) p q h l =
    go (ltb m a) refl (λ u. goes_by least most steps m b rest p.2 q (omega (arith, u, p.1)) l)
  where
    go : (t : Bool) → ltb m a ≡ t → (a ≤ m → Between m (m + most) (b ∷ rest)) → Between m (m + most) (a ∷ b ∷ rest)
    go true u later = inl (ltb-true m a u, h)
    go false u later = inr (later (ltb-false m a u))

-- of the steps from the one behind step m on, so many as neighbours are apart at the most have a boundary among them
pub never-silent : (least most limit steps : ℕ) (numbers : List ℕ) → Paced least most limit steps numbers
    → (m : ℕ) → limit ≤ m + most → m + most ≤ steps → Between m (m + most) numbers
never-silent least most limit steps [] p m l h = absurd (omega (arith, p.first))
never-silent least most limit steps (a ∷ rest) p m l h = goes_by least most steps m a rest p.apart p.next (omega (arith, p.first)) h
