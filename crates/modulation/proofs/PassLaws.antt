-- "`read` fills the lent slice whole": an accepted read leaves nothing of what the slice held, and the passes that it may take are enough.
-- Assumes nothing.
use Prim.Native.Nat.{ℕ, zero, suc, ◌+◌, ◌-◌, ◌*◌, ◌^◌, ◌<◌, ◌≤◌}
use mathlib.Core.Path.{◌≡◌, refl, sym, ap, ◌∙◌, subst}
use mathlib.Core.Bool.{Bool, true, false}
use mathlib.Core.List.{List, []}
use native.Mathlib.Omega.{arith}
use lib.Dec.{ltb}
use borrow.Author.Tests.{ltb-true, ltb-false}
use lib.ListN.{length, length-take, length-map, length-append}
use lib.Ieee.{Float}
use Rattle.refusal.specs.Refusals.{given, highest_rate}
use Rattle.resampling.specs.Resample.{State}
use Rattle.resampling.specs.ResampleRep.{state_of}
use Rattle.bell103.specs.declared.TonePair.{TonePair}
use Rattle.modulation.specs.Tone.{Keyer}
use Rattle.modulation.specs.Modulator.{Modulator, modulator, Passed, handed, batch, pass}
use Rattle.modulation.specs.Tx.{Sender, pass_then, passes, filled_by, filled, Reading, read_refused, unless_refused, filled_for, read_of}
use Rattle.modulation.specs.TxRep.{modulator_of, sender_of, Fed, TxSound}
use Rattle.modulation.specs.declared.tx.Tx.{Tx}
use Rattle.modulation.proofs.Tones.{generated-length}
use Rattle.modulation.proofs.Filling.{Brings, brings, fed-weaker, none_left}
use Rattle.modulation.proofs.Equal.{pass-equal}
use Rattle.modulation.proofs.Calls.{none-refused}

-- ---- passes, from a modulator whose resampler goes up from 8,000 to its rate
-- j samples or more went into the resampler, and `most` at most
record Ready (j most : ℕ) (m : Modulator) : Type 0 where
  low : 8000 ≤ m.rate
  high : m.rate ≤ highest_rate
  src : m.resampler.src ≡ 8000
  dst : m.resampler.dst ≡ m.rate
  fed : Fed j most m.resampler

-- n passes fill r places, and a higher bound changes nothing
record Enough (n r : ℕ) (m : Modulator) : Type 0 where
  full : length (passes n m r).samples ≡ r
  more : (b : ℕ) → n ≤ b → passes b m r ≡ passes n m r

pass-within : (m : Modulator) (r : ℕ) → length (pass m r).samples ≤ r
unfolding pass handed
pass-within m r = simp length-take (omega arith)

-- a pass for r samples, and enough passes for those that are left
and_then : (n r : ℕ) (m : Modulator) → Enough n (suc r - length (pass m (suc r)).samples) (pass m (suc r)).after → Enough (suc n) (suc r) m
unfolding passes
and_then n r m e =
    let p = pass m (suc r) in
    record { full = simp length-append (omega (arith, e.full, pass-within m (suc r))); more = more }
  where
    more : (b : ℕ) → suc n ≤ b → passes b m (suc r) ≡ passes (suc n) m (suc r)
    more zero h = absurd (omega arith)
    more (suc b) h = ap (pass_then (pass m (suc r))) (e.more b (omega arith))

none-enough : (n : ℕ) (m : Modulator) → Enough n 0 m
none-enough n m = record { full = rw none_left; more = λ b h. none_left b m ∙ sym (none_left n m) }

-- a pass goes on from what went into the resampler
module _ (j most r : ℕ) (m : Modulator) (low : 8000 < m.rate) (k : Ready j most m) (R : 1 ≤ r) (R' : r ≤ 1024) (few : most + 1025 < 2 ^ 51) where
  passed-brings : Brings j (most + 1025) (pass m r).after.resampler (length (pass m r).samples)
  unfolding pass handed batch
  passed-brings =
      brings m.rate low k.high j most r R R' few m.tones m.keyer m.resampler m.amplitude k.src k.dst k.fed

  ready_on : (i : ℕ) → i ≤ j + 1 → Ready i (most + 1025) (pass m r).after
  unfolding pass handed batch
  ready_on i h =
      record { low = k.low; high = k.high; src = k.src; dst = k.dst; fed = fed-weaker h (omega arith) passed-brings.fed-on }

same-rate : (m : Modulator) (r : ℕ) → (pass m r).after.rate ≡ m.rate
unfolding pass handed batch
same-rate m r = refl

-- after a pass a place less is left, or, where nothing had gone into the resampler before, one did
module _ (n j most r c : ℕ) (m : Modulator) (R : 1 ≤ r) (J : j ≤ 1) (e : r + 1 ≤ suc n + j) (some : 1 ≤ j → 1 ≤ c) (ready : (i : ℕ) → i ≤ j + 1 → Ready i most m)
    (on : (i : ℕ) → Ready i most m → i ≤ 1 → r - c + 1 ≤ n + i → Enough n (r - c) m) where
  nearer : Enough n (r - c) m
  nearer = go (ltb 0 c) refl
    where
      under : (i : ℕ) → (1 ≤ i → ⊥) → i ≤ 0
      under i g = omega arith

      go : (x : Bool) → ltb 0 c ≡ x → Enough n (r - c) m
      go true x = let one = ltb-true 0 c x in on j (ready j (omega arith)) J (omega arith)
      go false x =
          let none : c ≤ 0 = ltb-false 0 c x in
          let first : j ≤ 0 = under j (λ h. let one = some h in omega arith) in
          on 1 (ready 1 (omega arith)) (omega arith) (omega arith)

-- at higher rates: n passes are enough wherever n - 1 are, after one pass more
abbrev Rises : ℕ → ℕ → Type 0
Rises n most = (j r : ℕ) (m : Modulator) → 8000 < m.rate → Ready j most m → j ≤ 1 → r ≤ 1024 → r + 1 ≤ n + j → Enough n r m

pass-more : (n most : ℕ) → most + 1025 < 2 ^ 51 → Rises n (most + 1025) → Rises (suc n) most
pass-more n most few on j zero m low k J R e = none-enough (suc n) m
pass-more n most few on j (suc r) m low k J R e =
    let p = pass m (suc r) in
    and_then n r m
    (nearer n j (most + 1025) (suc r) (length p.samples) p.after (omega arith) J e
    (passed-brings j most (suc r) m low k (omega arith) R few).some
    (ready_on j most (suc r) m low k (omega arith) R few)
    (λ i q I left. on i (suc r - length p.samples) p.after (rw (same-rate m (suc r)) low) q I (omega arith) left))

none-rises : (most : ℕ) → Rises 0 most
none-rises most j zero m low k J R e = none-enough 0 m
none-rises most j (suc r) m low k J R e = absurd (omega arith)

rising-enough : (n most : ℕ) → most + 1025 * n < 2 ^ 51 → Rises n most
rising-enough zero most few = none-rises most
rising-enough (suc n) most few = pass-more n most (omega arith) (rising-enough n (most + 1025) (omega arith))

-- at 8,000 one pass fills the rest
equal-whole : (rate r : ℕ) (t : TonePair) (q : Keyer) (s : State) (a : Float) → rate ≡ 8000 → s.src ≡ 8000 → s.dst ≡ 8000
    → length (pass (modulator rate t q s [] a) r).samples ≡ r
equal-whole rate r t q s a e src dst =
    subst (λ (x : ℕ). length (pass (modulator x t q s [] a) r).samples ≡ r) (sym e)
    (ap (λ (p : Passed). length p.samples) (pass-equal t q s a r src dst)
    ∙ simp (length-take, length-map) (omega (arith, generated-length (r + 1) t q)))

equal-left : (r most : ℕ) (m : Modulator) → m.rate ≡ 8000 → Ready 0 most m → r - length (pass m r).samples ≡ 0
unfolding pass handed batch
equal-left r most m e k = omega (arith, equal-whole m.rate r m.tones m.keyer m.resampler m.amplitude e k.src (k.dst ∙ e))

equal-enough : (n r most : ℕ) (m : Modulator) → m.rate ≡ 8000 → Ready 0 most m → 1 ≤ n → Enough n r m
equal-enough n zero most m e k h = none-enough n m
equal-enough zero (suc r) most m e k h = absurd (omega arith)
equal-enough (suc n) (suc r) most m e k h = and_then n r m (rw (equal-left (suc r) most m e k) (none-enough n (pass m (suc r)).after))

enough : (n r most : ℕ) (m : Modulator) → Ready 0 most m → r ≤ n → n ≤ 1024 → most + 1025 * (n + 1) < 2 ^ 51 → Enough (n + 1) r m
enough n r most m k h N few = go (ltb 8000 m.rate) refl
  where
    go : (x : Bool) → ltb 8000 m.rate ≡ x → Enough (n + 1) r m
    go true x = rising-enough (n + 1) most few 0 r m (ltb-true _ _ x) k (omega arith) (omega arith) (omega arith)
    go false x = let l : m.rate ≤ 8000 = ltb-false _ _ x in equal-enough (n + 1) r most m (omega (arith, k.low)) k (omega arith)

-- ---- the laws, of every state that a fresh sender and its calls gave
module _ (t : Tx) (u : TxSound t) (n : ℕ) (N : n ≤ 1024) where
  abbrev first : Passed
  first = handed (modulator_of t) n

  left : Enough (n + 1) (n - length first.samples) first.after
  unfolding modulator_of handed state_of
  left =
      enough n _ (2050 * t.served) _
      (record { low = u.rising.low; high = u.rising.high; src = u.rising.src; dst = u.rising.dst; fed = u.fed }) (omega arith) N
      (omega (arith, u.few))

  first-within : length first.samples ≤ n
  unfolding handed
  first-within = simp length-take (omega arith)

  -- the passes after the pending samples, the slice's length and one of them at most, fill it whole
  pub filled-whole : length (filled (modulator_of t) n).samples ≡ n
  unfolding filled
  filled-whole = simp length-append (omega (arith, left.full, first-within))

  -- "passes ≤ length + 2" cuts nothing off: with any higher bound samples, state and number of passes are the same
  pub bound-enough : (most : ℕ) → n + 1 ≤ most → filled_by most (modulator_of t) n ≡ filled (modulator_of t) n
  unfolding filled
  bound-enough most h = ap (pass_then first) (left.more most h)

passes-within : (n r : ℕ) (m : Modulator) → (passes n m r).passes ≤ n
unfolding passes
passes-within zero r m = omega arith
passes-within (suc n) zero m = omega arith
passes-within (suc n) (suc r) m = omega (arith, passes-within n (suc r - length (pass m (suc r)).samples) (pass m (suc r)).after)

-- "passes ≤ length + 2"
pub filled-few : (m : Modulator) (n : ℕ) → (filled m n).passes ≤ n + 2
unfolding filled
filled-few m n = omega (arith, passes-within (n + 1) (n - length (handed m n).samples) (handed m n).after)

-- ---- an accepted read
accepted-is : (s : Sender) (out : List Float) → (read_of s out).answer ≡ given tt → (read_refused s.served (length out) ≡ 0) × (read_of s out ≡ filled_for s (length out))
unfolding read_of
accepted-is s out e = go (read_refused s.served (length out)) e
  where
    go : (k : ℕ) → (unless_refused k s out (filled_for s (length out))).answer ≡ given tt → (k ≡ 0) × (unless_refused k s out (filled_for s (length out)) ≡ filled_for s (length out))
    go zero e = (refl, refl)
    go (suc k) e = let z : ◌≡◌ {A = ℕ} 0 1 = cc in absurd (omega arith)

-- fills the slice whole, each sample from the definition
pub read_whole : (t : Tx) → TxSound t → (out : List Float) → (read_of (sender_of t) out).answer ≡ given tt
    → (length (read_of (sender_of t) out).out ≡ length out) × ((read_of (sender_of t) out).out ≡ (filled (modulator_of t) (length out)).samples)
unfolding sender_of
read_whole t u out e =
    let a = accepted-is (sender_of t) out e in
    let few = none-refused t.served (length out) a.0 in
    let is : (read_of (sender_of t) out).out ≡ (filled (modulator_of t) (length out)).samples = ap (λ (x : Reading). x.out) a.1 in
    (ap length is ∙ filled-whole t u (length out) few.0, is)

-- nothing is left of what the slice held: whatever that was, the answer, the passes, the state and the samples are the same
pub read-anew : (s : Sender) (out other : List Float) → length other ≡ length out → (read_of s out).answer ≡ given tt → read_of s other ≡ read_of s out
unfolding read_of
read-anew s out other e a =
    let k = accepted-is s out a in
    rw (e, k.0)
