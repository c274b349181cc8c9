-- What the sender's calls answer, from what their parts ensure. Assumes nothing.
use Rattle.refusal.specs.declared.Refusal.{Refusal}
use Rattle.std.specs.Prelude.{Result, Ok, Err, is_ok}
use Prim.Native.Nat.{ℕ, zero, suc, ◌+◌, ◌*◌, ◌≤◌, ◌<◌}
use mathlib.Core.Path.{◌≡◌, refl, sym, ap, ◌∙◌}
use mathlib.Core.Bool.{Bool, true, false, ◌||◌, true≢false}
use mathlib.Core.List.{List}
use native.Mathlib.Omega.{arith}
use lib.Dec.{ltb}
use borrow.Author.Tests.{lt-ltb, le-ltb, ltb-false}
use lib.ListN.{length}
use lib.Ieee.{Float}
use Rattle.refusal.specs.Refusals.{Reply, given, first, reply_of, reply_in, rate_refused, rates_refused, highest_rate}
use Rattle.modulation.specs.Bits.{queued}
use Rattle.resampling.specs.Resample as resample
use Rattle.resampling.proofs.Place.{start-reached}
use Rattle.modulation.specs.Tx.{sender, reading, read_refused, read_of, bits_wait}
use Rattle.modulation.specs.TxRep.{Fed, sender_of, FillsWhole}
use Rattle.modulation.specs.declared.tx.Tx.{Tx}

-- ---- a fresh resampler up from 8,000
one-rate : (rate : ℕ) → rate_refused rate ≡ false → rates_refused 8000 rate ≡ false
unfolding rates_refused rate_refused
one-rate rate e = rw e

pub fresh-resampler : (rate : ℕ) → rate_refused rate ≡ false → (a : Reply Unit) (s : resample.State) → resample.made a s ≡ resample.new_of 8000 rate → s ≡ resample.fresh 8000 rate
unfolding resample.new_of
fresh-resampler rate e a s m =
    let is : resample.new_of 8000 rate ≡ resample.made (given tt) (resample.fresh 8000 rate) = rw (one-rate rate e) in
    ap (λ (x : resample.Made). x.state) (m ∙ is)

pub fresh-rates : (rate : ℕ) → ((resample.fresh 8000 rate).src ≡ 8000) × ((resample.fresh 8000 rate).dst ≡ rate)
unfolding resample.fresh
fresh-rates rate = (refl, refl)

pub fresh-fed : (rate : ℕ) (s : resample.State) → s ≡ resample.fresh 8000 rate → Fed 0 (2050 * 0) s
unfolding resample.fresh
fresh-fed rate s e = rw e (record { count = 0; reached = start-reached _; at_least = omega arith; at_most = omega arith })

neither : (a b : Bool) → a || b ≡ false → (a ≡ false) × (b ≡ false)
neither true b e = absurd (true≢false e)
neither false b e = (refl, e)

pub in-range : (rate : ℕ) → rate_refused rate ≡ false → (8000 ≤ rate) × (rate ≤ highest_rate)
unfolding rate_refused
in-range rate e = let p = neither (ltb rate 8000) (ltb highest_rate rate) e in (ltb-false _ _ p.0, ltb-false _ _ p.1)

-- ---- `read`
pub none-refused : (served n : ℕ) → read_refused served n ≡ 0 → (n ≤ 1024) × (served + n ≤ 4294967296)
unfolding read_refused first
none-refused served n e = go (ltb 1024 n) refl (ltb 4294967296 (served + n)) refl e
  where
    go : (a : Bool) → ltb 1024 n ≡ a → (b : Bool) → ltb 4294967296 (served + n) ≡ b → first a 3 (first b 31 0) ≡ 0 → (n ≤ 1024) × (served + n ≤ 4294967296)
    go true f b g e = absurd (omega arith)
    go false f true g e = absurd (omega arith)
    go false f false g e = (ltb-false _ _ f, ltb-false _ _ g)

pub never-refused : (served n : ℕ) → n ≤ 1024 → served + n ≤ 4294967296 → read_refused served n ≡ 0
unfolding read_refused first
never-refused served n h k = rw (le-ltb 1024 n h, le-ltb 4294967296 (served + n) k)

pub read-filled : (t t' : Tx) (o o' : List Float) (n : ℕ) (a : Result Unit Refusal) → read_refused t.served (length o) ≡ 0
    → FillsWhole t (length o) o' a n t' → reading (reply_in a) n (sender_of t') o' ≡ read_of (sender_of t) o
unfolding read_of sender_of
read-filled t t' o o' n a z f =
    rw (f.accepted, z) (λ i. reading (given tt) (f.is i).passes (sender (f.is i).after (f.served i)) (f.is i).samples)

-- an answer that is not accepted stands for a number above 0
pub some-refused : (a : Result Unit Refusal) (k : ℕ) → reply_in a ≡ reply_of k → is_ok a ≡ false → (j : ℕ) × (k ≡ suc j)
some-refused a zero e n = absurd (true≢false (sym (yes a e) ∙ n))
  where
    yes : (a : Result Unit Refusal) → reply_in a ≡ reply_of 0 → is_ok a ≡ true
    yes (Ok tt) e = refl
    yes (Err r) e = let z : ◌≡◌ {A = ℕ} 0 1 = cc in absurd (omega arith)
some-refused a (suc k) e n = (k, refl)

pub read-refused : (t : Tx) (o : List Float) (a : Result Unit Refusal) → reply_in a ≡ reply_of (read_refused t.served (length o)) → is_ok a ≡ false
    → reading (reply_in a) 0 (sender_of t) o ≡ read_of (sender_of t) o
unfolding read_of sender_of
read-refused t o a e n = let s = some-refused a (read_refused t.served (length o)) e n in rw (e, s.1)

-- ---- `pending`
pub bits-wait : (a : List Bool) (h n : ℕ) → ltb 0 n ≡ bits_wait (queued a h n)
unfolding queued
bits-wait a h zero = refl
bits-wait a h (suc n) = lt-ltb 0 (suc n) (omega arith)

pub above : (rate : ℕ) → 8000 ≤ rate → (rate ≡ 8000 → ⊥) → 8000 < rate
above rate l n = omega arith
