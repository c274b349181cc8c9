-- The samples of a symbol that goes on: only the place moves, by the tone in force. Assumes nothing.
use Prim.Native.Nat.{ℕ, zero, suc, ◌+◌, ◌*◌, ◌-◌, ◌%◌, ◌<◌, ◌≤◌}
use mathlib.Core.Path.{◌≡◌, refl, ap, ◌∙◌}
use mathlib.Core.Bool.{Bool}
use mathlib.Core.List.{List, [], ◌∷◌, ◌++◌, append_assoc, append-nil}
use native.Mathlib.Nat.{suc-add}
use native.Mathlib.Omega.{arith}
use borrow.Author.Tests.{lt-leb}
use lib.IntN.{ℤ}
use lib.ListN.{length, set, length-set}
use Rattle.modulation.specs.Table.{places, entry_of}
use Rattle.modulation.specs.TableTx.{Phase, phase, begun, hop_of, moved, Sent, sending, sent, begins_at}
use Rattle.modulation.specs.Keying.{phase_of, Keyed, tone_samples, place_behind, Holds}
use Rattle.modulation.specs.declared.table_tx.Keying.{Keying}
use Rattle.modulation.specs.declared.table_tx.Hops.{Hops}
use Rattle.modulation.proofs.Tones.{one_set}
use Rattle.modulation.proofs.TableSteps.{sent_at}
use Rattle.modulation.proofs.TableTxLaws.{sent-more}

-- ---- one sample more
pub samples-then : (n hop p : ℕ) → tone_samples (n + 1) hop p ≡ tone_samples n hop p ++ (entry_of (place_behind n hop p) ∷ [])
unfolding tone_samples place_behind
samples-then zero hop p = refl
samples-then (suc n) hop p = rw (suc-add n 1) (ap (λ (xs : List ℤ). entry_of p ∷ xs) (samples-then n hop ((p + hop) % places)))

pub place-then : (n hop p : ℕ) → place_behind (n + 1) hop p ≡ (place_behind n hop p + hop) % places
unfolding place_behind
place-then zero hop p = refl
place-then (suc n) hop p = rw (suc-add n 1) (place-then n hop ((p + hop) % places))

pub holds-none : (hop p n : ℕ) (out : List ℤ) → p < places → Holds hop p n n out out p
unfolding tone_samples place_behind
holds-none hop p n out l =
    let z : n - n ≡ 0 = omega arith in
    record { long = refl; samples = rw (z, append-nil) refl; place = rw z refl; at = l }

pub holds-more : (hop p m i : ℕ) (out o : List ℤ) (r r' : ℕ) (v : ℤ) → Holds hop p m i out o r → m ≤ i → i < length o → v ≡ entry_of r → r' ≡ (r + hop) % places
    → Holds hop p m (i + 1) out (set o i v) r'
holds-more hop p m i out o r r' v h l u ev er =
    let s : i + 1 - m ≡ i - m + 1 = omega arith in
    record {
      long = length-set o i v ∙ h.long;
      samples = rw (s, one_set o i v u, h.samples, samples-then (i - m) hop p, ev, h.place, append_assoc) refl;
      place = rw (s, place-then (i - m) hop p, ← h.place) er;
      at = omega (arith, er);
    }

-- ---- no symbol begins before the next one's own sample
pub goes-on : (k : Phase) → 3 * k.samples < 80 * k.symbols → begun k ≡ k
unfolding begun
goes-on k l = rw (lt-leb (80 * k.symbols) (3 * k.samples) l)

abbrev pub on : Hops → Phase → ℕ → Phase
on h k n = phase (place_behind n (hop_of h k.current) k.place) k.current k.symbols (k.samples + n) k.bits

pub tone-sent : (n : ℕ) (h : Hops) (k : Phase) → 3 * (k.samples + n) < 80 * k.symbols + 3 → sent n h k ≡ sending (tone_samples n (hop_of h k.current) k.place) (on h k n)
unfolding sent moved tone_samples place_behind
tone-sent zero h k l = let e : k.samples + 0 ≡ k.samples = omega arith in rw e refl
tone-sent (suc n) h k l =
    let p = (k.place + hop_of h k.current) % places in
    let e : k.samples + 1 + n ≡ k.samples + suc n = omega arith in
    let r = tone-sent n h (phase p k.current k.symbols (k.samples + 1) k.bits) (omega (arith, l)) in
    rw (goes-on k (omega (arith, l))) (ap (λ (s : Sent). sending (entry_of k.place ∷ s.samples) s.after) (rw e at r))

-- a slice that they fill from `i` on
pub run-on : (n : ℕ) (h : Hops) (out out' : List ℤ) (i d : ℕ) (k : Phase) (r : ℕ) → Holds (hop_of h k.current) k.place i (i + d) out out' r → i + d ≤ n
    → 3 * (k.samples + d) < 80 * k.symbols + 3 → sent_at out' (i + d) n h (phase r k.current k.symbols (k.samples + d) k.bits) ≡ sent_at out i n h k
run-on n h out out' i d k r s b l =
    let z : i + d - i ≡ d = omega arith in
    let e : n - i ≡ d + (n - (i + d)) = omega arith in
    rw (e, sent-more d (n - (i + d)) h k, tone-sent d h k l, rw z at s.samples, rw z at s.place, append_assoc) refl

-- ---- the same of what moves with each sample
module _ (a : List Bool) (s : Keying) (d r : ℕ) (k : Keyed a s) (l : d ≤ begins_at s.symbols - s.samples) where
  abbrev behind : Keying
  behind = record { head = s.head; waiting = s.waiting; current = s.current; place = r; symbols = s.symbols; samples = s.samples + d }

  pub run-keyed : r < places → s.samples + d ≤ 4294967296 → Keyed a behind
  run-keyed p f = record { bits = k.bits; at = p; clock = omega (arith, k.clock, l); few = f }

  pub run-sent : (n : ℕ) (h : Hops) (out out' : List ℤ) (i hop : ℕ) → hop ≡ hop_of h s.current → Holds hop s.place i (i + d) out out' r → i + d ≤ n
      → sent_at out' (i + d) n h (phase_of a behind) ≡ sent_at out i n h (phase_of a s)
  run-sent n h out out' i hop e q b = run-on n h out out' i d (phase_of a s) r (rw e at q) b (omega (arith, k.clock, l))
