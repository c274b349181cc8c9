-- The passes of a read: what is written and what is left are together the whole, and the slice is full within its length and two passes.
-- Assumes nothing.
use Rattle.std.specs.Prelude.{Ok}
use Prim.Native.Nat.{ℕ, zero, suc, ◌+◌, ◌-◌, ◌*◌, ◌^◌, ◌<◌, ◌≤◌}
use mathlib.Core.Path.{◌≡◌, refl, sym, ap, ap₂, ◌∙◌, subst}
use mathlib.Core.Bool.{Bool, true, false}
use mathlib.Core.List.{List, [], ◌∷◌, ◌++◌, append_assoc, append-nil}
use native.Mathlib.Nat.{le_trans, add_assoc}
use native.Mathlib.Omega.{arith}
use lib.Dec.{ltb}
use borrow.Author.Tests.{ltb-true, ltb-false, ne_eqb}
use lib.ListN.{length, take, drop, length-take, length-drop, length-map}
use lib.Seq.{take_all, take-append-add, take-append-le, length-take-le, drop-drop}
use lib.Ieee.{Float}
use Rattle.refusal.specs.Refusals.{highest_rate}
use Rattle.numeric.specs.Bounds.{AtMost}
use Rattle.numeric.specs.Counts.{need}
use Rattle.resampling.specs.Flow.{Flow, Ran, fed, Reached}
use Rattle.resampling.specs.Resample.{State, state, ran_over, filter_of, max_output_len}
use Rattle.resampling.specs.ResampleRep.{state_of}
use Rattle.resampling.proofs.Place.{fed-moved-some, fed-yields, step-short}
use Rattle.resampling.specs.declared.resample.Resampler.{Resampler}
use Rattle.modulation.specs.Bits.{BitsHeld}
use Rattle.bell103.specs.declared.TonePair.{TonePair}
use Rattle.modulation.specs.Tone.{Keyer, generated}
use Rattle.modulation.specs.Modulator.{Modulator, modulator, made_for, batch, Passed, passed, handed, pass}
use Rattle.modulation.specs.Tx.{Filling, filling, pass_then, passes, filled}
use Rattle.modulation.specs.ModulatorRep.{keyer_of, pending_in, Rising, PendingHeld, HandsOver, PassesInto}
use Rattle.modulation.specs.TxRep.{modulator_of, Fed, Fills, FillsWhole, after}
use Rattle.modulation.specs.declared.modulate.Wave.{Wave}
use Rattle.modulation.specs.declared.tx.Tx.{Tx}
use Rattle.modulation.proofs.Slices.{drop-least, drop-take}
use Rattle.modulation.proofs.Tones.{generated-length}
use Rattle.modulation.proofs.Counts.{need-low, need-over, room-some}

-- ---- what is written, with what the rest of the passes hands over
abbrev pub so_far : List Float → ℕ → ℕ → ℕ → Modulator → Filling
so_far out l written n m =
    let q = passes (l + 2 - n) m (l - written) in
    filling (take written out ++ q.samples) q.after (n + q.passes)

-- what is pending, without the first c
pub pending-left : (p : List Float) (from upto c : ℕ) → drop c (pending_in p from upto) ≡ pending_in p (from + c) upto
pending-left p from upto c =
    let z : upto - from - c ≡ upto - (from + c) = omega arith in
    drop-take c (upto - from) (drop from p) ∙ ap₂ take z (drop-drop c from p)

pub pending-none : (p : List Float) (from upto : ℕ) → from ≡ upto → pending_in p from upto ≡ []
pending-none p from upto e = let z : upto - from ≡ 0 = omega arith in rw z

-- the first pass hands over what is pending
pub so-start : (r : ℕ) (t : TonePair) (k : Keyer) (q : State) (a : Float) (p out : List Float) (from upto l c : ℕ) → HandsOver (pending_in p from upto) l out c
    → so_far out l c 1 (modulator r t k q (pending_in p (from + c) upto) a) ≡ filled (modulator r t k q (pending_in p from upto) a) l
unfolding filled handed
so-start r t k q a p out from upto l c h =
    let W = pending_in p from upto in
    let z : l + 2 - 1 ≡ l + 1 = omega arith in
    let n : length (take l W) ≡ c = length-take l W ∙ sym h.count_is in
    let d : pending_in p (from + c) upto ≡ drop l W = sym (pending-left p from upto c) ∙ sym (drop-least l c W h.count_is) in
    rw (z, n, d, h.samples)

pub none_left : (n : ℕ) (m : Modulator) → passes n m 0 ≡ filling [] m 0
unfolding passes
none_left zero m = refl
none_left (suc n) m = refl

pub so-end : (out : List Float) (l written n : ℕ) (m : Modulator) → length out ≡ l → length out ≤ written → filling out m n ≡ so_far out l written n m
so-end out l written n m e h =
    let z : l - written ≡ 0 = omega arith in
    let y : n + 0 ≡ n = omega arith in
    rw (z, none_left (l + 2 - n) m, take_all written out h, append-nil, y)

one_more : (n r : ℕ) (m : Modulator) → 0 < n → 0 < r
    → passes n m r ≡ pass_then (pass m r) (passes (n - 1) (pass m r).after (r - length (pass m r).samples))
unfolding passes
one_more zero r m h k = absurd (omega arith)
one_more (suc n) zero m h k = absurd (omega arith)
one_more (suc n) (suc r) m h k = let z : suc n - 1 ≡ n = omega arith in rw z

module _ (out rest tail : List Float) (l written n count : ℕ) (m m' : Modulator) (long : length out ≡ l) (w : written < l) (p : n < l + 2) (c : count ≤ length rest)
    (e : passed (take count rest) m' ≡ pass m (l - written)) where
  pub so-turn : so_far (take written out ++ (rest ++ tail)) l (written + count) (n + 1) m' ≡ so_far out l written n m
  so-turn =
      let left = l + 2 - n in
      let r = l - written in
      let ey : (pass m r).samples ≡ take count rest = ap (λ (x : Passed). x.samples) (sym e) in
      let es : (pass m r).after ≡ m' = ap (λ (x : Passed). x.after) (sym e) in
      let ec : length (take count rest) ≡ count = length-take-le count rest c in
      let lw : length (take written out) ≡ written = length-take-le written out (omega arith) in
      let front : take (written + count) (take written out ++ (rest ++ tail)) ≡ take written out ++ take count rest =
      ap (λ (i : ℕ). take (i + count) (take written out ++ (rest ++ tail))) (sym lw) ∙ take-append-add (take written out) (rest ++ tail) count
      ∙ ap (λ (x : List Float). take written out ++ x) (take-append-le count rest tail c) in
      let a : l + 2 - (n + 1) ≡ left - 1 = omega arith in
      let b : l - (written + count) ≡ r - count = omega arith in
      rw (front, a, b, one_more left r m (omega arith) (omega arith), ey, es, ec, append_assoc, add_assoc)

-- ---- how far the resampler gets
pub fed-weaker : {i j g h : ℕ} {s : State} → i ≤ j → h ≤ g → Fed j h s → Fed i g s
fed-weaker a b u = record { count = u.count; reached = u.reached; at_least = le_trans a u.at_least; at_most = le_trans u.at_most b }

pub fed-start : {h : ℕ} {s : State} (written : ℕ) → Fed 0 h s → Fed (1 - (written + 1)) (h + 1025 * (1 - 1)) s
fed-start written u = fed-weaker (omega arith) (omega arith) u

pub fed-end : (h l n : ℕ) (s : State) (j : ℕ) → n ≤ 2 * l + 1 → Fed j (2050 * h + 1025 * (n - 1)) s → Fed 0 (2050 * (h + l)) s
fed-end h l n s j e u = fed-weaker (omega arith) (omega arith) u

-- what a pass brings: a sample went into the resampler, and where one went in before, a sample is handed over
pub record Brings (j most : ℕ) (s : State) (count : ℕ) : Type 0 where
  pub fed-on : Fed (j + 1) most s
  pub some : 1 ≤ j → 1 ≤ count

module _ (rate : ℕ) (low : 8000 < rate) (high : rate ≤ highest_rate) (j most r : ℕ) (R : 1 ≤ r) (R' : r ≤ 1024) (few : most + 1025 < 2 ^ 51) where
  short : AtMost (filter_of 8000 rate).step 1 (2 ^ 0)
  unfolding filter_of
  short = step-short rate (omega arith) high

  -- a pass's samples go into the resampler
  ran : (room : ℕ) (xs : List Float) (s : Flow) (k : ℕ) → Reached k s → j ≤ k → k ≤ most → 1 ≤ room → 2 ≤ length xs → length xs ≤ 1025
      → Brings j (most + 1025) (state 8000 rate (fed (filter_of 8000 rate) room xs s).flow) (length (fed (filter_of 8000 rate) room xs s).out)
  ran room [] s k p a b c d e = absurd (omega arith)
  ran room (x ∷ []) s k p a b c d e = absurd (omega arith)
  ran room (x ∷ y ∷ xs) s k p a b c d e =
      let m = fed-moved-some (filter_of 8000 rate) short room x (y ∷ xs) k s (omega arith) p in
      record {
        fed-on = record { count = m.to; reached = m.reached; at_least = omega (arith, m.from); at_most = omega (arith, m.upto) };
        some = λ h. fed-yields (filter_of 8000 rate) short room x y xs k s c (omega arith) (omega arith) p;
      }

  module _ (t : TonePair) (q : Keyer) (s : State) (a : Float) (src : s.src ≡ 8000) (dst : s.dst ≡ rate) (u : Fed j most s) where
    abbrev m : Modulator
    m = modulator rate t q s [] a

    made-is : made_for m r ≡ fed (filter_of 8000 rate) (max_output_len 8000 rate (need r rate)) (generated (need r rate) t q).samples s.flow
    unfolding ran_over
    made-is = rw (src, dst, ne_eqb 8000 rate (λ e. omega arith))

    pub brings : Brings j (most + 1025) (pass m r).after.resampler (length (pass m r).samples)
    unfolding pass handed batch
    brings =
        let k = need r rate in
        let xs = (generated k t q).samples in
        let lx : length xs ≡ k = generated-length k t q in
        let k2 : 2 ≤ k = need-low rate r (omega arith) R in
        let kh : k ≤ r + 1 = need-over rate r (omega arith) in
        let b = ran (max_output_len 8000 rate k) xs s.flow u.count u.reached u.at_least u.at_most (room-some rate k k2) (omega (arith, lx, k2)) (omega (arith, lx, kh)) in
        let lm : length (made_for m r).out ≡ length (fed (filter_of 8000 rate) (max_output_len 8000 rate k) xs s.flow).out = ap (λ (z : Ran). length z.out) made-is in
        record {
          fed-on = subst (λ (z : Ran). Fed (j + 1) (most + 1025) (state s.src s.dst z.flow)) (sym made-is) (rw (src, dst) b.fed-on);
          some = λ h. simp (length-take, length-map) (omega (arith, lm, b.some h));
        }

-- one pass more: it wrote something, or it was the first that put a sample in
pub record On (h l written n : ℕ) (s : State) : Type 0 where
  pub few : n ≤ written + 2
  pub some : 1 ≤ n
  pub most : n ≤ 2 * l + 1
  pub fed-so : Fed (n - (written + 1)) (h + 1025 * (n - 1)) s

pub on-start : (h l written : ℕ) (s : State) → Fed 0 h s → On h l written 1 s
on-start h l written s u = record { few = omega arith; some = omega arith; most = omega arith; fed-so = fed-start written u }

went_on : (h l written n count : ℕ) (s s' : State) → written < l → On h l written n s → Brings (n - (written + 1)) (h + 1025 * (n - 1) + 1025) s' count
    → On h l (written + count) (n + 1) s'
went_on h l written n count s s' w u b = go (ltb 0 count) refl
  where
    go : (x : Bool) → ltb 0 count ≡ x → On h l (written + count) (n + 1) s'
    go true e =
        let some = ltb-true 0 count e in
        record {
          few = omega (arith, u.few);
          some = omega arith;
          most = omega (arith, u.few);
          fed-so = fed-weaker (omega (arith, u.few)) (omega (arith, u.some)) b.fed-on;
        }
    go false e =
        let z : count ≤ 0 = ltb-false 0 count e in
        let o : n ≤ written + 1 = under n (written + 1) (λ g. let one = b.some g in omega arith) in
        record {
          few = omega arith;
          some = omega arith;
          most = omega arith;
          fed-so = fed-weaker (omega arith) (omega (arith, u.some)) b.fed-on;
        }
      where
        under : (a b : ℕ) → (1 ≤ a - b → ⊥) → a ≤ b
        under a b g = omega arith

module _ (h l written n count rate : ℕ) (t : TonePair) (q : Keyer) (r : Resampler) (a : Float) (rest : List Float) (m' : Modulator) (w : written < l) (l' : l ≤ 1024)
    (big : h + 1025 * n + 1025 < 2 ^ 51) (low : 8000 < rate) (up : Rising rate r) (c : count ≤ length rest)
    (e : passed (take count rest) m' ≡ pass (modulator rate t q (state_of r) [] a) (l - written)) where
  pub pass_on : On h l written n (state_of r) → On h l (written + count) (n + 1) m'.resampler
  unfolding state_of
  pass_on u =
      let m = modulator rate t q (state_of r) [] a in
      let b = brings rate low up.high (n - (written + 1)) (h + 1025 * (n - 1)) (l - written) (omega arith) (omega arith) (omega (arith, u.some)) t q (state_of r) a up.src up.dst u.fed-so in
      let k : length (pass m (l - written)).samples ≡ count = ap (λ (x : Passed). length x.samples) (sym e) ∙ length-take-le count rest c in
      let s : (pass m (l - written)).after.resampler ≡ m'.resampler = ap (λ (x : Passed). x.after.resampler) (sym e) in
      went_on h l written n count (state_of r) m'.resampler w u
      (subst (λ (x : State). Brings (n - (written + 1)) (h + 1025 * (n - 1) + 1025) x count) s
      (subst (λ (i : ℕ). Brings (n - (written + 1)) (h + 1025 * (n - 1) + 1025) (pass m (l - written)).after.resampler i) k b))

-- ---- the loop over the passes, between them: `written` samples after n passes
pub record Going (t : Tx) (l : ℕ) (out pending : List Float) (w : Wave) (r : Resampler) (upto written from n : ℕ) : Type 0 where
  pub within : written ≤ l
  pub size : length out ≡ l
  pub pending_held : PendingHeld pending from upto
  pub dry : written < l → from ≡ upto
  pub rising : Rising t.rate r
  pub held : BitsHeld t.bits w.head w.waiting
  pub on : On (2050 * t.served) l written n (state_of r)
  pub so :
      so_far out l written n (modulator t.rate t.tones (keyer_of t.bits w) (state_of r) (pending_in pending from upto) t.amplitude)
      ≡ filled (modulator_of t) l

pub going_start : (t : Tx) (l c : ℕ) (out : List Float) → HandsOver (pending_in t.pending t.from t.upto) l out c → length out ≡ l
    → Going t l out t.pending t.wave t.resampler t.upto c (t.from + c) 1
unfolding modulator_of
going_start t l c out h e =
    let p = t.pending_held in
    let n : length (pending_in t.pending t.from t.upto) ≡ t.upto - t.from = simp (length-take, length-drop) (omega (arith, p.places, p.room)) in
    let k = h.count_is in
    record {
      within = omega arith;
      size = e;
      pending_held = record { places = p.places; ordered = omega (arith, p.ordered); room = p.room };
      dry = λ w. omega (arith, p.ordered);
      rising = t.rising;
      held = t.held;
      on = on-start (2050 * t.served) l c (state_of t.resampler) t.fed;
      so = so-start t.rate t.tones (keyer_of t.bits t.wave) (state_of t.resampler) t.amplitude t.pending out t.from t.upto l c h;
    }

pub going-turn : (t : Tx) (l : ℕ) (out pending : List Float) (w : Wave) (r : Resampler) (upto written from n : ℕ) (rest tail pending' : List Float) (w' : Wave) (r' : Resampler) (upto' count : ℕ)
    → Going t l out pending w r upto written from n → written < l → l ≤ 1024 → t.served + l ≤ 4294967296 → 8000 < t.rate
    → PassesInto (modulator t.rate t.tones (keyer_of t.bits w) (state_of r) [] t.amplitude) (l - written) t.bits rest count pending' upto' w' r'
    → length rest ≡ l - written → length (take written out ++ (rest ++ tail)) ≡ l → Going t l (take written out ++ (rest ++ tail)) pending' w' r' upto' (written + count) 0 (n + 1)
going-turn t l out pending w r upto written from n rest tail pending' w' r' upto' count g lt few served low p lr lo =
    let m = modulator t.rate t.tones (keyer_of t.bits w) (state_of r) [] t.amplitude in
    let m' = modulator t.rate t.tones (keyer_of t.bits w') (state_of r') (pending_in pending' 0 upto') t.amplitude in
    let c : count ≤ length rest = omega (arith, p.within) in
    let none = pending-none pending from upto (g.dry lt) in
    record {
      within = omega (arith, p.within);
      size = lo;
      pending_held = p.pending_held;
      dry = λ h. sym (p.dry (omega arith));
      rising = p.rising;
      held = p.held;
      on =
          pass_on (2050 * t.served) l written n count t.rate t.tones (keyer_of t.bits w) r t.amplitude rest m' lt few
          (omega (arith, g.on.most)) low g.rising c p.is g.on;
      so =
          so-turn out rest tail l written n count m m' g.size lt (omega (arith, g.on.few)) c p.is
          ∙ subst (λ (z : List Float). so_far out l written n (modulator t.rate t.tones (keyer_of t.bits w) (state_of r) z t.amplitude) ≡ filled (modulator_of t) l) none g.so;
    }

pub going_end : (t : Tx) (l : ℕ) (out pending : List Float) (w : Wave) (r : Resampler) (upto written from n : ℕ)
    → Going t l out pending w r upto written from n → length out ≤ written → Fills t l out pending w r from upto n
going_end t l out pending w r upto written from n g e =
    record {
      is = so-end out l written n (after t w r pending from upto) g.size e ∙ g.so;
      few = omega (arith, g.on.few, g.within);
      rising = g.rising;
      held = g.held;
      pending_held = g.pending_held;
      fed = fed-end t.served l n (state_of r) _ g.on.most g.on.fed-so;
    }

-- the sender that the code makes of these parts
pub fills-whole : {t t' : Tx} {l : ℕ} {out pending : List Float} {w : Wave} {r : Resampler} {from upto n : ℕ} (k : ℕ) → Fills t l out pending w r from upto n → k ≡ l
    → modulator_of t' ≡ after t w r pending from upto → t'.served ≡ t.served + k → FillsWhole t l out (Ok tt) n t'
fills-whole {t = t} k f e m s = record { accepted = refl; is = rw m f.is; few = f.few; served = rw (← e) s }
