-- At a rate of 8,000: a pass for r samples makes r and one more, and leaves the resampler as it is. Assumes nothing.
use Prim.Native.Nat.{ℕ, ◌+◌, ◌-◌, ◌<◌, ◌≤◌}
use mathlib.Core.Path.{◌≡◌, sym, ap, ◌∙◌, subst}
use mathlib.Core.Bool.{true}
use mathlib.Core.List.{List, [], ◌++◌, map}
use native.Mathlib.Nat.{le_trans}
use native.Mathlib.Omega.{arith}
use lib.Dec.{eqb}
use lib.ListN.{length, take, drop}
use lib.Ieee.{Float}
use Rattle.numeric.specs.Counts.{need}
use Rattle.resampling.specs.Resample.{State, state, ran_over, max_output_len}
use Rattle.resampling.proofs.ResampleLaws.{equal-rates}
use Rattle.resampling.specs.Flow.{ran}
use Rattle.resampling.specs.ResampleRep.{state_of}
use Rattle.bell103.specs.declared.TonePair.{TonePair}
use Rattle.modulation.specs.Tone.{Keyer, generated}
use Rattle.modulation.specs.Modulator.{Modulator, modulator, scaled, made_for, batch, passed, handed, pass}
use Rattle.modulation.specs.ModulatorRep.{keyer_of, pending_in, HandsOver, EqualInto}
use Rattle.modulation.specs.TxRep.{modulator_of, Fills, after, Parts, FillsPlaces}
use Rattle.modulation.specs.declared.modulate.Wave.{Wave}
use Rattle.modulation.specs.declared.tx.Tx.{Tx}
use Rattle.modulation.proofs.Tones.{generated-length}
use Rattle.modulation.proofs.Filling.{Going, going_start, going_end, so-turn, pending-none, so_far}

need-equal : (r : ℕ) → need r 8000 ≡ r + 1
need-equal r = omega arith

module _ (t : TonePair) (k : Keyer) (s : State) (a : Float) (r : ℕ) (src : s.src ≡ 8000) (dst : s.dst ≡ 8000) where
  abbrev m : Modulator
  m = modulator 8000 t k s [] a

  made-equal : made_for m r ≡ ran (generated (r + 1) t k).samples s.flow
  made-equal =
      let xs = (generated (need r 8000) t k).samples in
      let same : eqb s.src s.dst ≡ true = rw (src, dst) in
      ap (λ (n : ℕ). ran_over s (max_output_len s.src s.dst n) xs) (sym (generated-length (need r 8000) t k))
      ∙ equal-rates s xs same
      ∙ ap (λ (n : ℕ). ran (generated n t k).samples s.flow) (need-equal r)

  pub pass-equal : pass m r
      ≡ passed (take r (map (scaled a) (generated (r + 1) t k).samples)) (modulator 8000 t (generated (r + 1) t k).after s (drop r (map (scaled a) (generated (r + 1) t k).samples)) a)
  unfolding pass handed batch
  pass-equal =
      λ i. passed (take r (map (scaled a) (made-equal i).out))
      (modulator 8000 t (generated (need-equal r i) t k).after (state s.src s.dst (made-equal i).flow) (drop r (map (scaled a) (made-equal i).out)) a)

-- a whole slice: what was pending is handed over, then one pass
pub equal-full : (t : Tx) (l written from : ℕ) (out pending rest tail pending' : List Float) (w' : Wave) → t.rate ≡ 8000
    → Going t l out pending t.wave t.resampler t.upto written from 1 → written < l → length rest ≡ l - written
    → length (take written out ++ (rest ++ tail)) ≡ l → EqualInto t.bits t.tones t.amplitude t.wave (l - written) rest pending' w'
    → Fills t l (take written out ++ (rest ++ tail)) pending' w' t.resampler 0 1 2
unfolding state_of
equal-full t l written from out pending rest tail pending' w' e8 g lt lr lo p =
    let r = l - written in
    let k = keyer_of t.bits t.wave in
    let q = state_of t.resampler in
    let a = t.amplitude in
    let T = t.tones in
    let m = modulator t.rate T k q [] a in
    let m' = after t w' t.resampler pending' 0 1 in
    let one : passed (take r rest) (modulator 8000 T (keyer_of t.bits w') q (pending_in pending' 0 1) a) ≡ pass (modulator 8000 T k q [] a) r =
    (λ i. passed (p.samples i) (modulator 8000 T (p.keyer i) q (p.surplus i) a)) ∙ sym (pass-equal T k q a r t.rising.src (t.rising.dst ∙ e8)) in
    let is : passed (take r rest) m' ≡ pass m r = rw e8 one in
    let none = pending-none pending from t.upto (g.dry lt) in
    going_end t l (take written out ++ (rest ++ tail)) pending' w' t.resampler 1 (written + r) 0 2
    (record {
      within = omega arith;
      size = lo;
      pending_held = record { places = p.places; ordered = omega arith; room = omega arith };
      dry = λ h. absurd (omega arith);
      rising = t.rising;
      held = p.held;
      on =
          record {
            few = omega arith;
            some = omega arith;
            most = omega arith;
            fed-so =
                record {
                  count = t.fed.count;
                  reached = t.fed.reached;
                  at_least = omega arith;
                  at_most = le_trans t.fed.at_most (omega arith);
                };
          };
      so =
          so-turn out rest tail l written 1 r m m' g.size lt (omega arith) (omega arith) is
          ∙ subst (λ (z : List Float). so_far out l written 1 (modulator t.rate T k q z a) ≡ Rattle.modulation.specs.Tx.filled (modulator_of t) l) none g.so;
    })
    (omega arith)

-- ---- the same for each sender that has these parts
module _ (p : Parts) (l c : ℕ) (out : List Float) (h : HandsOver (pending_in p.pending p.from p.upto) l out c) (long : length out ≡ l) where
  -- what is pending is enough
  pub places-first : l ≤ c → FillsPlaces p l out p.pending (record { wave = p.wave; from = p.from + c; upto = p.upto; passes = 1 })
  places-first n =
      record {
        whole =
            λ t is r.
            rw is (going_end t l out t.pending t.wave t.resampler t.upto c (t.from + c) 1 (going_start t l c out (rw is at h) long) (omega arith));
      }

  -- then one pass
  pub places-both : (rest tail pending' : List Float) (w' : Wave) → c < l → length rest ≡ l - c → length (take c out ++ (rest ++ tail)) ≡ l
      → EqualInto p.bits p.tones p.amplitude p.wave (l - c) rest pending' w'
      → FillsPlaces p l (take c out ++ (rest ++ tail)) pending' (record { wave = w'; from = 0; upto = 1; passes = 2 })
  places-both rest tail pending' w' n lr lo e =
      record {
        whole =
            λ t is r.
            equal-full t l c (t.from + c) out t.pending rest tail pending' w' r (going_start t l c out (rw is at h) long) n lr lo (rw is at e);
      }
