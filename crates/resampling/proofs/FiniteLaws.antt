-- K8: between two rates whose taps are finite and at most 1, no NaN and no infinity comes out of a resampler or stays in it, for every list of calls
-- from a fresh one on. Outputs are at most 2 ^ 235 in size. Assumes nothing.
use Prim.Native.Nat.{ℕ, zero, suc, ◌+◌, ◌-◌, ◌^◌, ◌≤◌, ◌<◌}
use mathlib.Core.Path.{◌≡◌, refl, sym, subst}
use mathlib.Core.Bool.{Bool, true, false, not, ◌&&◌}
use mathlib.Core.List.{List, [], ◌∷◌}
use native.Mathlib.Omega.{arith}
use lib.Dec.{T, ltb, eqb, lit<, lit≤}
use lib.ListN.{length, take, drop, replicate}
use lib.Seq.{take-append_seam}
use lib.Ieee.{Float, binary64, round}
use lib.Ieee.Scale.{finite}
use Rattle.numeric.specs.F64.{◌⊕◌, ◌⊖◌, ◌⊘◌, f64, whole, zero64, one64}
use Rattle.numeric.specs.Bounds.{Small, AllSmall, AtMost}
use Rattle.numeric.specs.Convert.{all_in_range}
use Rattle.numeric.proofs.Whole.{div-whole}
use Rattle.numeric.proofs.BoundLaws.{round-at-most}
use Rattle.numeric.proofs.SizeLaws.{small-more, small-at-most, small-sub, small-kept}
use Rattle.numeric.proofs.RangeLaws.{all-in-range-small}
use Rattle.refusal.specs.Refusals.{rates_refused}
use Rattle.refusal.proofs.RefusalLaws.{first-zero}
use Rattle.resampling.specs.Filter.{newest}
use Rattle.resampling.specs.Flow.{Filter, Flow, Out, Ran, flow, between, wants, windowed, pushed, emitted, drained, fed}
use Rattle.resampling.specs.Resample.{State, Outcome, taps_of, filter_of, fresh, too_many, refusal_of, ran_over, ran_into, unless_refused, processed}
use Rattle.resampling.specs.Rates.{InRange}
use Rattle.resampling.specs.Finite.{Call, process, reset, gives, behind, written_by, all_finite, window_list, FiniteState, FiniteBehind}
use Rattle.resampling.proofs.Answers.{in-range}
use Rattle.resampling.proofs.Place.{either}
use Rattle.resampling.proofs.Sizes.{Windowed, numbers, all_append, all_take, filtered-sized, newest-sized, hermite-sized}

-- ---- what moves
-- going down in rate (d), the history has samples and the window what the filter made of them; going up, the window has samples and the history what
-- was interpolated between them
abbrev history_size : Bool → ℕ
history_size true = 0
history_size false = 182

abbrev window_size : Bool → ℕ
window_size true = 53
window_size false = 0

record Tame (d : Bool) (s : Flow) : Type 0 where
  history : AllSmall (history_size d) s.history
  window : Windowed (window_size d) s.window
  place : Small 57 s.place
  count : Small 53 s.count

-- what is asked of a filter
record Fitting (d : Bool) (f : Filter) : Type 0 where
  down : f.decimating ≡ d
  taps : AllSmall 0 f.taps
  step : Small 4 f.step

-- ---- one sample in
windowed-tame : (d : Bool) (s : Flow) (h : List Float) (y : Float) → Tame d s → AllSmall (history_size d) h → Small (window_size d) y → Tame d (windowed s h y)
windowed-tame d s h y p u v =
    record {
      history = u;
      window = record { y0 = p.window.y1; y1 = p.window.y2; y2 = p.window.y3; y3 = v };
      place = p.place;
      count = small-kept s.count one64 0 (lit< tt) numbers.kept-1 p.count numbers.one;
    }

pushed-tame : (d : Bool) (f : Filter) (x : Float) (s : Flow) → Fitting d f → Small 0 x → Tame d s → Tame d (pushed f x s)
unfolding pushed
pushed-tame true f x s k u p =
    let h = newest-sized 0 x s.history u p.history in
    rw k.down (windowed-tame true s (newest x s.history) _ p h (filtered-sized 0 (lit< tt) numbers.kept-1 f.taps (newest x s.history) k.taps h))
pushed-tame false f x s k u p = rw k.down (windowed-tame false s s.history x p p.history u)

-- ---- one sample out
between-sized : (d : Bool) (s : Flow) → window_size d + 182 < 1024 → Tame d s → Small (window_size d + 182) (between s)
unfolding between
between-sized d s l p =
    let three = f64 0x4008_0000_0000_0000 in
    let c = small-sub s.count three 53 (lit< tt) p.count (small-more (lit≤ tt) numbers.three) in
    hermite-sized (window_size d) l s.window p.window (s.place ⊖ (s.count ⊖ three)) (small-sub s.place (s.count ⊖ three) 57 (lit< tt) p.place (small-more (lit≤ tt) c))

place-on : (d : Bool) (f : Filter) (h : List Float) (s : Flow) → Fitting d f → AllSmall (history_size d) h → Tame d s
    → Tame d (flow h s.window (s.place ⊕ f.step) s.count)
place-on d f h s k u p =
    record { history = u; window = p.window; place = small-kept s.place f.step 4 (lit< tt) numbers.kept-16 p.place k.step; count = p.count }

record TameOut (d : Bool) (o : Out) : Type 0 where
  y : Small 235 o.y
  flow : Tame d o.flow

emitted-tame : (d : Bool) (f : Filter) (s : Flow) → Fitting d f → Tame d s → TameOut d (emitted f s)
unfolding emitted
emitted-tame true f s k p = rw k.down (record { y = between-sized true s (lit< tt) p; flow = place-on true f s.history s k p.history p })
emitted-tame false f s k p =
    let h = newest-sized 182 (between s) s.history (between-sized false s (lit< tt) p) p.history in
    rw k.down
    (record { y = filtered-sized 182 (lit< tt) numbers.kept-182 f.taps (newest (between s) s.history) k.taps h; flow = place-on false f _ s k h p })

-- ---- a whole input
record TameRan (d : Bool) (r : Ran) : Type 0 where
  out : AllSmall 235 r.out
  flow : Tame d r.flow

module _ (d : Bool) (f : Filter) (k : Fitting d f) where
  drained-tame : (room : ℕ) (s : Flow) → Tame d s → TameRan d (drained f room s)
  unfolding drained
  drained-tame zero s p = record { out = tt; flow = p }
  drained-tame (suc room) s p =
      let e = emitted-tame d f s k p in
      let r = drained-tame room (emitted f s).flow e.flow in
      either (TameRan d) (wants s) _ _ (λ w. record { out = (e.y, r.out); flow = r.flow }) (λ w. record { out = tt; flow = p })

  fed-tame : (room : ℕ) (xs : List Float) (s : Flow) → AllSmall 0 xs → Tame d s → TameRan d (fed f room xs s)
  unfolding fed
  fed-tame room [] s u p = record { out = tt; flow = p }
  fed-tame room (x ∷ xs) s u p =
      let a = drained f room (pushed f x s) in
      let b = drained-tame room (pushed f x s) (pushed-tame d f x s k u.0 p) in
      let r = fed-tame (room - length a.out) xs a.flow u.1 b.flow in
      either (TameRan d) (wants a.flow) _ _ (λ w. b) (λ w. record { out = all_append 235 a.out _ b.out r.out; flow = r.flow })

-- ---- the resampler
all_more : (n k : ℕ) (xs : List Float) → n ≤ k → AllSmall n xs → AllSmall k xs
all_more n k [] l u = tt
all_more n k (x ∷ xs) l u = (small-more l u.0, all_more n k xs l u.1)

-- a state between two rates that are in range, with taps at most 1
record Good (s : State) : Type 0 where
  rates : InRange s.src s.dst
  taps : AllSmall 0 (taps_of s.src s.dst)
  tame : Tame (ltb s.dst s.src) s.flow

fitting : (src dst : ℕ) → InRange src dst → AllSmall 0 (taps_of src dst) → Fitting (ltb dst src) (filter_of src dst)
unfolding filter_of
fitting src dst r u =
    let is : whole src ⊘ whole dst ≡ round binary64 false src dst =
    div-whole src dst (omega (arith, r.dst_low)) (omega (arith, r.src_high)) (omega (arith, r.dst_high)) in
    let short : AtMost (round binary64 false src dst) 16 (2 ^ 0) =
    round-at-most src dst 16 0 (omega (arith, r.dst_low)) (lit< tt) (lit≤ tt) (omega (arith, r.src_high, r.dst_low)) in
    record { down = refl; taps = u; step = subst (Small 4) (sym is) (small-at-most short) }

ran-tame : (s : State) (room : ℕ) (xs : List Float) → Good s → AllSmall 0 xs → TameRan (ltb s.dst s.src) (ran_over s room xs)
unfolding ran_over
ran-tame s room xs g u =
    either (TameRan (ltb s.dst s.src)) (eqb s.src s.dst) _ _
    (λ e. record { out = all_more 0 235 (take room xs) (lit≤ tt) (all_take 0 room xs u); flow = g.tame })
    (λ e. fed-tame (ltb s.dst s.src) (filter_of s.src s.dst) (fitting s.src s.dst g.rates g.taps) room xs s.flow u g.tame)

-- a fresh one
zeros-sized : (n k : ℕ) → AllSmall n (replicate k zero64)
zeros-sized n zero = tt
zeros-sized n (suc k) = (small-more (omega arith) numbers.zero, zeros-sized n k)

fresh-good : (src dst : ℕ) → InRange src dst → AllSmall 0 (taps_of src dst) → Good (fresh src dst)
unfolding fresh
fresh-good src dst r u =
    let z : (n : ℕ) → Small n zero64 = λ n. small-more (omega arith) numbers.zero in
    record {
      rates = r;
      taps = u;
      tame =
          record {
            history = zeros-sized (history_size (ltb dst src)) (length (taps_of src dst));
            window = record { y0 = z _; y1 = z _; y2 = z _; y3 = z _ };
            place = z 57;
            count = z 53;
          };
    }

-- ---- a call
and_both : (a b : Bool) → T a → T b → T (a && b)
and_both true b p q = q
and_both false b p q = absurd p

all-finite : (n : ℕ) (xs : List Float) → AllSmall n xs → T (all_finite xs)
unfolding all_finite
all-finite n [] u = tt
all-finite n (x ∷ xs) u = and_both (finite x) (all_finite xs) u.0.is (all-finite n xs u.1)

-- the state behind it, and what it wrote
record GoodCall (o : Outcome) : Type 0 where
  state : Good o.state
  samples : T (all_finite (written_by o.answer o.out))

accepted-tested : (s : State) (xs out : List Float) → refusal_of s xs out ≡ 0 → all_in_range xs ≡ true
unfolding refusal_of
accepted-tested s xs out e =
    passed (all_in_range xs) (first-zero (not (all_in_range xs)) 42 _ (first-zero (too_many (length xs)) 2 _ e).1).0
  where
    passed : (b : Bool) → not b ≡ false → b ≡ true
    passed true h = refl
    passed false h = sym h

process-good : (s : State) (xs out : List Float) → Good s → GoodCall (processed s xs out)
unfolding processed all_finite
process-good s xs out g = go (refusal_of s xs out) refl
  where
    r : Ran
    r = ran_over s (length out) xs

    go : (n : ℕ) → refusal_of s xs out ≡ n → GoodCall (unless_refused n s out (ran_into s xs out))
    go zero e =
        let t = ran-tame s (length out) xs g (all-in-range-small xs (accepted-tested s xs out e)) in
        record {
          state = record { rates = g.rates; taps = g.taps; tame = t.flow };
          samples = rw (take-append_seam r.out (drop (length r.out) out)) (all-finite 235 r.out t.out);
        }
    go (suc n) e = record { state = g; samples = tt }

call-good : (s : State) (c : Call) → Good s → GoodCall (gives s c)
unfolding all_finite
call-good s (process xs out) g = process-good s xs out g
call-good s reset g = record { state = fresh-good s.src s.dst g.rates g.taps; samples = tt }

-- ---- a list of calls
behind-good : (cs : List Call) (s : State) → Good s → Good (behind s cs)
unfolding behind
behind-good [] s g = g
behind-good (c ∷ cs) s g = behind-good cs (gives s c).state (call-good s c g).state

good-finite : (s : State) → Good s → FiniteState s
good-finite s g =
    let w = g.tame.window in
    record {
      history = all-finite (history_size (ltb s.dst s.src)) s.flow.history g.tame.history;
      window = all-finite (window_size (ltb s.dst s.src)) (window_list s.flow.window) (w.y0, (w.y1, (w.y2, (w.y3, tt))));
      place = g.tame.place.is;
      count = g.tame.count.is;
    }

-- between admitted rates whose taps pass the samples' own test
pub finite-always : (src dst : ℕ) → rates_refused src dst ≡ false → all_in_range (taps_of src dst) ≡ true → (cs : List Call) → FiniteBehind src dst cs
finite-always src dst e t cs =
    let g = behind-good cs (fresh src dst) (fresh-good src dst (in-range src dst e) (all-in-range-small (taps_of src dst) t)) in
    record { state = good-finite (behind (fresh src dst) cs) g; samples = λ c. (call-good (behind (fresh src dst) cs) c g).samples }
