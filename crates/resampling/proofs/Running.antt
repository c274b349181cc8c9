-- The resampler's loops, turn by turn, over a lent output. Assumes nothing.
use Prim.Native.Nat.{ℕ, suc, ◌+◌, ◌-◌, ◌<◌, ◌≤◌}
use mathlib.Core.Path.{◌≡◌, refl, sym, ap, ◌∙◌}
use mathlib.Core.Bool.{Bool, true, false}
use mathlib.Core.List.{List, [], ◌∷◌, ◌++◌, append-nil}
use native.Mathlib.Nat.{add-zero, add_assoc}
use native.Mathlib.Numerals.{add-one}
use native.Mathlib.Omega.{arith}
use lib.ListN.{length, get_or, set, take, drop, length-append, length-set, drop_of_length-le}
use lib.Seq.{sets, length-sets, drop-cons}
use lib.Ieee.{Float, nan}
use Rattle.std.specs.Prelude.{if◌then◌else◌}
use Rattle.resampling.specs.Flow.{Filter, Flow, Ran, ran, wants, windowed, pushed, out_with, emitted, drained, fed}
use Rattle.resampling.proofs.FlowLaws.{drained-none, drained-length}
use Rattle.resampling.specs.Filter.{filtered, newest}
use Rattle.resampling.specs.FilterRep.{ring_next, history_of, Filtered}
use Rattle.resampling.proofs.FilterLaws.{drop-two}
use Rattle.resampling.specs.FlowRep.{flow_of, filter_in, Run, run, into, drained_into, fed_into}
use Rattle.resampling.specs.declared.sample.Moving.{Moving}

-- stores of one list and then another
sets-append : (l : List Float) (i : ℕ) (xs ys : List Float) → sets l i (xs ++ ys) ≡ sets (sets l i xs) (i + length xs) ys
sets-append l i [] ys = ap (λ (k : ℕ). sets l k ys) (sym (add-zero i))
sets-append l i (x ∷ xs) ys = sets-append (set l i x) (suc i) xs ys ∙ ap (λ (k : ℕ). sets (sets (set l i x) (suc i) xs) k ys) (shift i (length xs))
  where
    shift : (i n : ℕ) → suc i + n ≡ i + suc n
    shift i n = omega arith

pub run-nil : (s : Flow) (out : List Float) (at : ℕ) → into out at (ran [] s) ≡ run s out at
run-nil s out at = ap (λ (k : ℕ). run s out k) (add-zero at)

module _ (f : Filter) (s : Flow) (out : List Float) (at : ℕ) where
  -- nothing is left to drain
  pub drain_rest : wants s ≡ false → drained_into f (run s out at) ≡ run s out at
  unfolding drained_into
  drain_rest e = rw (drained-none f (length out - at) s e) (run-nil s out at)

  -- no room is left
  pub drain-full : length out ≤ at → drained_into f (run s out at) ≡ run s out at
  unfolding drained_into drained
  drain-full h =
      let e : length out - at ≡ 0 = omega arith in
      rw e (run-nil s out at)

  -- one output sample
  pub drain-turn : (y : Float) (s' : Flow) → wants s ≡ true → at < length out → out_with y s' ≡ emitted f s
      → drained_into f (run s out at) ≡ drained_into f (run s' (set out at y) (at + 1))
  unfolding drained_into drained
  drain-turn y s' e l o =
      let r : length out - at ≡ suc (length out - (at + 1)) = omega arith in
      rw (r, e, ← o, length-set, add-one) (ap (λ (k : ℕ). run d.flow (sets (set out at y) (suc at) d.out) k) (shift at (length d.out)))
    where
      d : Ran
      d = drained f (length out - suc at) s'

      shift : (i n : ℕ) → i + suc n ≡ suc i + n
      shift i n = omega arith

  -- what is drained stays within the output
  pub drain-within : (t : Run) → t ≡ drained_into f (run s out at) → at ≤ length out → t.at ≤ length t.out
  unfolding drained_into
  drain-within t e h =
      let k = drained-length f (length out - at) s in
      rw (e, length-sets) (omega arith)

-- ---- one input sample
module _ (f : Filter) (s : Flow) (out : List Float) (at : ℕ) (x : Float) (xs : List Float) where
  -- the outputs that it makes ready
  abbrev ready : Ran
  ready = drained f (length out - at) (pushed f x s)

  stops : (t : Run) → t ≡ into out at ready → wants t.flow ≡ true → fed_into f (x ∷ xs) (run s out at) ≡ t
  unfolding fed_into fed
  stops t e w = rw (sym (ap (λ (r : Run). wants r.flow) e) ∙ w) (sym e)

  goes_on : (t : Run) → t ≡ into out at ready → wants t.flow ≡ false → fed_into f (x ∷ xs) (run s out at) ≡ fed_into f xs t
  unfolding fed_into fed
  goes_on t e w =
      rw (sym (ap (λ (r : Run). wants r.flow) e) ∙ w, e, length-sets, sets-append, length-append, less (length out) at (length ready.out), ← add_assoc)
    where
      less : (a b c : ℕ) → a - (b + c) ≡ a - b - c
      less a b c = omega arith

  -- it is the last
  pub alone : fed_into f (x ∷ []) (run s out at) ≡ into out at ready
  unfolding fed_into fed
  alone = ap (into out at) (same (wants ready.flow))
    where
      same : (b : Bool) → (if b then ready else ran (ready.out ++ []) ready.flow) ≡ ready
      same true = refl
      same false = ap (λ (o : List Float). ran o ready.flow) (append-nil ready.out)

-- ---- an input in two parts: the second is taken where no output is still wanted after the first
module _ (f : Filter) where
  abbrev onward : Bool → Run → List Float → Run
  onward true t ys = t
  onward false t ys = fed_into f ys t

  fed-parts : (x : Float) (xs ys : List Float) (r : Run) (b : Bool) → wants (fed_into f (x ∷ xs) r).flow ≡ b
      → fed_into f (x ∷ xs ++ ys) r ≡ onward b (fed_into f (x ∷ xs) r) ys
  fed-parts x [] ys r b e = rw single (by b (sym (ap (λ (t : Run). wants t.flow) single) ∙ e))
    where
      t : Run
      t = into r.out r.at (ready f r.flow r.out r.at x [])

      single : fed_into f (x ∷ []) r ≡ t
      single = alone f r.flow r.out r.at x []

      by : (b : Bool) → wants t.flow ≡ b → fed_into f (x ∷ ys) r ≡ onward b t ys
      by true w = stops f r.flow r.out r.at x ys t refl w
      by false w = goes_on f r.flow r.out r.at x ys t refl w
  fed-parts x (z ∷ xs) ys r b e = by (wants t.flow) refl (fed-parts z xs ys t)
    where
      t : Run
      t = into r.out r.at (ready f r.flow r.out r.at x [])

      by : (w : Bool) → wants t.flow ≡ w → ((b : Bool) → wants (fed_into f (z ∷ xs) t).flow ≡ b → fed_into f (z ∷ xs ++ ys) t ≡ onward b (fed_into f (z ∷ xs) t) ys)
          → fed_into f (x ∷ z ∷ xs ++ ys) r ≡ onward b (fed_into f (x ∷ z ∷ xs) r) ys
      by true w rest =
          let p : fed_into f (x ∷ z ∷ xs) r ≡ t = stops f r.flow r.out r.at x (z ∷ xs) t refl w in
          let k : b ≡ true = sym e ∙ ap (λ (u : Run). wants u.flow) p ∙ w in
          rw (k, p) (stops f r.flow r.out r.at x (z ∷ xs ++ ys) t refl w)
      by false w rest =
          let p : fed_into f (x ∷ z ∷ xs) r ≡ fed_into f (z ∷ xs) t = goes_on f r.flow r.out r.at x (z ∷ xs) t refl w in
          let k = sym (ap (λ (u : Run). wants u.flow) p) ∙ e in
          rw p (goes_on f r.flow r.out r.at x (z ∷ xs ++ ys) t refl w ∙ rest b k)

-- in the shape in which the code has it: the sample at i of the input, with s' the flow after it went in, and t the run after its outputs
module _ (f : Filter) (s s' : Flow) (out : List Float) (at : ℕ) (x : Float) (t : Run) where
  pub drained-from : s' ≡ pushed f x s → t ≡ drained_into f (run s' out at) → t ≡ into out at (drained f (length out - at) (pushed f x s))
  unfolding drained_into
  drained-from e d = rw (← e) d

module _ (f : Filter) (s : Flow) (out : List Float) (at : ℕ) (xs : List Float) (i : ℕ) (t : Run) (h : i < length xs)
    (e : t ≡ into out at (drained f (length out - at) (pushed f (get_or xs i nan) s))) where
  pub fed-halt : wants t.flow ≡ true → fed_into f (drop i xs) (run s out at) ≡ t
  fed-halt w = rw (drop-cons xs i nan h) (stops f s out at (get_or xs i nan) (drop (suc i) xs) t e w)

  pub fed-turn : wants t.flow ≡ false → fed_into f (drop i xs) (run s out at) ≡ fed_into f (drop (i + 1) xs) t
  fed-turn w = rw (add-one, drop-cons xs i nan h) (goes_on f s out at (get_or xs i nan) (drop (suc i) xs) t e w)

-- the same of the samples at i and after it, two at a time
module _ (f : Filter) (s : Flow) (out : List Float) (at : ℕ) (xs : List Float) (i : ℕ) (t : Run) (h : i + 1 < length xs)
    (e : t ≡ fed_into f (get_or xs i nan ∷ get_or xs (i + 1) nan ∷ []) (run s out at)) where
  pub pair-halt : wants t.flow ≡ true → fed_into f (drop i xs) (run s out at) ≡ t
  pair-halt w = rw (drop-two xs i h) (fed-parts f (get_or xs i nan) (get_or xs (i + 1) nan ∷ []) (drop (i + 2) xs) (run s out at) true (sym (ap (λ (u : Run). wants u.flow) e) ∙ w) ∙ sym e)

  pub pair_turn : wants t.flow ≡ false → fed_into f (drop i xs) (run s out at) ≡ fed_into f (drop (i + 2) xs) t
  pair_turn w = rw (drop-two xs i h, e) (fed-parts f (get_or xs i nan) (get_or xs (i + 1) nan ∷ []) (drop (i + 2) xs) (run s out at) false (sym (ap (λ (u : Run). wants u.flow) e) ∙ w))

-- two samples alone: t is the run after the first's outputs, and u after the second's
module _ (f : Filter) (s : Flow) (out : List Float) (at : ℕ) (x z : Float) (t : Run) (e : t ≡ into out at (drained f (length out - at) (pushed f x s))) where
  pub first-only : wants t.flow ≡ true → t ≡ fed_into f (x ∷ z ∷ []) (run s out at)
  first-only w = sym (stops f s out at x (z ∷ []) t e w)

  pub both-taken : (u : Run) → wants t.flow ≡ false → u ≡ into t.out t.at (drained f (length t.out - t.at) (pushed f z t.flow)) → u ≡ fed_into f (x ∷ z ∷ []) (run s out at)
  both-taken u w d = d ∙ sym (goes_on f s out at x (z ∷ []) t e w ∙ alone f t.flow t.out t.at z [])

-- the end
pub fed-done : (f : Filter) (s : Flow) (out : List Float) (at : ℕ) (xs : List Float) (i : ℕ) → length xs ≤ i → fed_into f (drop i xs) (run s out at) ≡ run s out at
unfolding fed_into fed
fed-done f s out at xs i h = rw (drop_of_length-le xs h) (run-nil s out at)

-- ---- going down in rate: a sample in, over the code's ring
module _ (n : ℕ) (taps ring : List Float) (m : Moving) (step x y : Float) (p : ℕ) where
  pub pushed-down : (ring' : List Float) → Filtered n m.fir_pos taps x ring ring' y → p ≡ ring_next n m.fir_pos
      → windowed (flow_of n ring' m) (history_of n p ring') y ≡ pushed (filter_in n taps true step) x (flow_of n ring m)
  unfolding flow_of pushed
  pushed-down ring' f g = rw (g, f.history, f.value)

  -- the filter's output for it is known from the time when p was the place
  pub pushed-known : m.fir_pos ≡ p → y ≡ filtered (take n taps) (newest x (history_of n p ring))
      → windowed (flow_of n ring m) (newest x (history_of n m.fir_pos ring)) y ≡ pushed (filter_in n taps true step) x (flow_of n ring m)
  unfolding flow_of pushed
  pushed-known g e = rw (g, e)
