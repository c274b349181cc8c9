-- Calls, one after the other, over lists. Assumes nothing.
use Prim.Native.Nat.{ℕ, zero, suc, min, ◌+◌, ◌*◌, ◌-◌, ◌<◌, ◌≤◌, zero-le}
use mathlib.Core.Path.{◌≡◌, refl, sym, ap, ◌∙◌}
use mathlib.Core.Bool.{Bool, true, false}
use mathlib.Core.List.{List, [], ◌∷◌, ◌++◌, append_assoc}
use native.Mathlib.Nat.{add-zero, zero-add, add_assoc, sub-zero}
use native.Mathlib.Numerals.{add-one}
use native.Mathlib.Omega.{arith}
use lib.ListN.{length, get_or, take, drop, length-append, length-drop, take-append-drop}
use lib.Dec.{eqb}
use lib.Seq.{drop-cons, drop-drop, get_or-drop, length-take-le}
use lib.Ieee.{Float}
use Rattle.std.specs.Prelude.{if◌then◌else◌}
use Rattle.refusal.specs.Refusals.{Reply, given, refused, rates_refused, dsp_rate}
use Rattle.resampling.specs.Resample.{State, fresh, Made, made, new_of, reset_of, Outcome, outcome, laid, unless_refused, refusal_of, ran_over, len_of, processed}
use Rattle.resampling.specs.Flow.{Ran}
use Rattle.resampling.specs.ResampleRep.{state_of}
use Rattle.resampling.specs.declared.resample.Resampler.{Resampler}
use Rattle.calls.proofs.Made.{accepted-only, refused-only}
use Rattle.numeric.proofs.Parts.{take_behind, drop-behind, part-next, part_left}
use Rattle.calls.proofs.Parts.{next-two, rest-is, rest_put}
use Rattle.calls.specs.Answers.{number_in, count_in, reply}
use Rattle.calls.specs.declared.answers.Numbers.{Numbers}
use Rattle.calls.specs.Resample.{Run, ran, after, processed_from, lengths_from, called, samples_for, calls_for, scripted_from, state_after, scripted, script_run}
use Rattle.calls.specs.Steps.{Within, Stepped, outcome_at}
use Rattle.calls.specs.declared.resample.Place.{Place}

-- ---- calls before calls
pub after-after : {X : Type 0} (i j : ℕ) (ys zs : List X) (us vs : List ℕ) (r : Run X) → after i ys us (after j zs vs r) ≡ after (i + j) (ys ++ zs) (us ++ vs) r
after-after i j ys zs us vs r = rw (append_assoc ys, append_assoc us, add_assoc i)

pub after-start : {X : Type 0} (r : Run X) → after 0 [] [] r ≡ r
after-start r = rw (zero-add r.calls)

-- ---- no more than was written
processed-within : (s : State) (xs out : List Float) → count_in (processed s xs out).answer ≤ length (processed s xs out).out
unfolding processed
processed-within s xs out = by (refusal_of s xs out) (ran_over s (length out) xs)
  where
    by : (k : ℕ) (r : Ran) → count_in (unless_refused k s out (laid s out r)).answer ≤ length (unless_refused k s out (laid s out r)).out
    by zero r = rw length-append (omega arith)
    by (suc k) r = zero-le

pub count-within : (kind : ℕ) (s : State) (xs out : List Float) → count_in (called kind s xs out).answer ≤ length (called kind s xs out).out
count-within kind s xs out = by (eqb kind 0)
  where
    by : (b : Bool) → count_in (if b then processed s xs out else outcome (given 0) (reset_of s) out).answer ≤ length (if b then processed s xs out else outcome (given 0) (reset_of s) out).out
    by true = processed-within s xs out
    by false = zero-le

-- ---- where no call is left, or no room for an answer
pub lengths-stop : (s : State) (ns ans : List ℕ) → (0 < length ns → length ans < 2) → lengths_from s ns ans ≡ ran 0 [] ans
unfolding lengths_from
lengths-stop s [] ans h = refl
lengths-stop s (n ∷ ns) [] h = refl
lengths-stop s (n ∷ ns) (a ∷ []) h = refl
lengths-stop s (n ∷ ns) (a ∷ b ∷ ans) h =
    let l : length (a ∷ b ∷ ans) < 2 = h (omega arith) in
    absurd (omega arith)

pub processed-stop : (s : State) (xs : List Float) (ns : List ℕ) (out : List Float) (ans : List ℕ) → (0 < length ns → length ans < 2)
    → processed_from s xs ns out ans ≡ ran 0 out ans
unfolding processed_from
processed-stop s xs [] out ans h = refl
processed-stop s xs (n ∷ ns) out [] h = refl
processed-stop s xs (n ∷ ns) out (a ∷ []) h = refl
processed-stop s xs (n ∷ ns) out (a ∷ b ∷ ans) h =
    let l : length (a ∷ b ∷ ans) < 2 = h (omega arith) in
    absurd (omega arith)

-- ---- one call more, with its answer behind the first 2 * i numbers of ans
module _ (i : ℕ) (ans ans' : List ℕ) (room : 2 * i + 2 ≤ length ans) where
  double : 2 * (i + 1) ≡ 2 * i + 2
  double = omega arith

  answered : (r : Reply ℕ) → ans' ≡ take (2 * i) ans ++ (reply r ++ drop (2 * i + 2) ans) → take (2 * (i + 1)) ans' ≡ take (2 * i) ans ++ reply r
  answered r e = rw (e, double) (take_behind (take (2 * i) ans) (reply r ++ drop (2 * i + 2) ans) (2 * i) 2 (length-take-le (2 * i) ans (omega arith)))

  unanswered : (r : Reply ℕ) → ans' ≡ take (2 * i) ans ++ (reply r ++ drop (2 * i + 2) ans) → drop (2 * (i + 1)) ans' ≡ drop (2 * i + 2) ans
  unanswered r e = rw (e, double) (drop-behind (take (2 * i) ans) (reply r ++ drop (2 * i + 2) ans) (2 * i) 2 (length-take-le (2 * i) ans (omega arith)))

  -- from the place p to q
  module _ (p q : Place) (kind n : ℕ) (xs out out' : List Float) (within : p.written ≤ length out)
      (step : Stepped p q kind n xs out out' (take (2 * i) ans) (drop (2 * i + 2) ans) ans') where
    abbrev gives : Outcome
    gives = outcome_at p kind n xs out

    abbrev count : ℕ
    count = count_in gives.answer

    front : length (take p.written out) ≡ p.written
    front = length-take-le p.written out within

    wrote : take q.written out' ≡ take p.written out ++ take count gives.out
    wrote = rw (step.output, step.written) (take_behind (take p.written out) gives.out p.written count front)

    unwritten : drop q.written out' ≡ drop count gives.out
    unwritten = rw (step.output, step.written) (drop-behind (take p.written out) gives.out p.written count front)

    -- whatever the later calls do
    called-step : (rest : State → List Float → List Float → List ℕ → Run Float)
        → after (i + 1) (take q.written out') (take (2 * (i + 1)) ans') (rest (state_of q.state) (drop q.read xs) (drop q.written out') (drop (2 * (i + 1)) ans'))
        ≡ after i (take p.written out) (take (2 * i) ans)
        (after 1 (take count gives.out) (reply gives.answer) (rest gives.state (drop (samples_for kind n) (drop p.read xs)) (drop count gives.out) (drop (2 * i + 2) ans)))
    called-step rest =
        rw (wrote, unwritten, step.state, step.left, answered gives.answer step.answers, unanswered gives.answer step.answers)
        (sym (after-after i 1 (take p.written out) (take count gives.out) (take (2 * i) ans) (reply gives.answer) _))

-- the i-th length
module _ (ns : List ℕ) (i : ℕ) (ans ans' : List ℕ) (some : i < length ns) (room : 2 * i + 2 ≤ length ans) where
  next : drop i ns ≡ get_or ns i 0 ∷ drop (i + 1) ns
  next = rw (add-one i) (drop-cons ns i 0 some)

  pub lengths-step : (s : State) → ans' ≡ take (2 * i) ans ++ (reply (len_of s (get_or ns i 0)) ++ drop (2 * i + 2) ans)
      → after (i + 1) [] (take (2 * (i + 1)) ans') (lengths_from s (drop (i + 1) ns) (drop (2 * (i + 1)) ans')) ≡ after i [] (take (2 * i) ans) (lengths_from s (drop i ns) (drop (2 * i) ans))
  unfolding lengths_from
  lengths-step s e =
      let r = len_of s (get_or ns i 0) in
      rw (answered i ans ans' room r e, unanswered i ans ans' room r e, next, next-two 0 ans (2 * i) room)
      (sym (after-after i 1 [] [] (take (2 * i) ans) (reply r) (lengths_from s (drop (i + 1) ns) (drop (2 * i + 2) ans))))

  pub processed-step : (p q : Place) (xs out out' : List Float) → p.written ≤ length out → Stepped p q 0 (get_or ns i 0) xs out out' (take (2 * i) ans) (drop (2 * i + 2) ans) ans'
      → after (i + 1) (take q.written out') (take (2 * (i + 1)) ans') (processed_from (state_of q.state) (drop q.read xs) (drop (i + 1) ns) (drop q.written out') (drop (2 * (i + 1)) ans'))
      ≡ after i (take p.written out) (take (2 * i) ans) (processed_from (state_of p.state) (drop p.read xs) (drop i ns) (drop p.written out) (drop (2 * i) ans))
  unfolding processed_from
  processed-step p q xs out out' within step =
      called-step i ans ans' room p q 0 (get_or ns i 0) xs out out' within step (λ s ys o a. processed_from s ys (drop (i + 1) ns) o a)
      ∙ rw (next, next-two 0 ans (2 * i) room)

-- the i-th call of a script of two numbers a call
module _ (script : List ℕ) (i : ℕ) where
  pub kind_at : get_or (drop (2 * i) script) 0 0 ≡ get_or script (2 * i) 0
  kind_at = get_or-drop (2 * i) script 0 0 ∙ rw (add-zero (2 * i))

  pub unrun : drop (2 * (i + 1)) script ≡ drop 2 (drop (2 * i) script)
  unrun =
      let two : 2 * (i + 1) ≡ 2 * i + 2 = omega arith in
      rw (two, drop-drop 2 (2 * i) script)

  module _ (ans ans' : List ℕ) (room : 2 * i + 2 ≤ length ans) (p q : Place) (xs out out' : List Float) (within : p.written ≤ length out)
      (step : Stepped p q (get_or script (2 * i) 0) (get_or script (2 * i + 1) 0) xs out out' (take (2 * i) ans) (drop (2 * i + 2) ans) ans') where
    pub scripted-step : (k m : ℕ) → m ≡ suc k
        → after (i + 1) (take q.written out') (take (2 * (i + 1)) ans') (scripted_from k (state_of q.state) (drop q.read xs) (drop (2 * (i + 1)) script) (drop q.written out') (drop (2 * (i + 1)) ans'))
        ≡ after i (take p.written out) (take (2 * i) ans) (scripted_from m (state_of p.state) (drop p.read xs) (drop (2 * i) script) (drop p.written out) (drop (2 * i) ans))
    unfolding scripted_from
    scripted-step k m e =
        called-step i ans ans' room p q (get_or script (2 * i) 0) (get_or script (2 * i + 1) 0) xs out out' within step (λ s ys o a. scripted_from k s ys (drop (2 * (i + 1)) script) o a)
        ∙ rw (e, unrun, kind_at, get_or-drop (2 * i) script 1 0, drop-drop 2 (2 * i) ans)

    pub state-step : (k m : ℕ) → m ≡ suc k
        → state_after k (state_of q.state) (drop q.read xs) (drop (2 * (i + 1)) script) (drop q.written out')
        ≡ state_after m (state_of p.state) (drop p.read xs) (drop (2 * i) script) (drop p.written out)
    unfolding state_after
    state-step k m e =
        rw (e, unrun, unwritten i ans ans' room p q (get_or script (2 * i) 0) (get_or script (2 * i + 1) 0) xs out out' within step, step.state, step.left, kind_at, get_or-drop (2 * i) script 1 0)

-- ---- the last call
-- i calls of those that have room
module _ (ns : List ℕ) (i : ℕ) (ans : List ℕ) (full : i < length ns → length ans < 2 * i + 2) where
  none : 0 < length (drop i ns) → length (drop (2 * i) ans) < 2
  none h =
      let l : 0 < length ns - i = rw length-drop at h in
      let f = full (omega arith) in
      rw length-drop (omega arith)

  pub lengths-end : (s : State) → after i [] (take (2 * i) ans) (lengths_from s (drop i ns) (drop (2 * i) ans)) ≡ ran i [] ans
  lengths-end s = rw (lengths-stop s (drop i ns) (drop (2 * i) ans) none, add-zero i, take-append-drop (2 * i) ans)

  pub processed-end : (s : State) (xs out : List Float) (w : ℕ)
      → after i (take w out) (take (2 * i) ans) (processed_from s xs (drop i ns) (drop w out) (drop (2 * i) ans)) ≡ ran i out ans
  processed-end s xs out w = rw (processed-stop s xs (drop i ns) (drop w out) (drop (2 * i) ans) none, add-zero i, take-append-drop w out, take-append-drop (2 * i) ans)

-- ---- the first and the last call of a script
pub scripted-start : (k : ℕ) (s : State) (xs : List Float) (script : List ℕ) (out : List Float) (ans : List ℕ) → after 0 [] [] (scripted_from (k - 0) s xs script out ans) ≡ scripted_from k s xs script out ans
scripted-start k s xs script out ans = rw (sub-zero k) (after-start (scripted_from k s xs script out ans))

pub state-start : (k : ℕ) (s : State) (xs : List Float) (script : List ℕ) (out : List Float) → state_after (k - 0) s xs script out ≡ state_after k s xs script out
state-start k s xs script out = rw (sub-zero k)

module _ (i j : ℕ) (is : i ≡ j) (s : State) (xs : List Float) (script : List ℕ) (out : List Float) where
  none_left : j - i ≡ 0
  none_left = omega arith

  pub scripted-end : (ans : List ℕ) (w a : ℕ) → after i (take w out) (take a ans) (scripted_from (j - i) s xs script (drop w out) (drop a ans)) ≡ ran j out ans
  unfolding scripted_from
  scripted-end ans w a = rw (none_left, add-zero i, take-append-drop w out, take-append-drop a ans, is)

  pub state-end : state_after (j - i) s xs script out ≡ s
  unfolding state_after
  state-end = rw none_left

-- ---- one call in the code: it lends the input up to e and the output from p on, and gives the answer a, the state st, and ys in the place of that
-- part; then the answer is reply
module _ (p : Place) (kind n e : ℕ) (xs out : List Float) (at_p : Within p xs out) (is : e ≡ p.read + min (samples_for kind n) (length xs - p.read)) (fits : e ≤ length xs)
    (a : Reply ℕ) (st : Resampler) (ys : List Float)
    (gave : outcome a (state_of st) ys ≡ called kind (state_of p.state) (take (e - p.read) (drop p.read xs)) (take (length out - p.written) (drop p.written out))) where
  abbrev out-after : List Float
  out-after = take p.written out ++ (ys ++ drop (length out - p.written) (drop p.written out))

  abbrev place_after : ℕ → Place
  place_after count = record { state = st; read = e; written = p.written + count }

  is-outcome : outcome a (state_of st) ys ≡ outcome_at p kind n xs out
  is-outcome = rw (← part-next xs p.read (samples_for kind n) e is, ← rest-is p.written out) gave

  out-is : out-after ≡ take p.written out ++ ys
  out-is = rest_put p.written out ys at_p.written

  pub call-written : p.written + count_in a ≤ length out-after
  call-written =
      let k : count_in a ≤ length ys = rw (← gave) at (count-within kind (state_of p.state) (take (e - p.read) (drop p.read xs)) (take (length out - p.written) (drop p.written out))) in
      let w : length (take p.written out) ≡ p.written = length-take-le p.written out at_p.written in
      rw (out-is, length-append, w) (omega arith)

  pub call-within : (count : ℕ) → count ≡ count_in a → Within (place_after count) xs out-after
  call-within count e = record { read = fits; written = rw e call-written }

  module _ (t : Numbers) (number : t.number ≡ number_in a) (count : t.count ≡ count_in a) (before behind ans' : List ℕ)
      (reply-is : ans' ≡ before ++ (t.number ∷ t.count ∷ behind)) where
    pub call-steps : Stepped p (place_after t.count) kind n xs out out-after before behind ans'
    call-steps =
        record {
          state = ap (λ (o : Outcome). o.state) is-outcome;
          left = part_left xs p.read (samples_for kind n) e is;
          written = rw (← is-outcome, count);
          output = rw (← is-outcome) out-is;
          answers = rw (← is-outcome, ← number, ← count) reply-is;
        }

-- ---- the rates, as `new` judges them
module _ (src dst : ℕ) (s : State) where
  pub rates-accepted : made (given tt) s ≡ new_of src dst → (rates_refused src dst ≡ false) × (s ≡ fresh src dst)
  unfolding new_of
  rates-accepted e = accepted-only (λ (m : Made). m.answer) (λ (m : Made). m.state) _ _ _ (rates_refused src dst) refl refl e

  pub rates-refused : (k : ℕ) → made (refused k) s ≡ new_of src dst → rates_refused src dst ≡ true
  unfolding new_of
  rates-refused k e = refused-only (λ (m : Made). m.answer) k _ _ _ (rates_refused src dst) refl refl e

-- what a script gives, by the answer of `new`
module _ (src dst : ℕ) (a : Reply Unit) (s : State) (new : made a s ≡ new_of src dst) (xs : List Float) (script : List ℕ) (out : List Float) (ans : List ℕ) where
  pub script-refused : (k : ℕ) → a ≡ refused k → scripted a (ran 0 out ans) s ≡ script_run src dst xs script out ans
  unfolding new_of script_run
  script-refused k is =
      let t = rates-refused src dst s k (rw is at new) in
      let e : made a s ≡ made (refused 1) (fresh dsp_rate dsp_rate) = new ∙ rw t in
      rw t (ap (λ (m : Made). scripted m.answer (ran 0 out ans) m.state) e)

  pub script-accepted : (r : Run Float) (last : State) → a ≡ given tt → r ≡ scripted_from (calls_for script ans) s xs script out ans → last ≡ state_after (calls_for script ans) s xs script out
      → scripted a r last ≡ script_run src dst xs script out ans
  unfolding script_run
  script-accepted r last is r-is last-is =
      let f = rates-accepted src dst s (rw is at new) in
      rw (f.0, is, r-is, last-is, f.1)
