-- Whole lists of calls of the resampler, each list from a fresh state. Assumes nothing.
use Rattle.std.specs.Prelude.{ℕ, zero, suc, min, ◌+◌, ◌/◌, List, [], ◌∷◌, ◌++◌, eqb, length, get_or, take, drop, Float}
use Rattle.std.specs.Prelude.{if◌then◌else◌}
use Rattle.refusal.specs.Refusals.{Reply, given, refused, rates_refused, dsp_rate}
use Rattle.resampling.specs.Resample.{State, Outcome, outcome, fresh, reset_of, len_of, processed}
use Rattle.calls.specs.Answers.{count_in, reply}

-- what a list of calls leaves: how many were run, the lent output, whose samples are of the type X, and the lent answers
pub record Run (X : Type 0) : Type 0 where
  pub calls : ℕ
  pub output : List X
  pub answers : List ℕ

abbrev pub ran : {X : Type 0} → ℕ → List X → List ℕ → Run X
ran k out ans = record { calls = k; output = out; answers = ans }

-- k calls, the samples that they wrote and their answers, before what the later ones leave
abbrev pub after : {X : Type 0} → ℕ → List X → List ℕ → Run X → Run X
after k ys ans r = ran (k + r.calls) (ys ++ r.output) (ans ++ r.answers)

-- `process` once for each length, as long as ans has room for two more numbers. A call takes the next n samples of the input, or what is left of
-- it, and a refused call passes them over. Its output stands behind the samples that are written; what stands behind the last stays
unfoldable pub processed_from : State → List Float → List ℕ → List Float → List ℕ → Run Float
processed_from s xs [] out ans = ran 0 out ans
processed_from s xs (n ∷ ns) out [] = ran 0 out []
processed_from s xs (n ∷ ns) out (a ∷ []) = ran 0 out (a ∷ [])
processed_from s xs (n ∷ ns) out (a ∷ b ∷ ans) =
    let p = processed s (take n xs) out in
    let k = count_in p.answer in
    after 1 (take k p.out) (reply p.answer) (processed_from p.state (drop n xs) ns (drop k p.out) ans)

-- rates that `new` refuses run no call and write nothing
unfoldable pub resample_run : ℕ → ℕ → List Float → List ℕ → List Float → List ℕ → Run Float
resample_run src dst xs ns out ans = if rates_refused src dst then ran 0 out ans else processed_from (fresh src dst) xs ns out ans

-- `max_output_len` once for each length, as long as ans has room for two more numbers; it has no output
unfoldable pub lengths_from : State → List ℕ → List ℕ → Run Float
lengths_from s [] ans = ran 0 [] ans
lengths_from s (n ∷ ns) [] = ran 0 [] []
lengths_from s (n ∷ ns) (a ∷ []) = ran 0 [] (a ∷ [])
lengths_from s (n ∷ ns) (a ∷ b ∷ ans) = after 1 [] (reply (len_of s n)) (lengths_from s ns ans)

unfoldable pub lengths_run : ℕ → ℕ → List ℕ → List ℕ → Run Float
lengths_run src dst ns ans = if rates_refused src dst then ran 0 [] ans else lengths_from (fresh src dst) ns ans

-- ---- a script: two numbers for each call, its kind and n
abbrev pub kind_in : List ℕ → ℕ
kind_in script = get_or script 0 0

abbrev pub number_for : List ℕ → ℕ
number_for script = get_or script 1 0

-- kind 0 is `process`, any other number `reset`, which writes nothing and refuses nothing
abbrev pub called : ℕ → State → List Float → List Float → Outcome
called kind s xs out = if eqb kind 0 then processed s xs out else outcome (given 0) (reset_of s) out

-- the samples that a call of this kind takes, at most
abbrev pub samples_for : ℕ → ℕ → ℕ
samples_for kind n = if eqb kind 0 then n else 0

abbrev pub samples_in : List ℕ → ℕ
samples_in script = samples_for (kind_in script) (number_for script)

-- the first call of a script
abbrev pub first_of : List ℕ → State → List Float → List Float → Outcome
first_of script s xs out = called (kind_in script) s (take (samples_in script) xs) out

-- the whole calls of a script that have room for their answers, two numbers each
abbrev pub calls_for : List ℕ → List ℕ → ℕ
calls_for script ans = min (length script / 2) (length ans / 2)

-- k calls of a script; samples, output and answers as in `processed_from`
unfoldable pub scripted_from : ℕ → State → List Float → List ℕ → List Float → List ℕ → Run Float
scripted_from zero s xs script out ans = ran 0 out ans
scripted_from (suc k) s xs script out ans =
    let c = first_of script s xs out in
    let j = count_in c.answer in
    after 1 (take j c.out) (reply c.answer) (scripted_from k c.state (drop (samples_in script) xs) (drop 2 script) (drop j c.out) (drop 2 ans))

-- the resampler after them
unfoldable pub state_after : ℕ → State → List Float → List ℕ → List Float → State
state_after zero s xs script out = s
state_after (suc k) s xs script out =
    let c = first_of script s xs out in
    state_after k c.state (drop (samples_in script) xs) (drop 2 script) (drop (count_in c.answer) c.out)

-- what a script leaves: the answer of `new`, the run, and the resampler behind it
pub record Scripted : Type 0 where
  pub answer : Reply Unit
  pub run : Run Float
  pub state : State

abbrev pub scripted : Reply Unit → Run Float → State → Scripted
scripted a r s = record { answer = a; run = r; state = s }

-- from a fresh resampler on; rates that `new` refuses run no call and write nothing
unfoldable pub script_run : ℕ → ℕ → List Float → List ℕ → List Float → List ℕ → Scripted
script_run src dst xs script out ans =
    let k = calls_for script ans in
    let s = fresh src dst in
    if rates_refused src dst then scripted (refused 1) (ran 0 out ans) (fresh dsp_rate dsp_rate)
    else scripted (given tt) (scripted_from k s xs script out ans) (state_after k s xs script out)
