-- Calls of a sender, one after the other, over lists. Assumes nothing.
use Prim.Native.Nat.{ℕ, suc, min, ◌+◌, ◌*◌, ◌-◌, ◌≤◌}
use mathlib.Core.Path.{◌≡◌, refl, sym, ap, ◌∙◌}
use mathlib.Core.Bool.{Bool, true, false}
use mathlib.Core.List.{List, [], ◌∷◌, ◌++◌}
use native.Mathlib.Nat.{add-zero, sub-zero}
use native.Mathlib.Omega.{arith}
use lib.ListN.{length, get_or, take, drop, length-drop, take-append-drop}
use lib.Seq.{drop-drop, get_or-drop, length-take-le}
use mir.Val.{bool_byte}
use lib.Ieee.{Float}
use Rattle.numeric.proofs.Parts.{part-next, part_left, put_front, put-behind}
use Rattle.refusal.specs.Refusals.{Reply, given, refused, rate_refused, dsp_rate}
use Rattle.bell103.specs.declared.Role.{Role}
use Rattle.modulation.specs.Tx.{Sender, fresh_sender, Made, made, new_of}
use Rattle.calls.proofs.Made.{accepted-only, refused-only}
use Rattle.calls.specs.Answers.{bit}
use Rattle.calls.specs.Resample.{Run, ran, after}
use Rattle.calls.specs.Roles.{role_of}
use Rattle.std.specs.Prelude.{if◌then◌else◌}
use Rattle.calls.proofs.Calls.{after-after, after-start, kind_at, unrun}
use Rattle.calls.specs.Script.{Outcome, bytes_for, Calls, reply, calls_for, sent_from, sender_after}
use Rattle.calls.specs.ScriptSteps.{At, standing, called_at, Stepped}
use Rattle.calls.specs.Send.{sends, send_run, sent, sender_run}

-- a bit's number, as the conversion gives it
pub byte-bit : (b : Bool) → bool_byte b ≡ bit b
byte-bit true = refl
byte-bit false = refl

-- ---- one call in the code: it lends the bytes from p up to e and the places up to f; the call leaves part' in these
module _ {S X : Type 0} (d : Calls S X) (p : At S) (kind n : ℕ) (bytes : List ℕ) (out : List X) (written_in : p.written ≤ length out)
    (e f : ℕ) (e-is : e ≡ p.read + min (bytes_for kind n) (length bytes - p.read)) (f-is : f ≡ p.written + min (d.places kind n) (length out - p.written))
    (r : Outcome S X) (gave : r ≡ d.called kind n p.state (take (e - p.read) (drop p.read bytes)) (take (f - p.written) (drop p.written out))) where
  abbrev behind-part : List X
  behind-part = drop (f - p.written) (drop p.written out)

  abbrev out-after : List X
  out-after = take p.written out ++ (r.part ++ behind-part)

  gave-is : r ≡ called_at d p kind n bytes out
  gave-is = gave ∙ rw (part-next bytes p.read (bytes_for kind n) e e-is, part-next out p.written (d.places kind n) f f-is)

  module _ (long : length r.part ≡ length (take (f - p.written) (drop p.written out))) where
    end_is : p.written + length r.part ≡ f
    end_is =
        let room : f - p.written ≤ length (drop p.written out) = rw length-drop (omega (arith, f-is)) in
        omega (arith, long, length-take-le (f - p.written) (drop p.written out) room, f-is)

    behind-is : behind-part ≡ drop f out
    behind-is = let z : p.written + (f - p.written) ≡ f = omega arith in drop-drop (f - p.written) p.written out ∙ ap (λ (k : ℕ). drop k out) z

    pub call-steps : (before behind ans' : List ℕ) (waits : ℕ) → waits ≡ bit (d.waits r.state) → ans' ≡ before ++ ((r.number ∷ r.value ∷ waits ∷ []) ++ behind)
        → Stepped d p (standing r.state e f) kind n bytes out out-after before behind ans'
    call-steps before behind ans' waits waits-is reply-is =
        record {
          state = ap (λ (o : Outcome S X). o.state) gave-is;
          left = part_left bytes p.read (bytes_for kind n) e e-is;
          front = ap (λ (k : ℕ). take k out-after) (sym end_is) ∙ put_front out r.part behind-part p.written written_in ∙ ap (λ (o : Outcome S X). take p.written out ++ o.part) gave-is;
          rest = ap (λ (k : ℕ). drop k out-after) (sym end_is) ∙ put-behind out r.part behind-part p.written written_in ∙ behind-is ∙ part_left out p.written (d.places kind n) f f-is;
          answers = reply-is ∙ ap (λ (w : ℕ). before ++ ((r.number ∷ r.value ∷ w ∷ []) ++ behind)) waits-is ∙ ap (λ (o : Outcome S X). before ++ (reply d o ++ behind)) gave-is;
        }

-- ---- calls before calls
module _ {S X : Type 0} (d : Calls S X) where
  -- before the first of k calls
  pub send-start : (k : ℕ) (s : S) (bytes script : List ℕ) (out : List X) (ans : List ℕ) → after 0 [] [] (sent_from d (k - 0) s bytes script out ans) ≡ sent_from d k s bytes script out ans
  send-start k s bytes script out ans = rw (sub-zero k) (after-start (sent_from d k s bytes script out ans))

  -- one call more, with its answer behind the first 3 * i numbers of ans
  module _ (script : List ℕ) (i : ℕ) (ans ans' : List ℕ) (room : 3 * i + 3 ≤ length ans) (p q : At S) (bytes : List ℕ) (out out' : List X)
      (step : Stepped d p q (get_or script (2 * i) 0) (get_or script (2 * i + 1) 0) bytes out out' (take (3 * i) ans) (drop (3 * i + 3) ans) ans') where
    abbrev gives : Outcome S X
    gives = called_at d p (get_or script (2 * i) 0) (get_or script (2 * i + 1) 0) bytes out

    three : 3 * (i + 1) ≡ 3 * i + 3
    three = omega arith

    answered : take (3 * (i + 1)) ans' ≡ take (3 * i) ans ++ reply d gives
    answered = rw (step.answers, three) (put_front ans (reply d gives) (drop (3 * i + 3) ans) (3 * i) (omega arith))

    unanswered : drop (3 * (i + 1)) ans' ≡ drop 3 (drop (3 * i) ans)
    unanswered = rw (step.answers, three, drop-drop 3 (3 * i) ans) (put-behind ans (reply d gives) (drop (3 * i + 3) ans) (3 * i) (omega arith))

    step_is : (k : ℕ)
        → after (i + 1) (take q.written out') (take (3 * (i + 1)) ans') (sent_from d k q.state (drop q.read bytes) (drop (2 * (i + 1)) script) (drop q.written out') (drop (3 * (i + 1)) ans'))
        ≡ after i (take p.written out) (take (3 * i) ans) (sent_from d (suc k) p.state (drop p.read bytes) (drop (2 * i) script) (drop p.written out) (drop (3 * i) ans))
    unfolding sent_from
    step_is k =
        rw (step.front, step.rest, answered, unanswered, unrun script i, step.state, step.left, kind_at script i, get_or-drop (2 * i) script 1 0)
        (sym (after-after i 1 (take p.written out) gives.part (take (3 * i) ans) (reply d gives) _))

    -- m calls were left
    pub send-step : (k m : ℕ) → m ≡ suc k
        → after (i + 1) (take q.written out') (take (3 * (i + 1)) ans') (sent_from d k q.state (drop q.read bytes) (drop (2 * (i + 1)) script) (drop q.written out') (drop (3 * (i + 1)) ans'))
        ≡ after i (take p.written out) (take (3 * i) ans) (sent_from d m p.state (drop p.read bytes) (drop (2 * i) script) (drop p.written out) (drop (3 * i) ans))
    send-step k m e = rw e (step_is k)

    pub sender-step : (k m : ℕ) → m ≡ suc k
        → sender_after d k q.state (drop q.read bytes) (drop (2 * (i + 1)) script) (drop q.written out')
        ≡ sender_after d m p.state (drop p.read bytes) (drop (2 * i) script) (drop p.written out)
    unfolding sender_after
    sender-step k m e = rw (e, step.rest, unrun script i, step.state, step.left, kind_at script i, get_or-drop (2 * i) script 1 0)

  -- the last of j calls
  pub send-end : (i j : ℕ) → i ≡ j → (s : S) (bytes script : List ℕ) (out : List X) (ans : List ℕ) (w a : ℕ)
      → after i (take w out) (take a ans) (sent_from d (j - i) s bytes script (drop w out) (drop a ans)) ≡ ran j out ans
  unfolding sent_from
  send-end i j is s bytes script out ans w a =
      let z : j - i ≡ 0 = omega arith in
      rw (z, add-zero i, take-append-drop w out, take-append-drop a ans, is)

  pub sender-start : (k : ℕ) (s : S) (bytes script : List ℕ) (out : List X) → sender_after d (k - 0) s bytes script out ≡ sender_after d k s bytes script out
  sender-start k s bytes script out = rw (sub-zero k)

  pub sender-end : (i j : ℕ) → i ≡ j → (s : S) (bytes script : List ℕ) (out : List X) → sender_after d (j - i) s bytes script out ≡ s
  unfolding sender_after
  sender-end i j is s bytes script out =
      let z : j - i ≡ 0 = omega arith in
      rw z

-- ---- the rate, as `new` judges it
module _ (rate : ℕ) (role : Role) (s : Sender) where
  pub rate-accepted : made (given tt) s ≡ new_of rate role → (rate_refused rate ≡ false) × (s ≡ fresh_sender rate role)
  unfolding new_of
  rate-accepted e = accepted-only (λ (m : Made). m.answer) (λ (m : Made). m.state) _ _ _ (rate_refused rate) refl refl e

  pub rate-refused : (k : ℕ) → made (refused k) s ≡ new_of rate role → rate_refused rate ≡ true
  unfolding new_of
  rate-refused k e = refused-only (λ (m : Made). m.answer) k _ _ _ (rate_refused rate) refl refl e

-- what a script gives, by the answer of `new`
module _ (rate role : ℕ) (r : Role) (role-is : r ≡ role_of role) (a : Reply Unit) (s : Sender) (new : made a s ≡ new_of rate r) (bytes script : List ℕ) (out : List Float) (ans : List ℕ) where
  pub sender-refused : (k : ℕ) → a ≡ refused k → sent a (ran 0 out ans) s ≡ sender_run rate role bytes script out ans
  unfolding new_of sender_run
  sender-refused k is =
      let t = rate-refused rate r s k (rw is at new) in
      let e : made a s ≡ made (refused 1) (fresh_sender dsp_rate r) = new ∙ rw t in
      rw (t, ← role-is) (ap (λ (m : Made). sent m.answer (ran 0 out ans) m.state) e)

  pub sender-accepted : (run : Run Float) (last : Sender) → a ≡ given tt → run ≡ sent_from sends (calls_for script ans) s bytes script out ans → last ≡ sender_after sends (calls_for script ans) s bytes script out
      → sent a run last ≡ sender_run rate role bytes script out ans
  unfolding sender_run
  sender-accepted run last is run_is last-is =
      let f = rate-accepted rate r s (rw is at new) in
      rw (f.0, is, run_is, last-is, f.1, role-is)

-- its run alone
pub sent-run : (rate role : ℕ) (bytes script : List ℕ) (out : List Float) (ans : List ℕ) → (sender_run rate role bytes script out ans).run ≡ send_run rate role bytes script out ans
unfolding sender_run send_run
sent-run rate role bytes script out ans = by (rate_refused rate)
  where
    run : Run Float
    run = sent_from sends (calls_for script ans) (fresh_sender rate (role_of role)) bytes script out ans

    by : (t : Bool) → (if t then sent (refused 1) (ran 0 out ans) (fresh_sender dsp_rate (role_of role)) else sent (given tt) run (sender_after sends (calls_for script ans) (fresh_sender rate (role_of role)) bytes script out)).run
        ≡ (if t then ran 0 out ans else run)
    by true = refl
    by false = refl
