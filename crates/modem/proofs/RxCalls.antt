-- What the receiver's and the listener's calls come to, for those who make them. Assumes nothing.
use Prim.Native.Nat.{ℕ, ◌+◌, ◌≤◌}
use mathlib.Core.Path.{◌≡◌, refl, sym, ◌∙◌}
use mathlib.Core.Bool.{Bool, true, false, not}
use mathlib.Core.List.{List, []}
use native.Mathlib.Omega.{arith}
use lib.Dec.{ltb}
use lib.ListN.{length}
use lib.Ieee.{Float}
use Rattle.std.specs.Prelude.{if◌then◌else◌}
use Rattle.refusal.specs.Refusals.{dsp_rate, given, refused, first, reply_of, rate_refused}
use Rattle.refusal.proofs.RefusalLaws.{first-yes, first-no}
use Rattle.numeric.specs.Convert.{all_in_range}
use Rattle.modem.specs.Queue.{most_bytes}
use Rattle.modem.proofs.QueueLaws.{queued_length, bytes-sound-of, events-sound-of}
use Rattle.resampling.specs.ResampleRep.{state_of}
use Rattle.resampling.proofs.ResampleLaws.{sound-of}
use Rattle.demodulation.proofs.DemodLaws.{demod-sound-of}
use Rattle.modem.specs.Listener.{fresh_demod, admitted, samples_refused, Listens}
use Rattle.modem.specs.ListenerRep.{demod_of, FewErrors, ListenerSound}
use Rattle.modem.specs.Rx.{receiver, fresh_receiver, made, new_of}
use Rattle.modem.specs.Write.{refused_by}
use Rattle.modem.specs.RxRep.{receiver_of, RxSound}
use Rattle.bell103.specs.declared.Role.{Role}
use Rattle.demodulation.specs.declared.kind.Kind.TheVariants.{Bare}
use Rattle.modem.specs.declared.listener.Listener.{Listener}
use Rattle.modem.specs.declared.rx.Rx.{Rx}

-- ---- a listener and a receiver of the code's are sound
pub listener-sound-of : (l : Listener) → ListenerSound l
unfolding FewErrors
listener-sound-of l = record { resampler = sound-of l.resampler; to_8000 = l.to_8000; demod = demod-sound-of l.demod; count = l.most; errors = l.few }

pub rx-sound-of : (r : Rx) → RxSound r
rx-sound-of r = record { listener = listener-sound-of r.listener; bytes = bytes-sound-of r.out; events = events-sound-of r.events }

-- ---- a sound state
pub listener-listens : (l : Listener) → ListenerSound l → Listens (demod_of l)
unfolding demod_of state_of
listener-listens l s = record { from = s.resampler.rates.src_low; to = s.to_8000; tuned = s.demod }

pub sound-listens : (r : Rx) → RxSound r → Listens (receiver_of r).demod
unfolding receiver_of
sound-listens r s = listener-listens r.listener s.listener

pub sound-few : (r : Rx) → RxSound r → length (receiver_of r).waiting ≤ most_bytes
unfolding receiver_of
sound-few r s = omega (arith, queued_length r.out, s.bytes.room)

pub sound-count : (r : Rx) → RxSound r → (receiver_of r).accepted ≤ 4294967296
unfolding receiver_of
sound-count r s = s.listener.count

pub admitted-ok : (rate : ℕ) → rate_refused (admitted rate) ≡ false
unfolding admitted
admitted-ok rate = by (rate_refused rate) refl
  where
    by : (b : Bool) → rate_refused rate ≡ b → rate_refused (if b then dsp_rate else rate) ≡ false
    by true e = unfold rate_refused in refl
    by false e = e

pub admitted-same : (rate : ℕ) → rate_refused rate ≡ false → admitted rate ≡ rate
unfolding admitted
admitted-same rate e = rw e refl

pub new_is : (rate : ℕ) (role : Role) → new_of rate role ≡ made (reply_of (first (rate_refused rate) 1 0)) (fresh_receiver (admitted rate) role)
unfolding new_of admitted first
new_is rate role = by (rate_refused rate)
  where
    by : (b : Bool) → (if b then made (refused 1) (fresh_receiver dsp_rate role) else made (given tt) (fresh_receiver rate role)) ≡ made (reply_of (first b 1 0)) (fresh_receiver (if b then dsp_rate else rate) role)
    by true = refl
    by false = refl

pub fresh-is : (rate : ℕ) (role : Role) → fresh_receiver rate role ≡ receiver (fresh_demod Bare rate role) [] [] 0
unfolding fresh_receiver
fresh-is rate role = refl

-- ---- `write`
-- "32 more than 409 of 512 received bytes wait": where none wait it never applies
pub none-wait : (xs : List Float) (n : ℕ) → refused_by xs n 0 ≡ samples_refused xs n
unfolding refused_by samples_refused first
none-wait xs n = refl

pub never-waits : (xs : List Float) (n : ℕ) → samples_refused xs n ≡ 32 → ⊥
unfolding samples_refused
never-waits xs n e = by (ltb 1024 (length xs)) (not (all_in_range xs)) (ltb 4294967296 (n + length xs)) e
  where
    by : (p q r : Bool) → first p 3 (first q 4 (first r 31 0)) ≡ 32 → ⊥
    by true q r e = let a = sym (first-yes 3 (first q 4 (first r 31 0))) ∙ e in omega arith
    by false true r e = let a = sym (first-no 3 (first true 4 (first r 31 0)) ∙ first-yes 4 (first r 31 0)) ∙ e in omega arith
    by false false true e = let a = sym (first-no 3 (first false 4 (first true 31 0)) ∙ first-no 4 (first true 31 0) ∙ first-yes 31 0) ∙ e in omega arith
    by false false false e = let a = sym (first-no 3 (first false 4 (first false 31 0)) ∙ first-no 4 (first false 31 0) ∙ first-no 31 0) ∙ e in omega arith
