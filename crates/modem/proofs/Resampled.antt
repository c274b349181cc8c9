-- A call's samples through the resampler. Assumes nothing.
use Rattle.refusal.specs.declared.Refusal.{Refusal}
use Rattle.std.specs.Prelude.{Result}
use Rattle.std.specs.Result.{result_unwrap_or}
use Prim.Native.Nat.{ℕ, ◌+◌, ◌-◌, ◌≤◌}
use mathlib.Core.Path.{◌≡◌, ap, subst, ◌∙◌}
use mathlib.Core.Bool.{true}
use mathlib.Core.List.{List, ◌++◌, append_assoc}
use native.Mathlib.Omega.{arith}
use borrow.Author.Tests.{le-ltb}
use lib.ListN.{length, take, drop, length-append, length-drop}
use lib.Seq.{take-append_seam, take_all, length-take-le}
use lib.Ieee.{Float}
use Rattle.refusal.specs.Refusals.{given, reply_in}
use Rattle.refusal.proofs.RefusalLaws.{count-given}
use Rattle.resampling.specs.Flow.{ran}
use Rattle.resampling.specs.Resample.{State, equal_rates, outcome, Outcome, len_of, too_many, max_output_len, ran_into, laid}
use Rattle.resampling.proofs.ResampleLaws.{equal-rates, ran-few, output-few}
use Rattle.resampling.specs.ResampleRep.{state_of}
use Rattle.modem.specs.Hear.{resampled, Resamples}
use Rattle.modem.specs.Listener.{heard_by}
use Rattle.modem.specs.ListenerRep.{demod_of, FewErrors, Takes}
use Rattle.modem.specs.declared.listener.Listener.{Listener}
use Rattle.happenings.specs.Codes.{most_steps, heard_in}
use Rattle.demodulation.specs.Demod as defined
use Rattle.demodulation.specs.Listening.{HearsInto}
use Rattle.demodulation.specs.declared.demod.Demodulator.{Demodulator}
use Rattle.refusal.specs.declared.Counting.{Counting}
use Rattle.resampling.specs.declared.resample.Resampler.{Resampler}
use Rattle.modem.proofs.RxCalls.{listener-sound-of}
use Rattle.modem.proofs.ErrorLaws.{errors-on}

-- the room that a call of n samples asks for
pub room-is : (s : State) (n : ℕ) (c : Result ℕ Refusal) → n ≤ 2048 → reply_in c ≡ len_of s n → result_unwrap_or c 0 ≡ max_output_len s.src s.dst n
unfolding len_of too_many
room-is s n c h e = count-given c (max_output_len s.src s.dst n) (e ∙ rw (le-ltb _ _ h))

pub room-few : (s : State) (n : ℕ) → n ≤ 1024 → 8000 ≤ s.src → s.dst ≡ 8000 → max_output_len s.src s.dst n ≤ 1026
room-few s n h l e = rw e (few (max_output_len s.src 8000 n) (output-few s.src n l))
  where
    few : (m : ℕ) → m ≤ n + 2 → m ≤ 1026
    few m k = omega arith

-- a call that has this room: what it gives
module _ (s : State) (xs o : List Float) (l : length o ≡ max_output_len s.src s.dst (length xs)) where
  pub gives : ran_into s xs o ≡ laid s o (resampled s xs)
  unfolding resampled
  gives = rw l

  pub within : length (resampled s xs).out ≤ length o
  unfolding resampled
  within = rw l (ran-few s xs)

-- the samples stand at the front of an output of 1,026 places whose first `need` were lent
pub resamples : (b r : Resampler) (xs out o' : List Float) (need n : ℕ) → need ≡ max_output_len b.src_rate b.dst_rate (length xs)
    → length out ≡ 1026 → need ≤ 1026 → outcome (given n) (state_of r) o' ≡ ran_into (state_of b) xs (take need out)
    → Resamples b xs r n (o' ++ drop need out)
unfolding state_of
resamples b r xs out o' need n is l k e =
    let t : length (take need out) ≡ need = length-take-le need out (omega arith) in
    let R = resampled (state_of b) xs in
    let f = e ∙ gives (state_of b) xs (take need out) (t ∙ is) in
    let w = within (state_of b) xs (take need out) (t ∙ is) in
    let c : n ≡ length R.out = let z = ap (λ (x : Outcome). x.answer) f in cc in
    let st = ap (λ (x : Outcome). x.state) f in
    let oo : o' ≡ R.out ++ drop (length R.out) (take need out) = ap (λ (x : Outcome). x.out) f in
    let ol : length o' ≡ need = ap length oo ∙ length-append R.out _ ∙ ap (λ (x : ℕ). length R.out + x) (length-drop (length R.out) (take need out)) ∙ tail (length R.out) (length (take need out)) need w t in
    record {
      samples = rw (c, oo, append_assoc) (take-append_seam R.out _);
      count = c;
      state = st;
      rate = ap (λ (x : State). x.dst) st;
      places = length-append o' (drop need out) ∙ simp (length-drop, ol, l) (sum need k);
    }
  where
    tail : (a b need : ℕ) → a ≤ b → b ≡ need → a + (b - a) ≡ need
    tail a b need h e = omega arith

    sum : (need : ℕ) → need ≤ 1026 → need + (1026 - need) ≡ 1026
    sum need k = omega arith

-- they have a place in the output
pub fits-scratch : (b r : Resampler) (xs : List Float) (n : ℕ) (out : List Float) → Resamples b xs r n out → 8000 ≤ b.src_rate → b.dst_rate ≡ 8000 → length xs ≤ 1024
    → n ≤ length out
unfolding state_of resampled
fits-scratch b r xs n out p l e h = omega (arith, p.count, p.places, ran-few (state_of b) xs, room-few (state_of b) (length xs) h l e)

-- a call makes 1,026 of them at the most
pub steps-fit : (b : Resampler) (xs : List Float) → 8000 ≤ b.src_rate → b.dst_rate ≡ 8000 → length xs ≤ 1024 → length (resampled (state_of b) xs).out ≤ 1026
unfolding state_of resampled
steps-fit b xs l e h = omega (arith, ran-few (state_of b) xs, room-few (state_of b) (length xs) h l e)

-- all of so few are heard
pub all-heard : (d : Demodulator) (xs ys : List Float) (codes : List ℕ) (r : Counting Demodulator) (codes' : List ℕ) → xs ≡ ys → length ys ≤ most_steps
    → HearsInto d (take most_steps xs) codes r codes' → HearsInto d ys codes r codes'
all-heard d xs ys codes r codes' e l h = subst (λ (zs : List Float). HearsInto d zs codes r codes') (ap (take most_steps) e ∙ take_all most_steps ys l) h

-- at equal rates they are the call's own, and the resampler stays as it is
pub plain : (r : Resampler) (xs : List Float) → equal_rates (state_of r) ≡ true → resampled (state_of r) xs ≡ ran xs (state_of r).flow
unfolding resampled state_of
plain r xs e = equal-rates (state_of r) xs e

-- so a listener at equal rates has taken them once its demodulator heard them
pub plain-takes : (l r : Listener) (xs : List Float) (before codes : List ℕ) (h : Counting Demodulator)
    → r.resampler ≡ l.resampler → r.demod ≡ h.state → r.accepted ≡ l.accepted + length xs → equal_rates (state_of l.resampler) ≡ true
    → HearsInto l.demod xs before h codes → Takes l xs before r h.count codes
unfolding demod_of heard_by state_of
plain-takes l r xs before codes h rs ds ac same i =
    let e = plain l.resampler xs same in
    record {
      demod = rw (rs, ds, e, i.after);
      heard = rw e i.heard;
      count = rw e i.count;
      few = i.few;
      rest = i.rest;
      places = i.places;
      accepted = ac;
    }

-- what happened is what the definition hears
pub plain-heard : (l : Listener) (xs : List Float) (before codes : List ℕ) (h : Counting Demodulator) → equal_rates (state_of l.resampler) ≡ true
    → HearsInto l.demod xs before h codes → heard_in h.count codes ≡ (heard_by (demod_of l) xs).happenings
unfolding demod_of heard_by state_of
plain-heard l xs before codes h same i = rw (plain l.resampler xs same) i.heard

-- and its error count is still few
pub plain-few : (l : Listener) (xs : List Float) (before codes : List ℕ) (h : Counting Demodulator) → HearsInto l.demod xs before h codes
    → FewErrors h.state.core.deframer (l.accepted + length xs)
plain-few l xs before codes h i =
    errors-on _ _ _ _ _ (listener-sound-of l).errors (ap (λ (x : defined.Demodulator). x.deframer) i.after) (omega arith)
