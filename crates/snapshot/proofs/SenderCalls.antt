-- The sender's state laid into a slice, and shown behind a script. Assumes nothing.
use mathlib.Core.Path.{◌≡◌, ap, ◌∙◌}
use mathlib.Core.List.{List, ◌++◌}
use native.Mathlib.Nat.{zero-add}
use native.Mathlib.Omega.{arith}
use lib.ListN.{length, drop, length-append}
use lib.Ieee.{Float}
use Rattle.resampling.specs.Resample.{State}
use Rattle.modulation.specs.Numbers.{keying_numbers, bit_numbers, pending_numbers}
use Rattle.modulation.specs.Tx.{Sender}
use Rattle.calls.specs.Send.{Sent}
use Rattle.snapshot.specs.ReceiverState.{resampler_numbers}
use Rattle.snapshot.specs.ResamplerState.{traced}
use Rattle.snapshot.specs.SenderState.{sender_numbers, sender_length, shown_after}
use Rattle.snapshot.specs.StateSteps.{Put, PutMany}
use Rattle.snapshot.proofs.StateCalls.{put-put}

pub sender-put : (s : Sender) (q : State) (keying bits pending l1 l2 l3 l4 l5 : List Float) → q ≡ s.modulator.resampler → keying ≡ keying_numbers s → bits ≡ bit_numbers s → pending ≡ pending_numbers s
    → length keying ≡ 8 → length bits ≡ 4096 → length pending ≡ 64
    → PutMany 0 753 (resampler_numbers q) l1 l2 → Put 753 keying l2 l3 → Put 761 bits l3 l4 → Put 4857 pending l4 l5 → l5 ≡ sender_numbers s ++ drop sender_length l1
unfolding sender_numbers
sender-put s q keying bits pending l1 l2 l3 l4 l5 q-is k-is b-is p-is k-long b-long p-long a k b p =
    let A : List Float = resampler_numbers q in
    let bp = put-put 761 4857 bits pending l3 l4 l5 (omega (arith, b-long)) b p in
    let kbp = put-put 753 761 keying (bits ++ pending) l2 l3 l5 (omega (arith, k-long)) k bp in
    let all = put-put 0 753 A (keying ++ (bits ++ pending)) l1 l2 l5 (omega (arith, a.many)) a.put kbp in
    let many : length (A ++ (keying ++ (bits ++ pending))) ≡ 4921 = rw (length-append A, length-append keying, length-append bits) (omega (arith, a.many, k-long, b-long, p-long)) in
    let rest : List Float = drop sender_length l1 in
    let R : List Float = resampler_numbers s.modulator.resampler in
    let first : l5 ≡ (A ++ (keying ++ (bits ++ pending))) ++ rest = all.is ∙ rw (many, zero-add) in
    first
    ∙ ap (λ (x : State). (resampler_numbers x ++ (keying ++ (bits ++ pending))) ++ rest) q-is
    ∙ ap (λ (x : List Float). (R ++ (x ++ (bits ++ pending))) ++ rest) k-is
    ∙ ap (λ (x : List Float). (R ++ (keying_numbers s ++ (x ++ pending))) ++ rest) b-is
    ∙ ap (λ (x : List Float). (R ++ (keying_numbers s ++ (bit_numbers s ++ x))) ++ rest) p-is

pub sender-traced : (x y : Sent) (l l' : List Float) → x ≡ y → l' ≡ shown_after x.answer x.state l → traced x.run l' ≡ traced y.run (shown_after y.answer y.state l)
sender-traced x y l l' e s = rw s (ap (λ (z : Sent). traced z.run (shown_after z.answer z.state l)) e)
