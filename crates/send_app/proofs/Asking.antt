-- What the sender is asked for, from what its calls ensure. Assumes nothing.
use Rattle.refusal.specs.declared.Refusal.{Refusal}
use Rattle.std.specs.Prelude.{Result, Ok, Err, is_ok}
use Rattle.std.proofs.Common.{◌≡◌, ℕ, ◌+◌, ◌-◌, ◌<◌, ◌≤◌, min, Bool, true, false, ltb, List, [], ◌∷◌, length, take, drop, sym, refl, ap, ◌∙◌, true≢false, le_of_lt, arith, length-drop, length-take-le, take_all, ltb-false, ltb-true}
use lib.Seq.{take-length}
use lib.Ieee.{Float}
use Rattle.refusal.specs.Refusals.{Reply, reply_in}
use Rattle.modulation.specs.Requests.{Request}
use Rattle.modulation.specs.Tx.{Sender, Adjusted, adjusted, amplitude_of, reading, read_of}
use Rattle.modulation.specs.Queueing.{Queueing, queueing, requested, write_of, idle_mark_of}
use Rattle.send_app.specs.Call.{half, opened_of, sent, next_part, queued_to, queued_more, block_of}

-- the sender that a request leaves
after : {a : Reply Unit} (s : Sender) {s' : Sender} (r : Request) → queueing a s' ≡ requested s r → s' ≡ (requested s r).state
after s r e = ap (λ (q : Queueing). q.state) e

on : (r : Request) {s s' : Sender} → s ≡ s' → (requested s r).state ≡ (requested s' r).state
on r e = ap (λ (s : Sender). (requested s r).state) e

pub opened-is : {a b c d e : Reply Unit} (s : Sender) {s₁ s₂ s₃ s₄ s₅ : Sender} → adjusted a s₁ ≡ amplitude_of s half → queueing b s₂ ≡ idle_mark_of s₁ 300
    → queueing c s₃ ≡ write_of s₂ (0x55 ∷ []) → queueing d s₄ ≡ idle_mark_of s₃ 60 → queueing e s₅ ≡ write_of s₄ (0x0A ∷ []) → s₅ ≡ opened_of s
unfolding opened_of
opened-is s p q r t u =
    after _ _ u ∙ on _ (after _ _ t ∙ on _ (after _ _ r ∙ on _ (after _ _ q ∙ on _ (ap (λ (z : Adjusted). z.state) p))))

-- the part of the text from `at` on, as the code cuts it, is its next part
pub part-is : (text : List ℕ) (at k : ℕ) → k ≡ min 64 (length text - at) → take k (drop at text) ≡ next_part text at
part-is text at k e = by (ltb (length (drop at text)) 64) refl
  where
    by : (t : Bool) → ltb (length (drop at text)) 64 ≡ t → take k (drop at text) ≡ next_part text at
    by true f =
        let h : length (drop at text) < 64 = ltb-true _ _ f in
        let z : k ≡ length (drop at text) = omega (arith, length-drop at text) in
        rw (z, take-length (drop at text), take_all 64 (drop at text) (le_of_lt h))
    by false f =
        let h : 64 ≤ length (drop at text) = ltb-false _ _ f in
        let z : k ≡ 64 = omega (arith, length-drop at text) in
        rw z

pub part_length : (text : List ℕ) (at k : ℕ) → k ≡ min 64 (length text - at) → length (next_part text at) ≡ k
part_length text at k e = ap length (sym (part-is text at k e)) ∙ length-take-le k (drop at text) (omega (arith, length-drop at text))

-- an accepted part is queued, and a refused one is asked for again
pub goes_on : (b : Result Unit Refusal) (at n end : ℕ) → end ≡ at + n → is_ok b ≡ true → queued_to (reply_in b) at n ≡ end
goes_on (Ok tt) at n end e t = sym e
goes_on (Err r) at n end e t = absurd (true≢false (sym t))

pub asks-again : (b : Result Unit Refusal) (at n : ℕ) → is_ok b ≡ false → queued_to (reply_in b) at n ≡ at
asks-again (Ok tt) at n t = absurd (true≢false t)
asks-again (Err r) at n t = refl

module _ (s : Sender) {s' : Sender} (a : Result Unit Refusal) (text part : List ℕ) (at : ℕ) (p : part ≡ next_part text at) (q : queueing (reply_in a) s' ≡ write_of s part) where
  at-answer : (n : ℕ) → queued_to (reply_in a) at (length (next_part text at)) ≡ n → sent s' n [] ≡ queued_more s text at
  unfolding queued_more
  at-answer n e = let is : queueing (reply_in a) s' ≡ write_of s (next_part text at) = q ∙ ap (write_of s) p in rw (← is, e)

  pub queued-yes : (end : ℕ) → end ≡ at + length (next_part text at) → is_ok a ≡ true → sent s' end [] ≡ queued_more s text at
  queued-yes end e y = at-answer end (goes_on a at _ end e y)

  pub queued-no : is_ok a ≡ false → sent s' at [] ≡ queued_more s text at
  queued-no n = at-answer at (asks-again a at _ n)

-- a block: what is queued, then what is read
pub block-is : (s : Sender) {q : Sender} (text : List ℕ) (at : ℕ) {n : ℕ} {r : Sender} {a : Reply Unit} {passes : ℕ} (places : List Float) {out : List Float} → sent q n [] ≡ queued_more s text at
    → reading a passes r out ≡ read_of q places → sent r n out ≡ block_of s text at places
unfolding block_of
block-is s text at places e f = rw (← e, ← f)
