-- What the table's sender is asked for, from what its calls ensure. Assumes nothing.
use Rattle.refusal.specs.declared.Refusal.{Refusal}
use Rattle.std.specs.Prelude.{Result, is_ok}
use Rattle.std.proofs.Common.{◌≡◌, ℕ, ◌+◌, true, false, List, [], ◌∷◌, ◌++◌, length, ℤ, refl, ap, ◌∙◌}
use Rattle.refusal.specs.Refusals.{Reply, reply_in}
use Rattle.bell103.specs.declared.Role.{Role}
use Rattle.framing.specs.Framing.{marks, frames_of}
use Rattle.modulation.specs.Requests.{Request, write, idle_mark}
use Rattle.modulation.specs.TableTx.{TableSender, TableQueueing, fresh_table, table_queueing, table_requested, table_reading, table_read_of}
use Rattle.send_app.specs.Call.{next_part, queued_to}
use Rattle.send_app.specs.Gauge.{opened_table, table_sent, table_queued, table_block}
use Rattle.send_app.proofs.Asking.{goes_on, asks-again}

-- the sender that a request leaves
after : {a : Reply Unit} (s : TableSender) {s' : TableSender} (r : Request) → table_queueing a s' ≡ table_requested s r → s' ≡ (table_requested s r).state
after s r e = ap (λ (q : TableQueueing). q.state) e

on : (r : Request) {s s' : TableSender} → s ≡ s' → (table_requested s r).state ≡ (table_requested s' r).state
on r e = ap (λ (s : TableSender). (table_requested s r).state) e

pub opened-table-is : {a b c d : Reply Unit} (s : TableSender) {s₁ s₂ s₃ s₄ : TableSender} → table_queueing a s₁ ≡ table_requested s (idle_mark 300)
    → table_queueing b s₂ ≡ table_requested s₁ (write (0x55 ∷ [])) → table_queueing c s₃ ≡ table_requested s₂ (idle_mark 60) → table_queueing d s₄ ≡ table_requested s₃ (write (0x0A ∷ []))
    → s₄ ≡ opened_table s
unfolding opened_table
opened-table-is s p q r t = after _ _ t ∙ on _ (after _ _ r ∙ on _ (after _ _ q ∙ on _ (after _ _ p)))

module _ (s : TableSender) {s' : TableSender} (a : Result Unit Refusal) (text part : List ℕ) (at : ℕ) (p : part ≡ next_part text at) (q : table_queueing (reply_in a) s' ≡ table_requested s (write part)) where
  at-answer : (n : ℕ) → queued_to (reply_in a) at (length (next_part text at)) ≡ n → table_sent s' n [] ≡ table_queued s text at
  unfolding table_queued
  at-answer n e =
      let is : table_queueing (reply_in a) s' ≡ table_requested s (write (next_part text at)) = q ∙ ap (λ (z : List ℕ). table_requested s (write z)) p in rw (← is, e)

  pub table-yes : (end : ℕ) → end ≡ at + length (next_part text at) → is_ok a ≡ true → table_sent s' end [] ≡ table_queued s text at
  table-yes end e y = at-answer end (goes_on a at _ end e y)

  pub table-no : is_ok a ≡ false → table_sent s' at [] ≡ table_queued s text at
  table-no n = at-answer at (asks-again a at _ n)

-- a block: what is queued, then what is read
pub table-block-is : (s : TableSender) {q : TableSender} (text : List ℕ) (at : ℕ) {n : ℕ} {r : TableSender} {a : Reply Unit} (places : List ℤ) {out : List ℤ}
    → table_sent q n [] ≡ table_queued s text at → table_reading a r out ≡ table_read_of q places → table_sent r n out ≡ table_block s text at places
unfolding table_block
table-block-is s text at places e f = rw (← e, ← f)

-- a fresh sender refuses nothing of what is asked before the text: these bits wait then
pub table-opening-waits : (role : Role) → (opened_table (fresh_table role)).phase.bits ≡ marks 300 ++ frames_of (0x55 ∷ []) ++ marks 60 ++ frames_of (0x0A ∷ [])
unfolding opened_table table_requested frames_of
table-opening-waits role = refl
