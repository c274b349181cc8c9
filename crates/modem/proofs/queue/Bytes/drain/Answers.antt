-- As many as both have go to the front of the buffer, and those behind them to the front of the queue. Assumes nothing.
use Prim.Native.Nat.{ℕ, ◌-◌, ◌≤◌, min}
use mathlib.Core.Path.{◌≡◌, refl, sym, ap, ap₂, ◌∙◌}
use mathlib.Core.List.{List, ◌++◌}
use native.Mathlib.Omega.{arith}
use lib.ListN.{length, take, drop}
use lib.Seq.{take-take}
use Rattle.modem.specs.Queue.{queued, Moved, Drains, read_count}
use Rattle.modem.proofs.QueueLaws.{queued_length}
use Rattle.modem.specs.declared.queue.Bytes.{Bytes}
use Rattle.refusal.specs.declared.Counting.{Counting}
use Rattle.modem.proofs.Moves.{moved-rest}
use Rattle.modem.proofs.queue.Bytes.drain.Goals as goal

drained : (q : Bytes) (k : ℕ) (moved before after : List ℕ) (r : Counting Bytes) → r.state.held ≡ moved → r.state.count ≡ q.count - k → r.count ≡ k
    → k ≡ min q.count (length before) → after ≡ take k q.held ++ drop k before → Moved k (q.count - k) q.held moved → Drains q before r after
drained q k moved before after r h n j e f m =
    let same : k ≡ read_count (queued q) before = e ∙ ap (λ (n : ℕ). min n (length before)) (sym (queued_length q)) in
    let most : k ≤ q.count = omega arith in
    record {
      count = j ∙ same;
      buffer = f ∙ ap (λ (l : List ℕ). l ++ drop k before) (sym (take-take k q.count q.held most)) ∙ ap (λ (n : ℕ). take n (queued q) ++ drop n before) same;
      rest = ap₂ take n h ∙ moved-rest k (q.count - k) q.count q.held moved m (omega arith) ∙ ap (λ (n : ℕ). drop n (queued q)) same;
    }

pub returns : goal.returns
returns c = drained c.args.self _ _ _ _ _ refl refl refl c.min-count.ensures (ap (λ (l : List ℕ). l ++ drop c.min-count.result c.args.buf.now) c.copy_from_slice.ensures.after) c.to_front.ensures
