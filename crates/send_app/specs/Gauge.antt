-- The call as a gauge sends it that has no floats (document 02, K6): the same requests, asked of the table's sender. Assumes nothing.
use Rattle.std.specs.Prelude.{ℕ, List, [], ◌∷◌, length, ℤ}
use Rattle.modulation.specs.Requests.{Request, write}
use Rattle.modulation.specs.TableTx.{TableSender, table_requested, table_read_of, begins_at}
use Rattle.send_app.specs.Call.{opening, call_of, bit_periods, next_part, queued_to}

-- the samples of a call: those before the first symbol behind it, so that its last symbol is whole
abbrev pub samples_in : List ℕ → ℕ
samples_in text = begins_at (bit_periods (call_of text))

-- requests in order, each queued whole or refused
abbrev pub table_asked_for : TableSender → List Request → TableSender
table_asked_for s [] = s
table_asked_for s (r ∷ rs) = table_asked_for (table_requested s r).state rs

-- the sender before the first sample
unfoldable pub opened_table : TableSender → TableSender
opened_table s = table_asked_for s opening

-- the sender, how much of the text is queued, and the samples of a block
pub record TableSent : Type 0 where
  pub sender : TableSender
  pub queued : ℕ
  pub samples : List ℤ

abbrev pub table_sent : TableSender → ℕ → List ℤ → TableSent
table_sent s n xs = record { sender = s; queued = n; samples = xs }

-- the next part of the text is queued, unless there was no room for it
unfoldable pub table_queued : TableSender → List ℕ → ℕ → TableSent
table_queued s text at =
    let q = table_requested s (write (next_part text at)) in
    table_sent q.state (queued_to q.answer at (length (next_part text at))) []

-- a block: more of the text is queued, then the sender is read into these places
unfoldable pub table_block : TableSender → List ℕ → ℕ → List ℤ → TableSent
table_block s text at places =
    let q = table_queued s text at in
    let r = table_read_of q.sender places in
    table_sent r.state q.queued r.out
