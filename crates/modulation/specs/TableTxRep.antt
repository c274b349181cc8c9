-- How the code's `TableTx` holds what specs/TableTx.antt speaks of, and the invariant of its states. Assumes nothing.
use Rattle.std.specs.Prelude.{ℕ, Bool, List}
use Rattle.modulation.specs.Bits.{queued}
use Rattle.modulation.specs.TableTx.{phase, TableSender, table_sender}
pub use Rattle.modulation.specs.Keying.{phase_of, HopsHeld, Keyed, Begins}
use Rattle.modulation.specs.declared.table_tx.TableTx.{TableTx}

-- what `TableTx` is in the definitions
unfoldable pub table_of : TableTx → TableSender
table_of t = table_sender t.hops (phase_of t.bits t.keying)

-- what each value of the type keeps (proofs/QueueingLaws.antt, table-sound-of)
pub record TableSound (t : TableTx) : Type 0 where
  pub hops : HopsHeld t.hops
  pub keyed : Keyed t.bits t.keying

-- the sender with this ring, in which so many bits wait
abbrev pub with_ring : TableTx → List Bool → ℕ → TableSender
with_ring t bits waiting =
    let k = t.keying in
    table_sender t.hops (phase k.place k.current k.symbols k.samples (queued bits k.head waiting))
