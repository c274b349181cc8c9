-- How the code's `BlockReader` and the block that is lent to it hold what specs/BlockReader.antt speaks of. Assumes nothing.
use Rattle.std.specs.Prelude.{◌≡◌, List, Float}
use Rattle.wav.specs.declared.wav.Wav.{Wav}
use Rattle.listen_app.specs.BlockReader.{Gathered, BlockReaderSound}
use Rattle.listen_app.specs.declared.block_reader.BlockReader.{BlockReader}
use Rattle.listen_app.specs.declared.block_reader.Filling.{Filling}

abbrev pub gathered : BlockReader → List Float → Gathered
gathered e block = record { wav = e.wav; block = block; n = e.n; progress = e.progress }

-- the same within a loop over bytes, where the reader's parts stand alone
abbrev pub filled : Wav → Filling → List Float → Gathered
filled w f block = record { wav = w; block = block; n = f.n; progress = f.progress }

-- the next state is this one, whatever the reader of bytes was and is
pub record Fills (next : Wav → Wav → Gathered) (r : Filling) (block : List Float) : Type 0 where
  pub same : (v w : Wav) → filled w r block ≡ next v w
  pub sound : BlockReaderSound block r.n
