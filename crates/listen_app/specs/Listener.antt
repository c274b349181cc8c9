-- What `listen` makes of the bytes of a recording: its samples go to a host in blocks. Assumes nothing.
use Rattle.std.specs.Prelude.{ℕ, ◌+◌, ◌≤◌, ◌<◌, ◌≡◌, List, [], ◌∷◌, ◌++◌, eqb, length, take, drop, Float}
use Rattle.std.specs.Prelude.{if◌then◌else◌}
use Rattle.bell103.specs.declared.Role.{Role}
use Rattle.wav.specs.Wav.{fresh_wav, raw_wav, raw16_wav, add_byte}
use Rattle.wav.specs.declared.wav.Wav.{Wav}
use Rattle.wav.specs.declared.wav.Out.{Out}
use Rattle.wav.specs.declared.wav.Out.TheVariants as out
use Rattle.listen_app.specs.Host.{PlainHost, fresh_host, heard_block}
use Rattle.listen_app.specs.BlockReader.{block_length, Gathered, BlockReaderSound}
use Rattle.listen_app.specs.declared.block_reader.Progress.{Progress}
use Rattle.listen_app.specs.declared.block_reader.Progress.TheVariants as progress

-- the reader, the samples of the block begun, and the host of the board
pub record Listener : Type 0 where
  pub wav : Wav
  pub held : List Float
  pub host : PlainHost

abbrev pub listener : Wav → List Float → PlainHost → Listener
listener w held h = record { wav = w; held = held; host = h }

-- ---- before the first byte
-- a recording with a header, whose rate takes the place of 8,000
abbrev pub of_recording : ℕ → Role → Listener
of_recording station role = listener fresh_wav [] (fresh_host 8000 station role)

-- raw 32-bit floats
abbrev pub of_floats : ℕ → Role → ℕ → Listener
of_floats station role rate = listener raw_wav [] (fresh_host rate station role)

-- raw PCM of 16 bits
abbrev pub of_pcm : ℕ → Role → ℕ → Listener
of_pcm station role rate = listener raw16_wav [] (fresh_host rate station role)

-- ---- bytes
-- a sample: the last of a block makes it whole, and the host hears it
unfoldable pub heard_sample : Listener → Wav → Float → Listener
heard_sample l w x =
    if eqb (length l.held + 1) block_length
    then listener w [] (heard_block l.host (l.held ++ x ∷ []))
    else listener w (l.held ++ x ∷ []) l.host

-- what the reader gives: with the header a fresh board begins, at its rate
unfoldable pub heard_out : Out → Listener → Wav → Listener
heard_out out.Going l w = listener w l.held l.host
heard_out (out.Start rate) l w = listener w l.held (fresh_host rate l.host.station l.host.role)
heard_out (out.Sample x) l w = heard_sample l w x
heard_out (out.Bad f) l w = listener w l.held l.host

unfoldable pub heard_byte : Listener → ℕ → Listener
heard_byte l b = heard_out (add_byte l.wav b).out l (add_byte l.wav b).state

unfoldable pub heard_bytes : Listener → List ℕ → Listener
heard_bytes l [] = l
heard_bytes l (b ∷ bs) = heard_bytes (heard_byte l b) bs

-- ---- the end: the samples that fill no block are heard
abbrev pub ended : Listener → PlainHost
ended l = heard_block l.host l.held

-- ---- how the code holds it
abbrev pub view : Gathered → PlainHost → Listener
view e h = listener e.wav (take e.n e.block) h

-- once the reader's progress is acted on
unfoldable pub acted_by : Progress → PlainHost → Gathered → Listener
acted_by progress.None h e = view e h
acted_by (progress.Start rate) h e = view e (fresh_host rate h.station h.role)
acted_by progress.Block h e = view e (heard_block h e.block)
acted_by (progress.Bad f) h e = view e h

abbrev pub acted : PlainHost → Gathered → Listener
acted h e = acted_by e.progress h e

-- bytes from a place on, up to progress: whatever host acts on the progress and goes on from there has heard all of them
pub record Hears (e : Gathered) (input : List ℕ) (from : ℕ) (r : Gathered) (at : ℕ) : Type 0 where
  pub sound : BlockReaderSound r.block r.n
  pub on : from < at
  pub within : at ≤ length input
  pub same : (h : PlainHost) → heard_bytes (acted h r) (drop at input) ≡ heard_bytes (view e h) (drop from input)
