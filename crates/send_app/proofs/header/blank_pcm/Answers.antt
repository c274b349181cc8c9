-- The bytes of the string are the definition's. Assumes nothing.
use Rattle.std.proofs.Common.{refl}
use Rattle.wav.specs.Recording.{header, opening, format_chunk, data_head, four, two, pad, chunk_bytes}
use Rattle.send_app.proofs.header.blank_pcm.Goals as goal

pub returns : goal.returns
unfolding header opening format_chunk data_head four two pad chunk_bytes
returns c = refl
