-- The words are put where the definition has them. Assumes nothing.
use Rattle.std.proofs.Common.{refl}
use Rattle.wav.specs.Recording.{header, opening, format_chunk, data_head, four, two, pad, chunk_bytes}
use Rattle.send_app.specs.Header.{header_of}
use Rattle.send_app.proofs.header.header_pcm.Goals as goal

pub returns : goal.returns
unfolding header_of header opening format_chunk data_head four two pad chunk_bytes
returns c =
    rw (
      c.put_word-4.ensures,
      c.put_word-3.ensures,
      c.put_word-2.ensures,
      c.put_word.ensures,
      c.blank_pcm-head.ensures,
    )
    refl
