-- The reader takes what `send` writes: the rate, and each sample. Assumes nothing.
use Rattle.std.proofs.Common.{◌≡◌, ℕ, ◌*◌, false, List, ◌∷◌, ◌++◌, length, arith, lit<}
use Rattle.refusal.specs.Refusals.{rate_refused}
use Rattle.wav.specs.Words.{is_endless}
use Rattle.wav.specs.Wav.{fresh_wav}
use Rattle.wav.specs.Recording.{Frame, Frames, frame_bytes, samples, header, Others, Tells}
use Rattle.wav.specs.declared.wav.Out.TheVariants as out
use Rattle.wav.proofs.Recorded.{recorded}
use Rattle.send_app.specs.Header.{width_of, encoding_for, recording_of, header_of}
use Rattle.send_app.specs.declared.words.Kind.{Kind}
use Rattle.send_app.specs.declared.words.Kind.TheVariants as kind

pub readable : (k : Kind) (rate : ℕ) (frames : List Frame) (tail : List ℕ) → rate_refused rate ≡ false → Frames (encoding_for k) 1 frames
    → is_endless (length frames * width_of k) ≡ false
    → Tells fresh_wav (header_of k rate (length frames) ++ (frame_bytes (encoding_for k) frames ++ tail)) (out.Start rate ∷ samples (encoding_for k) frames)
unfolding header_of header Others
readable kind.Float rate frames tail good h e =
    recorded (recording_of kind.Float rate (length frames) frames) tail
    (record { some = lit< tt; few = lit< tt; rate = good; extension = tt; before = tt; between = (λ z. omega arith, λ z. omega arith, tt); frames = h }) e
readable kind.Pcm16 rate frames tail good h e =
    recorded (recording_of kind.Pcm16 rate (length frames) frames) tail
    (record { some = lit< tt; few = lit< tt; rate = good; extension = tt; before = tt; between = tt; frames = h }) e
