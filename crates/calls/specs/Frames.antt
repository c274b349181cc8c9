-- Frames of bytes, and a deframer's answers bit by bit, as numbers. Assumes nothing.
use Rattle.std.specs.Prelude.{ℕ, min, ◌*◌, ◌/◌, ◌%◌, Bool, not, List, [], ◌∷◌, ◌++◌, map, eqb, length, take, drop, Float}
use Rattle.framing.specs.Frame.{Deframed, push_bit}
use Rattle.framing.specs.Framing.{frames_of}
use Rattle.framing.specs.declared.frame.Deframer.{Deframer}
use Rattle.framing.specs.declared.frame.Heard.{Heard}
use Rattle.framing.specs.declared.frame.Heard.TheVariants.{Byte, Waiting, BadStop}
use Rattle.calls.specs.Answers.{bit}
use Rattle.calls.specs.Resample.{Run, ran}

-- ---- framing
-- the bytes that have room for their frames, ten numbers each
abbrev pub frames_for : List ℕ → List ℕ → ℕ
frames_for bytes bits = min (length bytes) (length bits / 10)

-- "Start space, eight data bits lowest first, stop mark": the frame of each of them, 1 for mark and 0 for space. What stands behind the last stays
unfoldable pub frames_run : List ℕ → List ℕ → Run Float
frames_run bytes bits =
    let n = frames_for bytes bits in
    ran n [] (map bit (frames_of (take n bytes)) ++ drop (10 * n) bits)

-- ---- deframing
-- 0 is space, any other number mark
abbrev pub mark_in : ℕ → Bool
mark_in n = not (eqb n 0)

-- "for the Deframer, any state": 0 is idle, any other number in a frame; bits so far and byte so far modulo 256
abbrev pub deframer_in : ℕ → ℕ → ℕ → ℕ → Deframer
deframer_in in-frame count acc errors =
    record { in_frame = not (eqb in-frame 0); bit_count = count % 256; acc = acc % 256; errors = errors }

-- 1 and the byte where a bit yielded one; 0 and 0 where it waits; 2 and 0 at a bad stop
abbrev pub heard_numbers : Heard → List ℕ
heard_numbers (Byte b) = 1 ∷ b ∷ []
heard_numbers Waiting = 0 ∷ 0 ∷ []
heard_numbers BadStop = 2 ∷ 0 ∷ []

-- in a frame, bits so far, byte so far, errors
abbrev pub deframer_numbers : Deframer → List ℕ
deframer_numbers d = bit d.in_frame ∷ d.bit_count ∷ d.acc ∷ d.errors ∷ []

-- the six numbers of a bit's answer
abbrev pub push_reply : Deframed → List ℕ
push_reply p = heard_numbers p.heard ++ deframer_numbers p.state

-- the answers of these bits, in order
unfoldable pub push_replies : Deframer → List Bool → List ℕ
push_replies d [] = []
push_replies d (b ∷ bs) = push_reply (push_bit d b) ++ push_replies (push_bit d b).state bs

-- the bits that have room for their answers
abbrev pub bits_for : List ℕ → List ℕ → ℕ
bits_for bits ans = min (length bits) (length ans / 6)

-- each of them is pushed, from the state d on; what stands behind the last answer stays
unfoldable pub deframe_run : Deframer → List ℕ → List ℕ → Run Float
deframe_run d bits ans =
    let n = bits_for bits ans in
    ran n [] (push_replies d (map mark_in (take n bits)) ++ drop (6 * n) ans)
