-- What is framed is heard, and what is heard was framed. Assumes nothing.
use Rattle.std.specs.Prelude.{ℕ, ◌+◌, ◌<◌, ◌≤◌, min, ◌≡◌, Bool, true, not, ◌&&◌, List, [], ◌∷◌, ◌++◌, ltb, replicate}
use Rattle.std.specs.Prelude.{if◌then◌else◌}
use Rattle.framing.specs.declared.frame.Deframer.{Deframer}
use Rattle.framing.specs.Frame.{mark, space, frame_of, Idle, one_more, bad_stops_of, Deframed, heard, bad_stop_count, after}

-- ---- framed bytes are heard
-- a byte that is sent, and the number of marks before its frame
pub record Sent : Type 0 where
  pub gap : ℕ
  pub byte : ℕ

abbrev pub marks : ℕ → List Bool
marks n = replicate n mark

-- the frames of these bytes, in order
unfoldable pub frames_of : List ℕ → List Bool
frames_of [] = []
frames_of (b ∷ bs) = frame_of b ++ frames_of bs

-- the bits on the line: each byte's frame behind its marks, and so many marks at the end
abbrev pub line : List Sent → ℕ → List Bool
line [] end = marks end
line (s ∷ ss) end = marks s.gap ++ (frame_of s.byte ++ line ss end)

-- the bytes alone, in order
abbrev pub bytes_sent : List Sent → List ℕ
bytes_sent [] = []
bytes_sent (s ∷ ss) = s.byte ∷ bytes_sent ss

-- each is below 256
abbrev pub AreBytes : List ℕ → Type 0
AreBytes [] = Unit
AreBytes (b ∷ bs) = (b < 256) × AreBytes bs

-- these bits are heard as these bytes, with no error and no bad stop, and leave the deframer idle
pub record HeardAs (d : Deframer) (bits : List Bool) (bytes : List ℕ) : Type 0 where
  pub same : heard d bits ≡ bytes
  pub no_error : (after d bits).errors ≡ d.errors
  pub no_bad_stop : bad_stop_count d bits ≡ 0
  pub idle : Idle (after d bits)

-- ---- a space in stop position
-- eight data bits or more are in
abbrev pub AtStop : Deframer → Type 0
AtStop d = (d.in_frame ≡ true) × (8 ≤ d.bit_count)

-- "A space in stop position adds one error, returns to idle and starts nothing"
pub record SpaceAtStop (d : Deframer) : Type 0 where
  pub one_error : (after d (space ∷ [])).errors ≡ one_more d.errors
  pub idle : Idle (after d (space ∷ []))
  pub nothing : heard d (space ∷ []) ≡ []
  pub told : bad_stop_count d (space ∷ []) ≡ 1
  pub starts_nothing : (n : ℕ) → HeardAs (after d (space ∷ [])) (marks n) []

-- ---- how many bytes and bad stops so many bits can make
-- this bit is a space in stop position
abbrev pub is_bad_stop : Deframer → Bool → Bool
is_bad_stop d bit = d.in_frame && (not (ltb d.bit_count 8) && not bit)

-- bits that the frame at hand has so far: none while idle, else the start bit and at most eight data bits
abbrev pub held : Deframer → ℕ
held d = if d.in_frame then 1 + min d.bit_count 8 else 0

-- ---- a bad stop told apart from waiting
-- an answer is a bad stop exactly at a space in stop position, and there alone the error count grows, by one or held at its most
pub record Told (d : Deframer) (bit : Bool) (x : Deframed) : Type 0 where
  pub answer : bad_stops_of x.heard ≡ (if is_bad_stop d bit then 1 else 0)
  pub errors : x.state.errors ≡ (if is_bad_stop d bit then one_more d.errors else d.errors)
