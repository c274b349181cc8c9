-- A tide line's frame: its fields, when it is intact, and the frame that a writer makes. Assumes nothing.
use Rattle.std.specs.Prelude.{ℕ, ◌+◌, ◌-◌, ◌*◌, ◌/◌, ◌%◌, ◌≤◌, ◌<◌, ◌≡◌, Bool, not, ◌&&◌, ◌||◌, List, [], ◌∷◌, ◌++◌, ltb, eqb, ℤ, pos, negsuc, length, get_or}
use Rattle.std.specs.Prelude.{if◌then◌else◌}
use Rattle.hexadecimal.specs.Hex.{hex_line, total, check_of, Bytes}

-- ---- the fields; "Wide fields come high byte first"
-- "b0 version V"
abbrev pub version_of : List ℕ → ℕ
version_of f = get_or f 0 0

-- "b1 least reader F"
abbrev pub reader_of : List ℕ → ℕ
reader_of f = get_or f 1 0

-- "b2 n": the number of bytes that the frame says it has
abbrev pub said_length : List ℕ → ℕ
said_length f = get_or f 2 0

-- "b3-4 station"
unfoldable pub station_of : List ℕ → ℕ
station_of f = 256 * get_or f 3 0 + get_or f 4 0

-- "b5-8 stamp T, minutes since 2000-01-01 00:00 UTC"
unfoldable pub stamp_of : List ℕ → ℕ
stamp_of f = 16777216 * get_or f 5 0 + 65536 * get_or f 6 0 + 256 * get_or f 7 0 + get_or f 8 0

-- "b9 age A, minutes, 255 = not known"
unfoldable pub age_of : List ℕ → ℕ
age_of f = get_or f 9 0

-- "b10-11 level": its sixteen bits
unfoldable pub level_of : List ℕ → ℕ
level_of f = 256 * get_or f 10 0 + get_or f 11 0

-- "signed 16-bit centimetres": the number that sixteen bits say (negsuc n is -1 - n)
unfoldable pub signed : ℕ → ℤ
signed v = if ltb v 32768 then pos v else negsuc (65535 - v)

-- "-32,768 = missing": its sixteen bits
abbrev pub missing : ℕ
missing = 32768

-- "Water minute W = T - A"
unfoldable pub water_of : List ℕ → ℕ
water_of f = stamp_of f - age_of f

-- "16 V or F is 0, F > V, or V = 1 with n ≠ 13": a version, a least reader and a number of bytes that don't go together
abbrev pub misfit : ℕ → ℕ → ℕ → Bool
misfit v f n = eqb v 0 || eqb f 0 || ltb v f || (eqb v 1 && not (eqb n 13))

-- "Frame of n bytes, n from 13 to 32": a frame that keeps every rule which checks 11 to 16 ask of it, whatever its fields say
pub record Intact (f : List ℕ) : Type 0 where
  pub bytes : Bytes f
  pub least : 13 ≤ length f
  pub most : length f ≤ 32
  pub says : said_length f ≡ length f
  pub sums : total f % 256 ≡ 0
  pub version : 1 ≤ version_of f
  pub reader : 1 ≤ reader_of f
  pub able : reader_of f ≤ version_of f
  pub first : version_of f ≡ 1 → length f ≡ 13

-- ---- the writer's side
-- what a writer says: its version, the least reader, the four fields, and the "bytes of later versions"
pub record Writer : Type 0 where
  pub version : ℕ
  pub reader : ℕ
  pub station : ℕ
  pub stamp : ℕ
  pub age : ℕ
  pub level : ℤ
  pub later : List ℕ

-- a signed 16-bit number, -32,768 to 32,767
abbrev pub Signed16 : ℤ → Type 0
Signed16 (pos n) = n < 32768
Signed16 (negsuc n) = n < 32768

-- What it may say: any version 1 to 255 for any reader up to it, any bytes appended that leave n at most 32, and "V = 1 has n = 13".
-- Any station, stamp, age and level that the fields can hold, those of 18, 19 and 20 among them, so that every intact frame is some
-- writer's (also station 0, which no board has).
pub record Rules (w : Writer) : Type 0 where
  pub version : w.version ≤ 255
  pub reader : (1 ≤ w.reader) × (w.reader ≤ w.version)
  pub station : w.station ≤ 65535
  pub stamp : w.stamp ≤ 4294967295
  pub age : w.age ≤ 255
  pub level : Signed16 w.level
  pub later : Bytes w.later
  pub room : length w.later ≤ 19
  pub first : w.version ≡ 1 → length w.later ≡ 0

-- the sixteen bits of a level
unfoldable pub bits_of : ℤ → ℕ
bits_of (pos n) = n
bits_of (negsuc n) = 65535 - n

-- b0 to b11
abbrev pub head_of : Writer → List ℕ
head_of w =
    w.version ∷ w.reader ∷ (13 + length w.later)
    ∷ (w.station / 256) ∷ (w.station % 256)
    ∷ (w.stamp / 16777216) ∷ (w.stamp / 65536 % 256) ∷ (w.stamp / 256 % 256) ∷ (w.stamp % 256)
    ∷ w.age
    ∷ (bits_of w.level / 256) ∷ (bits_of w.level % 256)
    ∷ []

-- all but the last byte
abbrev pub body_of : Writer → List ℕ
body_of w = head_of w ++ w.later

-- the frame that it makes, and the line that it writes
unfoldable pub frame_of : Writer → List ℕ
frame_of w = body_of w ++ check_of (total (body_of w)) ∷ []

unfoldable pub line_by : Writer → List ℕ
line_by w = hex_line (frame_of w)
