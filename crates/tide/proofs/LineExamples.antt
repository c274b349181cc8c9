-- Document 01's starred tide lines from the writer's side; what they are answered stands with the other starred examples in the board's
-- proofs/Starred.antt. Assumes nothing.
use Prim.Native.Nat.{ℕ}
use Prim.Native.Char.{code}
use Prim.Native.String.{String, [] as empty, ◌∷◌ as ◌then◌}
use mathlib.Core.Path.{◌≡◌, refl}
use mathlib.Core.List.{List, [], ◌∷◌}
use lib.IntN.{ℤ, pos, negsuc}
use Rattle.hexadecimal.specs.Hex.{digit, hex_line, total, check_of}
use Rattle.tide.specs.Frame.{Writer, bits_of, frame_of, line_by}

-- the bytes of a text
unfoldable pub text : String → List ℕ
text empty = []
text (c then s) = code c ∷ text s

-- what a writer says, and the line that it writes
pub record Said : Type 0 where
  pub by : Writer
  pub line : String

abbrev pub writer : ℕ → ℕ → ℕ → ℕ → ℤ → List ℕ → Writer
writer version reader stamp age level later = record { version = version; reader = reader; station = 7; stamp = stamp; age = age; level = level; later = later }

unfoldable pub sayings : List Said
sayings =
    record { by = writer 1 1 12582912 5 (pos 412) []; line = "01010D000700C0000005019C88" }
    ∷ record { by = writer 3 1 12582912 5 (pos 412) (90 ∷ []); line = "03010E000700C0000005019C5A2B" }
    ∷ record { by = writer 3 2 12582912 5 (pos 412) (90 ∷ []); line = "03020E000700C0000005019C5A2A" }
    ∷ record { by = writer 1 1 12582928 21 (pos 412) []; line = "01010D000700C0001015019C68" }
    ∷ record { by = writer 1 1 12582912 5 (negsuc 0) []; line = "01010D000700C0000005FFFF27" }
    ∷ []

unfoldable pub lines_of : List Said → List (List ℕ)
lines_of [] = []
lines_of (s ∷ more) = line_by s.by ∷ lines_of more

unfoldable pub texts_of : List Said → List (List ℕ)
texts_of [] = []
texts_of (s ∷ more) = text s.line ∷ texts_of more

-- the definitions give back the lines
pub written-lines : lines_of sayings ≡ texts_of sayings
unfolding sayings lines_of texts_of text line_by frame_of total check_of bits_of hex_line digit
written-lines = refl
