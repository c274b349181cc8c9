-- The lines of what is heard by themselves, with no decoder that collects them: what stands between one 0A and the next is a line, unless the
-- carrier was lost in it. Assumes nothing.
use Rattle.std.specs.Prelude.{ℕ, ◌≡◌, ◌⊎◌, Bool, true, false, List, [], ◌∷◌, ◌++◌, ltb, eqb, length, take}
use Rattle.std.specs.Prelude.{if◌then◌else◌}
use Rattle.happenings.specs.Happening.{bytes_in}
use Rattle.happenings.specs.declared.happening.Happening.{Happening}
use Rattle.happenings.specs.declared.happening.Happening.TheVariants.{Byte, BadStop, Lost, Up, Down}
use Rattle.tide.specs.Decoder.{Line, Decoder, cleared, took_all, lines_in, verdicts_in}

-- "ended by byte 0A" (10)
abbrev pub is0_a : Happening → Bool
is0_a (Byte c) = eqb c 10
is0_a BadStop = false
is0_a Lost = false
is0_a Up = false
is0_a Down = false

-- "the step where the detector goes down"
abbrev pub is_loss : Happening → Bool
is_loss (Byte c) = false
is_loss BadStop = false
is_loss Lost = true
is_loss Up = false
is_loss Down = false

-- whether there is a 0A, and whether there is a loss, among what was heard
unfoldable pub any0_a : List Happening → Bool
any0_a [] = false
any0_a (h ∷ hs) = if is0_a h then true else any0_a hs

unfoldable pub any_loss : List Happening → Bool
any_loss [] = false
any_loss (h ∷ hs) = if is_loss h then true else any_loss hs

-- ---- pieces
-- what was heard in front of the first of some pieces, if there is one
abbrev pub on_first : List Happening → List (List Happening) → List (List Happening)
on_first hs [] = []
on_first hs (p ∷ ps) = (hs ++ p) ∷ ps

-- what was heard before each 0A, split there; what stands behind the last is not ended
unfoldable pub pieces_of : List Happening → List (List Happening)
pieces_of [] = []
pieces_of (h ∷ hs) = if is0_a h then [] ∷ pieces_of hs else on_first (h ∷ []) (pieces_of hs)

-- "its first 64 characters and whether there were more"
unfoldable pub line_from : List ℕ → Line
line_from t = record { chars = take 64 t; more = ltb 64 (length t) }

-- "A lost carrier voids the line": a piece is a line, or none where the carrier was lost in it
unfoldable pub line_in : List Happening → List Line
line_in p = if any_loss p then [] else line_from (bytes_in p) ∷ []

-- the lines among pieces
unfoldable pub whole_lines : List (List Happening) → List Line
whole_lines [] = []
whole_lines (p ∷ ps) = line_in p ++ whole_lines ps

-- the lines of what is heard from fresh on
unfoldable pub lines_of : List Happening → List Line
lines_of hs = whole_lines (pieces_of hs)

-- ---- no line is judged whose characters were heard on both sides of a loss
-- a line begins at the start of all, or behind a 0A
abbrev pub Opened : List Happening → Type 0
Opened earlier = (earlier ≡ []) ⊎ ((front : List Happening) × (earlier ≡ front ++ Byte 10 ∷ []))

-- the line l behind the lines ls, of what was heard: its characters are all that was heard from there to the next 0A, with no loss between
pub record Unbroken (hs : List Happening) (ls : List Line) (l : Line) : Type 0 where
  pub earlier : List Happening
  pub text : List Happening
  pub later : List Happening
  pub split : hs ≡ earlier ++ (text ++ Byte 10 ∷ later)
  pub place : lines_of earlier ≡ ls
  pub opened : Opened earlier
  pub next : any0_a text ≡ false
  pub whole : any_loss text ≡ false
  pub chars : l ≡ line_from (bytes_in text)

-- ---- "skips all bytes up to and including the next 0A"
-- what stands behind the first 0A
unfoldable pub behind0_a : List Happening → List Happening
behind0_a [] = []
behind0_a (h ∷ hs) = if is0_a h then hs else behind0_a hs

-- "Skipped text is no line and enters no line count": whatever the decoder, from a loss to the next 0A no line is judged and none answered,
-- reading and counts stand, and behind that 0A a line begins; further losses may be among it
pub record Skips (d : Decoder) (text : List Happening) : Type 0 where
  pub still : took_all d (Lost ∷ text) ≡ cleared d true
  pub ended : took_all d (Lost ∷ text ++ Byte 10 ∷ []) ≡ cleared d false
  pub lines : lines_in d (Lost ∷ text ++ Byte 10 ∷ []) ≡ []
  pub answers : verdicts_in d (Lost ∷ text ++ Byte 10 ∷ []) ≡ []
