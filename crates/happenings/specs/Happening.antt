-- What samples are heard as: one list, in order, of which the bytes, the bad stops, the losses of the carrier and the changes of the report are parts.
-- Assumes nothing.
use Rattle.std.specs.Prelude.{ℕ, ◌+◌, ◌≡◌, Bool, true, false, List, [], ◌∷◌, ◌++◌, ltb, eqb, length}
use Rattle.std.specs.Prelude.{if◌then◌else◌}
use Rattle.happenings.specs.declared.happening.Happening.{Happening}
use Rattle.happenings.specs.declared.happening.Happening.TheVariants.{Byte, BadStop, Lost, Up, Down}
use Rattle.happenings.specs.declared.happening.Tally.{Tally}

-- ---- the parts of one happening
-- a byte, as a list: one, or none
abbrev pub byte_of : Happening → List ℕ
byte_of (Byte b) = b ∷ []
byte_of BadStop = []
byte_of Lost = []
byte_of Up = []
byte_of Down = []

-- a change of the report, as a list: one, true for up, or none
abbrev pub change_of : Happening → List Bool
change_of (Byte b) = []
change_of BadStop = []
change_of Lost = []
change_of Up = true ∷ []
change_of Down = false ∷ []

-- a space in stop position: one, or none
abbrev pub bad_stop_of : Happening → ℕ
bad_stop_of (Byte b) = 0
bad_stop_of BadStop = 1
bad_stop_of Lost = 0
bad_stop_of Up = 0
bad_stop_of Down = 0

-- ---- the parts of a list of them, in order
unfoldable pub bytes_in : List Happening → List ℕ
bytes_in [] = []
bytes_in (h ∷ hs) = byte_of h ++ bytes_in hs

unfoldable pub changes_in : List Happening → List Bool
changes_in [] = []
changes_in (h ∷ hs) = change_of h ++ changes_in hs

-- "the number of bad stops"
unfoldable pub bad_stops_in : List Happening → ℕ
bad_stops_in [] = 0
bad_stops_in (h ∷ hs) = bad_stop_of h + bad_stops_in hs

-- how many bytes and how many bad stops there are
pub record TallyOf (hs : List Happening) (t : Tally) : Type 0 where
  pub bytes : t.bytes ≡ length (bytes_in hs)
  pub bad_stops : t.bad_stops ≡ bad_stops_in hs

-- bytes as happenings: text that nobody heard over a line
unfoldable pub typed : List ℕ → List Happening
typed [] = []
typed (b ∷ bs) = Byte b ∷ typed bs

-- ---- codes: 0 to 255 a byte, 256 a bad stop, 257 a loss, 258 up, any other down
-- what a code stands for
unfoldable pub happening_of : ℕ → Happening
happening_of c =
    if ltb c 256 then Byte c
    else (if eqb c 256 then BadStop else (if eqb c 257 then Lost else (if eqb c 258 then Up else Down)))

-- what codes stand for, in order
unfoldable pub happenings_of : List ℕ → List Happening
happenings_of [] = []
happenings_of (c ∷ cs) = happening_of c ∷ happenings_of cs
