-- What is claimed of the store, over all buffers and lines. Assumes nothing.
use Rattle.std.specs.Prelude.{ℕ, ◌+◌, ◌*◌, ◌%◌, ◌≤◌, ◌≡◌, false, List, [], ◌∷◌, ◌++◌, length, replicate}
use Rattle.refusal.specs.Refusals.{Reply, given, refused, rate_refused}
use Rattle.hexadecimal.specs.Hex.{total, Bytes}
use Rattle.store.specs.declared.line.Settings.{Settings}
use Rattle.store.specs.declared.reading.Found.{Found}
use Rattle.store.specs.Line.{version_of}
use Rattle.store.specs.Store.{lines_of, unused_of, unknowns, write_number, write_of}

-- ---- lines
-- no character of a line is the 0A that would end it
abbrev pub NoEnd : List ℕ → Type 0
NoEnd [] = Unit {0}
NoEnd (c ∷ l) = (c ≡ 10 → ⊥) × NoEnd l

abbrev pub NoEnds : List (List ℕ) → Type 0
NoEnds [] = Unit {0}
NoEnds (l ∷ ls) = NoEnd l × NoEnds ls

-- "lines ended by 0A": their bytes
unfoldable pub joined : List (List ℕ) → List ℕ
joined [] = []
joined (l ∷ ls) = l ++ 10 ∷ joined ls

-- the bytes s are the lines ls and, behind the last 0A, u
pub record Divided (s : List ℕ) (ls : List (List ℕ)) (u : List ℕ) : Type 0 where
  pub bytes : s ≡ joined ls ++ u
  pub lines : NoEnds ls
  pub unused : NoEnd u

-- ---- settings
-- settings that no write refuses 1 or 2, in the range of their types
pub record Admitted (s : Settings) : Type 0 where
  pub rate : rate_refused s.rate ≡ false
  pub station : s.station ≡ 0 → ⊥
  pub word : s.station ≤ 65535

abbrev pub AllAdmitted : List Settings → Type 0
AllAdmitted [] = Unit {0}
AllAdmitted (s ∷ l) = Admitted s × AllAdmitted l

-- settings and a number of unknown lines, as a read gives them
abbrev pub found : Settings → ℕ → Reply Found
found s n = given (record { settings = s; unknown = n })

-- the buffer after one write, and after several
abbrev pub wrote : List ℕ → Settings → List ℕ
wrote b s = (write_of b s.rate s.station s.role).buffer

unfoldable pub wrote_all : List ℕ → List Settings → List ℕ
wrote_all b [] = b
wrote_all b (s ∷ l) = wrote_all (wrote b s) l

-- the numbers of these writes, 0 where one is accepted
unfoldable pub numbers_all : List ℕ → List Settings → List ℕ
numbers_all b [] = []
numbers_all b (s ∷ l) = write_number b s.rate s.station ∷ numbers_all (wrote b s) l

-- several writes into b, all accepted, that leave b'
pub record Fills (b : List ℕ) (l : List Settings) (b' : List ℕ) : Type 0 where
  pub accepted : numbers_all b l ≡ replicate (length l) 0
  pub long : length b' ≡ length b
  pub room : length (unused_of b') + 15 * length l ≡ length (unused_of b)
  pub unknown : unknowns (lines_of b') ≡ unknowns (lines_of b)

-- ---- later versions
-- the bytes of a line of another version: "one or more whole bytes .. with its sum but an unknown version", whatever they say
pub record OtherVersion (f : List ℕ) : Type 0 where
  pub bytes : Bytes f
  pub some : 1 ≤ length f
  pub version : version_of f ≡ 1 → ⊥
  pub sums : total f % 256 ≡ 0

-- "passed over and counted": what a read gives after one line of unknown version more
abbrev pub counted : Reply Found → Reply Found
counted (given f) = found f.settings (f.unknown + 1)
counted (refused n) = refused n
