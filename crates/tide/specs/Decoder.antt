-- The decoder: what is heard collected into lines, the lines judged, and their answers counted; and what is claimed of many lines. Assumes nothing.
use Rattle.std.specs.Prelude.{ℕ, ◌+◌, ◌-◌, ◌≤◌, ◌<◌, ◌≡◌, ◌⊎◌, ◌↔◌, Bool, true, false, ◌&&◌, Option, Some, None, List, [], ◌∷◌, ◌++◌, ltb, leb, eqb, length, get_or, set, take, drop, replicate}
use Rattle.std.specs.Prelude.{if◌then◌else◌}
use Rattle.hexadecimal.specs.Hex.{unhex, total}
use Rattle.tide.specs.Frame.{reader_of, Writer, Rules, line_by}
use Rattle.tide.specs.Judge.{Reading, reading_of, Shown, none, shows, Verdict, judge, of_line, Passes}
use Rattle.happenings.specs.declared.happening.Happening.{Happening}
use Rattle.happenings.specs.declared.happening.Happening.TheVariants.{Byte, BadStop, Lost, Up, Down}

-- "the unended line (its first 64 characters and whether there were more)"
pub record Line : Type 0 where
  pub chars : List ℕ
  pub more : Bool

-- "an empty line"
abbrev pub empty_line : Line
empty_line = record { chars = []; more = false }

-- the part of the plain board that what is heard changes: "station, .. the unended line, reading or none, one count for each line answer"; and
-- "The plain board gains one yes or no, skipping"
pub record Decoder : Type 0 where
  pub station : ℕ
  pub line : Line
  pub skipping : Bool
  pub reading : Shown
  pub counts : List ℕ

-- "A fresh one .. has an empty line, no reading and all counts 0"; it does not skip
unfoldable pub fresh_decoder : ℕ → Decoder
fresh_decoder station = record { station = station; line = empty_line; skipping = false; reading = none; counts = replicate 12 0 }

-- the answers that a line can get
abbrev pub IsAnswer : ℕ → Type 0
IsAnswer n = (n ≡ 0) ⊎ (((11 ≤ n) × (n ≤ 20)) ⊎ (n ≡ 34))

-- which count an answer has: 0 (shown) the first, then 11 to 20, then 34; a number that is no answer has none
unfoldable pub place : ℕ → ℕ
place n = if eqb n 0 then 0 else (if eqb n 34 then 11 else (if leb 11 n && leb n 20 then n - 10 else 12))

-- which of the twelve counts, if one
unfoldable pub place_in : ℕ → Option ℕ
place_in n = if ltb (place n) 12 then Some (place n) else None

-- the count of an answer, and 0 for a number that is none
abbrev pub count_of : Decoder → ℕ → ℕ
count_of d n = get_or d.counts (place n) 0

-- "add one to their count"
unfoldable pub bump : List ℕ → ℕ → List ℕ
bump cs n = set cs (place n) (get_or cs (place n) 0 + 1)

-- the judgement of the unended line
unfoldable pub verdict : Decoder → Verdict
verdict d = judge d.station d.reading d.line.chars d.line.more

-- "At 0A the line is judged and emptied"
unfoldable pub ended : Decoder → Decoder
ended d =
    record {
      station = d.station;
      line = empty_line;
      skipping = d.skipping;
      reading = (verdict d).reading;
      counts = bump d.counts (verdict d).answer;
    }

-- a character more; after 64, only that there were more
unfoldable pub longer : Line → ℕ → Line
longer l c =
    if ltb (length l.chars) 64
    then record { chars = l.chars ++ c ∷ []; more = l.more }
    else record { chars = l.chars; more = true }

-- a decoder whose line has a character more
unfoldable pub grown : Decoder → ℕ → Decoder
grown d c = record { station = d.station; line = longer d.line c; skipping = d.skipping; reading = d.reading; counts = d.counts }

-- a decoder whose unended line is dropped, and that skips from here on, or no more
unfoldable pub cleared : Decoder → Bool → Decoder
cleared d skip = record { station = d.station; line = empty_line; skipping = skip; reading = d.reading; counts = d.counts }

-- ---- what is heard
-- what a happening does to a decoder
pub data Move : Type 0 where
  -- the line is judged and emptied
  ends : Move
  -- a character more
  grows : ℕ → Move
  -- the line is dropped, and what comes is skipped
  loses : Move
  -- the 0A up to which was skipped: lines begin again
  resumes : Move
  -- nothing changes
  stays : Move

-- "adds each byte to the line": 0A (10) ends it. While skipping, "up to and including the next 0A", a byte is of no line
unfoldable pub byte_move : Bool → ℕ → Move
byte_move false c = if eqb c 10 then ends else grows c
byte_move true c = if eqb c 10 then resumes else stays

-- "A lost carrier voids the line", skipping or not
unfoldable pub move_of : Happening → Bool → Move
move_of (Byte c) skipping = byte_move skipping c
move_of BadStop skipping = stays
move_of Lost skipping = loses
move_of Up skipping = stays
move_of Down skipping = stays

-- the move that it makes at a decoder as it stands
abbrev pub move_at : Decoder → Happening → Move
move_at d h = move_of h d.skipping

-- a decoder after a move
unfoldable pub moved : Decoder → Move → Decoder
moved d ends = ended d
moved d (grows c) = grown d c
moved d loses = cleared d true
moved d resumes = cleared d false
moved d stays = d

-- the line that a move ends: one, or none
abbrev pub line_at : Decoder → Move → List Line
line_at d ends = d.line ∷ []
line_at d (grows c) = []
line_at d loses = []
line_at d resumes = []
line_at d stays = []

-- the answer that this line gets: one, or none
abbrev pub verdict_at : Decoder → Move → List ℕ
verdict_at d ends = (verdict d).answer ∷ []
verdict_at d (grows c) = []
verdict_at d loses = []
verdict_at d resumes = []
verdict_at d stays = []

-- a decoder after a happening
unfoldable pub took : Decoder → Happening → Decoder
took d h = moved d (move_at d h)

-- a decoder after what was heard, in order
unfoldable pub took_all : Decoder → List Happening → Decoder
took_all d [] = d
took_all d (h ∷ hs) = took_all (took d h) hs

-- the lines that are ended, in order
unfoldable pub lines_in : Decoder → List Happening → List Line
lines_in d [] = []
lines_in d (h ∷ hs) = line_at d (move_at d h) ++ lines_in (took d h) hs

-- the answers that those lines get, in order
unfoldable pub verdicts_in : Decoder → List Happening → List ℕ
verdicts_in d [] = []
verdicts_in d (h ∷ hs) = verdict_at d (move_at d h) ++ verdicts_in (took d h) hs

-- answers laid at the front of a slice, as many as have room; the rest of it as it was
unfoldable pub laid_in : List ℕ → List ℕ → List ℕ
laid_in vs out = take (length out) vs ++ drop (length vs) out

-- the last of a list, `other` where it has none
unfoldable pub last_of : ℕ → List ℕ → ℕ
last_of other [] = other
last_of other (a ∷ l) = last_of a l

-- ---- many lines
-- lines judged one after the other on what stands: what is shown after them, and their answers
unfoldable pub shown_on : ℕ → Shown → List Line → Shown
shown_on mine r [] = r
shown_on mine r (l ∷ ls) = shown_on mine (judge mine r l.chars l.more).reading ls

unfoldable pub answers_on : ℕ → Shown → List Line → List ℕ
answers_on mine r [] = []
answers_on mine r (l ∷ ls) = (judge mine r l.chars l.more).answer ∷ answers_on mine (judge mine r l.chars l.more).reading ls

-- "the line is judged and emptied", one after the other: lines judged from r on got the answers vs and left q
pub record Along (mine : ℕ) (r : Shown) (ls : List Line) (vs : List ℕ) (q : Shown) : Type 0 where
  pub said : vs ≡ answers_on mine r ls
  pub left : q ≡ shown_on mine r ls

-- how often an answer was given
unfoldable pub times : ℕ → List ℕ → ℕ
times n [] = 0
times n (a ∷ l) = (if eqb n a then 1 else 0) + times n l

-- "add one to their count", one after the other: the answers vs lead from the counts cs to ds
pub record Tallied (cs ds vs : List ℕ) : Type 0 where
  pub long : length ds ≡ 12
  pub each : (n : ℕ) → IsAnswer n → get_or ds (place n) 0 ≡ get_or cs (place n) 0 + times n vs
  pub whole : total ds ≡ total cs + length vs

-- a line's reading alone where it is good, and nothing where it is not
unfoldable pub good_of : ℕ → Line → List Reading
good_of mine l = if eqb (of_line mine l.chars l.more) 0 then reading_of (unhex l.chars) ∷ [] else []

-- the readings of the good ones of a list of lines
unfoldable pub goods : ℕ → List Line → List Reading
goods mine [] = []
goods mine (l ∷ ls) = good_of mine l ++ goods mine ls

-- each W is less than w; each is at most w
abbrev pub Below : ℕ → List Reading → Type 0
Below w [] = Unit {0}
Below w (g ∷ gs) = (g.water < w) × Below w gs

abbrev pub AtMost : ℕ → List Reading → Type 0
AtMost w [] = Unit {0}
AtMost w (g ∷ gs) = (g.water ≤ w) × AtMost w gs

-- "The reading's W is at least that of every other good line judged since fresh, and greater than that of every good line judged before
-- it"; and there is no reading where there was no good line
abbrev pub Best : List Reading → Shown → Type 0
Best gs none = gs ≡ []
Best gs (shows r) =
    (before : List Reading) × (behind : List Reading)
    × (gs ≡ before ++ r ∷ behind) × Below r.water before × AtMost r.water behind

-- ---- all that is claimed of the lines "judged since fresh": of what is heard by a fresh decoder
pub record SinceFresh (station : ℕ) (hs : List Happening) : Type 0 where
  -- the reading is the best of the good lines judged, and there is none exactly where there was no good line
  pub reading : Best (goods station (lines_in (fresh_decoder station) hs)) (took_all (fresh_decoder station) hs).reading
  pub empty : ((took_all (fresh_decoder station) hs).reading ≡ none) ↔ (goods station (lines_in (fresh_decoder station) hs) ≡ [])
  -- each count is how often its answer was given; together they are the lines judged
  pub counts : (n : ℕ) → IsAnswer n → count_of (took_all (fresh_decoder station) hs) n ≡ times n (verdicts_in (fresh_decoder station) hs)
  pub judged : length (lines_in (fresh_decoder station) hs) ≡ total (took_all (fresh_decoder station) hs).counts
  -- the answers and the reading are those of the lines, judged one after the other
  pub verdicts : verdicts_in (fresh_decoder station) hs ≡ answers_on station none (lines_in (fresh_decoder station) hs)
  pub shown : (took_all (fresh_decoder station) hs).reading ≡ shown_on station none (lines_in (fresh_decoder station) hs)
  -- at each place: the line's answer, and what stood and stands
  pub each :
      (ls rs : List Line) (l : Line) → lines_in (fresh_decoder station) hs ≡ ls ++ l ∷ rs
      → (get_or (verdicts_in (fresh_decoder station) hs) (length ls) 0 ≡ (judge station (shown_on station none ls) l.chars l.more).answer)
      × (shown_on station none (ls ++ l ∷ []) ≡ (judge station (shown_on station none ls) l.chars l.more).reading)
  -- and a line that passes 11 to 16 is one that some writer writes, for readers from the line's F on
  pub writers :
      (ls rs : List Line) (l : Line) → lines_in (fresh_decoder station) hs ≡ ls ++ l ∷ rs
      → Passes l.chars l.more
      → (w : Writer) × Rules w × (w.reader ≡ reader_of (unhex l.chars)) × (line_by w ≡ l.chars) × (l.more ≡ false)
