-- The mission's third term: one claim about the list of writes as a whole, from a fresh board on. Assumes nothing.
use Rattle.std.specs.Prelude.{ℕ, ◌+◌, ◌-◌, ◌<◌, ◌≡◌, ◌↔◌, false, List, [], ◌∷◌, ◌++◌, ℤ, length, get_or, drop, Float}
use Rattle.refusal.specs.Refusals.{rate_refused}
use Rattle.modem.specs.Rx.{CountsAll}
use Rattle.hexadecimal.specs.Hex.{hex_line, unhex, total}
use Rattle.happenings.specs.Happening.{bad_stops_in}
use Rattle.happenings.specs.declared.happening.Happening.{Happening}
use Rattle.happenings.specs.declared.happening.Happening.TheVariants.{Lost}
use Rattle.tide.specs.Frame.{reader_of, Intact, Writer, Rules, bits_of, line_by}
use Rattle.tide.specs.Judge.{Reading, Shown, none, shows, Verdict, judge, settle, of_fields, Passes, Readable, Past17}
use Rattle.tide.specs.Decoder.{Line, Decoder, IsAnswer, count_of, verdict, shown_on, answers_on, times, goods, AtMost, Best}
use Rattle.tide.specs.Lines.{lines_of, Unbroken, behind0_a}
use Rattle.board.specs.Plain.{Plain, decoder, Answer, after_all, heard_all, lines_all, verdicts_all, answers_all, ended_in, bad_stops_given}
use Rattle.board.specs.Symbols.{KeepsPace}

-- ---- the lines judged, in order
-- what a board of station `mine` shows when it has judged these lines since fresh, and the answers that it gave them
abbrev pub stands : ℕ → List Line → Shown
stands mine ls = shown_on mine none ls

abbrev pub given : ℕ → List Line → List ℕ
given mine ls = answers_on mine none ls

-- the line that characters make, 64 or fewer
abbrev pub line_of : List ℕ → Line
line_of chars = record { chars = chars; more = false }

-- what a board of station `mine` that shows r makes of a line for readers from 1 on: its station, stamp, age and level are all that counts.
-- "So a line for readers from 1 on gets the first of 18, 19, 20 and 34 that applies, else 0"
unfoldable pub on_fields : ℕ → Shown → ℕ → ℕ → ℕ → ℤ → Verdict
on_fields mine r station stamp age level = settle (of_fields mine station stamp age (bits_of level)) r (record { water = stamp - age; level = level })

-- the line l, judged after the lines ls, got this verdict: the answer at its place in the list, and what stands after it
pub record JudgedAs (mine : ℕ) (answers : List ℕ) (ls : List Line) (l : Line) (v : Verdict) : Type 0 where
  pub answer : get_or answers (length ls) 0 ≡ v.answer
  pub reading : stands mine (ls ++ l ∷ []) ≡ v.reading

-- two lines that writers of any versions wrote for readers from 1 on, alike in station, stamp, age and level
pub record Alike (v w : Writer) : Type 0 where
  pub rules : Rules v × Rules w
  pub readers : (v.reader ≡ 1) × (w.reader ≡ 1)
  pub station : v.station ≡ w.station
  pub stamp : v.stamp ≡ w.stamp
  pub age : v.age ≡ w.age
  pub level : v.level ≡ w.level

-- ---- the term: of a fresh plain board, the writes, the board after them, and the answers given
pub record Term3 (fresh : Plain) (ws : List (List Float)) (b : Plain) (said : List Answer) : Type 0 where
  -- the board after the writes is the plain board's, which "is fed the calls' arguments alone"
  pub board : b ≡ after_all fresh ws
  -- every answer is the plain board's
  pub answers : said ≡ answers_all fresh ws
  -- "neighbouring boundaries then lie 21 to 33 steps apart, and the first comes within 32 steps of the ring filling"
  pub paced : KeepsPace fresh ws
  -- the lines judged are those of all that was heard in the accepted writes, however these cut it: what stands between one 0A and the next is
  -- a line, "its first 64 characters and whether there were more", unless the carrier was lost in it
  pub lines : lines_all fresh ws ≡ lines_of (heard_all fresh ws)
  -- "A lost carrier voids the line": no judged line has characters heard on both sides of a loss. Each is all that was heard from the start, or
  -- from behind a 0A, to the next 0A, with no loss between
  pub unbroken : (ls rs : List Line) (l : Line) → lines_all fresh ws ≡ ls ++ l ∷ rs → Unbroken (heard_all fresh ws) ls l
  -- "skips all bytes up to and including the next 0A": wherever the carrier was lost, the lines judged are those of what was heard before, and
  -- then those of what was heard behind the next 0A
  pub voided :
      (before behind : List Happening) → heard_all fresh ws ≡ before ++ Lost ∷ behind
      → lines_all fresh ws ≡ lines_of before ++ lines_of (behind0_a behind)
  -- the reading is the good line with the greatest water minute, the earliest among equals: "greater than that of every good line judged
  -- before it", and at least that of every one behind it
  pub reading : Best (goods fresh.station (lines_all fresh ws)) b.reading
  -- the board shows nothing exactly when no good line was judged
  pub empty : (b.reading ≡ none) ↔ (goods fresh.station (lines_all fresh ws) ≡ [])
  -- "The reading's W is at least that of every other good line judged since fresh"
  pub greatest : (r : Reading) → b.reading ≡ shows r → AtMost r.water (goods fresh.station (lines_all fresh ws))
  -- "one count for each line answer": the number of times that it was given
  pub counts : (n : ℕ) → IsAnswer n → count_of (decoder b) n ≡ times n (verdicts_all fresh ws)
  -- "Lines judged since fresh = lines ended, summed over the accepted writes"
  pub ended : length (lines_all fresh ws) ≡ ended_in said
  -- "the number of bad stops in each accepted write's answer": summed they are the bad stops of all that was heard
  pub bad_stops : bad_stops_given said ≡ bad_stops_in (heard_all fresh ws)
  -- and, at every admitted rate, the deframer's error count, which never holds
  pub errors : rate_refused fresh.receiver.resampler.src ≡ false → CountsAll (bad_stops_given said) b.receiver.inner.deframer.errors
  -- "= shown (answer 0) + sum of the other counts"
  pub judged : length (lines_all fresh ws) ≡ count_of (decoder b) 0 + total (drop 1 b.counts)
  -- the answers are those of the lines, "judged and emptied" one after the other
  pub verdicts : verdicts_all fresh ws ≡ given fresh.station (lines_all fresh ws)
  -- and so is the reading
  pub shown : b.reading ≡ stands fresh.station (lines_all fresh ws)
  -- each judged line at its place: its answer, and what stands after it, from what stood before it
  pub each :
      (ls rs : List Line) (l : Line) → lines_all fresh ws ≡ ls ++ l ∷ rs
      → JudgedAs fresh.station (verdicts_all fresh ws) ls l (judge fresh.station (stands fresh.station ls) l.chars l.more)
  -- each judged line that a writer of any version 1 to 255 wrote for readers from 1 on, "whatever its later bytes": judged on station, stamp,
  -- age and level alone
  pub fields :
      (ls rs : List Line) (w : Writer) → lines_all fresh ws ≡ ls ++ line_of (line_by w) ∷ rs → Rules w → w.reader ≡ 1
      → JudgedAs fresh.station (verdicts_all fresh ws) ls (line_of (line_by w))
      (on_fields fresh.station (stands fresh.station ls) w.station w.stamp w.age w.level)
  -- "A line that passes 11 to 16 is intact": each judged line that does is one that some writer wrote, for readers from its F on
  pub written :
      (ls rs : List Line) (l : Line) → lines_all fresh ws ≡ ls ++ l ∷ rs → Passes l.chars l.more
      → (w : Writer) × Rules w × (w.reader ≡ reader_of (unhex l.chars)) × (l ≡ line_of (line_by w))
  -- and each that passes 17 too is one that a writer wrote for readers from 1 on, so that `fields` speaks of it
  pub readable :
      (ls rs : List Line) (l : Line) → lines_all fresh ws ≡ ls ++ l ∷ rs → Readable l.chars l.more
      → (w : Writer) × Rules w × (w.reader ≡ 1) × (l ≡ line_of (line_by w))
  -- these are the lines that get an answer other than 11 to 17, and no others
  pub covered :
      (ls rs : List Line) (l : Line) → lines_all fresh ws ≡ ls ++ l ∷ rs
      → Past17 (get_or (verdicts_all fresh ws) (length ls) 0) ↔ Readable l.chars l.more
  -- two such lines alike in these, on boards alike in station and reading: one answer, and one reading after it
  pub alike :
      (v w : Writer) (c d : Decoder) → Alike v w → c.station ≡ d.station → c.reading ≡ d.reading
      → c.line ≡ line_of (line_by v) → d.line ≡ line_of (line_by w) → verdict c ≡ verdict d
  -- "one for newer readers has F > 1, and where it is intact it gets 17 and is so counted as newer": the reading stands, and 17 was given
  -- once more
  pub newer :
      (ls rs : List Line) (f : List ℕ) → lines_all fresh ws ≡ ls ++ line_of (hex_line f) ∷ rs → Intact f → 1 < reader_of f
      → JudgedAs fresh.station (verdicts_all fresh ws) ls (line_of (hex_line f)) (record { answer = 17; reading = stands fresh.station ls })
      × (times 17 (given fresh.station (ls ++ line_of (hex_line f) ∷ [])) ≡ times 17 (given fresh.station ls) + 1)
