-- How the code holds what specs/Judge.antt speaks of. Assumes nothing.
use Rattle.std.specs.Prelude.{ℕ, Result, Ok, Err, Option, Some, None}
use Rattle.tide.specs.Judge as plain
use Rattle.tide.specs.declared.judge.Fault.{Fault}
use Rattle.tide.specs.declared.judge.Fault.TheVariants.{TooLong, OddOrShort, NotHexadecimal, Length, Sum, VersionMisfit, ForNewerReaders, OtherStation, Age, LevelMissing}
use Rattle.tide.specs.declared.judge.Reading.{Reading}
use Rattle.tide.specs.declared.judge.Judged.{Judged}

-- the number of what is wrong with a line, and 0 where nothing is
abbrev pub number_of : Fault → ℕ
number_of TooLong = 11
number_of OddOrShort = 12
number_of NotHexadecimal = 13
number_of Length = 14
number_of Sum = 15
number_of VersionMisfit = 16
number_of ForNewerReaders = 17
number_of OtherStation = 18
number_of Age = 19
number_of LevelMissing = 20

abbrev pub number_in : Result Unit Fault → ℕ
number_in (Ok u) = 0
number_in (Err f) = number_of f

-- the same two numbers
abbrev pub read_of : Reading → plain.Reading
read_of r = record { water = r.water; level = r.level }

-- what each case gives
abbrev pub shown_of : Option Reading → plain.Shown
shown_of None = plain.none
shown_of (Some r) = plain.shows (read_of r)

-- an answer, and what is shown after it
abbrev pub verdict_of : Judged → plain.Verdict
verdict_of j = record { answer = j.answer; reading = shown_of j.reading }
