-- Numbers as text, one a line: what a text is read as, and how the code holds it. Assumes nothing.
use Rattle.std.specs.Prelude.{ℕ, ◌+◌, ◌-◌, ◌*◌, min, ◌≡◌, List, [], ◌∷◌, ◌++◌, ltb, eqb, length, Option, Some, None, Result, Ok, Err, IfOk}
use Rattle.std.proofs.lemmas.List.Edits.{sets}
use Rattle.std.specs.Prelude.{if◌then◌else◌}
use Rattle.numeric.specs.Fold.{fold}
use Rattle.tide.specs.DecoderRep.{most_count}
use Rattle.console.specs.declared.numbers.Line.{Line}
use Rattle.console.specs.declared.numbers.Line.TheVariants.{Blank, Says, Wrong}
use Rattle.console.specs.declared.numbers.Numbers.{Numbers}
use Rattle.console.specs.declared.numbers.InputError.{InputError}
use Rattle.console.specs.declared.numbers.InputError.TheVariants.{WrongLine, Unreadable}

-- the numbers of the lines ended, in order, and what is known of the line behind them
pub record Reader : Type 0 where
  pub numbers : List ℕ
  pub line : Line

abbrev pub reader : List ℕ → Line → Reader
reader ns l = record { numbers = ns; line = l }

-- "decimal, unsigned": one digit more behind a value. No other character is taken, and no number above 18,446,744,073,709,551,615
unfoldable pub digit_after : ℕ → ℕ → Line
digit_after value c =
    if ltb c 48 then Wrong
    else if ltb 57 c then Wrong
    else if ltb most_count (value * 10 + (c - 48)) then Wrong
    else Says (value * 10 + (c - 48))

-- a character more, which does not end the line
abbrev pub grown : Line → ℕ → Line
grown Blank c = digit_after 0 c
grown (Says value) c = digit_after value c
grown Wrong c = Wrong

-- the end of a line: an empty one says no number, and behind a wrong one nothing is read
abbrev pub ended : List ℕ → Line → Reader
ended ns Blank = reader ns Wrong
ended ns (Says value) = reader (ns ++ (value ∷ [])) Blank
ended ns Wrong = reader ns Wrong

-- one character: 0A ends the line
unfoldable pub took : Reader → ℕ → Reader
took r c = if eqb c 10 then ended r.numbers r.line else reader r.numbers (grown r.line c)

-- "a text of lines": what it is read as
abbrev pub read_text : List ℕ → Reader
read_text text = fold took (reader [] Blank) text

-- what is answered at the end of the text: its numbers, or the first line that says none, which a last line without 0A is too
abbrev pub input_by : ℕ → Line → Result ℕ InputError
input_by n Blank = Ok (min n most_count)
input_by n (Says value) = Err (WrongLine (min (n + 1) most_count))
input_by n Wrong = Err (WrongLine (min (n + 1) most_count))

abbrev pub input_of : Reader → Result ℕ InputError
input_of r = input_by (length r.numbers) r.line

-- ---- how the code holds it: a count that holds at its most, the line, and the numbers stored from the front of the lent memory on
pub record Holds (lent : List ℕ) (p : Reader) (t : Numbers) (out : List ℕ) : Type 0 where
  pub count : t.count ≡ min (length p.numbers) most_count
  pub line : t.line ≡ p.line
  pub stored : out ≡ sets lent 0 p.numbers

-- a character, and characters in order: whatever was held before, what is held now is what they make of it
pub record Steps (t : Numbers) (out : List ℕ) (c : ℕ) (r : Numbers) (out' : List ℕ) : Type 0 where
  pub holds : (lent : List ℕ) (p : Reader) → Holds lent p t out → Holds lent (took p c) r out'

pub record StepsOn (t : Numbers) (out : List ℕ) (cs : List ℕ) (r : Numbers) (out' : List ℕ) : Type 0 where
  pub holds : (lent : List ℕ) (p : Reader) → Holds lent p t out → Holds lent (fold took p cs) r out'

-- there are characters, those read, and this is what they do
pub record StepsSome (t : Numbers) (out : List ℕ) (r : Numbers) (out' : List ℕ) : Type 0 where
  pub chars : List ℕ
  pub steps : StepsOn t out chars r out'

-- one read: the numbers that it answers, or where it answers none, those of before
abbrev pub numbers_after : {E : Type 0} → Numbers → Result (Option Numbers) E → Numbers
numbers_after t (Ok (Some r)) = r
numbers_after t (Ok None) = t
numbers_after t (Err e) = t

-- read after read: there are numbers, those of what was read, and where no read failed they are answered
pub record StepsAll {E : Type 0} (t : Numbers) (out : List ℕ) (a : Result Numbers E) (out' : List ℕ) : Type 0 where
  pub numbers : Numbers
  pub some : StepsSome t out numbers out'
  pub answer : IfOk a (λ r. r ≡ numbers)

-- all of standard input: there is a text, that which was read; its numbers are stored, and where it could be read it is answered
pub record Reads (lent : List ℕ) (r : Result ℕ InputError) (out : List ℕ) : Type 0 where
  pub text : List ℕ
  pub stored : out ≡ sets lent 0 (read_text text).numbers
  pub answer : (r ≡ Err Unreadable → ⊥) → r ≡ input_of (read_text text)
