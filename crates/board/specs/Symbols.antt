-- A plain board's symbols, over a list of writes. Assumes nothing.
use Rattle.std.specs.Prelude.{ℕ, ◌+◌, List, length, Float}
use Rattle.demodulation.specs.Correlation.{places}
use Rattle.demodulation.specs.Pace.{Paced}
use Rattle.modem.specs.Symbols.{steps_over, ends_over}
use Rattle.board.specs.Plain.{Plain, taken_in}

-- how many steps the accepted writes of a list make
unfoldable pub steps_in : Plain → List (List Float) → ℕ
steps_in b ws = length (steps_over b.receiver (taken_in b ws))

-- the numbers of those among them that end a symbol; the first step is number 1
unfoldable pub symbols_in : Plain → List (List Float) → List ℕ
symbols_in b ws = ends_over b.receiver 0 (taken_in b ws)

-- the ring filling: the step in which as many samples are in as the rings have places, 27
abbrev pub filling_step : ℕ
filling_step = places

-- "neighbouring boundaries then lie 21 to 33 steps apart, and the first comes within 32 steps of the ring filling"
abbrev pub KeepsPace : Plain → List (List Float) → Type 0
KeepsPace b ws = Paced 21 33 (filling_step + 32) (steps_in b ws) (symbols_in b ws)
