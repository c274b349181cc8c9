-- Which steps of a receiver end a symbol, over a list of accepted writes. Assumes nothing.
use Rattle.std.specs.Prelude.{ℕ, ◌+◌, List, [], ◌∷◌, ◌++◌, length, Float}
use Rattle.demodulation.specs.Symbols.{symbol_ends}
use Rattle.modem.specs.Hear.{resampled}
use Rattle.modem.specs.Listener.{Demod, heard_by}

-- the steps of a write: the samples at 8,000 Hz that its samples make
unfoldable pub steps_by : Demod → List Float → List Float
steps_by d xs = (resampled d.resampler xs).out

-- those of a list of accepted writes, one after the other
unfoldable pub steps_over : Demod → List (List Float) → List Float
steps_over d [] = []
steps_over d (xs ∷ xss) = steps_by d xs ++ steps_over (heard_by d xs).after xss

-- the numbers of the steps that end a symbol, write by write, where n steps came before
unfoldable pub ends_over : Demod → ℕ → List (List Float) → List ℕ
ends_over d n [] = []
ends_over d n (xs ∷ xss) = symbol_ends d.inner n (steps_by d xs) ++ ends_over (heard_by d xs).after (n + length (steps_by d xs)) xss
