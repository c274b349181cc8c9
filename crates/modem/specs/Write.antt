-- What a write's samples are refused for. Assumes nothing.
use Rattle.std.specs.Prelude.{ℕ, ◌+◌, not, List, ltb, length, Float}
use Rattle.refusal.specs.Refusals.{first}
use Rattle.numeric.specs.Convert.{all_in_range}

-- of a list of samples, where so many were accepted and so many bytes wait:
-- "3 more than 1,024 samples. 4 a sample not finite or beyond ±1. 31 the call would pass 4,294,967,296 samples for this receiver.
-- 32 more than 409 of 512 received bytes wait". "Checks run in ascending number; the first that applies is given"
unfoldable pub refused_by : List Float → ℕ → ℕ → ℕ
refused_by xs accepted waiting =
    first (ltb 1024 (length xs)) 3
    (first (not (all_in_range xs)) 4
    (first (ltb 4294967296 (accepted + length xs)) 31
    (first (ltb 409 waiting) 32 0)))
