-- Document 01's starred examples, together: one table, which the definitions give back. Assumes nothing.
use Prim.Native.Nat.{ℕ}
use Prim.Native.String.{String}
use mathlib.Core.Path.{◌≡◌, refl}
use mathlib.Core.Bool.{Bool, false}
use mathlib.Core.List.{List, [], ◌∷◌, ◌++◌}
use lib.IntN.{pos, negsuc}
use lib.ListN.{replicate}
use Rattle.numeric.specs.Counts.{samples_for_bits}
use Rattle.refusal.specs.Refusals.{first}
use Rattle.framing.specs.Frame.{mark, space, frame_of, fresh_deframer, idle_bit, data_bit, stop_bit, bad_stop, push_bit, heard, after}
use Rattle.tide.proofs.LineExamples.{text}
use Rattle.hexadecimal.specs.Hex.{hex, all_hex, unhex, total}
use Rattle.tide.specs.Frame.{station_of, stamp_of, age_of, level_of, signed, water_of}
use Rattle.happenings.specs.Happening.{typed}
use Rattle.tide.specs.Judge.{Shown, shows, reading_of, later, settle, damage_of, of_fields, judged_of, of_line, judge}
use Rattle.tide.specs.Decoder.{Decoder, fresh_decoder, place, bump, verdict, ended, longer, grown, byte_move, move_of, moved, took, took_all, verdicts_in, last_of}

pub data Example : Type 0 where
  -- a byte, and its ten bits
  frame : ℕ → List Bool → Example
  -- bits from idle; the bytes that they yield, the errors, and whether a frame is begun after them
  deframed : List Bool → List ℕ → ℕ → Bool → Example
  -- a rate and a number of bits; what `samples_for_bits` gives
  samples : ℕ → ℕ → ℕ → Example
  -- a fresh board of a station, for the lines behind it
  station : ℕ → Example
  -- a tide line; its answer, and what is shown after it
  line : String → ℕ → Shown → Example

-- what the definitions give for each, a line on the decoder as those before it left it
unfoldable pub given : Decoder → List Example → List Example
given d [] = []
given d (frame b bits ∷ es) = frame b (frame_of b) ∷ given d es
given d (deframed bits bytes errors begun ∷ es) =
    let f = after fresh_deframer bits in
    deframed bits (heard fresh_deframer bits) f.errors f.in_frame ∷ given d es
given d (samples rate n count ∷ es) = samples rate n (samples_for_bits n rate) ∷ given d es
given d (station s ∷ es) = station s ∷ given (fresh_decoder s) es
given d (line l answer shown ∷ es) =
    let heard = typed (text l ++ 10 ∷ []) in
    line l (last_of 0 (verdicts_in d heard)) (took_all d heard).reading ∷ given (took_all d heard) es

unfoldable pub starred : List Example
starred =
    -- "41 hexadecimal gives 0 1000 0010 1; 00 and FF, ten bits"
    frame 0x41 (space ∷ mark ∷ space ∷ space ∷ space ∷ space ∷ space ∷ mark ∷ space ∷ mark ∷ [])
    ∷ frame 0x00 (space ∷ space ∷ space ∷ space ∷ space ∷ space ∷ space ∷ space ∷ space ∷ mark ∷ [])
    ∷ frame 0xFF (space ∷ mark ∷ mark ∷ mark ∷ mark ∷ mark ∷ mark ∷ mark ∷ mark ∷ mark ∷ [])
    -- "Nine spaces then a space: one error, idle"
    ∷ deframed (replicate 9 space ++ space ∷ []) [] 1 false
    -- "`samples_for_bits` at 8,000: 1 gives 27, 3 gives 80"
    ∷ samples 8000 1 27
    ∷ samples 8000 3 80
    -- "Program `tideline` (station 7)": `1 0`, `2 34`, `3 17`, `4 34`, `5 12`, `R 7 12582907 412`
    ∷ station 7
    ∷ line "01010D000700C0000005019C88" 0 (shows (record { water = 12582907; level = pos 412 }))
    ∷ line "03010E000700C0000005019C5A2B" 34 (shows (record { water = 12582907; level = pos 412 }))
    ∷ line "03020E000700C0000005019C5A2A" 17 (shows (record { water = 12582907; level = pos 412 }))
    ∷ line "01010D000700C0001015019C68" 34 (shows (record { water = 12582907; level = pos 412 }))
    ∷ line "" 12 (shows (record { water = 12582907; level = pos 412 }))
    -- "01010D000700C0000005FFFF27 has level -1" (negsuc n is -1 - n)
    ∷ station 7
    ∷ line "01010D000700C0000005FFFF27" 0 (shows (record { water = 12582907; level = negsuc 0 }))
    ∷ []

-- the definitions give back the whole table
pub starred-hold : given (fresh_decoder 7) starred ≡ starred
unfolding given starred idle_bit data_bit stop_bit bad_stop push_bit heard after text fresh_decoder hex all_hex unhex total first station_of stamp_of age_of level_of signed damage_of of_fields judged_of of_line later settle water_of reading_of judge place bump verdict ended longer grown byte_move move_of moved took took_all typed verdicts_in last_of
starred-hold = refl
