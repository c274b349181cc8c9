-- A lost carrier, by example: the gauge hangs up in mid line, and the next call opens with a bare 0A. Assumes nothing.
use mathlib.Core.Path.{◌≡◌, refl}
use mathlib.Core.List.{List, [], ◌∷◌, ◌++◌}
use Rattle.refusal.specs.Refusals.{first}
use Rattle.hexadecimal.specs.Hex.{hex, all_hex, unhex, total}
use Rattle.happenings.specs.Happening.{typed}
use Rattle.happenings.specs.declared.happening.Happening.{Happening}
use Rattle.happenings.specs.declared.happening.Happening.TheVariants.{Byte, Lost}
use Rattle.tide.specs.Frame.{station_of, stamp_of, age_of, level_of, signed, water_of}
use Rattle.tide.specs.Judge.{reading_of, later, settle, damage_of, of_fields, judged_of, of_line, judge}
use Rattle.tide.specs.Decoder.{fresh_decoder, place, bump, verdict, ended, longer, grown, cleared, byte_move, move_of, moved, took, verdicts_in}
use Rattle.tide.proofs.LineExamples.{text}

-- the first half of a line; and its second half, a 0A, and the whole line
unfoldable pub stump : List Happening
stump = typed (text "01010D0007")

unfoldable pub rest : List Happening
rest = typed (text "00C0000005019C88" ++ 10 ∷ text "01010D000700C0000005019C88" ++ 10 ∷ [])

-- heard in one piece the halves make a line, which is shown, and the whole line is no newer
pub in-one-piece : verdicts_in (fresh_decoder 7) (stump ++ rest) ≡ 0 ∷ 34 ∷ []
unfolding stump rest text typed fresh_decoder hex all_hex unhex total first station_of stamp_of age_of level_of signed damage_of of_fields judged_of of_line later settle water_of reading_of judge place bump verdict ended longer grown byte_move move_of moved took verdicts_in
in-one-piece = refl

-- with a loss between them neither is judged, and the whole line is shown
pub with-a-loss : verdicts_in (fresh_decoder 7) (stump ++ Lost ∷ rest) ≡ 0 ∷ []
unfolding stump rest text typed fresh_decoder hex all_hex unhex total first station_of stamp_of age_of level_of signed damage_of of_fields judged_of of_line later settle water_of reading_of judge place bump verdict ended longer grown cleared byte_move move_of moved took verdicts_in
with-a-loss = refl

-- and the call after a stump is heard from its first line on, since it opens with a 0A
pub next-call : verdicts_in (fresh_decoder 7) (stump ++ Lost ∷ Byte 10 ∷ stump ++ rest) ≡ 0 ∷ 34 ∷ []
unfolding stump rest text typed fresh_decoder hex all_hex unhex total first station_of stamp_of age_of level_of signed damage_of of_fields judged_of of_line later settle water_of reading_of judge place bump verdict ended longer grown cleared byte_move move_of moved took verdicts_in
next-call = refl
