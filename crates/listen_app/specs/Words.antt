-- The words of the command. Assumes nothing.
use Rattle.std.specs.Prelude.{ℕ, Bool, List, [], ◌∷◌, ltb, eqb, Result, Ok, Err, Option, Some, None}
use Rattle.std.specs.Prelude.{if◌then◌else◌}
use Rattle.refusal.specs.Refusals.{rate_refused}
use Rattle.bell103.specs.declared.Role.{Role}
use Rattle.listen_app.specs.declared.words.Unclear.{Unclear}
use Rattle.listen_app.specs.declared.words.Unclear.TheVariants as unclear
use Rattle.listen_app.specs.declared.words.Request.{Request}
use Rattle.listen_app.specs.declared.words.Request.TheVariants as request

-- "s16"
abbrev pub s16 : List ℕ
s16 = 0x73 ∷ 0x31 ∷ 0x36 ∷ []

-- "`listen STATION ROLE` reads a WAV recording, `listen STATION ROLE RATE` raw 32-bit floats, low byte first, and `listen STATION ROLE RATE s16`
-- raw 16-bit PCM"; the first word that is wrong. The program's own name is counted too
unfoldable pub asked_format : ℕ → ℕ → Role → ℕ → Bool → Result Request Unclear
asked_format count station role rate is_pcm =
    if eqb count 4 then Ok (request.Floats station role rate)
    else if is_pcm then Ok (request.Pcm station role rate)
    else Err unclear.Format

unfoldable pub asked_rate : ℕ → ℕ → Role → ℕ → Bool → Result Request Unclear
asked_rate count station role rate is_pcm =
    if eqb count 3 then Ok (request.Recording station role)
    else if rate_refused rate then Err unclear.Rate
    else asked_format count station role rate is_pcm

abbrev pub asked_role : ℕ → ℕ → Option Role → ℕ → Bool → Result Request Unclear
asked_role count station None rate is_pcm = Err unclear.Role
asked_role count station (Some role) rate is_pcm = asked_rate count station role rate is_pcm

unfoldable pub asked : ℕ → ℕ → Option Role → ℕ → Bool → Result Request Unclear
asked count station n rate is_pcm =
    if ltb count 3 then Err unclear.Count
    else if ltb 5 count then Err unclear.Count
    else if eqb station 0 then Err unclear.Station
    else asked_role count station n rate is_pcm
