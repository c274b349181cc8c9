-- A settings line, without the 0A that ends it: what it is judged to be, and the one that a writer makes. Assumes nothing.
use Rattle.std.specs.Prelude.{Result, Ok, Err}
use Rattle.std.specs.Prelude.{ℕ, ◌+◌, ◌*◌, ◌/◌, ◌%◌, Bool, not, ◌&&◌, ◌||◌, List, [], ◌∷◌, ◌++◌, leb, eqb, length, get_or}
use Rattle.std.specs.Prelude.{if◌then◌else◌}
use Rattle.refusal.specs.Refusals.{rate_refused}
use Rattle.hexadecimal.specs.Hex.{all_hex, unhex, hex_line, total, check_of}
use Rattle.bell103.specs.declared.Role.{Role}
use Rattle.bell103.specs.declared.Role.TheVariants.{Originate, Answer}
use Rattle.store.specs.declared.line.Settings.{Settings}
use Rattle.store.specs.declared.line.Flaw.{Flaw}
use Rattle.store.specs.declared.line.Flaw.TheVariants.{UnknownVersion, Damaged}

-- ---- a line judged
-- "Two-byte fields come high byte first": the field that begins at byte i
unfoldable pub word_at : List ℕ → ℕ → ℕ
word_at f i = 256 * get_or f i 0 + get_or f (i + 1) 0

-- "version 1"
abbrev pub version_of : List ℕ → ℕ
version_of f = get_or f 0 0

-- "role (0 originate, 1 answer)"; "role 0 or 1": any other is damage
unfoldable pub with_role : ℕ → ℕ → ℕ → Result Settings Flaw
with_role rate station role =
    if eqb role 0 then Ok (record { rate = rate; station = station; role = Originate })
    else (if eqb role 1 then Ok (record { rate = rate; station = station; role = Answer }) else Err Damaged)

-- of the bytes of a line of version 1 that has its sum: "A good line has the exact length, .. role 0 or 1, and a rate and station that
-- pass 1 and 2". Byte 0 is the version, 1 and 2 the rate, 3 and 4 the station, 5 the role, 6 what makes the sum divisible
unfoldable pub of_version1 : List ℕ → Result Settings Flaw
of_version1 f =
    if not (eqb (length f) 7) || rate_refused (word_at f 1) || eqb (word_at f 3) 0 then Err Damaged
    else with_role (word_at f 1) (word_at f 3) (get_or f 5 0)

-- "a line of one or more whole bytes in such digits with its sum"
unfoldable pub whole : List ℕ → Bool
whole l = leb 2 (length l) && eqb (length l % 2) 0 && all_hex l && eqb (total (unhex l) % 256) 0

-- "damaged ones are passed over, and a line .. with its sum but an unknown version is passed over and counted"
unfoldable pub judged : List ℕ → Result Settings Flaw
judged l = if whole l then (if eqb (version_of (unhex l)) 1 then of_version1 (unhex l) else Err UnknownVersion) else Err Damaged

-- ---- the writer's side
-- "role (0 originate, 1 answer)"
abbrev pub role_byte : Role → ℕ
role_byte Originate = 0
role_byte Answer = 1

-- all bytes but the last
abbrev pub body_of : ℕ → ℕ → Role → List ℕ
body_of rate station role = 1 ∷ (rate / 256) ∷ (rate % 256) ∷ (station / 256) ∷ (station % 256) ∷ role_byte role ∷ []

-- the bytes of a line, and the line with the 0A (10) that ends it
unfoldable pub frame_of : ℕ → ℕ → Role → List ℕ
frame_of rate station role = body_of rate station role ++ check_of (total (body_of rate station role)) ∷ []

unfoldable pub line_of : ℕ → ℕ → Role → List ℕ
line_of rate station role = hex_line (frame_of rate station role) ++ 10 ∷ []
