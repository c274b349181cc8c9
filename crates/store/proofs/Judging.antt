-- What a line is judged to be, check by check, and the lines that a writer makes. Assumes nothing.
use Rattle.std.specs.Prelude.{Ok, Err}
use Prim.Native.Nat.{ℕ, ◌+◌, ◌*◌, ◌/◌, ◌%◌, ◌≤◌, ◌<◌}
use mathlib.Core.Path.{◌≡◌, refl, sym, ap, ◌∙◌}
use mathlib.Core.Bool.{Bool, true, false}
use mathlib.Core.List.{List, [], ◌∷◌}
use lib.Dec.{ltb, eqb}
use lib.ListN.{length, get_or}
use native.Mathlib.Omega.{arith}
use borrow.Author.Tests.{ltb-false, le-leb, eq-eqb, ne_eqb}
use Rattle.refusal.specs.Refusals.{rate_refused}
use Rattle.hexadecimal.specs.Hex.{digit, all_hex, unhex, hex_line, total, check_of, Bytes}
use Rattle.hexadecimal.proofs.HexLaws.{unhex-hex_line, all_hex-hex_line, length-hex_line, or-false}
use Rattle.std.specs.Prelude.{if◌then◌else◌}
use Rattle.bell103.specs.declared.Role.{Role}
use Rattle.bell103.specs.declared.Role.TheVariants.{Originate, Answer}
use Rattle.store.specs.declared.line.Settings.{Settings}
use Rattle.store.specs.declared.line.Flaw.TheVariants.{UnknownVersion, Damaged}
use Rattle.store.specs.Line.{word_at, version_of, with_role, of_version1, whole, judged, role_byte, frame_of}
use Rattle.store.specs.Claims.{NoEnd, Admitted, OtherVersion}

-- ---- the code's checks
-- a line of version 1 with seven bytes
module _ (f : List ℕ) (seven : length f ≡ 7) (r : ℕ) (t : Bool) (er : r ≡ word_at f 1) (et : t ≡ rate_refused r) where
  pub bad-rate : t ≡ true → Err Damaged ≡ of_version1 f
  unfolding of_version1
  bad-rate h = rw (eq-eqb (length f) 7 seven, ← er, ← et, h) refl

  module _ (good : t ≡ false) (s : ℕ) (es : s ≡ word_at f 3) where
    pub bad-station : s ≡ 0 → Err Damaged ≡ of_version1 f
    unfolding of_version1
    bad-station h = rw (eq-eqb (length f) 7 seven, ← er, ← et, good, ← es, eq-eqb s 0 h) refl

    pub by-role : (s ≡ 0 → ⊥) → (o : ℕ) → o ≡ get_or f 5 0 → with_role r s o ≡ of_version1 f
    unfolding of_version1
    by-role h o eo = rw (eq-eqb (length f) 7 seven, ← er, ← et, good, ← es, ne_eqb s 0 h, ← eo) refl

-- an even number of digits, two or more
pub record WholeBytes (l : List ℕ) : Type 0 where
  pub least : 2 ≤ length l
  pub even : length l % 2 ≡ 0
  pub digits : all_hex l ≡ true

pub no-sum : (l : List ℕ) → WholeBytes l → (total (unhex l) % 256 ≡ 0 → ⊥) → Err Damaged ≡ judged l
unfolding judged whole
no-sum l p h = rw (le-leb 2 (length l) p.least, eq-eqb (length l % 2) 0 p.even, p.digits, ne_eqb (total (unhex l) % 256) 0 h) refl

pub by-version : (l : List ℕ) → WholeBytes l → total (unhex l) % 256 ≡ 0
    → (if eqb (version_of (unhex l)) 1 then of_version1 (unhex l) else Err UnknownVersion) ≡ judged l
unfolding judged whole
by-version l p s = rw (le-leb 2 (length l) p.least, eq-eqb (length l % 2) 0 p.even, p.digits, eq-eqb (total (unhex l) % 256) 0 s) refl

-- ---- lines that bytes make
-- no digit is 0A
no-end-by : (t : Bool) (d : ℕ) → (if t then d + 48 else d + 55) ≡ 10 → ⊥
no-end-by true d e = omega arith
no-end-by false d e = omega arith

pub hex_line-no-end : (f : List ℕ) → NoEnd (hex_line f)
unfolding hex_line digit
hex_line-no-end [] = tt
hex_line-no-end (b ∷ f) = (no-end-by (ltb (b / 16) 10) (b / 16), (no-end-by (ltb (b % 16) 10) (b % 16), hex_line-no-end f))

-- bytes with their sum, one or more
pub bytes-judged : (f : List ℕ) → Bytes f → 1 ≤ length f → total f % 256 ≡ 0
    → judged (hex_line f) ≡ (if eqb (version_of f) 1 then of_version1 f else Err UnknownVersion)
bytes-judged f p n s =
    let u = unhex-hex_line f p in
    let l = length-hex_line f in
    let d : WholeBytes (hex_line f) = record { least = omega arith; even = omega arith; digits = all_hex-hex_line f p } in
    sym (by-version (hex_line f) d (ap (λ (x : List ℕ). total x % 256) u ∙ s))
    ∙ ap (λ (x : List ℕ). if eqb (version_of x) 1 then of_version1 x else Err UnknownVersion) u

pub other-judged : (f : List ℕ) → OtherVersion f → judged (hex_line f) ≡ Err UnknownVersion
other-judged f o = bytes-judged f o.bytes o.some o.sums ∙ rw (ne_eqb (version_of f) 1 o.version) refl

-- ---- the writer's line
-- an admitted rate fits two bytes
pub rate-fits : (r : ℕ) → rate_refused r ≡ false → r < 65536
unfolding rate_refused
rate-fits r e = let h = ltb-false 48000 r (or-false (ltb r 8000) (ltb 48000 r) e).1 in omega arith

pub role-small : (o : Role) → role_byte o < 2
role-small Originate = omega arith
role-small Answer = omega arith

-- a role's byte says the role
role-back : (rate station : ℕ) (o : Role) → with_role rate station (role_byte o) ≡ Ok (record { rate = rate; station = station; role = o })
unfolding with_role
role-back rate station Originate = refl
role-back rate station Answer = refl

sum-closed : (a b c d e : ℕ) → (1 + (a + (b + (c + (d + (e + (check_of (1 + (a + (b + (c + (d + (e + 0)))))) + 0))))))) % 256 ≡ 0
unfolding check_of
sum-closed a b c d e = omega arith

-- the bytes of a line: they are bytes, have their sum, and are those of version 1
module _ (s : Settings) (a : Admitted s) where
  settings-bytes : Bytes (frame_of s.rate s.station s.role)
  unfolding frame_of check_of
  settings-bytes =
      let r = rate-fits s.rate a.rate in
      let n = a.word in
      let o = role-small s.role in
      (omega arith, (omega arith, (omega arith, (omega arith, (omega arith, (omega arith, (omega arith, tt)))))))

  settings-sum : total (frame_of s.rate s.station s.role) % 256 ≡ 0
  unfolding frame_of total
  settings-sum = sum-closed (s.rate / 256) (s.rate % 256) (s.station / 256) (s.station % 256) (role_byte s.role)

  settings-version : of_version1 (frame_of s.rate s.station s.role) ≡ Ok s
  unfolding frame_of of_version1 word_at
  settings-version =
      let r : 256 * (s.rate / 256) + s.rate % 256 ≡ s.rate = omega arith in
      let n : 256 * (s.station / 256) + s.station % 256 ≡ s.station = omega arith in
      rw (r, n, a.rate, ne_eqb s.station 0 a.station) (role-back s.rate s.station s.role)

  -- a writer's line is good, and says what the writer said
  pub line-good : judged (hex_line (frame_of s.rate s.station s.role)) ≡ Ok s
  unfolding frame_of
  line-good =
      bytes-judged (frame_of s.rate s.station s.role) settings-bytes (omega arith) settings-sum ∙ settings-version
