-- What a line's judgement goes by: a line for readers from 1 on, whoever wrote it, on station, stamp, age and level alone; one for newer
-- readers gets 17. And a line that passes 11 to 16 is one that some writer writes. Assumes nothing.
use Prim.Native.Nat.{ℕ, zero, suc, ◌-◌, ◌%◌, ◌≤◌, ◌<◌}
use mathlib.Core.Path.{◌≡◌, refl, sym, ap, ◌∙◌}
use mathlib.Core.Logic.{◌⊎◌, ◌↔◌, inl, inr}
use mathlib.Core.Bool.{Bool, true, false, not, ◌&&◌, ◌||◌}
use mathlib.Core.List.{List}
use lib.Dec.{ltb, eqb}
use lib.ListN.{length, get_or}
use native.Mathlib.Omega.{arith}
use borrow.Author.Tests.{ltb-false, eqb-true, eqb-false, lt-ltb, le-ltb, eq-eqb, ne_eqb}
use Rattle.std.specs.Prelude.{if◌then◌else◌}
use Rattle.refusal.specs.Refusals.{first}
use Rattle.refusal.proofs.RefusalLaws.{first-zero}
use Rattle.hexadecimal.specs.Hex.{all_hex, unhex, hex_line, total}
use Rattle.tide.specs.Frame.{version_of, reader_of, said_length, station_of, stamp_of, age_of, level_of, signed, water_of, Intact, Writer, Rules, bits_of, frame_of, line_by}
use Rattle.tide.specs.Judge.{damage_of, Passes, Passed, Readable, Past17, of_fields, judged_of, of_line, reading_of, Shown, shows, Verdict, later, settle, judge}
use Rattle.hexadecimal.proofs.HexLaws.{unhex-hex_line, all_hex-hex_line, length-hex_line, length-unhex, unhex-bytes, hex_line-unhex, or-false}
use Rattle.tide.proofs.FrameLaws.{says-station, says-stamp, says-age, says-level, signed-bits, frame-intact, written}

-- ---- an intact frame's line passes 11 to 16, and its number goes by its least reader and its fields alone
first_one : (t u : Bool) (n : ℕ) → (t && not u) ≡ false → first (t && not u) 16 n ≡ n
unfolding first
first_one t u n e = rw e refl

one-by : (t : Bool) (a b : ℕ) → eqb a 1 ≡ t → (a ≡ 1 → b ≡ 13) → (t && not (eqb b 13)) ≡ false
one-by true a b e h = rw (eq-eqb b 13 (h (eqb-true a 1 e))) refl
one-by false a b e h = refl

pub intact-passes : (f : List ℕ) → Intact f → Passes (hex_line f) false
unfolding damage_of first
intact-passes f i =
    let l = length-hex_line f in
    let a : 26 ≤ length (hex_line f) = omega arith in
    let o : length (hex_line f) ≤ 64 = omega arith in
    let b : length (hex_line f) % 2 ≡ 1 → ⊥ = λ e. omega arith in
    let v : get_or f 0 0 ≡ 0 → ⊥ = λ e. omega arith in
    let r : get_or f 1 0 ≡ 0 → ⊥ = λ e. omega arith in
    rw (
      le-ltb 64 (length (hex_line f)) o,
      le-ltb (length (hex_line f)) 26 a,
      ne_eqb (length (hex_line f) % 2) 1 b,
      all_hex-hex_line f i.bytes,
      unhex-hex_line f i.bytes,
      eq-eqb (get_or f 2 0) (length f) i.says,
      eq-eqb (total f % 256) 0 i.sums,
      ne_eqb (get_or f 0 0) 0 v,
      ne_eqb (get_or f 1 0) 0 r,
      le-ltb (get_or f 0 0) (get_or f 1 0) i.able,
    )
    (first_one (eqb (get_or f 0 0) 1) (eqb (length f) 13) _ (one-by _ (get_or f 0 0) (length f) refl i.first))

pub intact-number : (mine : ℕ) (f : List ℕ) → Intact f → of_line mine (hex_line f) false ≡ judged_of mine f
unfolding of_line
intact-number mine f i = rw (intact-passes f i, unhex-hex_line f i.bytes) refl

-- "F = 1 keeps all twelve": an intact line for readers from 1 on is judged on its four fields, whatever its later bytes
pub judge-fields : (mine : ℕ) (r : Shown) (f : List ℕ) → Intact f → reader_of f ≡ 1
    → judge mine r (hex_line f) false
    ≡ settle (of_fields mine (station_of f) (stamp_of f) (age_of f) (level_of f)) r (record { water = stamp_of f - age_of f; level = signed (level_of f) })
unfolding judge reading_of water_of judged_of first
judge-fields mine r f i e =
    let h : get_or f 1 0 ≤ 1 = omega arith in
    rw (intact-number mine f i, unhex-hex_line f i.bytes, le-ltb 1 (get_or f 1 0) h) refl

-- "one for newer readers has F > 1, and where it is intact it gets 17"; what stands still stands
pub judge-newer : (mine : ℕ) (r : Shown) (f : List ℕ) → Intact f → 1 < reader_of f → judge mine r (hex_line f) false ≡ record { answer = 17; reading = r }
unfolding judge settle judged_of first
judge-newer mine r f i h = rw (intact-number mine f i, lt-ltb 1 (get_or f 1 0) h) refl

-- ---- the writer's side
-- a line that a writer of any version 1 to 255 writes for readers from 1 on, whatever it appended, is judged on the writer's station,
-- stamp, age and level
pub fields : (w : Writer) → Rules w → (mine : ℕ) (r : Shown) → w.reader ≡ 1
    → judge mine r (line_by w) false
    ≡ settle (of_fields mine w.station w.stamp w.age (bits_of w.level)) r (record { water = w.stamp - w.age; level = w.level })
unfolding line_by
fields w k mine r e =
    judge-fields mine r (frame_of w) (frame-intact w k) (unfold frame_of in e)
    ∙ rw (says-station w k, says-stamp w k, says-age w k, says-level w k, signed-bits w.level k.level) refl

-- a line that a writer writes for newer readers
pub fields-newer : (w : Writer) → Rules w → (mine : ℕ) (r : Shown) → 1 < w.reader → judge mine r (line_by w) false ≡ record { answer = 17; reading = r }
unfolding line_by
fields-newer w k mine r h = judge-newer mine r (frame_of w) (frame-intact w k) (unfold frame_of in h)

-- two such lines alike in the four are judged alike
pub fields-alike : (v w : Writer) → Rules v → Rules w → v.reader ≡ 1 → w.reader ≡ 1
    → v.station ≡ w.station → v.stamp ≡ w.stamp → v.age ≡ w.age → v.level ≡ w.level
    → (mine : ℕ) (r : Shown) → judge mine r (line_by v) false ≡ judge mine r (line_by w) false
fields-alike v w i j e h s t a l mine r = rw (fields v i mine r e, fields w j mine r h, s, t, a, l) refl

-- ---- what a line that passes 11 to 16 says
pub not-false : (a : Bool) → not a ≡ false → a ≡ true
not-false true e = refl
not-false false e = sym e

and-not : (t : Bool) (a b : ℕ) → eqb a 1 ≡ t → (t && not (eqb b 13)) ≡ false → a ≡ 1 → b ≡ 13
and-not true a b e f h = eqb-true b 13 (not-false (eqb b 13) f)
and-not false a b e f h = absurd (eqb-false a 1 e h)

pub passed : (l : List ℕ) (more : Bool) → Passes l more → Passed l more
unfolding damage_of
passed l more p =
    let a = first-zero _ 10 _ p in
    let b = first-zero _ 11 _ a.1 in
    let c = first-zero _ 12 _ b.1 in
    let d = first-zero _ 13 _ c.1 in
    let e = first-zero _ 14 _ d.1 in
    let g = first-zero _ 15 _ e.1 in
    let f = unhex l in
    let o = or-false more _ a.0 in
    let most = ltb-false 64 (length l) o.1 in
    let q = or-false _ _ b.0 in
    let long = ltb-false (length l) 26 q.0 in
    let even = eqb-false (length l % 2) 1 q.1 in
    let two : length l % 2 ≡ 0 = by (length l % 2) even (omega arith) in
    let n = length-unhex l in
    let hexes = not-false (all_hex l) c.0 in
    let s = or-false (eqb (version_of f) 0 || eqb (reader_of f) 0 || ltb (version_of f) (reader_of f)) _ g.0 in
    let t = or-false (eqb (version_of f) 0 || eqb (reader_of f) 0) _ s.0 in
    let u = or-false (eqb (version_of f) 0) _ t.0 in
    record {
      whole = o.0;
      frame =
          record {
            bytes = unhex-bytes l hexes;
            least = omega arith;
            most = omega arith;
            says = eqb-true (said_length f) (length f) (not-false _ d.0);
            sums = eqb-true (total f % 256) 0 (not-false _ e.0);
            version = over (version_of f) (eqb-false (version_of f) 0 u.0);
            reader = over (reader_of f) (eqb-false (reader_of f) 0 u.1);
            able = ltb-false (version_of f) (reader_of f) t.1;
            first = and-not _ (version_of f) (length f) refl s.1;
          };
      line = hex_line-unhex l hexes two;
    }
  where
    by : (k : ℕ) → (k ≡ 1 → ⊥) → k < 2 → k ≡ 0
    by zero p q = refl
    by (suc k) p q = absurd (p (omega arith))

    over : (k : ℕ) → (k ≡ 0 → ⊥) → 1 ≤ k
    over k p = omega arith

writes-for : (w : Writer) (f : List ℕ) → frame_of w ≡ f → w.reader ≡ reader_of f
unfolding frame_of
writes-for w f e = ap (λ (g : List ℕ). reader_of g) e

-- the writer's reader is the line's F
pub some-writer : (l : List ℕ) (more : Bool) → Passes l more
    → (w : Writer) × Rules w × (w.reader ≡ reader_of (unhex l)) × (line_by w ≡ l) × (more ≡ false)
unfolding line_by
some-writer l more p =
    let k = passed l more p in
    let w = written (unhex l) k.frame in
    (w.0, w.1, writes-for w.0 (unhex l) w.2, rw w.2 k.line, k.whole)

-- and 1 where 17 does not apply
pub readable-writer : (l : List ℕ) (more : Bool) → Readable l more
    → (w : Writer) × Rules w × (w.reader ≡ 1) × (line_by w ≡ l) × (more ≡ false)
readable-writer l more r =
    let w = some-writer l more r.intact in
    (w.0, w.1, omega (arith, w.1.reader.0, w.2, r.reader), w.3, w.4)

-- ---- a line passes 11 to 16 exactly where its number is none of these
first-few : (t : Bool) (k n : ℕ) → k ≤ 16 → n ≤ 16 → first t k n ≤ 16
unfolding first
first-few true k n p q = p
first-few false k n p q = q

damage-few : (l : List ℕ) (more : Bool) → damage_of l more ≤ 16
unfolding damage_of
damage-few l more =
    first-few _ 11 _ (omega arith)
    (first-few _ 12 _ (omega arith)
    (first-few _ 13 _ (omega arith)
    (first-few _ 14 _ (omega arith)
    (first-few _ 15 _ (omega arith)
    (first-few _ 16 0 (omega arith) (omega arith))))))

first-over : (least : ℕ) (t : Bool) (k n : ℕ) → least ≤ k → (n ≡ 0) ⊎ (least ≤ n) → (first t k n ≡ 0) ⊎ (least ≤ first t k n)
unfolding first
first-over least true k n p q = inr p
first-over least false k n p q = q

fields-over : (mine station stamp age level : ℕ) → Past17 (of_fields mine station stamp age level)
unfolding of_fields
fields-over mine station stamp age level =
    first-over 18 _ 18 _ (omega arith)
    (first-over 18 _ 19 _ (omega arith)
    (first-over 18 _ 20 0 (omega arith) (inl refl)))

less_by : (n : ℕ) → Past17 n → (n ≡ 0) ⊎ (17 ≤ n)
less_by n (inl e) = inl e
less_by n (inr h) = inr (omega arith)

judged-over : (mine : ℕ) (f : List ℕ) → (judged_of mine f ≡ 0) ⊎ (17 ≤ judged_of mine f)
unfolding judged_of
judged-over mine f = first-over 17 _ 17 _ (omega arith) (less_by _ (fields-over mine _ _ _ _))

passes-by : (t : Bool) (n k : ℕ) → eqb n 0 ≡ t → n ≤ 16 → ((if t then k else n) ≡ 0) ⊎ (17 ≤ (if t then k else n)) → n ≡ 0
passes-by true n k e h p = eqb-true n 0 e
passes-by false n k e h (inl p) = p
passes-by false n k e h (inr p) = absurd (omega arith)

pub passes-number : (mine : ℕ) (l : List ℕ) (more : Bool) → ((of_line mine l more ≡ 0) ⊎ (17 ≤ of_line mine l more)) ↔ Passes l more
unfolding of_line
passes-number mine l more =
    (λ p. passes-by _ (damage_of l more) (judged_of mine (unhex l)) refl (damage-few l more) p, λ e. rw e (judged-over mine (unhex l)))

-- ---- and 11 to 17 exactly where its answer is none of these
newer-by : (t : Bool) (n : ℕ) → Past17 (first t 17 n) → t ≡ false
unfolding first
newer-by true n (inl e) = absurd (omega arith)
newer-by true n (inr h) = absurd (omega arith)
newer-by false n p = refl

of-readable : (mine : ℕ) (l : List ℕ) (more : Bool) → Passes l more → of_line mine l more ≡ judged_of mine (unhex l)
unfolding of_line
of-readable mine l more p = rw p refl

readable-number : (mine : ℕ) (l : List ℕ) (more : Bool) → Past17 (of_line mine l more) ↔ Readable l more
unfolding judged_of
readable-number mine l more = (
  λ p.
      let i = (passes-number mine l more).0 (less_by _ p) in
      record { intact = i; reader = ltb-false 1 _ (newer-by _ _ (rw (of-readable mine l more i) at p)) },
  λ r. rw (of-readable mine l more r.intact, le-ltb 1 (reader_of (unhex l)) r.reader) (unfold first in fields-over mine _ _ _ _),
)

-- a good line's answer is 0 or 34, any other's its number
settled-by : (t u : Bool) (n : ℕ) (r s : Shown) → eqb n 0 ≡ t
    → Past17 (if◌then◌else◌ {A = Verdict} t (if u then record { answer = 0; reading = s } else record { answer = 34; reading = r }) (record { answer = n; reading = r })).answer
    ↔ Past17 n
settled-by true true n r s e = (λ _. inl (eqb-true n 0 e), λ _. inl refl)
settled-by true false n r s e = (λ _. inl (eqb-true n 0 e), λ _. inr (omega arith))
settled-by false u n r s e = (λ p. p, λ p. p)

pub readable-answer : (mine : ℕ) (r : Shown) (l : List ℕ) (more : Bool) → Past17 (judge mine r l more).answer ↔ Readable l more
unfolding judge settle
readable-answer mine r l more =
    let n = of_line mine l more in
    let s = settled-by (eqb n 0) (later r (reading_of (unhex l))) n r (shows (reading_of (unhex l))) refl in
    let k = readable-number mine l more in
    (λ p. k.0 (s.0 p), λ q. s.1 (k.1 q))
