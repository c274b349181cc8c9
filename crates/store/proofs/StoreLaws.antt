-- What a store keeps: a write is read back, a write that stops in the middle changes nothing, and later versions disturb no reader. Assumes nothing.
use Rattle.std.specs.Prelude.{Result, Err, Option, Some, None}
use Prim.Native.Nat.{ℕ, ◌+◌, ◌*◌, ◌≤◌, ◌<◌}
use mathlib.Core.Path.{◌≡◌, refl, ap, ap₂, ◌∙◌}
use mathlib.Core.Bool.{Bool, true, false}
use mathlib.Core.List.{List, [], ◌∷◌, ◌++◌}
use lib.Dec.{ltb, eqb}
use lib.ListN.{length, take, drop, length-append, length-drop, length-take}
use lib.Seq.{take-append-le, length-paste}
use native.Mathlib.Nat.{add-zero}
use native.Mathlib.Omega.{arith}
use borrow.Author.Tests.{ltb-false, eqb-true, eqb-false, eq-eqb, ne_eqb, lt-ltb, le-ltb}
use Rattle.std.specs.Prelude.{if◌then◌else◌}
use Rattle.refusal.specs.Refusals.{given, refused, first, rate_refused}
use Rattle.refusal.proofs.RefusalLaws.{first-zero}
use Rattle.hexadecimal.specs.Hex.{hex_line}
use Rattle.hexadecimal.proofs.HexLaws.{length-hex_line}
use Rattle.bell103.specs.declared.Role.{Role}
use Rattle.store.specs.declared.line.Settings.{Settings}
use Rattle.store.specs.declared.line.Flaw.{Flaw}
use Rattle.store.specs.declared.line.Flaw.TheVariants.{Damaged}
use Rattle.store.specs.Line.{judged, frame_of, line_of}
use Rattle.store.specs.Store.{store_of, lines_of, unused_of, first_unused, settled, last_good, one_unknown, unknowns, answer_of, read_of, torn, write_number, Writing, writing, write_of}
use Rattle.store.specs.Claims.{NoEnd, Admitted, AllAdmitted, found, wrote, wrote_all, numbers_all, Fills, OtherVersion, counted}
use Rattle.store.proofs.Lines.{none-take, lines-torn, lines_more, room-is}
use Rattle.store.proofs.Judging.{hex_line-no-end, other-judged, line-good}

-- ---- any line
-- a line more, and what it does to a read
last_more : (a : Option Settings) (ls : List (List ℕ)) (l : List ℕ) → last_good a (ls ++ l ∷ []) ≡ settled (last_good a ls) (judged l)
unfolding last_good
last_more a [] l = refl
last_more a (m ∷ ls) l = last_more (settled a (judged m)) ls l

unknowns-more : (ls : List (List ℕ)) (l : List ℕ) → unknowns (ls ++ l ∷ []) ≡ unknowns ls + one_unknown (judged l)
unfolding unknowns
unknowns-more [] l = omega arith
unknowns-more (m ∷ ls) l = let h = unknowns-more ls l in omega arith

module _ (b l : List ℕ) (none : NoEnd l) (room : length l + 1 ≤ length (unused_of b)) where
  -- any line, ended: it is judged, and the lines before it count as before
  pub any-read : read_of (torn b (l ++ 10 ∷ []) (length l + 1))
      ≡ answer_of (settled (last_good None (lines_of b)) (judged l)) (unknowns (lines_of b) + one_unknown (judged l))
  unfolding read_of
  any-read =
      let e = (lines_more b l none room).0 in
      ap₂ answer_of
      (ap (last_good None) e ∙ last_more None (lines_of b) l)
      (ap unknowns e ∙ unknowns-more (lines_of b) l)

  -- any line, of which only the first k bytes are written: all reads as before
  pub any-torn : (k : ℕ) → k ≤ length l → read_of (torn b (l ++ 10 ∷ []) k) ≡ read_of b
  unfolding read_of
  any-torn k h =
      let n = length-append l (10 ∷ []) in
      let same : take k (l ++ 10 ∷ []) ≡ take k l = take-append-le k l (10 ∷ []) h in
      let e = lines-torn b (l ++ 10 ∷ []) k (omega arith) (omega arith) (rw same (none-take k l none)) in
      rw e refl

  -- a damaged line is passed over
  pub any-damaged : judged l ≡ Err Damaged → read_of (torn b (l ++ 10 ∷ []) (length l + 1)) ≡ read_of b
  unfolding read_of
  any-damaged d = any-read ∙ rw (d, add-zero) refl

-- ---- later versions
answer-counted : (a : Option Settings) (n : ℕ) → answer_of a (n + 1) ≡ counted (answer_of a n)
answer-counted None n = refl
answer-counted (Some s) n = refl

-- "A line of .. an unknown version is passed over and counted", whatever its bytes: so a version from 2 on may append or widen fields
module _ (b f : List ℕ) (other : OtherVersion f) (room : length (hex_line f) + 1 ≤ length (unused_of b)) where
  pub other-read : read_of (torn b (hex_line f ++ 10 ∷ []) (length (hex_line f) + 1)) ≡ counted (read_of b)
  unfolding read_of
  other-read =
      any-read b (hex_line f) (hex_line-no-end f) room
      ∙ rw (other-judged f other) refl
      ∙ answer-counted (last_good None (lines_of b)) (unknowns (lines_of b))

  pub other-torn : (k : ℕ) → k ≤ length (hex_line f) → read_of (torn b (hex_line f ++ 10 ∷ []) k) ≡ read_of b
  other-torn k h = any-torn b (hex_line f) (hex_line-no-end f) room k h

-- ---- a write
-- a write is accepted where its settings are admitted and there is room
pub accepted : (b : List ℕ) (s : Settings) → Admitted s → 15 ≤ length (unused_of b) → write_number b s.rate s.station ≡ 0
unfolding write_number first
accepted b s a h = rw (a.rate, ne_eqb s.station 0 a.station, le-ltb (length (unused_of b)) 15 h) refl

-- and nowhere else
pub only-accepted : (b : List ℕ) (s : Settings) → s.station ≤ 65535 → write_number b s.rate s.station ≡ 0 → Admitted s × (15 ≤ length (unused_of b))
unfolding write_number
only-accepted b s w e =
    let p = first-zero (rate_refused s.rate) 0 _ e in
    let q = first-zero (eqb s.station 0) 1 _ p.1 in
    let r = first-zero (ltb (length (unused_of b)) 15) 40 _ q.1 in
    (record { rate = p.0; station = eqb-false s.station 0 q.0; word = w }, ltb-false (length (unused_of b)) 15 r.0)

write-yes : (b : List ℕ) (s : Settings) → write_number b s.rate s.station ≡ 0
    → write_of b s.rate s.station s.role ≡ writing (given tt) (torn b (line_of s.rate s.station s.role) 15)
unfolding write_of
write-yes b s e = rw (eq-eqb (write_number b s.rate s.station) 0 e) refl

wrote-is : (b : List ℕ) (s : Settings) → write_number b s.rate s.station ≡ 0 → wrote b s ≡ torn b (line_of s.rate s.station s.role) 15
wrote-is b s e = ap (λ (w : Writing). w.buffer) (write-yes b s e)

-- a line has fourteen digits
fourteen : (s : Settings) → length (hex_line (frame_of s.rate s.station s.role)) ≡ 14
unfolding frame_of
fourteen s = length-hex_line (frame_of s.rate s.station s.role)

module _ (b : List ℕ) (s : Settings) (w : s.station ≤ 65535) (zero : write_number b s.rate s.station ≡ 0) where
  -- Power: "the line's bytes are written front to back, the 0A last"; with only the first k of them written, all reads as before
  pub power : (k : ℕ) → k < 15 → read_of (torn b (line_of s.rate s.station s.role) k) ≡ read_of b
  unfolding line_of
  power k h =
      let n = fourteen s in
      let r = (only-accepted b s w zero).1 in
      any-torn b (hex_line (frame_of s.rate s.station s.role)) (hex_line-no-end _) (omega arith) k (omega arith)

  -- as many bytes fewer are unused, and the lines are one more
  wrote-lines : (lines_of (wrote b s) ≡ lines_of b ++ hex_line (frame_of s.rate s.station s.role) ∷ []) × (unused_of (wrote b s) ≡ drop 15 (unused_of b))
  unfolding line_of
  wrote-lines =
      let n = fourteen s in
      let r = (only-accepted b s w zero).1 in
      let k : length (hex_line (frame_of s.rate s.station s.role)) + 1 ≡ 15 = omega arith in
      rw (wrote-is b s zero, ← k) (lines_more b (hex_line (frame_of s.rate s.station s.role)) (hex_line-no-end _) (omega arith))

  -- Round trip: a read gives these settings, and the number of unknown lines as before
  pub round_trip : read_of (wrote b s) ≡ found s (unknowns (lines_of b))
  unfolding read_of
  round_trip =
      let e = wrote-lines.0 in
      let g = line-good s (only-accepted b s w zero).0 in
      let f : List ℕ = hex_line (frame_of s.rate s.station s.role) in
      ap₂ answer_of
      (ap (last_good None) e ∙ last_more None (lines_of b) f ∙ ap (settled (last_good None (lines_of b))) g)
      (ap unknowns e ∙ unknowns-more (lines_of b) f ∙ ap (λ (j : Result Settings Flaw). unknowns (lines_of b) + one_unknown j) g ∙ add-zero (unknowns (lines_of b)))

  wrote-unknown : unknowns (lines_of (wrote b s)) ≡ unknowns (lines_of b)
  wrote-unknown =
      let e = wrote-lines.0 in
      let g = line-good s (only-accepted b s w zero).0 in
      let f : List ℕ = hex_line (frame_of s.rate s.station s.role) in
      ap unknowns e ∙ unknowns-more (lines_of b) f ∙ ap (λ (j : Result Settings Flaw). unknowns (lines_of b) + one_unknown j) g ∙ add-zero (unknowns (lines_of b))

  wrote-long : length (wrote b s) ≡ length b
  unfolding torn line_of
  wrote-long =
      let n = fourteen s in
      let r = (only-accepted b s w zero).1 in
      let l = length-append (hex_line (frame_of s.rate s.station s.role)) (10 ∷ []) in
      ap length (wrote-is b s zero)
      ∙ length-paste b (first_unused b) (hex_line (frame_of s.rate s.station s.role) ++ 10 ∷ []) 15 (omega (arith, room-is b, length-take 256 b)) (omega arith)

-- an accepted write is within the store, and the buffer is as long as it was
within_by : (t : Bool) (b : List ℕ) (rate station : ℕ) (role : Role) (b' : List ℕ) → eqb (write_number b rate station) 0 ≡ t
    → writing (given tt) b' ≡ (if t then writing (given tt) (torn b (line_of rate station role) 15) else writing (refused (write_number b rate station)) b)
    → first_unused b + 15 ≤ length (store_of b)
unfolding write_number
within_by true b rate station role b' e w =
    let p = first-zero (rate_refused rate) 0 _ (eqb-true _ 0 e) in
    let q = first-zero (eqb station 0) 1 _ p.1 in
    let r = first-zero (ltb (length (unused_of b)) 15) 40 _ q.1 in
    omega (arith, room-is b, ltb-false (length (unused_of b)) 15 r.0)
within_by false b rate station role b' e w =
    let a = ap (λ (x : Writing). x.answer) w in
    let z : ◌≡◌ {A = ℕ} 0 1 = cc in
    absurd (omega arith)

pub written-within : (b : List ℕ) (rate station : ℕ) (role : Role) (b' : List ℕ) → writing (given tt) b' ≡ write_of b rate station role
    → first_unused b + 15 ≤ length (store_of b)
unfolding write_of
written-within b rate station role b' w = within_by (eqb (write_number b rate station) 0) b rate station role b' refl w

-- ---- filling up
-- a write that is refused leaves the buffer as it was
write-no : (b : List ℕ) (s : Settings) → (write_number b s.rate s.station ≡ 0 → ⊥)
    → write_of b s.rate s.station s.role ≡ writing (refused (write_number b s.rate s.station)) b
unfolding write_of
write-no b s h = rw (ne_eqb (write_number b s.rate s.station) 0 h) refl

pub refused-same : (b : List ℕ) (s : Settings) → (write_number b s.rate s.station ≡ 0 → ⊥) → wrote b s ≡ b
refused-same b s h = ap (λ (w : Writing). w.buffer) (write-no b s h)

-- a full store: admitted settings get 41, and all reads as before
full-number : (b : List ℕ) (s : Settings) → Admitted s → length (unused_of b) < 15 → write_number b s.rate s.station ≡ 41
unfolding write_number first
full-number b s a h = rw (a.rate, ne_eqb s.station 0 a.station, lt-ltb (length (unused_of b)) 15 h) refl

pub full : (b : List ℕ) (s : Settings) → Admitted s → length (unused_of b) < 15
    → (write_number b s.rate s.station ≡ 41) × (read_of (wrote b s) ≡ read_of b)
full b s a h = let n = full-number b s a h in (n, ap read_of (refused-same b s (λ e. omega arith)))

-- accepted writes go on as long as fifteen bytes are unused
pub fills : (b : List ℕ) (l : List Settings) → AllAdmitted l → 15 * length l ≤ length (unused_of b) → Fills b l (wrote_all b l)
unfolding wrote_all numbers_all
fills b [] p h = record { accepted = refl; long = refl; room = omega arith; unknown = refl }
fills b (s ∷ l) p h =
    let z = accepted b s p.0 (omega arith) in
    let w = p.0.word in
    let u = ap length (wrote-lines b s w z).1 ∙ length-drop 15 (unused_of b) in
    let m = fills (wrote b s) l p.1 (omega arith) in
    record {
      accepted = ap₂ (λ (n : ℕ) (ns : List ℕ). n ∷ ns) z m.accepted;
      long = m.long ∙ wrote-long b s w z;
      room = let r = m.room in omega arith;
      unknown = m.unknown ∙ wrote-unknown b s w z;
    }

-- and the last of them is what is read
wrote-last : (b : List ℕ) (l : List Settings) (s : Settings) → wrote_all b (l ++ s ∷ []) ≡ wrote (wrote_all b l) s
unfolding wrote_all
wrote-last b [] s = refl
wrote-last b (t ∷ l) s = wrote-last (wrote b t) l s

pub filled-read : (b : List ℕ) (l : List Settings) (s : Settings) → AllAdmitted l → Admitted s → 15 * (length l + 1) ≤ length (unused_of b)
    → read_of (wrote_all b (l ++ s ∷ [])) ≡ found s (unknowns (lines_of b))
filled-read b l s p a h =
    let m = fills b l p (omega arith) in
    let r = m.room in
    ap read_of (wrote-last b l s)
    ∙ round_trip (wrote_all b l) s a.word (accepted (wrote_all b l) s a (omega arith))
    ∙ ap (found s) m.unknown
