-- The frames that writers make are the intact frames, and they say what the writer said. Assumes nothing.
use Prim.Native.Nat.{ℕ, suc, ◌+◌, ◌-◌, ◌*◌, ◌/◌, ◌%◌, ◌≤◌, ◌<◌}
use mathlib.Core.Path.{◌≡◌, refl, sym, ap, ◌∙◌, subst}
use mathlib.Core.Bool.{Bool, true, false}
use mathlib.Core.List.{List, [], ◌∷◌, ◌++◌}
use lib.Dec.{ltb}
use lib.IntN.{ℤ, pos, negsuc}
use lib.ListN.{length, get_or, drop, length-append}
use lib.Seq.{drop-cons}
use native.Mathlib.Omega.{arith}
use borrow.Author.Tests.{lt-ltb, le-ltb, ltb-true, ltb-false}
use Rattle.std.specs.Prelude.{if◌then◌else◌}
use Rattle.tide.specs.Frame.{station_of, stamp_of, age_of, level_of, signed, Intact, Writer, Signed16, Rules, bits_of, head_of, body_of, frame_of}
use Rattle.hexadecimal.proofs.HexLaws.{byte_at}
use Rattle.hexadecimal.specs.Hex.{Bytes, total, check_of}

bytes-append : (f g : List ℕ) → Bytes f → Bytes g → Bytes (f ++ g)
bytes-append [] g p q = q
bytes-append (b ∷ f) g p q = (p.0, bytes-append f g p.1 q)

pub total-append : (f g : List ℕ) → total (f ++ g) ≡ total f + total g
unfolding total
total-append [] g = omega arith
total-append (b ∷ f) g = let h = total-append f g in omega arith

-- a proof for one byte, and one for the rest
infixr 20 ◌also◌
◌also◌ : {A B : Type 0} → A → B → A × B
a also b = (a, b)

check-lt : (s : ℕ) → check_of s < 256
unfolding check_of
check-lt s = omega arith

check-sum : (s : ℕ) → (s + check_of s) % 256 ≡ 0
unfolding check_of
check-sum s = omega arith

bits-lt : (z : ℤ) → Signed16 z → bits_of z < 65536
unfolding bits_of
bits-lt (pos n) h = omega arith
bits-lt (negsuc n) h = omega arith

-- a level and its sixteen bits say each other
pub signed-bits : (z : ℤ) → Signed16 z → signed (bits_of z) ≡ z
unfolding signed bits_of
signed-bits (pos n) h = rw (lt-ltb n 32768 h) refl
signed-bits (negsuc n) h =
    let k : 32768 ≤ 65535 - n = omega arith in
    rw (le-ltb (65535 - n) 32768 k) (ap negsuc (omega arith))

sum-end : (f : List ℕ) (c : ℕ) → total (f ++ c ∷ []) ≡ total f + c
sum-end f c = total-append f (c ∷ []) ∙ (unfold total in omega arith)

-- ---- a frame that a writer makes
module _ (w : Writer) (r : Rules w) where
  pub says-station : station_of (frame_of w) ≡ w.station
  unfolding station_of frame_of
  says-station = let h = r.station in omega arith

  pub says-stamp : stamp_of (frame_of w) ≡ w.stamp
  unfolding stamp_of frame_of
  says-stamp = let h = r.stamp in omega arith

  pub says-age : age_of (frame_of w) ≡ w.age
  unfolding age_of frame_of
  says-age = refl

  pub says-level : level_of (frame_of w) ≡ bits_of w.level
  unfolding level_of frame_of
  says-level = omega arith

  long : length (frame_of w) ≡ 13 + length w.later
  unfolding frame_of
  long = omega (arith, length-append w.later (check_of (total (body_of w)) ∷ []))

  head_bytes : Bytes (head_of w)
  head_bytes =
      let l = bits-lt w.level r.level in
      let v = r.version in
      let rr = r.reader.1 in
      let m = r.room in
      let st = r.station in
      let t = r.stamp in
      let a = r.age in
      omega arith also omega arith also omega arith
      also omega arith also omega arith
      also omega arith also omega arith also omega arith also omega arith
      also omega arith
      also omega arith also omega arith
      also tt

  all-bytes : Bytes (frame_of w)
  unfolding frame_of
  all-bytes = bytes-append (body_of w) _ (bytes-append (head_of w) w.later head_bytes r.later) (check-lt (total (body_of w)), tt)

  sum-zero : total (frame_of w) % 256 ≡ 0
  unfolding frame_of
  sum-zero = rw (sum-end (body_of w) (check_of (total (body_of w)))) (check-sum (total (body_of w)))

  -- every frame that a writer makes is intact
  pub frame-intact : Intact (frame_of w)
  frame-intact =
      record {
        bytes = all-bytes;
        least = omega (arith, long);
        most = omega (arith, long, r.room);
        says = unfold frame_of in omega (arith, long);
        sums = sum-zero;
        version = unfold frame_of in omega (arith, r.reader.0, r.reader.1);
        reader = unfold frame_of in r.reader.0;
        able = unfold frame_of in r.reader.1;
        first = unfold frame_of in λ e. omega (arith, long, r.first e);
      }

-- ---- every intact frame is some writer's
bits-signed : (v : ℕ) → v < 65536 → (bits_of (signed v) ≡ v) × Signed16 (signed v)
unfolding signed
bits-signed v h = by (ltb v 32768) refl
  where
    by : (t : Bool) → ltb v 32768 ≡ t → (bits_of (if t then pos v else negsuc (65535 - v)) ≡ v) × Signed16 (if t then pos v else negsuc (65535 - v))
    by true e = (unfold bits_of in refl, ltb-true v 32768 e)
    by false e = let k = ltb-false v 32768 e in (unfold bits_of in omega arith, omega arith)

-- a list that is not empty, without its last, and its last
abbrev front : List ℕ → List ℕ
front [] = []
front (a ∷ []) = []
front (a ∷ b ∷ l) = a ∷ front (b ∷ l)

abbrev back : List ℕ → ℕ
back [] = 0
back (a ∷ []) = a
back (a ∷ b ∷ l) = back (b ∷ l)

front-back : (a : ℕ) (l : List ℕ) → front (a ∷ l) ++ back (a ∷ l) ∷ [] ≡ a ∷ l
front-back a [] = refl
front-back a (b ∷ l) = ap (λ (r : List ℕ). a ∷ r) (front-back b l)

length_front : (a : ℕ) (l : List ℕ) → length (front (a ∷ l)) ≡ length l
length_front a [] = refl
length_front a (b ∷ l) = ap suc (length_front b l)

front_bytes : (a : ℕ) (l : List ℕ) → Bytes (a ∷ l) → Bytes (front (a ∷ l))
front_bytes a [] h = tt
front_bytes a (b ∷ l) h = (h.0, front_bytes b l h.1)

back-byte : (a : ℕ) (l : List ℕ) → Bytes (a ∷ l) → back (a ∷ l) < 256
back-byte a [] h = h.0
back-byte a (b ∷ l) h = back-byte b l h.1

check-is : (s c : ℕ) → c < 256 → (s + c) % 256 ≡ 0 → check_of s ≡ c
unfolding check_of
check-is s c h e = omega arith

-- the writer that its fields say
module _ (b0 b1 b2 b3 b4 b5 b6 b7 b8 b9 b10 b11 a : ℕ) (l : List ℕ) where
  abbrev whole : List ℕ
  whole = b0 ∷ b1 ∷ b2 ∷ b3 ∷ b4 ∷ b5 ∷ b6 ∷ b7 ∷ b8 ∷ b9 ∷ b10 ∷ b11 ∷ a ∷ l

  abbrev writer : Writer
  writer =
      record {
        version = b0;
        reader = b1;
        station = 256 * b3 + b4;
        stamp = 16777216 * b5 + 65536 * b6 + 256 * b7 + b8;
        age = b9;
        level = signed (256 * b10 + b11);
        later = front (a ∷ l);
      }

  module _ (i : Intact whole) where
    bs : (k : ℕ) → get_or whole k 0 < 256
    bs k = byte_at whole k i.bytes

    level-bits : (bits_of (signed (256 * b10 + b11)) ≡ 256 * b10 + b11) × Signed16 (signed (256 * b10 + b11))
    level-bits = let p = bs 10 in let q = bs 11 in bits-signed (256 * b10 + b11) (omega arith)

    tail-bytes : Bytes (a ∷ l)
    tail-bytes = i.bytes.1.1.1.1.1.1.1.1.1.1.1.1

    rules : Rules writer
    rules =
        let n = length_front a l in
        record {
          version = omega (arith, bs 0);
          reader = (i.reader, i.able);
          station = omega (arith, bs 3, bs 4);
          stamp = omega (arith, bs 5, bs 6, bs 7, bs 8);
          age = omega (arith, bs 9);
          level = level-bits.1;
          later = front_bytes a l tail-bytes;
          room = omega (arith, i.most);
          first = λ e. omega (arith, i.first e);
        }

    head-same : head_of writer ≡ b0 ∷ b1 ∷ b2 ∷ b3 ∷ b4 ∷ b5 ∷ b6 ∷ b7 ∷ b8 ∷ b9 ∷ b10 ∷ b11 ∷ []
    head-same =
        let e2 : 13 + length (front (a ∷ l)) ≡ b2 = omega (arith, length_front a l, i.says) in
        let e3 : (256 * b3 + b4) / 256 ≡ b3 = omega (arith, bs 4) in
        let e4 : (256 * b3 + b4) % 256 ≡ b4 = omega (arith, bs 4) in
        let e5 : (16777216 * b5 + 65536 * b6 + 256 * b7 + b8) / 16777216 ≡ b5 = omega (arith, bs 6, bs 7, bs 8) in
        let e6 : (16777216 * b5 + 65536 * b6 + 256 * b7 + b8) / 65536 % 256 ≡ b6 = omega (arith, bs 6, bs 7, bs 8) in
        let e7 : (16777216 * b5 + 65536 * b6 + 256 * b7 + b8) / 256 % 256 ≡ b7 = omega (arith, bs 7, bs 8) in
        let e8 : (16777216 * b5 + 65536 * b6 + 256 * b7 + b8) % 256 ≡ b8 = omega (arith, bs 8) in
        let e10 : (256 * b10 + b11) / 256 ≡ b10 = omega (arith, bs 11) in
        let e11 : (256 * b10 + b11) % 256 ≡ b11 = omega (arith, bs 11) in
        rw (level-bits.0, e2, e3, e4, e5, e6, e7, e8, e10, e11) refl

    body : List ℕ
    body = b0 ∷ b1 ∷ b2 ∷ b3 ∷ b4 ∷ b5 ∷ b6 ∷ b7 ∷ b8 ∷ b9 ∷ b10 ∷ b11 ∷ front (a ∷ l)

    body_end : body ++ back (a ∷ l) ∷ [] ≡ whole
    unfolding body
    body_end = rw (front-back a l) refl

    check-same : check_of (total body) ≡ back (a ∷ l)
    check-same =
        check-is (total body) (back (a ∷ l)) (back-byte a l tail-bytes) (rw (← sum-end body (back (a ∷ l)), body_end) i.sums)

    frame_same : frame_of writer ≡ whole
    unfolding frame_of body
    frame_same =
        let b : body_of writer ≡ body = ap (λ (h : List ℕ). h ++ front (a ∷ l)) head-same in
        ap (λ (f : List ℕ). f ++ check_of (total f) ∷ []) b ∙ (ap (λ (c : ℕ). body ++ c ∷ []) check-same ∙ body_end)

    of-writer : (w : Writer) × Rules w × (frame_of w ≡ whole)
    of-writer = (writer, rules, frame_same)

-- the first thirteen of a list
module _ (f : List ℕ) (h : 13 ≤ length f) where
  next : (i : ℕ) (r : List ℕ) → i < 13 → drop (suc i) f ≡ r → drop i f ≡ get_or f i 0 ∷ r
  next i r k e = drop-cons f i 0 (omega arith) ∙ ap (λ (l : List ℕ). get_or f i 0 ∷ l) e

  thirteen : f ≡ whole (get_or f 0 0) (get_or f 1 0) (get_or f 2 0) (get_or f 3 0) (get_or f 4 0) (get_or f 5 0) (get_or f 6 0) (get_or f 7 0) (get_or f 8 0) (get_or f 9 0) (get_or f 10 0) (get_or f 11 0) (get_or f 12 0) (drop 13 f)
  thirteen =
      next 0 _ (omega arith) (next 1 _ (omega arith) (next 2 _ (omega arith) (next 3 _ (omega arith) (next 4 _ (omega arith)
      (next 5 _ (omega arith) (next 6 _ (omega arith) (next 7 _ (omega arith) (next 8 _ (omega arith) (next 9 _ (omega arith)
      (next 10 _ (omega arith) (next 11 _ (omega arith) (next 12 _ (omega arith) refl))))))))))))

-- every intact frame is a frame that a writer makes, whatever reader it is for
pub written : (f : List ℕ) → Intact f → (w : Writer) × Rules w × (frame_of w ≡ f)
written f i =
    let e = thirteen f i.least in
    subst (λ (g : List ℕ). (w : Writer) × Rules w × (frame_of w ≡ g)) (sym e) (of-writer _ _ _ _ _ _ _ _ _ _ _ _ _ _ (subst Intact e i))
