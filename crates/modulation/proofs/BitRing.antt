-- Bits put behind those that wait in the ring. Assumes nothing.
use Prim.Native.Nat.{ℕ, zero, suc, ◌+◌, ◌-◌, ◌%◌, ◌<◌, ◌≤◌}
use mathlib.Core.Path.{◌≡◌, refl, sym, ap, ap₂, ◌∙◌}
use mathlib.Core.Bool.{Bool, true, false, cond}
use mathlib.Core.List.{List, [], ◌∷◌, ◌++◌, append_assoc, append-nil}
use native.Mathlib.Omega.{arith}
use native.Mathlib.Numerals.{add-one}
use borrow.Author.Tests.{le-leb, lt-leb, ltb-true, ltb-false}
use lib.Dec.{leb, ltb}
use lib.ListN.{length, length-append, length-set, get_or, set, take}
use lib.Seq.{get_or-set_same, get_or-set_other, take-suc}
use Rattle.framing.specs.Frame.{frame_of}
use Rattle.framing.specs.Framing.{marks, frames_of}
use Rattle.modulation.specs.Bits.{most_bits, place_after, queued, BitsHeld, Joined, Takes}
use Rattle.modulation.specs.declared.bits.Taken.{Taken}

after_is : (h : ℕ) → h < most_bits → place_after h ≡ (h + 1) % most_bits
unfolding place_after
after_is h l = go (ltb (h + 1) 4096) refl
  where
    go : (b : Bool) → ltb (h + 1) 4096 ≡ b → cond (leb 4096 (h + 1)) 0 (h + 1) ≡ (h + 1) % 4096
    go true e = let t = ltb-true (h + 1) 4096 e in rw (lt-leb 4096 (h + 1) t) (omega arith)
    go false e = let t = ltb-false (h + 1) 4096 e in rw (le-leb 4096 (h + 1) t) (omega arith)

after-low : (h : ℕ) → h < most_bits → place_after h < most_bits
after-low h l = rw (after_is h l) (omega arith)

module _ (a : List Bool) where
  -- the last of n and one
  queued-last : (n h : ℕ) → h < most_bits → queued a h (suc n) ≡ queued a h n ++ (get_or a ((h + n) % 4096) false ∷ [])
  unfolding queued
  queued-last zero h l = let z : (h + 0) % 4096 ≡ h = omega arith in rw z
  queued-last (suc n) h l =
      let e : (place_after h + n) % 4096 ≡ (h + suc n) % 4096 = omega (arith, after_is h l) in
      ap (λ (x : List Bool). get_or a h false ∷ x) (queued-last n (place_after h) (after-low h l) ∙ ap (λ (i : ℕ). queued a (place_after h) n ++ (get_or a i false ∷ [])) e)

  -- a place that none of n has
  queued-other : (n h p : ℕ) (b : Bool) → h < most_bits → ((i : ℕ) → i < n → (h + i) % 4096 ≡ p → ⊥) → queued (set a p b) h n ≡ queued a h n
  unfolding queued
  queued-other zero h p b l k = refl
  queued-other (suc n) h p b l k =
      let first : h ≡ p → ⊥ = λ e. k 0 (omega arith) (omega arith) in
      ap₂ (λ (x : Bool) (xs : List Bool). x ∷ xs) (get_or-set_other a p h b false first)
      (queued-other n (place_after h) p b (after-low h l) (λ i m e. k (i + 1) (omega arith) (omega (arith, after_is h l))))

-- a bit stored behind the n that wait
pub one-joins : (a : List Bool) (n h p : ℕ) (b : Bool) → BitsHeld a h n → n + 1 ≤ most_bits → p ≡ (h + n) % 4096 → Joined h a n (b ∷ []) (set a p b) (n + 1)
one-joins a n h p b s m e =
    let len = s.places in
    let l = s.at in
    let same : get_or (set a p b) ((h + n) % 4096) false ≡ b = ap (λ (i : ℕ). get_or (set a p b) i false) (sym e) ∙ get_or-set_same a p b false (omega arith) in
    let other : queued (set a p b) h n ≡ queued a h n = queued-other a n h p b l (λ i k f. omega arith) in
    record {
      waits =
          ap (λ (i : ℕ). queued (set a p b) h i) (add-one n) ∙ queued-last (set a p b) n h l ∙ ap₂ (λ (x : List Bool) (y : Bool). x ++ (y ∷ [])) other same;
      count = refl;
      held = record { places = length-set a p b ∙ len; at = l; room = m };
    }

-- nothing, and one list after another
pub none-joins : (a : List Bool) (h n : ℕ) → BitsHeld a h n → Joined h a n [] a n
none-joins a h n s = record { waits = sym (append-nil (queued a h n)); count = omega arith; held = s }

pub more-joins : (h : ℕ) (a b c : List Bool) (n m k : ℕ) (xs ys : List Bool) → Joined h a n xs b m → Joined h b m ys c k → Joined h a n (xs ++ ys) c k
more-joins h a b c n m k xs ys x y =
    record {
      waits = y.waits ∙ ap (λ (l : List Bool). l ++ ys) x.waits ∙ append_assoc (queued a h n) xs ys;
      count = rw (length-append xs ys) (omega (arith, x.count, y.count));
      held = y.held;
    }

-- one more of some marks
pub marks-more : (i : ℕ) → marks i ++ (true ∷ []) ≡ marks (i + 1)
marks-more i = more i ∙ ap (λ (j : ℕ). marks j) (sym (add-one i))
  where
    more : (i : ℕ) → marks i ++ (true ∷ []) ≡ marks (suc i)
    more zero = refl
    more (suc i) = ap (λ (x : List Bool). true ∷ x) (more i)

pub marks-length : (n : ℕ) → length (marks n) ≡ n
marks-length zero = refl
marks-length (suc n) = ap suc (marks-length n)

-- one more of a list
pub take_more : {A : Type 0} (l : List A) (i : ℕ) (d : A) → i < length l → take i l ++ (get_or l i d ∷ []) ≡ take (i + 1) l
take_more l i d h = rw (add-one i) (sym (take-suc l i d h))

pub frames-none : frames_of [] ≡ []
unfolding frames_of
frames-none = refl

frames-append : (xs ys : List ℕ) → frames_of (xs ++ ys) ≡ frames_of xs ++ frames_of ys
unfolding frames_of
frames-append [] ys = refl
frames-append (x ∷ xs) ys = ap (λ (l : List Bool). frame_of x ++ l) (frames-append xs ys) ∙ sym (append_assoc (frame_of x) (frames_of xs) (frames_of ys))

-- one more frame
pub frames-more : (l : List ℕ) (i d : ℕ) → i < length l → frames_of (take i l) ++ frame_of (get_or l i d) ≡ frames_of (take (i + 1) l)
unfolding frames_of
frames-more l i d h =
    ap (λ (x : List Bool). frames_of (take i l) ++ x) (sym (append-nil (frame_of (get_or l i d))))
    ∙ sym (frames-append (take i l) (get_or l i d ∷ []))
    ∙ ap (λ (x : List ℕ). frames_of x) (take_more l i d h)

-- ---- the oldest bit
abbrev taken : Bool → ℕ → ℕ → Taken
taken b h w = record { bit = b; head = h; waiting = w }

pub none-takes : (a : List Bool) (h w : ℕ) → w ≡ 0 → BitsHeld a h w → Takes a h w (taken true h w)
unfolding queued
none-takes a h w e s = go w e s
  where
    go : (w : ℕ) → w ≡ 0 → BitsHeld a h w → Takes a h w (taken true h w)
    go zero e s = record { bit = refl; rest = refl; held = s }
    go (suc w) e s = let no : ⊥ = omega arith in absurd no

pub one-takes : (a : List Bool) (h w k : ℕ) (b : Bool) → BitsHeld a h w → 0 < w → b ≡ get_or a h false → k ≡ place_after h → Takes a h w (taken b k (w - 1))
unfolding queued
one-takes a h w k b s l e f = rw (e, f) (go w s l)
  where
    go : (w : ℕ) → BitsHeld a h w → 0 < w → Takes a h w (taken (get_or a h false) (place_after h) (w - 1))
    go zero s l = let no : ⊥ = omega arith in absurd no
    go (suc w) s l =
        let less : suc w - 1 ≡ w = omega arith in
        record {
          bit = refl;
          rest = ap (λ (n : ℕ). queued a (place_after h) n) less;
          held = record { places = s.places; at = after-low h s.at; room = omega (arith, s.room) };
        }
