-- Which number a line gets, by the checks that applied, and what it says of the line. Assumes nothing.
use Prim.Native.Nat.{ℕ, zero, suc, ◌%◌, ◌≤◌}
use mathlib.Core.Path.{◌≡◌, refl, ap}
use mathlib.Core.List.{List}
use mathlib.Core.Bool.{Bool, true, false}
use lib.Dec.{eqb}
use lib.ListN.{length, get_or}
use native.Mathlib.Omega.{arith}
use borrow.Author.Tests.{ltb-false, eqb-true, eqb-false, le-ltb, eq-eqb, ne_eqb}
use lib.IntN.{pos, negsuc, ◌-ℤ◌}
use native.Mathlib.Nat.{zero-add}
use Rattle.tide.specs.Judge.{Reading, Shown, settle, damage_of, Passes, of_fields, judged_of, of_line}
use Rattle.std.specs.Prelude.{if◌then◌else◌}
use Rattle.refusal.specs.Refusals.{first}
use Rattle.refusal.proofs.RefusalLaws.{first-zero}
use Rattle.hexadecimal.specs.Hex.{unhex, all_hex, total}
use Rattle.tide.specs.Frame.{stamp_of, age_of, misfit}
use Rattle.tide.specs.JudgeRep.{number_of}
use Rattle.tide.specs.declared.judge.Fault.{Fault}
use Rattle.tide.specs.declared.judge.Fault.TheVariants.{TooLong, OddOrShort, NotHexadecimal, Length, Sum, VersionMisfit, ForNewerReaders, OtherStation, Age, LevelMissing}
use Rattle.tide.proofs.JudgeLaws.{not-false}
use Rattle.hexadecimal.proofs.HexLaws.{or-false}

-- neither 11 nor 12 nor 13 applies
pub record Past13 (l : List ℕ) (more : Bool) : Type 0 where
  pub whole : more ≡ false
  pub most : length l ≤ 64
  pub least : 26 ≤ length l
  pub even : length l % 2 ≡ 1 → ⊥
  pub digits : all_hex l ≡ true

module _ (l : List ℕ) (more : Bool) (p : Past13 l more) where
  pub is-14 : (get_or (unhex l) 2 0 ≡ length (unhex l) → ⊥) → 14 ≡ damage_of l more
  unfolding damage_of first
  is-14 h =
      rw (p.whole, le-ltb 64 (length l) p.most, le-ltb (length l) 26 p.least, ne_eqb (length l % 2) 1 p.even, p.digits, ne_eqb (get_or (unhex l) 2 0) (length (unhex l)) h) refl

  module _ (says : get_or (unhex l) 2 0 ≡ length (unhex l)) where
    pub is-15 : (total (unhex l) % 256 ≡ 0 → ⊥) → 15 ≡ damage_of l more
    unfolding damage_of first
    is-15 h =
        rw (p.whole, le-ltb 64 (length l) p.most, le-ltb (length l) 26 p.least, ne_eqb (length l % 2) 1 p.even, p.digits, eq-eqb (get_or (unhex l) 2 0) (length (unhex l)) says, ne_eqb (total (unhex l) % 256) 0 h) refl

    module _ (sums : total (unhex l) % 256 ≡ 0) (v g n : ℕ) (t : Bool) (ev : v ≡ get_or (unhex l) 0 0) (eg : g ≡ get_or (unhex l) 1 0)
        (en : n ≡ length (unhex l)) (et : t ≡ misfit v g n) where
      by-16 : first t 16 0 ≡ damage_of l more
      unfolding damage_of first
      by-16 =
          rw (p.whole, le-ltb 64 (length l) p.most, le-ltb (length l) 26 p.least, ne_eqb (length l % 2) 1 p.even, p.digits, eq-eqb (get_or (unhex l) 2 0) (length (unhex l)) says, eq-eqb (total (unhex l) % 256) 0 sums, ← ev, ← eg, ← en, ← et) refl

      pub is-16 : t ≡ true → 16 ≡ damage_of l more
      unfolding first
      is-16 h = rw h at by-16

      pub is-none : t ≡ false → 0 ≡ damage_of l more
      unfolding first
      is-none h = rw h at by-16

-- an intact line has digits alone
pub passes-digits : (l : List ℕ) (more : Bool) → Passes l more → all_hex l ≡ true
unfolding damage_of
passes-digits l more e =
    let a = first-zero _ 10 _ e in
    let b = first-zero _ 11 _ a.1 in
    not-false (all_hex l) (first-zero _ 12 _ b.1).0

judged-old : (mine : ℕ) (f : List ℕ) → judged_of mine f ≡ 0 → age_of f ≤ stamp_of f
unfolding judged_of of_fields
judged-old mine f e =
    let h = first-zero _ 16 _ e in
    let i = first-zero _ 17 _ h.1 in
    let j = first-zero _ 18 _ i.1 in
    ltb-false (stamp_of f) (age_of f) (or-false (eqb (age_of f) 255) _ j.0).1

good-by : (t : Bool) (n k : ℕ) → eqb n 0 ≡ t → (if t then k else n) ≡ 0 → (n ≡ 0) × (k ≡ 0)
good-by true n k e z = (eqb-true n 0 e, z)
good-by false n k e z = absurd (eqb-false n 0 e z)

-- a good line has digits alone, and is no older than its stamp
pub good-line : (mine : ℕ) (l : List ℕ) (m : Bool) → of_line mine l m ≡ 0 → (all_hex l ≡ true) × (age_of (unhex l) ≤ stamp_of (unhex l))
unfolding of_line
good-line mine l m e =
    let g = good-by _ (damage_of l m) (judged_of mine (unhex l)) refl e in
    (passes-digits l m g.0, judged-old mine (unhex l) g.1)

-- a fault has a number
fault-some : (f : Fault) → number_of f ≡ 0 → ⊥
fault-some TooLong e = omega arith
fault-some OddOrShort e = omega arith
fault-some NotHexadecimal e = omega arith
fault-some Length e = omega arith
fault-some Sum e = omega arith
fault-some VersionMisfit e = omega arith
fault-some ForNewerReaders e = omega arith
fault-some OtherStation e = omega arith
fault-some Age e = omega arith
fault-some LevelMissing e = omega arith

-- a line with a fault in its frame has that number; one with none that of what its frame says
pub by_frame : (mine : ℕ) (l : List ℕ) (m : Bool) (f : Fault) → number_of f ≡ damage_of l m → number_of f ≡ of_line mine l m
unfolding of_line
by_frame mine l m f e = rw (← e, ne_eqb _ _ (fault-some f)) refl

pub by_said : (mine : ℕ) (l : List ℕ) (m : Bool) (n : ℕ) → 0 ≡ damage_of l m → n ≡ judged_of mine (unhex l) → n ≡ of_line mine l m
unfolding of_line
by_said mine l m n e h = rw (← e) h

-- what a line that is not good says of the water is not read
pub settle-bad : (f : Fault) (r : Shown) (g : Reading) → record { answer = number_of f; reading = r } ≡ settle (number_of f) r g
unfolding settle
settle-bad f r g = rw (ne_eqb _ _ (fault-some f)) refl

-- ---- the two's complement of a level (crate `pool` cites it)
pub minus_one : (k : ℕ) → negsuc 0 -ℤ pos k ≡ negsuc k
minus_one zero = refl
minus_one (suc n) = ap (λ (m : ℕ). negsuc (suc m)) (zero-add n)
