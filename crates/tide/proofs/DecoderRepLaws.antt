-- Counts that hold at the most: the lines and the answers are those of a decoder whose counts do not, and it does not matter after what they
-- hold. Assumes nothing.
use Prim.Native.Nat.{ℕ, zero, suc, ◌+◌, ◌≤◌, min}
use mathlib.Core.Path.{◌≡◌, refl, sym, ap, ap₂, ◌∙◌}
use mathlib.Core.Logic.{◌⊎◌, inl, inr}
use mathlib.Core.Bool.{Bool, true, false}
use mathlib.Core.List.{List, [], ◌∷◌, ◌++◌}
use lib.ListN.{length, get_or, set}
use native.Mathlib.Decide.{dec_le}
use native.Mathlib.Nat.{min-eq_left, min-eq_right}
use native.Mathlib.Omega.{arith}
use Rattle.std.proofs.lemmas.Option.{none-some}
use Rattle.std.specs.Prelude.{Some, None, if◌then◌else◌}
use Rattle.hexadecimal.specs.Hex.{total}
use Rattle.tide.specs.Judge.{Verdict}
use Rattle.tide.specs.Decoder.{Line, Decoder, place, bump, verdict, ended, grown, cleared, Move, ends, grows, loses, resumes, stays, move_of, move_at, moved, line_at, verdict_at, took, took_all, lines_in, verdicts_in}
use Rattle.happenings.specs.declared.happening.Happening.{Happening}
use Rattle.tide.specs.DecoderRep.{decoder_of, most_count, held, holding, Sound}
use Rattle.tide.specs.declared.decoder.Decoder as code

-- the lesser of two
pub min-by : (n m : ℕ) → ((n ≤ m) × (min n m ≡ n)) ⊎ ((m ≤ n) × (min n m ≡ m))
min-by n m = by (dec_le n m)
  where
    by : Dec (n ≤ m) → ((n ≤ m) × (min n m ≡ n)) ⊎ ((m ≤ n) × (min n m ≡ m))
    by (yes h) = inl (h, min-eq_left h)
    by (no h) = let k : m ≤ n = omega arith in inr (k, min-eq_right k)

min-more : (n m : ℕ) → min (min n m + 1) m ≡ min (n + 1) m
min-more n m = by (min-by n m)
  where
    by : ((n ≤ m) × (min n m ≡ n)) ⊎ ((m ≤ n) × (min n m ≡ m)) → min (min n m + 1) m ≡ min (n + 1) m
    by (inl h) = rw h.1 refl
    by (inr h) =
        let p : m ≤ m + 1 = omega arith in
        let q : m ≤ n + 1 = omega (arith, h.0) in
        rw h.1 (min-eq_right p ∙ sym (min-eq_right q))

min-twice : (n m : ℕ) → min (min n m) m ≡ min n m
min-twice n m = by (min-by n m)
  where
    by : ((n ≤ m) × (min n m ≡ n)) ⊎ ((m ≤ n) × (min n m ≡ m)) → min (min n m) m ≡ min n m
    by (inl h) = rw h.1 h.1
    by (inr h) = rw h.1 (min-eq_left (omega arith))

min-le : (n m : ℕ) → min n m ≤ n
min-le n m = by (min-by n m)
  where
    by : ((n ≤ m) × (min n m ≡ n)) ⊎ ((m ≤ n) × (min n m ≡ m)) → min n m ≤ n
    by (inl h) = omega (arith, h.1)
    by (inr h) = omega (arith, h.0, h.1)

pub held-held : (cs : List ℕ) → held (held cs) ≡ held cs
unfolding held
held-held [] = refl
held-held (n ∷ cs) = ap₂ (λ (x : ℕ) (xs : List ℕ). x ∷ xs) (min-twice n most_count) (held-held cs)

pub length-held : (cs : List ℕ) → length (held cs) ≡ length cs
unfolding held
length-held [] = refl
length-held (n ∷ cs) = ap suc (length-held cs)

pub total-held : (cs : List ℕ) → total (held cs) ≤ total cs
unfolding held total
total-held [] = omega arith
total-held (n ∷ cs) = omega (arith, min-le n most_count, total-held cs)

-- one more at a place
held_more : (cs : List ℕ) (k : ℕ) → held (set (held cs) k (get_or (held cs) k 0 + 1)) ≡ held (set cs k (get_or cs k 0 + 1))
unfolding held
held_more [] k = refl
held_more (n ∷ cs) zero = ap₂ (λ (x : ℕ) (xs : List ℕ). x ∷ xs) (min-more n most_count) (held-held cs)
held_more (n ∷ cs) (suc k) = ap₂ (λ (x : ℕ) (xs : List ℕ). x ∷ xs) (min-twice n most_count) (held_more cs k)

held-bump : (cs : List ℕ) (a : ℕ) → held (bump (held cs) a) ≡ held (bump cs a)
unfolding bump
held-bump cs a = held_more cs (place a)

-- ---- what is heard by a decoder whose counts hold
same-verdict : (d : Decoder) → verdict (holding d) ≡ verdict d
unfolding verdict holding
same-verdict d = refl

hold-move : (m : Move) (d : Decoder) → holding (moved (holding d) m) ≡ holding (moved d m)
unfolding holding moved ended grown cleared
hold-move ends d = rw (same-verdict d, held-bump d.counts (verdict d).answer) refl
hold-move (grows c) d = rw (held-held d.counts) refl
hold-move loses d = rw (held-held d.counts) refl
hold-move resumes d = rw (held-held d.counts) refl
hold-move stays d = rw (held-held d.counts) refl

alike-line : (c d : Decoder) → holding c ≡ holding d → c.line ≡ d.line
unfolding holding
alike-line c d e = ap (λ (x : Decoder). x.line) e

alike-skipping : (c d : Decoder) → holding c ≡ holding d → c.skipping ≡ d.skipping
unfolding holding
alike-skipping c d e = ap (λ (x : Decoder). x.skipping) e

alike-verdict : (c d : Decoder) → holding c ≡ holding d → verdict c ≡ verdict d
alike-verdict c d e = sym (same-verdict c) ∙ (rw e (same-verdict d))

lines-alike : (m : Move) (c d : Decoder) → c.line ≡ d.line → line_at c m ≡ line_at d m
lines-alike ends c d e = ap (λ (x : Line). x ∷ []) e
lines-alike (grows k) c d e = refl
lines-alike loses c d e = refl
lines-alike resumes c d e = refl
lines-alike stays c d e = refl

verdicts-alike : (m : Move) (c d : Decoder) → verdict c ≡ verdict d → verdict_at c m ≡ verdict_at d m
verdicts-alike ends c d e = ap (λ (x : Verdict). x.answer ∷ []) e
verdicts-alike (grows k) c d e = refl
verdicts-alike loses c d e = refl
verdicts-alike resumes c d e = refl
verdicts-alike stays c d e = refl

-- the rest of what is heard does not see which of two decoders it is that hold alike
alike-heard : (hs : List Happening) (c d : Decoder) → holding c ≡ holding d
    → (holding (took_all c hs) ≡ holding (took_all d hs)) × (lines_in c hs ≡ lines_in d hs) × (verdicts_in c hs ≡ verdicts_in d hs)
unfolding took_all lines_in verdicts_in took
alike-heard [] c d e = (e, refl, refl)
alike-heard (h ∷ hs) c d e =
    let m = move_at d h in
    let k : move_at c h ≡ m = ap (move_of h) (alike-skipping c d e) in
    let n : holding (moved c m) ≡ holding (moved d m) = sym (hold-move m c) ∙ ap (λ (x : Decoder). holding (moved x m)) e ∙ hold-move m d in
    let f : holding (took c h) ≡ holding (took d h) = ap (λ (x : Move). holding (moved c x)) k ∙ n in
    let r = alike-heard hs (took c h) (took d h) f in (
      r.0,
      ap₂ (λ (xs ys : List Line). xs ++ ys) (ap (line_at c) k ∙ lines-alike m c d (alike-line c d e)) r.1,
      ap₂ (λ (xs ys : List ℕ). xs ++ ys) (ap (verdict_at c) k ∙ verdicts-alike m c d (alike-verdict c d e)) r.2,
    )

-- a move with no answer ended no line
pub ended_none : (t : Bool) (n : ℕ) → None ≡ (if t then Some n else None) → t ≡ false
ended_none true n e = absurd (none-some n e)
ended_none false n e = refl

-- a decoder of the code's is sound, and holds as it is
pub sound-of : (d : code.Decoder) → Sound d
sound-of d = record { line = record { short = d.line.short; room = d.line.room }; places = d.places; within = d.within }

pub unheld : (d : code.Decoder) → holding (decoder_of d) ≡ decoder_of d
unfolding holding
unheld d = rw d.within refl

module _ (hs : List Happening) (d : Decoder) where
  twice : holding (holding d) ≡ holding d
  unfolding holding
  twice = rw (held-held d.counts) refl

  pub holding-heard : holding (took_all (holding d) hs) ≡ holding (took_all d hs)
  holding-heard = (alike-heard hs (holding d) d twice).0

  pub holding-lines : lines_in (holding d) hs ≡ lines_in d hs
  holding-lines = (alike-heard hs (holding d) d twice).1

  pub holding-verdicts : verdicts_in (holding d) hs ≡ verdicts_in d hs
  holding-verdicts = (alike-heard hs (holding d) d twice).2
