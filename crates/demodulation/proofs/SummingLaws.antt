-- The correlator's sums place by place, and from sample to sample. Assumes nothing.
use Prim.Native.Nat.{ℕ, ◌+◌, ◌<◌}
use mathlib.Core.Path.{◌≡◌, refl, sym, ap, ap₂, subst, ◌∙◌}
use mathlib.Core.List.{List, [], ◌∷◌, ◌++◌}
use native.Mathlib.Numerals.{add-one}
use native.Mathlib.Omega.{arith}
use lib.Ieee.{Float}
use lib.ListN.{get_or, take, set, length-set}
use lib.Seq.{take-suc, take-set-le, take_all}
use Rattle.numeric.specs.F64.{◌⊕◌, zero64}
use Rattle.numeric.specs.Fold.{fold}
use Rattle.numeric.specs.Root.{root_of}
use Rattle.demodulation.specs.Correlation.{places, sum_of, magnitude_of, multiplied}
use Rattle.demodulation.specs.Summing.{SumTo, Summed}
use Rattle.demodulation.specs.declared.correlator.Correlator.{Correlator}
use Rattle.demodulation.specs.declared.correlator.Rings.{Rings}
use Rattle.demodulation.specs.declared.correlator.Sums.{Sums}

-- ---- one ring
fold-snoc : (b : Float) (xs : List Float) (x : Float) → fold ◌⊕◌ b (xs ++ (x ∷ [])) ≡ fold ◌⊕◌ b xs ⊕ x
fold-snoc b [] x = refl
fold-snoc b (y ∷ xs) x = fold-snoc (b ⊕ y) xs x

-- a place more
sum-turn : (n : ℕ) (ring : List Float) (x d : Float) → n < places → SumTo n ring x → SumTo (n + 1) ring (x ⊕ get_or ring n d)
sum-turn n ring x d h s =
    record {
      sum =
          rw (add-one, take-suc ring n d (omega (arith, s.long)), fold-snoc zero64 (take n ring) (get_or ring n d))
          (ap (λ (y : Float). y ⊕ get_or ring n d) s.sum);
      long = s.long;
    }

sum-end : (ring : List Float) (x : Float) → SumTo places ring x → x ≡ sum_of ring
sum-end ring x s = s.sum ∙ ap sum_of (take_all places ring (omega (arith, s.long)))

-- a store behind the places that are summed up
sum_kept : (n : ℕ) (ring : List Float) (x y : Float) → SumTo n ring x → SumTo n (set ring n y) x
sum_kept n ring x y s = record { sum = s.sum ∙ ap sum_of (sym (take-set-le n ring n y (omega arith))); long = length-set ring n y ∙ s.long }

-- the magnitude of a tone
pub tone-end : (i q : List Float) (x y m : Float) → SumTo places i x → SumTo places q y → m ≡ root_of x y → m ≡ magnitude_of i q
unfolding magnitude_of
tone-end i q x y m a b e = e ∙ ap₂ root_of (sum-end i x a) (sum-end q y b)

-- ---- the four
pub summed-to : {n m : ℕ} (r : Rings) (p : Sums) → Summed n r p → n ≡ m → Summed m r p
summed-to r p s e = subst (λ (k : ℕ). Summed k r p) e s

-- the new products stand behind the places that are summed up
pub summed_kept : (c : Correlator) (s : Float) (r r' : Rings) (p : Sums) → Summed c.pos r p → r' ≡ multiplied r c s → Summed c.pos r' p
summed_kept c s r r' p h e =
    subst (λ (t : Rings). Summed c.pos t p) (sym e)
    (record {
      mark_i = sum_kept c.pos _ _ _ h.mark_i;
      mark_q = sum_kept c.pos _ _ _ h.mark_q;
      space_i = sum_kept c.pos _ _ _ h.space_i;
      space_q = sum_kept c.pos _ _ _ h.space_q;
    })
