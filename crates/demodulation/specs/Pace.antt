-- When symbols end, over a list of soft decisions: one tick each, in order. Assumes nothing.
use Rattle.std.specs.Prelude.{ℕ, ◌+◌, ◌≤◌, ◌<◌, Bool, true, false, ◌⊎◌, List, [], ◌∷◌, Float}
use Rattle.demodulation.specs.Timing.{ticked}
use Rattle.demodulation.specs.declared.kind.Kind.{Kind}
use Rattle.demodulation.specs.declared.timing.Timing.{Timing}

-- the number of a step goes to the front of a list, where the step is a boundary
abbrev pub numbered : Bool → ℕ → List ℕ → List ℕ
numbered true n rest = n ∷ rest
numbered false n rest = rest

-- the numbers of the steps that are boundaries, in order, where n steps came before: from n = 0 on the first step is number 1
unfoldable pub boundaries : Kind → Timing → ℕ → List Float → List ℕ
boundaries kind t n [] = []
boundaries kind t n (soft ∷ softs) =
    numbered (ticked kind t soft).boundary (n + 1) (boundaries kind (ticked kind t soft).state (n + 1) softs)

-- each number is from `least` to `most` more than the one before it
abbrev pub Apart : ℕ → ℕ → List ℕ → Type 0
Apart least most [] = Unit
Apart least most (a ∷ []) = Unit
Apart least most (a ∷ b ∷ rest) = (a + least ≤ b) × (b ≤ a + most) × Apart least most (b ∷ rest)

-- the first is at most `limit`; where there is none, so many steps were not yet made
abbrev pub FirstBy : ℕ → ℕ → List ℕ → Type 0
FirstBy limit steps [] = steps < limit
FirstBy limit steps (a ∷ rest) = a ≤ limit

-- after the last, `most` steps were not yet made: it does not fall silent
abbrev pub NextBy : ℕ → ℕ → List ℕ → Type 0
NextBy most steps [] = Unit
NextBy most steps (a ∷ []) = steps < a + most
NextBy most steps (a ∷ b ∷ rest) = NextBy most steps (b ∷ rest)

-- so many steps, and the numbers of the boundaries among them
pub record Paced (least most limit steps : ℕ) (numbers : List ℕ) : Type 0 where
  pub apart : Apart least most numbers
  pub first : FirstBy limit steps numbers
  pub next : NextBy most steps numbers

-- one of these numbers is over `from`, and at most `to`
abbrev pub Between : ℕ → ℕ → List ℕ → Type 0
Between from to [] = ⊥
Between from to (a ∷ rest) = ((from < a) × (a ≤ to)) ⊎ Between from to rest
