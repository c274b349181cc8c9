-- Intervals of f64 whose ends are floats: an operation that keeps the order takes an interval to the one between what its ends are taken
-- to, rounding and all: there is no error term, and where the ends are closed the new ends compute. Assumes nothing.
use Rattle.std.proofs.Common.{not, T, T_not}
use lib.Ieee.{Float}
use lib.Ieee.Scale.{finite}
use Rattle.numeric.specs.F64.{◌⊕◌, ◌⊖◌, ◌⊗◌, ◌≤ᶠ◌}
use Rattle.numeric.specs.Bounds.{non_negative}
use Rattle.numeric.specs.Interval.{Within}
use Rattle.numeric.proofs.Signed.{le-self, le-through, finite-between, add-mono, sub-mono, scale-mono}

pub within-finite : {lo hi x : Float} → Within lo hi x → T (finite x)
within-finite {lo} {hi} {x} w = finite-between lo x hi w.least w.most w.low w.high

-- a finite float lies from itself to itself
pub within-self : (x : Float) → T (finite x) → Within x x x
within-self x p = record { least = p; most = p; low = le-self x p; high = le-self x p }

-- ---- a wider interval
pub within_wider : {lo hi x : Float} (a b : Float) → T (finite a) → T (finite b) → T (a ≤ᶠ lo) → T (hi ≤ᶠ b) → Within lo hi x → Within a b x
within_wider {lo} {hi} {x} a b p q h k w =
    let r = within-finite w in
    record { least = p; most = q; low = le-through a lo x p w.least r h w.low; high = le-through x hi b r w.most q w.high k }

-- ---- comparisons
-- at least y, where the low end is
pub within-reaches : {lo hi x : Float} (y : Float) → T (finite y) → T (y ≤ᶠ lo) → Within lo hi x → T (y ≤ᶠ x)
within-reaches {lo} {hi} {x} y p h w = le-through y lo x p w.least (within-finite w) h w.low

-- not at least y, where the high end is not
pub within-short : {lo hi x : Float} (y : Float) → T (finite y) → T (not (y ≤ᶠ hi)) → Within lo hi x → T (y ≤ᶠ x) → ⊥
within-short {lo} {hi} {x} y p n w h = T_not (y ≤ᶠ hi) n (le-through y x hi p (within-finite w) w.most h w.high)

-- ---- sums, differences, products by a number with no minus sign
pub within-add : {lo hi x lo' hi' x' : Float} → T (finite (lo ⊕ lo')) → T (finite (hi ⊕ hi')) → Within lo hi x → Within lo' hi' x' → Within (lo ⊕ lo') (hi ⊕ hi') (x ⊕ x')
within-add {lo} {hi} {x} {lo'} {hi'} {x'} p q w v =
    let r = within-finite w in
    let s = within-finite v in
    record {
      least = p;
      most = q;
      low = add-mono lo x lo' x' w.least r v.least s w.low v.low;
      high = add-mono x hi x' hi' r w.most s v.most w.high v.high;
    }

pub within-sub : {lo hi x lo' hi' x' : Float} → T (finite (lo ⊖ hi')) → T (finite (hi ⊖ lo')) → Within lo hi x → Within lo' hi' x' → Within (lo ⊖ hi') (hi ⊖ lo') (x ⊖ x')
within-sub {lo} {hi} {x} {lo'} {hi'} {x'} p q w v =
    let r = within-finite w in
    let s = within-finite v in
    record {
      least = p;
      most = q;
      low = sub-mono lo x x' hi' w.least r s v.most w.low v.high;
      high = sub-mono x hi lo' x' r w.most v.least s w.high v.low;
    }

pub within-scale : {lo hi x : Float} (k : Float) → T (non_negative k) → T (finite (k ⊗ lo)) → T (finite (k ⊗ hi)) → Within lo hi x → Within (k ⊗ lo) (k ⊗ hi) (k ⊗ x)
within-scale {lo} {hi} {x} k K p q w =
    let r = within-finite w in
    record { least = p; most = q; low = scale-mono k lo x K w.least r w.low; high = scale-mono k x hi K r w.most w.high }
