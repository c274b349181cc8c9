-- Laws of a whole input's definitions. Assumes nothing.
use Prim.Native.Nat.{ℕ, zero, suc, min, ◌-◌, ◌≤◌, zero-le}
use mathlib.Core.Path.{◌≡◌, refl, sym, ◌∙◌}
use mathlib.Core.Bool.{Bool, true, false}
use mathlib.Core.List.{List, [], ◌∷◌, ◌++◌}
use native.Mathlib.Omega.{arith}
use lib.ListN.{length, take, drop, length-append, length-take}
use lib.Ieee.{Float}
use Rattle.std.specs.Prelude.{if◌then◌else◌}
use Rattle.numeric.proofs.Parts.{take_min}
use Rattle.resampling.specs.Flow.{Filter, Flow, Ran, ran, wants, pushed, emitted, drained, fed}
use Rattle.resampling.specs.FlowRep.{Copied}

-- ---- where the window covers no output, none is made
pub drained-none : (f : Filter) (room : ℕ) (s : Flow) → wants s ≡ false → drained f room s ≡ ran [] s
unfolding drained
drained-none f zero s w = refl
drained-none f (suc room) s w = rw w

-- ---- what is made is within the room
-- a property of both is one of the case
either : (n : ℕ) (b : Bool) (p q : Ran) → length p.out ≤ n → length q.out ≤ n → length (if b then p else q).out ≤ n
either n true p q h k = h
either n false p q h k = k

pub drained-length : (f : Filter) (room : ℕ) (s : Flow) → length (drained f room s).out ≤ room
unfolding drained
drained-length f zero s = zero-le
drained-length f (suc room) s =
    let h = drained-length f room (emitted f s).flow in
    either (suc room) (wants s) _ (ran [] s) (omega arith) zero-le

pub fed-length : (f : Filter) (room : ℕ) (xs : List Float) (s : Flow) → length (fed f room xs s).out ≤ room
unfolding fed
fed-length f room [] s = zero-le
fed-length f room (x ∷ xs) s =
    let d = drained f room (pushed f x s) in
    let rest = fed f (room - length d.out) xs d.flow in
    let h = drained-length f room (pushed f x s) in
    let k = fed-length f (room - length d.out) xs d.flow in
    either room (wants d.flow) d (ran (d.out ++ rest.out) rest.flow) h (rw (length-append d.out rest.out) (omega arith))

-- ---- equal rates: n samples stand in front, and there are no more, or there is no more room
pub copied_all : (xs out : List Float) (n : ℕ) → n ≡ min (length out) (length xs) → Copied xs out (take n xs ++ drop n out) n
copied_all xs out n e = record { are = rw (e, take_min); count_is = e ∙ sym (length-take (length out) xs) }
