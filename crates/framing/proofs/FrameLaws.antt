-- One data bit, and one bit in each of the three positions. Assumes nothing.
use Prim.Native.Nat.{ℕ, ◌+◌, ◌^◌, ◌<◌, ◌≤◌}
use mathlib.Core.Path.{◌≡◌, ap, ◌∙◌}
use mathlib.Core.Bool.{Bool, true, false}
use native.Mathlib.Nat.{one-mul, add_comm}
use lib.Bits.{or_shifted_r}
use borrow.Author.Tests.{lt-ltb, le-ltb}
use Rattle.std.specs.Prelude.{if◌then◌else◌}
use Rattle.framing.specs.declared.frame.Deframer.{Deframer}
use Rattle.framing.specs.Frame.{mark, idle_bit, with_bit, data_bit, stop_bit, frame_bit, push_bit}

-- a data bit adds 2^k to a byte that has nothing there yet
pub bit-adds : (acc k : ℕ) → acc < 2 ^ k → with_bit acc k mark ≡ acc + 2 ^ k
bit-adds acc k h = rw one-mul at (or_shifted_r 1 k acc h) ∙ add_comm (2 ^ k) acc

-- `push_bit` in each of the three positions
pub push-idle : (d : Deframer) (bit : Bool) → d.in_frame ≡ false → push_bit d bit ≡ idle_bit d bit
unfolding push_bit
push-idle d bit p = ap (λ (f : Bool). if f then frame_bit d bit else idle_bit d bit) p

pub push-data : (d : Deframer) (bit : Bool) → d.in_frame ≡ true → d.bit_count < 8 → push_bit d bit ≡ data_bit d bit
unfolding push_bit
push-data d bit p h =
    ap (λ (f : Bool). if f then frame_bit d bit else idle_bit d bit) p
    ∙ ap (λ (f : Bool). if f then data_bit d bit else stop_bit d bit) (lt-ltb _ _ h)

pub push-stop : (d : Deframer) (bit : Bool) → d.in_frame ≡ true → 8 ≤ d.bit_count → push_bit d bit ≡ stop_bit d bit
unfolding push_bit
push-stop d bit p h =
    ap (λ (f : Bool). if f then frame_bit d bit else idle_bit d bit) p
    ∙ ap (λ (f : Bool). if f then data_bit d bit else stop_bit d bit) (le-ltb _ _ h)
