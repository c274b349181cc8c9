-- Which call each kind is, and the amplitude in a number. Assumes nothing.
use Prim.Native.Nat.{ℕ, ◌%◌, ◌<◌, ◌≤◌}
use mathlib.Core.Path.{◌≡◌, refl, sym, ap, ◌∙◌, subst}
use mathlib.Core.Bool.{Bool, true, false, not}
use mathlib.Core.List.{List}
use borrow.Author.Tests.{lt-ltb, le-ltb}
use lib.Dec.{T}
use lib.ListN.{length}
use lib.Ieee.{Float, nan, inf, fin, binary32, of_bits, nan_bits, is_nan, div}
use lib.Ieee.Bits.{nan_bits_is, nan_bits_above}
use Rattle.std.specs.Prelude.{eqb, if◌then◌else◌}
use Rattle.modulation.specs.Tx.{Sender, amplitude_of, read_of, duration_of}
use Rattle.modulation.specs.Queueing.{write_of, idle_mark_of}
use Rattle.calls.specs.Script.{Outcome}
use Rattle.calls.specs.Send.{of_queueing, of_adjusted, of_reading, of_duration, amplitude_in, called, kind_of}
use Rattle.calls.specs.declared.send.Kind.{Kind}
use Rattle.calls.specs.declared.send.Kind.TheVariants as kinds

-- ---- the amplitude
is-nan : (x : Float) → is_nan x ≡ true → nan ≡ x
unfolding is_nan
is-nan nan e = refl
is-nan (inf s) e = absurd (subst T (sym e) tt)
is-nan (fin s m x) e = absurd (subst T (sym e) tt)

zero-over-zero : div binary32 (of_bits binary32 0) (of_bits binary32 0) ≡ nan
unfolding div of_bits
zero-over-zero = refl

pub amplitude-nan : (b : ℕ) → 0x7F80_0000 < b % 0x8000_0000 → div binary32 (of_bits binary32 0) (of_bits binary32 0) ≡ of_bits binary32 b
amplitude-nan b h = zero-over-zero ∙ is-nan (of_bits binary32 b) (sym (nan_bits_is binary32 b) ∙ nan_bits_above binary32 b ∙ lt-ltb _ _ h)

pub amplitude-number : (b : ℕ) → b % 0x8000_0000 ≤ 0x7F80_0000 → T (not (nan_bits binary32 b))
amplitude-number b h = rw (nan_bits_above binary32 b ∙ le-ltb _ _ h) tt

-- ---- the kinds
module _ (n : ℕ) (s : Sender) (bytes : List ℕ) (part : List Float) where
  -- the call of a kind
  abbrev pub by-kind : Kind → Outcome Sender Float
  by-kind kinds.Write = of_queueing (write_of s bytes) part
  by-kind kinds.IdleMark = of_queueing (idle_mark_of s n) part
  by-kind kinds.Amplitude = of_adjusted (amplitude_of s (amplitude_in n)) part
  by-kind kinds.Read = of_reading (read_of s part) (length part)
  by-kind kinds.SamplesForBits = of_duration (duration_of s n) s part

  pub called-is : (kind : ℕ) (k : Kind) → k ≡ kind_of kind → by-kind k ≡ called kind n s bytes part
  unfolding called
  called-is kind k e = ap by-kind e ∙ cases (eqb kind 0) (eqb kind 1) (eqb kind 2) (eqb kind 3)
    where
      cases : (a b c d : Bool)
          → by-kind (if a then kinds.Write else if b then kinds.IdleMark else if c then kinds.Amplitude else if d then kinds.Read else kinds.SamplesForBits)
          ≡ (if a then by-kind kinds.Write else if b then by-kind kinds.IdleMark else if c then by-kind kinds.Amplitude else if d then by-kind kinds.Read else by-kind kinds.SamplesForBits)
      cases true b c d = refl
      cases false true c d = refl
      cases false false true d = refl
      cases false false false true = refl
      cases false false false false = refl
