-- The first check that fails says what the line is. Assumes nothing.
use Rattle.std.specs.Prelude.{Option, None}
use Rattle.std.proofs.Common.{◌≡◌, ℕ, ◌%◌, ◌≤◌, List, length}
use mathlib.Core.Path.{refl, sym, ap, ◌∙◌}
use native.Mathlib.Omega.{arith}
use borrow.Author.Tests.{le-leb, eq-eqb, ne_eqb}
use Rattle.hexadecimal.specs.Hex.{first_wrong, unhex, is_none}
use Rattle.hexadecimal.proofs.FirstWrong.{all_none}
use Rattle.store.specs.Line.{judged, whole, version_of}
use Rattle.store.proofs.Judging.{WholeBytes, no-sum, by-version}
use Rattle.store.proofs.line.judge.Goals as goal

digits : (l : List ℕ) (n : ℕ) (d : Option ℕ) → n ≡ length l → 2 ≤ n → n % 2 ≡ 0 → d ≡ first_wrong l → d ≡ None → WholeBytes l
digits l n d e least even w a = record { least = omega arith; even = omega (arith, even); digits = all_none _ _ w ∙ ap is_none a }

pub returns-in_default : goal.returns-in_default
unfolding judged whole
returns-in_default c =
    let s = c.args.s.now in
    let e = all_none _ _ c.test_digits.ensures.0 ∙ ap is_none c.in_default.is in
    rw (le-leb _ _ c.if-n-lt2.false, eq-eqb (length s % 2) 0 (omega (arith, c.if-n-eq1.false)), e) refl

pub returns-then-sum-ne0 : goal.returns-then-sum-ne0
returns-then-sum-ne0 c = no-sum _ (digits c.args.s.now _ _ refl c.if-n-lt2.false (omega (arith, c.if-n-eq1.false)) c.test_digits.ensures.0 c.in-None.is) (λ e. c.if-sum-ne0.true (c.sum.ensures ∙ e))

pub returns-then-byte-ne1 : goal.returns-then-byte-ne1
returns-then-byte-ne1 c =
    let s = c.args.s.now in
    let v = ne_eqb (version_of (unhex s)) 1 (λ e. c.if-byte-ne1.true (c.byte.ensures.0 ∙ e)) in
    rw v at (by-version s (digits c.args.s.now _ _ refl c.if-n-lt2.false (omega (arith, c.if-n-eq1.false)) c.test_digits.ensures.0 c.in-None.is) (sym c.sum.ensures ∙ c.if-sum-ne0.false))

pub judge_version_1-requires : goal.judge_version_1-requires
judge_version_1-requires c = (digits c.args.s.now _ _ refl c.if-n-lt2.false (omega (arith, c.if-n-eq1.false)) c.test_digits.ensures.0 c.in-None.is).digits

pub returns : goal.returns
returns c =
    let s = c.args.s.now in
    let v = eq-eqb (version_of (unhex s)) 1 (sym c.byte.ensures.0 ∙ c.if-byte-ne1.false) in
    c.judge_version_1.ensures ∙ rw v at (by-version s (digits c.args.s.now _ _ refl c.if-n-lt2.false (omega (arith, c.if-n-eq1.false)) c.test_digits.ensures.0 c.in-None.is) (sym c.sum.ensures ∙ c.if-sum-ne0.false))
