-- The first test that holds gives the number. Assumes nothing.
use Rattle.std.specs.Prelude.{Option, None}
use Rattle.std.proofs.Common.{◌≡◌, ℕ, ◌/◌, ◌%◌, ◌≤◌, Bool, false, List, length, get_or, refl, ◌∙◌, sym, ap}
use native.Mathlib.Omega.{arith}
use borrow.Author.Tests.{le-ltb, ne_eqb}
use Rattle.refusal.specs.Refusals.{first}
use Rattle.hexadecimal.specs.Hex.{first_wrong, unhex, is_none}
use Rattle.hexadecimal.proofs.FirstWrong.{all_none}
use Rattle.hexadecimal.proofs.HexLaws.{length-unhex}
use Rattle.tide.specs.Judge.{damage_of}
use Rattle.tide.proofs.Checks.{Past13, is-14, is-15, is-16, is-none}
use Rattle.tide.proofs.judge.check_frame.Goals as goal

past : (s : List ℕ) (more : Bool) (d : Option ℕ) → more ≡ false → length s ≤ 64 → 26 ≤ length s → (length s % 2 ≡ 1 → ⊥) → d ≡ first_wrong s → d ≡ None
    → Past13 s more
past s more d whole most least even w e = record { whole = whole; most = most; least = least; even = even; digits = all_none _ _ w ∙ ap is_none e }

says : (s : List ℕ) (said : ℕ) → said ≡ get_or (unhex s) 2 0 → said ≡ length s / 2 → get_or (unhex s) 2 0 ≡ length (unhex s)
says s said e h = omega (arith, length-unhex s)

pub returns-in_default : goal.returns-in_default
unfolding damage_of first
returns-in_default c =
    let f = all_none _ _ c.test_digits.ensures.0 ∙ ap is_none c.in_default.is in
    rw (c.if-more.false, le-ltb _ _ c.if-n-gt64.false, le-ltb _ _ c.if-n-lt26.false, ne_eqb _ _ c.if-n-eq1.false, f) refl

pub returns-then-said-bytes : goal.returns-then-said-bytes
returns-then-said-bytes c =
    let s = c.args.s.now in
    is-14 _ _ (past c.args.s.now c.args.more _ c.if-more.false c.if-n-gt64.false c.if-n-lt26.false c.if-n-eq1.false c.test_digits.ensures.0 c.in-None.is) (λ e. c.if-said-bytes.true (omega (arith, length-unhex s, c.byte-said.ensures.0)))

pub returns-then-sum-ne0 : goal.returns-then-sum-ne0
returns-then-sum-ne0 c =
    is-15 _ _ (past c.args.s.now c.args.more _ c.if-more.false c.if-n-gt64.false c.if-n-lt26.false c.if-n-eq1.false c.test_digits.ensures.0 c.in-None.is) (says c.args.s.now c.byte-said.result c.byte-said.ensures.0 (omega arith)) (λ e. c.if-sum-ne0.true (omega (arith, c.sum.ensures)))

pub returns-then-misfit : goal.returns-then-misfit
returns-then-misfit c =
    is-16 _ _ (past c.args.s.now c.args.more _ c.if-more.false c.if-n-gt64.false c.if-n-lt26.false c.if-n-eq1.false c.test_digits.ensures.0 c.in-None.is) (says c.args.s.now c.byte-said.result c.byte-said.ensures.0 (omega arith)) (omega (arith, c.sum.ensures)) _ _ _ _ c.byte.ensures.0 c.byte-2.ensures.0 (sym (length-unhex _)) c.misfit.ensures c.if-misfit.true

pub returns : goal.returns
returns c =
    is-none _ _ (past c.args.s.now c.args.more _ c.if-more.false c.if-n-gt64.false c.if-n-lt26.false c.if-n-eq1.false c.test_digits.ensures.0 c.in-None.is) (says c.args.s.now c.byte-said.result c.byte-said.ensures.0 (omega arith)) (omega (arith, c.sum.ensures)) _ _ _ _ c.byte.ensures.0 c.byte-2.ensures.0 (sym (length-unhex _)) c.misfit.ensures c.if-misfit.false
