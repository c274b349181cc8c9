-- The first check that fails says that the line is damaged. Assumes nothing.
use mathlib.Core.Path.{refl, ◌∙◌}
use lib.ListN.{length}
use native.Mathlib.Omega.{arith}
use borrow.Author.Tests.{ne_eqb}
use Rattle.hexadecimal.specs.Hex.{unhex}
use Rattle.hexadecimal.proofs.HexLaws.{length-unhex}
use Rattle.store.specs.Line.{of_version1}
use Rattle.store.proofs.Judging.{bad-rate, bad-station, by-role}
use Rattle.store.proofs.line.judge_version_1.Goals as goal

pub returns-then-n-ne7 : goal.returns-then-n-ne7
unfolding of_version1
returns-then-n-ne7 c =
    let s = c.args.s.now in
    rw (ne_eqb (length (unhex s)) 7 (λ e. c.if-n-ne7.true (omega (arith, length-unhex s)))) refl

pub returns-then-not-rate_ok : goal.returns-then-not-rate_ok
returns-then-not-rate_ok c =
    let s = c.args.s.now in
    bad-rate (unhex s) (omega (arith, length-unhex s, c.if-n-ne7.false)) _ _ c.word-rate.ensures.0 c.rate_ok.ensures c.if-not-rate_ok.true-raw

pub returns-then-station-eq0 : goal.returns-then-station-eq0
returns-then-station-eq0 c =
    let s = c.args.s.now in
    bad-station (unhex s) (omega (arith, length-unhex s, c.if-n-ne7.false)) _ _ c.word-rate.ensures.0 c.rate_ok.ensures c.if-not-rate_ok.false-raw _ c.word-station.ensures.0 c.if-station-eq0.true

pub returns : goal.returns
returns c =
    let s = c.args.s.now in
    c.with_role.ensures
    ∙ by-role (unhex s) (omega (arith, length-unhex s, c.if-n-ne7.false)) _ _ c.word-rate.ensures.0 c.rate_ok.ensures c.if-not-rate_ok.false-raw _ c.word-station.ensures.0 c.if-station-eq0.false _ c.byte.ensures.0
