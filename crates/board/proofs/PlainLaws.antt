-- The plain board: what a list of writes does is what all that happened in it does, one after the other. Assumes nothing.
use Prim.Native.Nat.{ℕ, ◌+◌}
use mathlib.Core.Path.{◌≡◌, refl, sym, ap, ◌∙◌}
use mathlib.Core.Bool.{Bool, true, false}
use mathlib.Core.List.{List, [], ◌∷◌}
use native.Mathlib.Omega.{arith}
use borrow.Author.Tests.{eq-eqb, ne_eqb}
use lib.Dec.{eqb}
use lib.ListN.{length, length-append}
use lib.Ieee.{Float}
use Rattle.std.specs.Prelude.{if◌then◌else◌}
use Rattle.refusal.specs.Refusals.{first, rate_refused}
use Rattle.refusal.proofs.RefusalLaws.{first-yes}
use Rattle.bell103.specs.declared.Role.{Role}
use Rattle.happenings.specs.declared.happening.Happening.{Happening}
use Rattle.modem.specs.Listener.{samples_refused}
use Rattle.modem.proofs.RxCalls.{never-waits, admitted-same}
use Rattle.tide.specs.Decoder.{Decoder, took_all, lines_in, verdicts_in}
use Rattle.tide.proofs.DecoderLaws.{took_all-append, lines_in-append, verdicts_in-append}
use Rattle.board.specs.Plain.{Plain, decoder, fresh, new_number, new_of, number, accepts, heard_of, heard_in, took, after, lines, verdicts, Summary, summary, Answer, refused, heard, answer, after_all, heard_all, lines_all, verdicts_all, answers_all, ended_in}

-- ---- the number of a refusal: 3, 4 or 31
pub never-32 : (b : Plain) (s : List Float) → number b s ≡ 32 → ⊥
unfolding number samples_refused
never-32 b s = unfold samples_refused in never-waits s b.accepted

-- ---- `new`
pub new-rate : (rate station : ℕ) → new_number rate station ≡ 0 → rate_refused rate ≡ false
unfolding new_number
new-rate rate station e = by (rate_refused rate) (first (eqb station 0) 2 0) e
  where
    by : (t : Bool) (n : ℕ) → first t 1 n ≡ 0 → t ≡ false
    by true n e = let a = sym (first-yes 1 n) ∙ e in absurd (omega arith)
    by false n e = refl

pub new-fresh : (rate station : ℕ) (role : Role) → new_number rate station ≡ 0 → (new_of rate station role).state ≡ fresh rate station role
unfolding new_of
new-fresh rate station role e = rw (admitted-same rate (new-rate rate station e)) refl

pub after-decoder : (b : Plain) (s : List Float) → decoder (after b s) ≡ took_all (decoder b) (heard_in b s)
unfolding after took heard_in took_all
after-decoder b s = by (accepts b s)
  where
    by : (t : Bool) → decoder (if t then took b s else b) ≡ took_all (decoder b) (if t then (heard_of b s).happenings else [])
    by true = refl
    by false = refl

-- accepted
pub after-accepted : (b : Plain) (s : List Float) → number b s ≡ 0 → after b s ≡ took b s
unfolding after accepts
after-accepted b s e = rw (eq-eqb (number b s) 0 e) refl

pub heard-accepted : (b : Plain) (s : List Float) → number b s ≡ 0 → heard_in b s ≡ (heard_of b s).happenings
unfolding heard_in accepts
heard-accepted b s e = rw (eq-eqb (number b s) 0 e) refl

pub answer-accepted : (b : Plain) (s : List Float) → number b s ≡ 0 → answer b s ≡ heard (summary b s)
unfolding answer accepts
answer-accepted b s e = rw (eq-eqb (number b s) 0 e) refl

-- refused
pub verdicts-refused : (b : Plain) (s : List Float) → (number b s ≡ 0 → ⊥) → verdicts b s ≡ []
unfolding verdicts heard_in accepts verdicts_in
verdicts-refused b s h = rw (ne_eqb (number b s) 0 h) refl

pub after-refused : (b : Plain) (s : List Float) → (number b s ≡ 0 → ⊥) → after b s ≡ b
unfolding after accepts
after-refused b s h = rw (ne_eqb (number b s) 0 h) refl

pub answer-refused : (b : Plain) (s : List Float) → (number b s ≡ 0 → ⊥) → answer b s ≡ refused (number b s)
unfolding answer accepts
answer-refused b s h = rw (ne_eqb (number b s) 0 h) refl

pub all-decoder : (b : Plain) (ws : List (List Float)) → decoder (after_all b ws) ≡ took_all (decoder b) (heard_all b ws)
unfolding after_all heard_all
all-decoder b [] = unfold took_all in refl
all-decoder b (s ∷ ws) =
    let rest = heard_all (after b s) ws in
    all-decoder (after b s) ws ∙ ap (λ (d : Decoder). took_all d rest) (after-decoder b s) ∙ sym (took_all-append (decoder b) (heard_in b s) rest)

pub all_lines : (b : Plain) (ws : List (List Float)) → lines_all b ws ≡ lines_in (decoder b) (heard_all b ws)
unfolding lines_all heard_all lines
all_lines b [] = unfold lines_in in refl
all_lines b (s ∷ ws) =
    rw (lines_in-append (decoder b) (heard_in b s) (heard_all (after b s) ws), ← after-decoder b s, ← all_lines (after b s) ws) refl

pub all-verdicts : (b : Plain) (ws : List (List Float)) → verdicts_all b ws ≡ verdicts_in (decoder b) (heard_all b ws)
unfolding verdicts_all heard_all verdicts
all-verdicts b [] = unfold verdicts_in in refl
all-verdicts b (s ∷ ws) =
    rw (verdicts_in-append (decoder b) (heard_in b s) (heard_all (after b s) ws), ← after-decoder b s, ← all-verdicts (after b s) ws) refl

-- the lines ended, as the answers say
ended-one : (b : Plain) (s : List Float) (rest : List Answer) → ended_in (answer b s ∷ rest) ≡ length (lines b s) + ended_in rest
unfolding answer summary lines heard_in lines_in ended_in
ended-one b s rest = by (accepts b s) (summary b s) (heard_of b s).happenings (number b s) refl
  where
    by : (t : Bool) (x : Summary) (hs : List Happening) (k : ℕ) → x.lines ≡ length (lines_in (decoder b) (if t then hs else []))
        → ended_in ((if t then heard x else refused k) ∷ rest) ≡ length (lines_in (decoder b) (if t then hs else [])) + ended_in rest
    by true x hs k e = omega (arith, e)
    by false x hs k e = omega arith

pub all-ended : (b : Plain) (ws : List (List Float)) → length (lines_all b ws) ≡ ended_in (answers_all b ws)
unfolding lines_all answers_all
all-ended b [] = unfold ended_in in refl
all-ended b (s ∷ ws) =
    omega (arith, length-append (lines b s) (lines_all (after b s) ws), ended-one b s (answers_all (after b s) ws), all-ended (after b s) ws)
