-- A board's symbols, over a list of accepted writes at any rate. Assumes nothing.
use Prim.Native.Nat.{ℕ, ◌+◌}
use mathlib.Core.Path.{◌≡◌, refl, sym, ap, ◌∙◌, subst}
use mathlib.Core.List.{List, [], ◌∷◌, ◌++◌}
use lib.ListN.{length}
use lib.Ieee.{Float}
use Rattle.demodulation.specs.Pace.{Paced}
use Rattle.demodulation.specs.Demod.{Demodulator, hearing, fresh_demodulator}
use Rattle.demodulation.specs.Symbols.{symbol_ends}
use Rattle.demodulation.proofs.SymbolLaws.{symbols-paced, ends-append, ends-none}
use Rattle.modem.specs.Listener.{Demod, heard_by, fresh_demod}
use Rattle.modem.specs.Symbols.{steps_by, steps_over, ends_over}
use Rattle.bell103.specs.declared.Role.{Role}
use Rattle.demodulation.specs.declared.kind.Kind.TheVariants.{ForBoard}

after-steps : (d : Demod) (xs : List Float) → (heard_by d xs).after.inner ≡ (hearing d.inner (steps_by d xs)).after
unfolding heard_by steps_by
after-steps d xs = refl

-- they are those of all the steps, as one list
pub ends-over : (d : Demod) (n : ℕ) (xss : List (List Float)) → ends_over d n xss ≡ symbol_ends d.inner n (steps_over d xss)
unfolding ends_over steps_over
ends-over d n [] = sym (ends-none d.inner n)
ends-over d n (xs ∷ xss) =
    ap (λ (l : List ℕ). symbol_ends d.inner n (steps_by d xs) ++ l)
    (ends-over (heard_by d xs).after (n + length (steps_by d xs)) xss
    ∙ ap (λ (e : Demodulator). symbol_ends e (n + length (steps_by d xs)) (steps_over (heard_by d xs).after xss)) (after-steps d xs))
    ∙ sym (ends-append d.inner n (steps_by d xs) (steps_over (heard_by d xs).after xss))

inner-is : (rate : ℕ) (role : Role) → (fresh_demod ForBoard rate role).inner ≡ fresh_demodulator ForBoard role
unfolding fresh_demod
inner-is rate role = refl

-- from a fresh one on, at any rate: the 27th step fills the rings
pub receiver-paced : (rate : ℕ) (role : Role) (xss : List (List Float))
    → Paced 21 33 (27 + 32) (length (steps_over (fresh_demod ForBoard rate role) xss)) (ends_over (fresh_demod ForBoard rate role) 0 xss)
receiver-paced rate role xss =
    let d = fresh_demod ForBoard rate role in
    subst (Paced 21 33 (27 + 32) (length (steps_over d xss)))
    (sym (ends-over d 0 xss ∙ ap (λ (e : Demodulator). symbol_ends e 0 (steps_over d xss)) (inner-is rate role)))
    (symbols-paced role (steps_over d xss))
