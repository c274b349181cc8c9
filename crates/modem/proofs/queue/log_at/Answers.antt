-- With room the event goes behind those that wait; with none it goes behind all but the oldest. Assumes nothing.
use Prim.Native.Nat.{ℕ, ◌+◌, ◌≤◌, ◌<◌}
use mathlib.Core.Path.{◌≡◌, sym, ap, ◌∙◌}
use mathlib.Core.Bool.{Bool}
use mathlib.Core.List.{List, [], ◌∷◌, ◌++◌}
use native.Mathlib.Omega.{arith}
use native.Mathlib.Numerals.{add-one}
use lib.ListN.{length, take, drop, set, length-set, length-drop}
use lib.Seq.{take-suc-set, take_all, length-take-le}
use Rattle.modem.specs.Places.{logging, Logs, Moved}
use Rattle.modem.proofs.QueueLaws.{logging-room, logging-full}
use Rattle.modem.proofs.queue.log_at.Goals as goal

module _ (held : List Bool) (n : ℕ) (e : Bool) (p : length held ≡ 64) where
  room : n < 64 → Logs (logging (take n held) e) (n + 1) (set held n e)
  room h =
      record {
        waits = rw (add-one, take-suc-set held n e (omega (arith, p))) (sym (logging-room (take n held) e (omega (arith, length-take-le n held (omega (arith, p))))));
        places = length-set held n e ∙ p;
        room = omega arith;
      }

  full : (moved : List Bool) → 64 ≤ n → Moved 1 63 held moved → Logs (logging (take n held) e) 64 (set moved 63 e)
  full moved h m =
      let all : take n held ≡ held = take_all n held (omega (arith, p)) in
      record {
        waits =
            take-suc-set moved 63 e (omega (arith, m.places, p))
            ∙ ap (λ (l : List Bool). l ++ (e ∷ [])) (m.front ∙ take_all 63 (drop 1 held) (simp length-drop (omega (arith, p))))
            ∙ sym (rw all (logging-full held e (omega (arith, p))));
        places = length-set moved 63 e ∙ m.places ∙ p;
        room = omega arith;
      }

pub returns-then-n-lt64 : goal.returns-then-n-lt64
returns-then-n-lt64 c = room _ _ _ c.requires.1 c.if-n-lt64.true

pub returns : goal.returns
returns c = full _ _ _ c.requires.1 _ c.if-n-lt64.false c.to_front.ensures
