-- A plain board's symbols from fresh on: they keep their pace, and so it is never deaf for want of a boundary. Assumes nothing.
use Prim.Native.Nat.{ℕ, ◌+◌, ◌≤◌}
use mathlib.Core.List.{List}
use native.Mathlib.Omega.{arith}
use lib.Ieee.{Float}
use Rattle.bell103.specs.declared.Role.{Role}
use Rattle.demodulation.specs.Pace.{Between}
use Rattle.demodulation.proofs.PaceLaws.{never-silent}
use Rattle.modem.proofs.SymbolLaws.{receiver-paced}
use Rattle.board.specs.Plain.{fresh, taken_in}
use Rattle.board.specs.Symbols.{steps_in, symbols_in, filling_step, KeepsPace}

module _ (rate station : ℕ) (role : Role) (ws : List (List Float)) where
  -- "For every list of accepted samples from a fresh board on", at every rate
  pub board-paced : KeepsPace (fresh rate station role) ws
  unfolding fresh symbols_in steps_in
  board-paced = receiver-paced rate role (taken_in (fresh rate station role) ws)

  -- from the step on in which the rings fill, no 33 steps pass without a boundary: of any step m + 1 from there on, and the 32 behind it
  pub never-deaf : (m : ℕ) → filling_step ≤ m + 1 → m + 33 ≤ steps_in (fresh rate station role) ws
      → Between m (m + 33) (symbols_in (fresh rate station role) ws)
  never-deaf m h l =
      never-silent 21 33 (filling_step + 32) (steps_in (fresh rate station role) ws) (symbols_in (fresh rate station role) ws) board-paced m (omega arith) l
