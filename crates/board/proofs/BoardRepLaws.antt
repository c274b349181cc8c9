-- Each value of the type is a sound board, and no count of it comes near the end of its 64 bits. Assumes nothing.
use Prim.Native.Nat.{◌*◌, ◌≤◌}
use native.Mathlib.Omega.{arith}
use Rattle.hexadecimal.specs.Hex.{total}
use Rattle.modem.proofs.RxCalls.{listener-sound-of}
use Rattle.tide.specs.DecoderRep.{most_count}
use Rattle.tide.proofs.DecoderRepLaws.{sound-of}
use Rattle.board.specs.BoardRep.{Few, BoardSound}
use Rattle.board.specs.declared.board.Board.{Board}

pub board-sound-of : (b : Board) → BoardSound b
unfolding Few
board-sound-of b = record { listener = listener-sound-of b.listener; decoder = sound-of b.decoder; few = b.few }

-- ten for each line judged are at most three for each sample accepted
pub counts-few : (b : Board) → 10 * total b.decoder.counts ≤ 3 * b.listener.accepted
counts-few b = omega (arith, b.few)

pub counts-fit : (b : Board) → total b.decoder.counts ≤ most_count
counts-fit b = omega (arith, counts-few b, b.listener.most)
