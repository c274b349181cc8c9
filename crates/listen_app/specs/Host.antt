-- A host, which keeps a plain board hearing: what it does with a block of samples. Assumes nothing.
use Rattle.std.specs.Prelude.{ℕ, zero, suc, ◌+◌, ◌/◌, min, List, eqb, length, take, drop, Float}
use Rattle.std.specs.Prelude.{if◌then◌else◌}
use Rattle.bell103.specs.declared.Role.{Role}
use Rattle.tide.specs.DecoderRep.{most_count}
use Rattle.board.specs.Plain as plain

-- what a fresh board takes, the board, and since the recording began: how many lines were judged and how many samples were not heard
pub record PlainHost : Type 0 where
  pub rate : ℕ
  pub station : ℕ
  pub role : Role
  pub board : plain.Plain
  pub lines : ℕ
  pub unheard : ℕ

-- "A fresh one takes rate, station and role"
abbrev pub fresh_host : ℕ → ℕ → Role → PlainHost
fresh_host rate station role =
    record { rate = rate; station = station; role = role; board = (plain.new_of rate station role).state; lines = 0; unheard = 0 }

-- "31 .. the host then starts a fresh one, and the terms begin anew with it"; the numbers of lines run on
abbrev pub renewed : PlainHost → PlainHost
renewed h =
    record {
      rate = h.rate;
      station = h.station;
      role = h.role;
      board = (plain.new_of h.rate h.station h.role).state;
      lines = h.lines;
      unheard = h.unheard;
    }

-- with the board after a write, and so many lines more; with so many samples more that were not heard. Counts hold at the most that they can say
abbrev pub with_lines : PlainHost → plain.Plain → ℕ → PlainHost
with_lines h b n =
    record { rate = h.rate; station = h.station; role = h.role; board = b; lines = min (h.lines + n) most_count; unheard = h.unheard }

abbrev pub with_unheard : PlainHost → ℕ → PlainHost
with_unheard h n =
    record { rate = h.rate; station = h.station; role = h.role; board = h.board; lines = h.lines; unheard = min (h.unheard + n) most_count }

-- one write
unfoldable pub wrote : PlainHost → List Float → PlainHost
wrote h xs =
    if plain.accepts h.board xs
    then with_lines h (plain.after h.board xs) (length (plain.lines h.board xs))
    else with_unheard h (length xs)

-- where the board would refuse 31, a fresh one hears the same samples
unfoldable pub heard_piece : PlainHost → List Float → PlainHost
heard_piece h xs = if eqb (plain.number h.board xs) 31 then wrote (renewed h) xs else wrote h xs

-- so many pieces of eight samples, in order; the last may be shorter
unfoldable pub heard_eights : ℕ → PlainHost → List Float → PlainHost
heard_eights zero h xs = h
heard_eights (suc k) h xs = heard_eights k (heard_piece h (take 8 xs)) (drop 8 xs)

abbrev pub eights_in : ℕ → ℕ
eights_in n = (n + 7) / 8

-- a block: whole; where a sample of it is refused (4), in eights, so that no more than the eight round that sample are lost
unfoldable pub heard_block : PlainHost → List Float → PlainHost
heard_block h xs = if eqb (plain.number h.board xs) 4 then heard_eights (eights_in (length xs)) h xs else heard_piece h xs
