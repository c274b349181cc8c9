-- How the code's `Host` holds what specs/Host.antt speaks of, and what each function does. Assumes nothing.
use Rattle.std.specs.Prelude.{ℕ, ◌≡◌, List, Float}
use Rattle.board.specs.Plain as plain
use Rattle.board.specs.BoardRep.{plain_of}
use Rattle.listen_app.specs.Host.{PlainHost, wrote}
use Rattle.listen_app.specs.declared.host.Host.{Host}
use Rattle.listen_app.specs.declared.host.Attempt.{Attempt}

abbrev pub host_of : Host → PlainHost
host_of h =
    record {
      rate = h.rate;
      station = h.station;
      role = h.role;
      board = plain_of h.board;
      lines = h.lines;
      unheard = h.unheard;
    }

-- the most lines that a write can end: 1,024 samples and the bits held before end 103 bytes at the most (proofs/HostLaws.antt, few-lines)
abbrev pub most_lines : ℕ
most_lines = 103

-- the lines that an answer tells
abbrev pub ended_in : plain.Answer → ℕ
ended_in (plain.refused n) = 0
ended_in (plain.heard x) = x.lines

-- a host that has come to this state
pub record Hosts (want : PlainHost) (r : Host) : Type 0 where
  pub same : host_of r ≡ want

-- one write, and the number that refused it, or 0
pub record Writes (h : Host) (xs : List Float) (r : Attempt) : Type 0 where
  pub host : Hosts (wrote (host_of h) xs) r.host
  pub number : r.number ≡ plain.number (plain_of h.board) xs
