-- A session: a host hears what standard input gives, to its end. Assumes nothing.
use Rattle.std.specs.Prelude.{ℕ, ◌≡◌, Bool, true, false, List, Result, Ok, Err}
use Rattle.std.specs.Prelude.{if◌then◌else◌}
use Rattle.wav.specs.Wav.{finish_of}
use Rattle.wav.specs.declared.wav.Fault.{Fault}
use Rattle.wav.specs.declared.wav.Fault.TheVariants as fault
use Rattle.listen_app.specs.BlockReader.{BlockReaderSound}
use Rattle.listen_app.specs.BlockReaderRep.{gathered}
use Rattle.listen_app.specs.HostRep.{host_of, Hosts}
use Rattle.listen_app.specs.Listener.{Listener, view, heard_bytes, ended}
use Rattle.listen_app.specs.declared.session.Session.{Session}
use Rattle.listen_app.specs.declared.session.Closed.{Closed}
use Rattle.listen_app.specs.declared.session.Outcome.{Outcome}
use Rattle.listen_app.specs.declared.session.Outcome.TheVariants as outcome

-- a state that the first one and later calls gave
pub record SessionSound (s : Session) : Type 0 where
  pub reader : BlockReaderSound s.block s.reader.n

-- what listens in a session
abbrev pub listening : Session → Listener
listening s = view (gathered s.reader s.block) (host_of s.host)

-- there are bytes, those read, and the session has heard all of them
pub record HeardSome (l : Listener) (r : Session) : Type 0 where
  pub bytes : List ℕ
  pub same : listening r ≡ heard_bytes l bytes
  pub sound : SessionSound r

-- and the end behind them: the host that heard the samples left, and whether the recording is whole
pub record HeardAll (l : Listener) (r : Closed) : Type 0 where
  pub bytes : List ℕ
  pub host : Hosts (ended (heard_bytes l bytes)) r.host
  pub end : r.end ≡ finish_of (heard_bytes l bytes).wav

-- ---- what is said at the end
-- the data had begun, and are too few
abbrev pub is_cut : Fault → Bool
is_cut fault.FrameCut = true
is_cut fault.DataCut = true
is_cut fault.Riff = false
is_cut fault.Wave = false
is_cut fault.FormatSize = false
is_cut fault.Encoding = false
is_cut fault.Channels = false
is_cut fault.Rate = false
is_cut fault.Align = false
is_cut fault.NoFormat = false
is_cut fault.Ragged = false
is_cut fault.HeaderCut = false

-- a recording cut short has its reading, and a bad header none
abbrev pub end_of : Result Unit Fault → Outcome
end_of (Ok tt) = outcome.Whole
end_of (Err f) = if is_cut f then outcome.Cut f else outcome.NoReading f

-- a failed write or read comes first, and then there is no reading
unfoldable pub outcome_of : Bool → Bool → Result Unit Fault → Outcome
outcome_of told failed e = if told then (if failed then outcome.Unread else end_of e) else outcome.Unwritten
