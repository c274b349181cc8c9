-- Scripts of calls of a sender: the one of the port, and the one that has no floats (specs/Send.antt, Table.antt). Assumes nothing.
use Rattle.std.specs.Prelude.{ℕ, zero, suc, min, ◌/◌, Bool, List, [], ◌∷◌, eqb, length, take, drop}
use Rattle.std.specs.Prelude.{if◌then◌else◌}
use Rattle.refusal.specs.Refusals.{Reply, given, refused}
use Rattle.calls.specs.Answers.{bit}
use Rattle.calls.specs.Resample.{Run, ran, after, kind_in, number_for}

-- ---- one call, of a sender whose state is an S and whose samples are X
-- what a call gives: its refusal, 0 where it is accepted; its value; the sender afterwards; and the places that it was lent, as it leaves them
pub record Outcome (S X : Type 0) : Type 0 where
  pub number : ℕ
  pub value : ℕ
  pub state : S
  pub part : List X

abbrev pub outcome : {S X : Type 0} → ℕ → ℕ → S → List X → Outcome S X
outcome k v s part = record { number = k; value = v; state = s; part = part }

-- a count where the call is accepted, 0 where it is refused
abbrev pub unless_refused : Reply Unit → ℕ → ℕ
unless_refused (given u) n = n
unless_refused (refused k) n = 0

-- the bytes that a call of this kind is lent, at most: kind 0 is `write`
abbrev pub bytes_for : ℕ → ℕ → ℕ
bytes_for kind n = if eqb kind 0 then n else 0

-- a sender's calls: what the call of a kind gives with its number n, lent these bytes and these places; the places that it is lent, at most;
-- and whether bits wait
pub record Calls (S X : Type 0) : Type 0 where
  pub called : ℕ → ℕ → S → List ℕ → List X → Outcome S X
  pub places : ℕ → ℕ → ℕ
  pub waits : S → Bool

-- the three numbers of a call's answer: refusal, value, and whether bits wait afterwards
abbrev pub reply : {S X : Type 0} → Calls S X → Outcome S X → List ℕ
reply d c = c.number ∷ c.value ∷ bit (d.waits c.state) ∷ []

-- ---- a script: two numbers for each call, its kind and n
-- the whole calls of a script that have room for their answers, three numbers each
abbrev pub calls_for : List ℕ → List ℕ → ℕ
calls_for script ans = min (length script / 2) (length ans / 3)

-- k calls. Each is lent the next bytes and the next places that its kind asks for, or what is left of them; a refused call passes them over
unfoldable pub sent_from : {S X : Type 0} → Calls S X → ℕ → S → List ℕ → List ℕ → List X → List ℕ → Run X
sent_from d zero s bytes script out ans = ran 0 out ans
sent_from d (suc k) s bytes script out ans =
    let b = bytes_for (kind_in script) (number_for script) in
    let p = d.places (kind_in script) (number_for script) in
    let c = d.called (kind_in script) (number_for script) s (take b bytes) (take p out) in
    after 1 c.part (reply d c) (sent_from d k c.state (drop b bytes) (drop 2 script) (drop p out) (drop 3 ans))

-- the sender after them
unfoldable pub sender_after : {S X : Type 0} → Calls S X → ℕ → S → List ℕ → List ℕ → List X → S
sender_after d zero s bytes script out = s
sender_after d (suc k) s bytes script out =
    let b = bytes_for (kind_in script) (number_for script) in
    let p = d.places (kind_in script) (number_for script) in
    let c = d.called (kind_in script) (number_for script) s (take b bytes) (take p out) in
    sender_after d k c.state (drop b bytes) (drop 2 script) (drop p out)
