-- One call of a sender between two places of a script. Assumes nothing.
use Rattle.std.specs.Prelude.{ℕ, ◌≡◌, List, ◌++◌, take, drop}
use Rattle.calls.specs.Script.{Outcome, bytes_for, Calls, reply}

-- where a script stands: the sender, and how much of the bytes and of the lent places is behind it
pub record At (S : Type 0) : Type 0 where
  pub state : S
  pub read : ℕ
  pub written : ℕ

abbrev pub standing : {S : Type 0} → S → ℕ → ℕ → At S
standing s r w = record { state = s; read = r; written = w }

-- what the call at p gives
abbrev pub called_at : {S X : Type 0} → Calls S X → At S → ℕ → ℕ → List ℕ → List X → Outcome S X
called_at d p kind n bytes out =
    d.called kind n p.state (take (bytes_for kind n) (drop p.read bytes)) (take (d.places kind n) (drop p.written out))

-- a call leads from p to q, from out to out', and to ans', where the answers were before, three numbers, and behind
pub record Stepped {S X : Type 0} (d : Calls S X) (p q : At S) (kind n : ℕ) (bytes : List ℕ) (out out' : List X) (before behind ans' : List ℕ) : Type 0 where
  pub state : q.state ≡ (called_at d p kind n bytes out).state
  pub left : drop q.read bytes ≡ drop (bytes_for kind n) (drop p.read bytes)
  pub front : take q.written out' ≡ take p.written out ++ (called_at d p kind n bytes out).part
  pub rest : drop q.written out' ≡ drop (d.places kind n) (drop p.written out)
  pub answers : ans' ≡ before ++ (reply d (called_at d p kind n bytes out) ++ behind)
