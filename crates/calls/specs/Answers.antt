-- How an answer stands in a list of numbers. Assumes nothing.
use Rattle.std.specs.Prelude.{ℕ, Bool, true, false, List, [], ◌∷◌}
use Rattle.refusal.specs.Refusals.{Reply, given, refused}
use Rattle.calls.specs.declared.answers.Heard.{Heard}

-- the refusal's number, 0 where there is none
abbrev pub number_in : {A : Type 0} → Reply A → ℕ
number_in (given n) = 0
number_in (refused k) = k

-- the count, 0 where the call is refused
abbrev pub count_in : Reply ℕ → ℕ
count_in (given n) = n
count_in (refused k) = 0

-- the same answer, without what it gives
abbrev pub accepted_in : {A : Type 0} → Reply A → Reply Unit
accepted_in (given n) = given tt
accepted_in (refused k) = refused k

-- the two numbers of a call's answer
abbrev pub reply : Reply ℕ → List ℕ
reply r = number_in r ∷ count_in r ∷ []

-- yes as 1 and no as 0
abbrev pub bit : Bool → ℕ
bit true = 1
bit false = 0

-- an event or none as a byte
abbrev pub bit_in : List Bool → ℕ
bit_in [] = 0
bit_in (e ∷ es) = bit e

-- the six numbers that the code holds
abbrev pub heard_of : Heard → List ℕ
heard_of h = h.number ∷ h.bytes ∷ h.events ∷ h.carrier ∷ h.errors ∷ h.bad_stops ∷ []
