-- A loop over codes that counts one part of what they stand for. Assumes nothing.
use Prim.Native.Nat.{ℕ, ◌+◌, ◌<◌, ◌≤◌}
use mathlib.Core.Path.{◌≡◌, refl, ap, ◌∙◌}
use mathlib.Core.List.{List, [], ◌∷◌}
use native.Mathlib.Numerals.{add-one}
use native.Mathlib.Omega.{arith}
use lib.ListN.{length, get_or, drop, drop_of_length-le, length-append}
use lib.Seq.{drop-cons}
use Rattle.happenings.specs.Happening.{byte_of, bad_stop_of, bytes_in, bad_stops_in, happening_of, happenings_of}
use Rattle.happenings.proofs.HappeningLaws.{one-few}
use Rattle.happenings.specs.declared.happening.Happening.{Happening}

-- a count of a list, by a count of each, one at the most
pub record Counts (each : Happening → ℕ) (all : List Happening → ℕ) : Type 0 where
  pub none : all [] ≡ 0
  pub more : (h : Happening) (hs : List Happening) → all (h ∷ hs) ≡ each h + all hs
  pub one : (h : Happening) → each h ≤ 1

pub bytes_count : Counts (λ h. length (byte_of h)) (λ hs. length (bytes_in hs))
unfolding bytes_in
bytes_count = record { none = refl; more = λ h hs. length-append (byte_of h) (bytes_in hs); one = λ h. omega (arith, one-few h) }

pub bads-count : Counts bad_stop_of bad_stops_in
unfolding bad_stops_in
bads-count = record { none = refl; more = λ h hs. refl; one = λ h. omega (arith, one-few h) }

module _ (each : Happening → ℕ) (all : List Happening → ℕ) (codes : List ℕ) where
  -- so many among the first i
  pub record Going (n i : ℕ) : Type 0 where
    pub counted : n + all (happenings_of (drop i codes)) ≡ all (happenings_of codes)
    pub upto : n ≤ i

  pub going_start : Going 0 0
  going_start = record { counted = omega arith; upto = omega arith }

  pub going_on : Counts each all → (n i k : ℕ) → i < length codes → k ≡ each (happening_of (get_or codes i 0)) → Going n i → (k ≤ 1) × Going (n + k) (i + 1)
  unfolding happenings_of
  going_on c n i k h e g =
      let x = happening_of (get_or codes i 0) in
      let d : drop i codes ≡ get_or codes i 0 ∷ drop (i + 1) codes = rw (add-one i) (drop-cons codes i 0 h) in
      let m = ap (λ (l : List ℕ). all (happenings_of l)) d ∙ c.more x (happenings_of (drop (i + 1) codes)) in
      let o = c.one x in
      (omega (arith, e, o), record { counted = omega (arith, g.counted, m, e); upto = omega (arith, g.upto, e, o) })

  pub going_end : Counts each all → (n i : ℕ) → length codes ≤ i → Going n i → n ≡ all (happenings_of codes)
  unfolding happenings_of
  going_end c n i h g =
      let d : all (happenings_of (drop i codes)) ≡ 0 = ap (λ (l : List ℕ). all (happenings_of l)) (drop_of_length-le codes h) ∙ c.none in
      omega (arith, g.counted, d)
