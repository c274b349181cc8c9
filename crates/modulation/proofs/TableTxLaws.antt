-- The sender that has no floats, by the sample's number: no drift, the closed form, and what the other end hears. Assumes nothing.
use Prim.Native.Nat.{ℕ, zero, suc, ◌+◌, ◌*◌, ◌-◌, ◌%◌, ◌/◌, ◌<◌}
use mathlib.Core.Path.{◌≡◌, refl, sym, ap, ap₂, ◌∙◌}
use mathlib.Core.Bool.{Bool, true, false}
use mathlib.Core.List.{List, [], ◌∷◌, ◌++◌}
use native.Mathlib.Omega.{arith}
use native.Mathlib.Nat.{zero-add, suc-add}
use native.Mathlib.Numerals.{add-one}
use borrow.Author.Tests.{le-leb, lt-leb, leb-true, leb-false, ltb-true, ltb-false, eqb-true, eq-eqb}
use lib.Dec.{ltb, eqb}
use lib.IntN.{ℤ}
use lib.ListN.{length, get_or, drop}
use Rattle.std.specs.Prelude.{if◌then◌else◌}
use Rattle.numeric.specs.F64.{whole}
use Rattle.bell103.specs.Roles.{tones_of}
use Rattle.bell103.specs.declared.Role.{Role}
use Rattle.bell103.specs.declared.Role.TheVariants.{Originate, Answer}
use Rattle.framing.specs.Frame.{mark, Idle}
use Rattle.framing.specs.Framing.{HeardAs}
use Rattle.framing.specs.declared.frame.Deframer.{Deframer}
use Rattle.modulation.specs.Bits.{next_bit, rest_bits}
use Rattle.modulation.specs.Requests as requests
use Rattle.modulation.specs.Requests.{symbols, queue_after, bytes_asked, OfBytes}
use Rattle.modulation.specs.Table.{places, entry_of}
use Rattle.modulation.specs.TableTx.{hops_of, hop_of, Phase, phase, begins, begun, moved, Sent, sending, sent, fresh_table, phase_asked}
use Rattle.modulation.specs.TableTx.{begins_at, symbol_at, travelled, samples_from, Beat, ask, sample, samples_of, count_of, turns_of, reads, EachEntry, bits_sent}
use Rattle.modulation.specs.declared.table_tx.Hops.{Hops}
use Rattle.modulation.proofs.RequestLaws.{both_ends}
use Rattle.modulation.proofs.TableSteps.{samples-one-on}

-- ---- "a fifth of the tone": the tones are Bell 103's
pub hops-are : (role : Role) → (whole (5 * (hops_of role).mark) ≡ (tones_of role).mark) × (whole (5 * (hops_of role).space) ≡ (tones_of role).space)
unfolding hops_of tones_of
hops-are Originate = (refl, refl)
hops-are Answer = (refl, refl)

-- ---- no drift
-- symbol m is in force at sample 80 × m / 3, rounded up, and at none before
pub no-drift : (m : ℕ) → (symbol_at (begins_at m) ≡ m) × ((s : ℕ) → s < begins_at m → symbol_at s < m)
no-drift m = (omega arith, λ s h. omega arith)

-- as many symbols have begun as begin with a sample that was given
abbrev pub Clock : Phase → Type 0
Clock k = k.symbols ≡ (3 * k.samples + 77) / 80

-- so the next symbol begins with the next sample exactly where that is its own
pub begins-when : (k : Phase) → Clock k → begins k.symbols k.samples ≡ eqb k.samples (begins_at k.symbols)
begins-when k c = go (eqb k.samples (begins_at k.symbols)) refl
  where
    go : (b : Bool) → eqb k.samples (begins_at k.symbols) ≡ b → begins k.symbols k.samples ≡ b
    go true e = let s = eqb-true k.samples (begins_at k.symbols) e in le-leb (80 * k.symbols) (3 * k.samples) (omega (arith, c, s))
    go false e = later (ltb (3 * k.samples) (80 * k.symbols)) refl
      where
        no : k.samples ≡ begins_at k.symbols → ⊥
        no s = let z : true ≡ false = sym (eq-eqb k.samples (begins_at k.symbols) s) ∙ e in absurd (let w : ◌≡◌ {A = ℕ} 0 1 = cc in omega arith)

        later : (b : Bool) → ltb (3 * k.samples) (80 * k.symbols) ≡ b → begins k.symbols k.samples ≡ false
        later true f = lt-leb (80 * k.symbols) (3 * k.samples) (ltb-true (3 * k.samples) (80 * k.symbols) f)
        later false f = let l = ltb-false (3 * k.samples) (80 * k.symbols) f in absurd (no (omega (arith, c, l)))

-- ---- reads cut anywhere give the same samples
pub sent-more : (n m : ℕ) (h : Hops) (k : Phase) → sent (n + m) h k ≡ sending ((sent n h k).samples ++ (sent m h (sent n h k).after).samples) (sent m h (sent n h k).after).after
unfolding sent
sent-more zero m h k = rw (zero-add m)
sent-more (suc n) m h k = rw (suc-add n m) (ap (λ (s : Sent). sending (entry_of k.place ∷ s.samples) s.after) (sent-more n m h (moved h (begun k))))

-- so a list of calls may be taken sample by sample
pub read-beats : (n : ℕ) (h : Hops) (k : Phase) (bs : List Beat) → samples_of h k (reads n ++ bs) ≡ (sent n h k).samples ++ samples_of h (sent n h k).after bs
unfolding sent samples_of reads
read-beats zero h k bs = refl
read-beats (suc n) h k bs = ap (λ (xs : List ℤ). entry_of k.place ∷ xs) (read-beats n h (moved h (begun k)) bs)

-- ---- every sample is an entry of the table
begun-place : (k : Phase) → (begun k).place ≡ k.place
unfolding begun
begun-place k = go (begins k.symbols k.samples)
  where
    go : (b : Bool) → (if b then phase k.place (next_bit k.bits) (k.symbols + 1) k.samples (rest_bits k.bits) else k).place ≡ k.place
    go true = refl
    go false = refl

moved-place : (h : Hops) (k : Phase) → (moved h k).place < places
unfolding moved
moved-place h k = omega arith

pub each-entry : (n : ℕ) (h : Hops) (k : Phase) → k.place < places → EachEntry (sent n h k).samples
unfolding sent EachEntry
each-entry zero h k l = tt
each-entry (suc n) h k l = ((k.place, l, refl), each-entry n h (moved h (begun k)) (moved-place h (begun k)))

-- ---- the closed form
drop_head : (l : List Bool) (m : ℕ) (x : Bool) (xs : List Bool) → drop m l ≡ x ∷ xs → (get_or l m mark ≡ x) × (drop (m + 1) l ≡ xs)
drop_head [] zero x xs e = let z : ◌≡◌ {A = ℕ} 0 1 = ap length e ∙ cc in absurd (omega arith)
drop_head [] (suc m) x xs e = let z : ◌≡◌ {A = ℕ} 0 (length (x ∷ xs)) = ap length e in absurd (omega arith)
drop_head (y ∷ ys) zero x xs e = (cc, cc)
drop_head (y ∷ ys) (suc m) x xs e = rw (suc-add m 1) (drop_head ys m x xs e)

-- the sender stands where the bits sent so far, the first of `all`, put it; the others are still to be sent
record Stands (h : Hops) (all : List Bool) (k : Phase) (bs : List Beat) : Type 0 where
  place : k.place ≡ travelled h all k.samples % places
  clock : Clock k
  last : 0 < k.symbols → k.current ≡ get_or all (k.symbols - 1) mark
  rest : drop k.symbols all ≡ symbols k.bits (turns_of k.symbols k.samples bs)

module _ (h : Hops) (all : List Bool) where
  -- a sample moves the place on by the symbol in force
  further : (k : Phase) (c : Bool) → k.place ≡ travelled h all k.samples % places → c ≡ get_or all (symbol_at k.samples) mark
      → (k.place + hop_of h c) % places ≡ travelled h all (k.samples + 1) % places
  unfolding travelled
  further k c e f = rw (add-one k.samples, ← f) (omega (arith, e))

  module _ (k : Phase) (bs : List Beat) (s : Stands h all k (sample ∷ bs)) where
    stands-begun : begins k.symbols k.samples ≡ true → Stands h all (moved h (begun k)) bs
    unfolding moved begun turns_of symbols
    stands-begun e =
        let c = s.clock in
        let l = leb-true (80 * k.symbols) (3 * k.samples) e in
        let i : symbol_at k.samples ≡ k.symbols = omega (arith, c, l) in
        let r : drop k.symbols all ≡ next_bit k.bits ∷ symbols (rest_bits k.bits) (turns_of (k.symbols + 1) (k.samples + 1) bs) = s.rest ∙ rw e in
        let d = drop_head all k.symbols _ _ r in
        let z : k.symbols + 1 - 1 ≡ k.symbols = omega arith in
        rw e (record {
          place = further k (next_bit k.bits) s.place (rw i (sym d.0));
          clock = omega (arith, c, l);
          last = λ _. rw z (sym d.0);
          rest = d.1;
        })

    stands_on : begins k.symbols k.samples ≡ false → Stands h all (moved h (begun k)) bs
    unfolding moved begun turns_of
    stands_on e =
        let c = s.clock in
        let l = leb-false (80 * k.symbols) (3 * k.samples) e in
        let i : symbol_at k.samples ≡ k.symbols - 1 = omega (arith, c, l) in
        let r : drop k.symbols all ≡ symbols k.bits (turns_of k.symbols (k.samples + 1) bs) = s.rest ∙ rw e in
        rw e (record {
          place = further k k.current s.place (rw i (s.last (omega (arith, c, l))));
          clock = omega (arith, c, l);
          last = s.last;
          rest = r;
        })

    stands-sample : Stands h all (moved h (begun k)) bs
    stands-sample = go (begins k.symbols k.samples) refl
      where
        go : (b : Bool) → begins k.symbols k.samples ≡ b → Stands h all (moved h (begun k)) bs
        go true e = stands-begun e
        go false e = stands_on e

  stands-asked : (k : Phase) (r : requests.Request) (bs : List Beat) → Stands h all k (ask r ∷ bs) → Stands h all (phase_asked k r) bs
  unfolding turns_of symbols
  stands-asked k r bs s = record { place = s.place; clock = s.clock; last = s.last; rest = s.rest }

  from-there : (k : Phase) (bs : List Beat) → Stands h all k bs → samples_of h k bs ≡ samples_from h all k.samples (count_of bs)
  unfolding samples_of samples_from count_of
  from-there k [] s = refl
  from-there k (ask r ∷ bs) s = from-there (phase_asked k r) bs (stands-asked k r bs s)
  from-there k (sample ∷ bs) s =
      ap₂ (λ (x : ℤ) (xs : List ℤ). x ∷ xs) (ap entry_of s.place)
      (from-there (moved h (begun k)) bs (stands-sample k bs s) ∙ ap (λ (n : ℕ). samples_from h all n (count_of bs)) (samples-one-on h k))

-- whatever is asked between the samples, sample s is the table's entry of the place to which the bits sent before have moved the phase
pub closed-form : (role : Role) (bs : List Beat) → samples_of (hops_of role) (fresh_table role).phase bs ≡ samples_from (hops_of role) (bits_sent bs) 0 (count_of bs)
unfolding travelled
closed-form role bs =
    from-there (hops_of role) (bits_sent bs) (fresh_table role).phase bs
    (record { place = refl; clock = refl; last = λ z. absurd (omega arith); rest = refl })

-- ---- what the other end hears of the bits sent, and of those that still wait: the bytes of the accepted writes, in order, without error
pub table-heard : (d : Deframer) → Idle d → (bs : List Beat) → OfBytes (turns_of 0 0 bs)
    → HeardAs d (bits_sent bs ++ queue_after [] (turns_of 0 0 bs)) (bytes_asked [] (turns_of 0 0 bs))
table-heard d p bs h = both_ends d p (turns_of 0 0 bs) h
