-- The receiver's loop over samples at 8,000 Hz, turn by turn. Assumes nothing.
use Prim.Native.Nat.{ℕ, ◌+◌, ◌-◌, ◌<◌, ◌≤◌}
use mathlib.Core.Path.{◌≡◌, refl, sym, ap, ◌∙◌}
use mathlib.Core.List.{List, [], ◌++◌, append-nil, append_assoc}
use native.Mathlib.Nat.{add-zero}
use native.Mathlib.Omega.{arith}
use lib.ListN.{length, get_or, drop, length-append}
use lib.Seq.{drop-drop}
use lib.Ieee.{Float, nan}
use Rattle.happenings.specs.Happening.{happenings_of}
use Rattle.happenings.specs.Codes.{most_steps, most_codes, Codes, heard_in}
use Rattle.happenings.specs.declared.happening.Happening.{Happening}
use Rattle.demodulation.specs.Demod.{Demodulator, Step, happens, hearing, step_of}
use Rattle.demodulation.proofs.DemodLaws.{hearing-turn, hearing-end, hearing-two, after_turn, happenings-turn}
use Rattle.demodulation.specs.Listening.{Put}

-- ---- one put after another
pub put-none : (n : ℕ) (codes : List ℕ) → Codes codes → Put n codes [] n codes
put-none n codes l = record { waits = sym (append-nil (heard_in n codes)); count = sym (add-zero n); rest = refl; places = l }

-- what is the same behind m is the same behind more
behind : (m k : ℕ) (a b : List ℕ) → m ≤ k → drop m b ≡ drop m a → drop k b ≡ drop k a
behind m k a b h e =
    let split : m + (k - m) ≡ k = omega (arith, h) in
    ap (λ (n : ℕ). drop n b) (sym split) ∙ sym (drop-drop (k - m) m b) ∙ ap (drop (k - m)) e ∙ drop-drop (k - m) m a ∙ ap (λ (n : ℕ). drop n a) split

pub put_both : (n m k : ℕ) (a b c : List ℕ) (xs ys : List Happening) → Put n a xs m b → Put m b ys k c → Put n a (xs ++ ys) k c
put_both n m k a b c xs ys p q =
    record {
      waits = q.waits ∙ ap (λ (l : List Happening). l ++ ys) p.waits ∙ append_assoc (heard_in n a) xs ys;
      count = rw (length-append xs ys) (omega (arith, p.count, q.count));
      rest = q.rest ∙ behind m k a b (omega (arith, q.count)) p.rest;
      places = q.places;
    }

-- ---- from sample i on, the rest does what the whole does from the start
pub record Going (xs : List Float) (d₀ : Demodulator) (codes₀ codes : List ℕ) (d : Demodulator) (n : ℕ) (i : ℕ) : Type 0 where
  pub after : (hearing d (drop i xs)).after ≡ (hearing d₀ xs).after
  pub heard : heard_in n codes ++ (hearing d (drop i xs)).happenings ≡ (hearing d₀ xs).happenings
  pub counted : n + length (hearing d (drop i xs)).happenings ≡ length (hearing d₀ xs).happenings
  pub rest : drop n codes ≡ drop n codes₀
  pub places : Codes codes
  pub few : length xs ≤ most_steps

pub going_start : (xs : List Float) (d : Demodulator) (codes : List ℕ) → Codes codes → length xs ≤ most_steps → Going xs d codes codes d 0 0
unfolding happenings_of
going_start xs d codes p f = record { after = refl; heard = refl; counted = omega arith; rest = refl; places = p; few = f }

-- what was heard when the loop is through
pub record Gone (xs : List Float) (d₀ : Demodulator) (codes₀ codes : List ℕ) (d : Demodulator) (n : ℕ) : Type 0 where
  pub after : d ≡ (hearing d₀ xs).after
  pub heard : heard_in n codes ≡ (hearing d₀ xs).happenings
  pub count : n ≡ length (hearing d₀ xs).happenings
  pub few : n ≤ most_codes
  pub rest : drop n codes ≡ drop n codes₀
  pub places : Codes codes

module _ (xs : List Float) (d₀ : Demodulator) (codes₀ codes : List ℕ) (d : Demodulator) (n : ℕ) (i : ℕ) (g : Going xs d₀ codes₀ codes d n i) where
  module _ (x : Step) (h : i < length xs) (is : x ≡ step_of d (get_or xs i nan)) where
    left : length (hearing d (drop i xs)).happenings ≡ length (happens d x) + length (hearing x.state (drop (i + 1) xs)).happenings
    left = rw (hearing-turn d xs i nan h, ← is) (length-append (happens d x) _)

    -- what happens at a step has room
    pub room : n + length (happens d x) ≤ most_codes
    room = omega (arith, left, g.counted, g.few, hearing-two d₀ xs)

    pub going_on : (codes' : List ℕ) (n' : ℕ) → Put n codes (happens d x) n' codes' → Going xs d₀ codes₀ codes' x.state n' (i + 1)
    going_on codes' n' k =
        record {
          after = rw is (after_turn d xs i nan h) ∙ g.after;
          heard = rw (k.waits, is) (happenings-turn d xs i nan h (heard_in n codes)) ∙ g.heard;
          counted = omega (arith, left, g.counted, k.count);
          rest = k.rest ∙ behind n n' codes₀ codes (omega (arith, k.count)) g.rest;
          places = k.places;
          few = g.few;
        }

  pub going_end : length xs ≤ i → Gone xs d₀ codes₀ codes d n
  going_end l =
      let e = hearing-end d xs i l in
      let c : n ≡ length (hearing d₀ xs).happenings = sym (add-zero n) ∙ rw e at g.counted in
      record {
        after = sym (ap (λ h. h.after) e) ∙ g.after;
        heard = sym (append-nil (heard_in n codes)) ∙ rw e at g.heard;
        count = c;
        few = omega (arith, c, g.few, hearing-two d₀ xs);
        rest = g.rest;
        places = g.places;
      }
