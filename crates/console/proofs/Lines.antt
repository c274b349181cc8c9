-- Numbers as text, character by character. Assumes nothing.
use Prim.Native.Nat.{ℕ, suc, ◌+◌, ◌≤◌, ◌<◌, min}
use mathlib.Core.Path.{◌≡◌, refl, sym, ap, ◌∙◌}
use mathlib.Core.Logic.{◌⊎◌, inl, inr}
use mathlib.Core.Bool.{false}
use mathlib.Core.List.{List, [], ◌∷◌, ◌++◌}
use native.Mathlib.Nat.{add-zero, le_trans, min-eq_left, min-le_right}
use native.Mathlib.Omega.{arith}
use lib.Dec.{eqb}
use lib.ListN.{length, get_or, drop, set, length-append}
use lib.Seq.{sets, set_out}
use Rattle.numeric.specs.Fold.{fold}
use Rattle.numeric.proofs.Loops.{fold_step, fold_end}
use Rattle.tide.specs.DecoderRep.{most_count}
use Rattle.tide.proofs.DecoderRepLaws.{min-by}
use Rattle.console.proofs.Blocks.{min-add}
use Rattle.console.specs.Numbers.{Reader, reader, grown, ended, took, input_by, input_of, Holds, Steps, StepsOn, StepsSome, StepsAll, Reads}
use Rattle.console.specs.declared.numbers.Line.{Line}
use Rattle.console.specs.declared.numbers.Line.TheVariants.{Blank, Says, Wrong}
use Rattle.console.specs.declared.numbers.Numbers.{Numbers}
use Rattle.console.specs.declared.numbers.InputError.{InputError}
use Rattle.console.specs.declared.numbers.InputError.TheVariants.{WrongLine, Unreadable}
use Rattle.std.specs.Prelude.{Result, Ok, Err, IsErr}

-- ---- what is stored: one number more stands behind those stored, and where the count holds there is no room any more
sets-snoc : (l : List ℕ) (i : ℕ) (vs : List ℕ) (v : ℕ) → sets l i (vs ++ (v ∷ [])) ≡ set (sets l i vs) (i + length vs) v
sets-snoc l i [] v = ap (λ (k : ℕ). set l k v) (sym (add-zero i))
sets-snoc l i (a ∷ vs) v =
    let e : suc i + length vs ≡ i + suc (length vs) = omega arith in
    sets-snoc (set l i a) (suc i) vs v ∙ ap (λ (k : ℕ). set (sets (set l i a) (suc i) vs) k v) e

stored_at : (out : List ℕ) (n v : ℕ) → length out ≤ most_count → set out (min n most_count) v ≡ set out n v
stored_at out n v l = by (min-by n most_count)
  where
    by : ((n ≤ most_count) × (min n most_count ≡ n)) ⊎ ((most_count ≤ n) × (min n most_count ≡ most_count)) → set out (min n most_count) v ≡ set out n v
    by (inl h) = ap (λ (k : ℕ). set out k v) h.1
    by (inr h) = ap (λ (k : ℕ). set out k v) h.1 ∙ set_out out most_count v l ∙ sym (set_out out n v (le_trans l h.0))

-- ---- one character
pub end-says : (t : Numbers) (out out' : List ℕ) (v k : ℕ) → t.line ≡ Says v → length out ≤ most_count → k ≡ min (t.count + 1) most_count → out' ≡ set out t.count v
    → Steps t out 10 (record { count = k; line = Blank }) out'
unfolding took
end-says t out out' v k e l n s = record { holds = λ lent p h. rw (sym h.line ∙ e) (more lent p h) }
  where
    more : (lent : List ℕ) (p : Reader) → Holds lent p t out → Holds lent (reader (p.numbers ++ (v ∷ [])) Blank) (record { count = k; line = Blank }) out'
    more lent p h =
        let ns = p.numbers in
        record {
          count = n ∙ rw (h.count, length-append ns (v ∷ [])) (min-add (length ns) 1 most_count);
          line = refl;
          stored =
              s
              ∙ ap (λ (j : ℕ). set out j v) h.count
              ∙ stored_at out (length ns) v l
              ∙ ap (λ (o : List ℕ). set o (length ns) v) h.stored
              ∙ ap (λ (j : ℕ). set (sets lent 0 ns) j v) (let z : length ns ≡ 0 + length ns = omega arith in z)
              ∙ sym (sets-snoc lent 0 ns v);
        }

pub end-wrong : (t : Numbers) (out : List ℕ) → ((ns : List ℕ) → ended ns t.line ≡ reader ns Wrong) → Steps t out 10 (record { count = t.count; line = Wrong }) out
unfolding took
end-wrong t out e =
    record {
      holds = λ lent p h.
          let f : ended p.numbers p.line ≡ reader p.numbers Wrong = ap (λ (l : Line). ended p.numbers l) (sym h.line) ∙ e p.numbers in
          rw f (record { count = h.count; line = refl; stored = h.stored });
    }

-- a line that says no number is wrong once it is ended
pub not-says : (l : Line) → ((v : ℕ) → l ≡ Says v → ⊥) → (ns : List ℕ) → ended ns l ≡ reader ns Wrong
not-says Blank n ns = refl
not-says (Says v) n ns = absurd (n v refl)
not-says Wrong n ns = refl

pub char-on : (t : Numbers) (out : List ℕ) (c : ℕ) (l : Line) → eqb c 10 ≡ false → l ≡ grown t.line c → Steps t out c (record { count = t.count; line = l }) out
unfolding took
char-on t out c l n e =
    record {
      holds = λ lent p h. rw n (record { count = h.count; line = e ∙ ap (λ (m : Line). grown m c) h.line; stored = h.stored });
    }

-- ---- part of the way through a block
pub record Since (lent : List ℕ) (p : Reader) (cs : List ℕ) (i : ℕ) (r : Numbers) (out : List ℕ) : Type 0 where
  pub now-read : Reader
  pub holds : Holds lent now-read r out
  pub rest : fold took now-read (drop i cs) ≡ fold took p cs

pub record Going (t : Numbers) (out₀ cs : List ℕ) (i : ℕ) (r : Numbers) (out : List ℕ) : Type 0 where
  pub since : (lent : List ℕ) (p : Reader) → Holds lent p t out₀ → Since lent p cs i r out

pub going_start : (t : Numbers) (out cs : List ℕ) → Going t out cs 0 t out
going_start t out cs = record { since = λ lent p h. record { now-read = p; holds = h; rest = refl } }

pub going_on : (t : Numbers) (out₀ cs : List ℕ) (i : ℕ) (r : Numbers) (out : List ℕ) (s : Numbers) (out' : List ℕ)
    → Going t out₀ cs i r out → i < length cs → Steps r out (get_or cs i 0) s out' → Going t out₀ cs (i + 1) s out'
going_on t out₀ cs i r out s out' g b k =
    record {
      since = λ lent p h.
          let w = g.since lent p h in
          record {
            now-read = took w.now-read (get_or cs i 0);
            holds = k.holds lent w.now-read w.holds;
            rest = sym (fold_step took w.now-read cs i 0 b) ∙ w.rest;
          };
    }

pub going_end : (t : Numbers) (out₀ cs : List ℕ) (i : ℕ) (r : Numbers) (out : List ℕ) → Going t out₀ cs i r out → length cs ≤ i → StepsOn t out₀ cs r out
going_end t out₀ cs i r out g b =
    record {
      holds = λ lent p h.
          let w = g.since lent p h in
          let e : w.now-read ≡ fold took p cs = sym (fold_end took w.now-read cs i b) ∙ w.rest in
          rw e at w.holds;
    }

-- ---- block after block
fold-append : (p : Reader) (cs ds : List ℕ) → fold took p (cs ++ ds) ≡ fold took (fold took p cs) ds
fold-append p [] ds = refl
fold-append p (c ∷ cs) ds = fold-append (took p c) cs ds

pub some-none : (t : Numbers) (out : List ℕ) → StepsSome t out t out
some-none t out = record { chars = []; steps = record { holds = λ lent p h. h } }

pub some_more : (t : Numbers) (out : List ℕ) (r : Numbers) (out' : List ℕ) (u : Numbers) (out'' : List ℕ)
    → StepsSome t out r out' → StepsSome r out' u out'' → StepsSome t out u out''
some_more t out r out' u out'' a b =
    record {
      chars = a.chars ++ b.chars;
      steps = record {
        holds = λ lent p h.
            rw (fold-append p a.chars b.chars) (b.steps.holds lent (fold took p a.chars) (a.steps.holds lent p h));
      };
    }

-- where a read failed, none are answered
pub failed : {E : Type 0} (a : Result Numbers E) (t : Numbers) (out : List ℕ) (r : Numbers) (out' : List ℕ) → IsErr a → StepsSome t out r out' → StepsAll t out a out'
failed (Ok x) t out r out' h s = absurd (let z : ◌≡◌ {A = ℕ} 0 1 = cc in omega arith)
failed (Err e) t out r out' h s = record { numbers = r; some = s; answer = tt }

-- where no read failed, the numbers are those answered
pub answered : {E : Type 0} {a : Result Numbers E} (t : Numbers) (out : List ℕ) (r : Numbers) (out' : List ℕ) → a ≡ Ok r → StepsAll t out a out' → StepsSome t out r out'
answered t out r out' e s =
    let f : r ≡ s.numbers = rw e at s.answer in
    rw f s.some

-- ---- the whole of the text
fresh_holds : (out : List ℕ) → Holds out (reader [] Blank) (record { count = 0; line = Blank }) out
fresh_holds out = record { count = refl; line = refl; stored = refl }

held_by : (n : ℕ) (l : Line) → input_by (min n most_count) l ≡ input_by n l
held_by n Blank = ap Ok (min-eq_left (min-le_right n most_count))
held_by n (Says v) = ap (λ (k : ℕ). Err (WrongLine k)) (min-add n 1 most_count)
held_by n Wrong = ap (λ (k : ℕ). Err (WrongLine k)) (min-add n 1 most_count)

held-input : (lent : List ℕ) (p : Reader) (t : Numbers) (out : List ℕ) → Holds lent p t out → input_by t.count t.line ≡ input_of p
held-input lent p t out h = rw (h.count, h.line) (held_by (length p.numbers) p.line)

pub reads_none : (lent : List ℕ) (t : Numbers) (out : List ℕ) → StepsSome (record { count = 0; line = Blank }) lent t out → Reads lent (Err Unreadable) out
reads_none lent t out s =
    record { text = s.chars; stored = (s.steps.holds lent (reader [] Blank) (fresh_holds lent)).stored; answer = λ n. absurd (n refl) }

pub reads_all : (lent : List ℕ) (t : Numbers) (out : List ℕ) (r : Result ℕ InputError) → StepsSome (record { count = 0; line = Blank }) lent t out → r ≡ input_by t.count t.line → Reads lent r out
reads_all lent t out r s e =
    let h = s.steps.holds lent (reader [] Blank) (fresh_holds lent) in
    record { text = s.chars; stored = h.stored; answer = λ n. e ∙ held-input lent (fold took (reader [] Blank) s.chars) t out h }
