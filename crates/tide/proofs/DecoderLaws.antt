-- What is heard does to a decoder, claimed of the lines that are ended: the reading, the counts, and each line at its place. Assumes nothing.
use Prim.Native.Nat.{ℕ, zero, suc, ◌+◌, ◌-◌, ◌≤◌, ◌<◌}
use mathlib.Core.Path.{◌≡◌, refl, sym, ap, ap₂, ◌∙◌, subst}
use mathlib.Core.Logic.{◌↔◌, ◌⊎◌, inl, inr}
use mathlib.Core.Bool.{Bool, true, false}
use mathlib.Core.List.{List, [], ◌∷◌, ◌++◌, append-nil, append_assoc}
use lib.Dec.{ltb, eqb}
use lib.ListN.{length, get_or, set, take, replicate, length-set, length-append}
use lib.Seq.{get_or_at, get_or-set_same, get_or-set_other}
use native.Mathlib.Omega.{arith}
use native.Mathlib.Nat.{min-eq_left}
use borrow.Author.Tests.{ltb-true, ltb-false, eqb-true, eqb-false, le-leb, ne_eqb}
use Rattle.std.specs.Prelude.{if◌then◌else◌}
use Rattle.refusal.specs.Refusals.{first}
use Rattle.hexadecimal.specs.Hex.{unhex, hex_line, total}
use Rattle.tide.specs.Frame.{reader_of, Intact, Writer, Rules, line_by}
use Rattle.tide.specs.Judge.{Reading, reading_of, Shown, none, shows, Verdict, damage_of, of_fields, judged_of, of_line, later, settle, judge}
use Rattle.tide.specs.Decoder.{Line, Decoder, fresh_decoder, IsAnswer, place, bump, verdict, ended, grown, cleared, Move, ends, grows, loses, resumes, stays, byte_move, move_of, move_at, moved, line_at, verdict_at, took, took_all, lines_in, verdicts_in, laid_in, shown_on, answers_on, Along, times, Tallied, good_of, goods, Below, AtMost, Best, SinceFresh}
use Rattle.tide.specs.DecoderRep.{most_count, held, holding}
use Rattle.happenings.specs.Happening.{byte_of, bytes_in}
use Rattle.happenings.specs.declared.happening.Happening.{Happening}
use Rattle.happenings.specs.declared.happening.Happening.TheVariants.{Byte, BadStop, Lost, Up, Down}
use Rattle.tide.proofs.JudgeLaws.{judge-newer, fields-alike, some-writer}

-- ---- what is heard after what was heard
pub took_all-append : (d : Decoder) (xs ys : List Happening) → took_all d (xs ++ ys) ≡ took_all (took_all d xs) ys
unfolding took_all
took_all-append d [] ys = refl
took_all-append d (x ∷ xs) ys = took_all-append (took d x) xs ys

pub lines_in-append : (d : Decoder) (xs ys : List Happening) → lines_in d (xs ++ ys) ≡ lines_in d xs ++ lines_in (took_all d xs) ys
unfolding took_all lines_in
lines_in-append d [] ys = refl
lines_in-append d (x ∷ xs) ys = rw (lines_in-append (took d x) xs ys, append_assoc) refl

pub verdicts_in-append : (d : Decoder) (xs ys : List Happening) → verdicts_in d (xs ++ ys) ≡ verdicts_in d xs ++ verdicts_in (took_all d xs) ys
unfolding took_all verdicts_in
verdicts_in-append d [] ys = refl
verdicts_in-append d (x ∷ xs) ys = rw (verdicts_in-append (took d x) xs ys, append_assoc) refl

-- ---- the station stays
station-by : (m : Move) (d : Decoder) → (moved d m).station ≡ d.station
unfolding moved ended grown cleared
station-by ends d = refl
station-by (grows c) d = refl
station-by loses d = refl
station-by resumes d = refl
station-by stays d = refl

pub station-stays : (d : Decoder) (hs : List Happening) → (took_all d hs).station ≡ d.station
unfolding took_all took
station-stays d [] = refl
station-stays d (h ∷ hs) = station-stays (took d h) hs ∙ station-by (move_at d h) d

-- ---- the reading is the best of the good lines
below_all : (w₀ w : ℕ) (bs cs : List Reading) (g : Reading) → w₀ < w → g.water ≡ w₀ → Below w₀ bs → AtMost w₀ cs → Below w (bs ++ g ∷ cs)
below_all w₀ w [] [] g h e p q = (omega arith, tt)
below_all w₀ w [] (c ∷ cs) g h e p q =
    let r = below_all w₀ w [] cs g h e p q.1 in
    (r.0, (let a = q.0 in omega arith, r.1))
below_all w₀ w (b ∷ bs) cs g h e p q = (let a = p.0 in omega arith, below_all w₀ w bs cs g h e p.1 q)

at-most-more : (w : ℕ) (cs : List Reading) (g : Reading) → g.water ≤ w → AtMost w cs → AtMost w (cs ++ g ∷ [])
at-most-more w [] g h q = (h, tt)
at-most-more w (c ∷ cs) g h q = (q.0, at-most-more w cs g h q.1)

best-later : (t : Bool) (gs : List Reading) (r g : Reading) → ltb r.water g.water ≡ t → Best gs (shows r)
    → Best (gs ++ g ∷ []) (if t then shows g else shows r)
best-later true gs r g e b =
    (gs, [], refl, rw b.2 (below_all r.water g.water b.0 b.1 r (ltb-true r.water g.water e) refl b.3 b.4), tt)
best-later false gs r g e b =
    (b.0, b.1 ++ g ∷ [], rw (b.2, append_assoc) refl, b.3, at-most-more r.water b.1 g (ltb-false r.water g.water e) b.4)

reading-by : (t : Bool) (a b : Verdict) → (if t then a else b).reading ≡ (if t then a.reading else b.reading)
reading-by true a b = refl
reading-by false a b = refl

-- a good line more
best-good : (gs : List Reading) (s : Shown) (g : Reading) → Best gs s → Best (gs ++ g ∷ []) (settle 0 s g).reading
unfolding settle later
best-good gs none g b = ([], [], rw b refl, tt, tt)
best-good gs (shows r) g b = rw (reading-by (ltb r.water g.water) _ _) (best-later (ltb r.water g.water) gs r g refl b)

-- a line more, good or not
best-line : (t : Bool) (n : ℕ) (gs : List Reading) (s : Shown) (g : Reading) → eqb n 0 ≡ t → Best gs s
    → Best (gs ++ (if t then g ∷ [] else [])) (settle n s g).reading
unfolding settle
best-line true n gs s g e b = rw e (best-good gs s g b)
best-line false n gs s g e b = rw (e, append-nil) b

best-judge : (mine : ℕ) (gs : List Reading) (r : Shown) (l : Line) → Best gs r
    → Best (gs ++ good_of mine l) (judge mine r l.chars l.more).reading
unfolding good_of judge
best-judge mine gs r l b = best-line _ _ gs r _ refl b

best-move : (m : Move) (d : Decoder) (gs : List Reading) → Best gs d.reading
    → Best (gs ++ goods d.station (line_at d m)) (moved d m).reading
unfolding goods moved ended grown cleared verdict
best-move ends d gs h = rw append-nil (best-judge d.station gs d.reading d.line h)
best-move (grows c) d gs h = rw append-nil h
best-move loses d gs h = rw append-nil h
best-move resumes d gs h = rw append-nil h
best-move stays d gs h = rw append-nil h

pub goods-append : (mine : ℕ) (k l : List Line) → goods mine (k ++ l) ≡ goods mine k ++ goods mine l
unfolding goods
goods-append mine [] l = refl
goods-append mine (x ∷ k) l = rw (goods-append mine k l, append_assoc) refl

-- of a decoder that shows the best of gs
pub best-heard : (hs : List Happening) (d : Decoder) (mine : ℕ) (gs : List Reading) → d.station ≡ mine → Best gs d.reading
    → Best (gs ++ goods mine (lines_in d hs)) (took_all d hs).reading
unfolding lines_in took_all took
best-heard [] d mine gs e h = unfold goods in rw append-nil h
best-heard (x ∷ hs) d mine gs e h =
    let f : (took d x).station ≡ mine = station-by (move_at d x) d ∙ e in
    let k : Best (gs ++ goods mine (line_at d (move_at d x))) (took d x).reading = rw (← e) (best-move (move_at d x) d gs h) in
    rw (goods-append, ← append_assoc) (best-heard hs (took d x) mine _ f k)

cons-not : (bs cs : List Reading) (g : Reading) → bs ++ g ∷ cs ≡ [] → ◌≡◌ {A = ℕ} 0 1
cons-not [] cs g e = cc
cons-not (b ∷ bs) cs g e = cc

-- none stands exactly where there was no good line
pub best_none : (gs : List Reading) (r : Shown) → Best gs r → (r ≡ none) ↔ (gs ≡ [])
best_none gs none b = (λ _. b, λ _. refl)
best_none gs (shows r) b =
    (λ e. let z : ◌≡◌ {A = ℕ} 0 1 = cc in absurd (let y = z in omega arith), λ e. absurd (let z = cons-not b.0 b.1 _ (sym b.2 ∙ e) in omega arith))

-- ---- the answers and the reading are those of the lines, judged one after the other
pub shown-append : (mine : ℕ) (r : Shown) (k l : List Line) → shown_on mine r (k ++ l) ≡ shown_on mine (shown_on mine r k) l
unfolding shown_on
shown-append mine r [] l = refl
shown-append mine r (x ∷ k) l = shown-append mine (judge mine r x.chars x.more).reading k l

pub answers-append : (mine : ℕ) (r : Shown) (k l : List Line) → answers_on mine r (k ++ l) ≡ answers_on mine r k ++ answers_on mine (shown_on mine r k) l
unfolding shown_on answers_on
answers-append mine r [] l = refl
answers-append mine r (x ∷ k) l = ap (λ (vs : List ℕ). (judge mine r x.chars x.more).answer ∷ vs) (answers-append mine (judge mine r x.chars x.more).reading k l)

along-none : (mine : ℕ) (r : Shown) → Along mine r [] [] r
unfolding shown_on answers_on
along-none mine r = record { said = refl; left = refl }

along-more : (mine : ℕ) (r q p : Shown) (k l : List Line) (us vs : List ℕ) → Along mine r k us q → Along mine q l vs p → Along mine r (k ++ l) (us ++ vs) p
along-more mine r q p k l us vs a b =
    record {
      said = rw (answers-append mine r k l, ← a.left, a.said, b.said) refl;
      left = rw (shown-append mine r k l, ← a.left) b.left;
    }

along-move : (m : Move) (d : Decoder) → Along d.station d.reading (line_at d m) (verdict_at d m) (moved d m).reading
unfolding moved ended grown cleared verdict shown_on answers_on
along-move ends d = record { said = refl; left = refl }
along-move (grows c) d = along-none _ _
along-move loses d = along-none _ _
along-move resumes d = along-none _ _
along-move stays d = along-none _ _

pub along-heard : (hs : List Happening) (d : Decoder) → Along d.station d.reading (lines_in d hs) (verdicts_in d hs) (took_all d hs).reading
unfolding lines_in verdicts_in took_all took
along-heard [] d = along-none _ _
along-heard (h ∷ hs) d =
    let k = station-by (move_at d h) d in
    along-more d.station _ _ _ _ _ _ _ (along-move (move_at d h) d)
    (subst (λ (n : ℕ). Along n (took d h).reading (lines_in (took d h) hs) (verdicts_in (took d h) hs) (took_all (took d h) hs).reading) k (along-heard hs (took d h)))

length-answers : (mine : ℕ) (r : Shown) (ls : List Line) → length (answers_on mine r ls) ≡ length ls
unfolding answers_on
length-answers mine r [] = refl
length-answers mine r (l ∷ ls) = ap suc (length-answers mine (judge mine r l.chars l.more).reading ls)

-- a line at its place among them: its answer, and what stands after it
pub at_place : (mine : ℕ) (r : Shown) (ls rs : List Line) (l : Line)
    → (get_or (answers_on mine r (ls ++ l ∷ rs)) (length ls) 0 ≡ (judge mine (shown_on mine r ls) l.chars l.more).answer)
    × (shown_on mine r (ls ++ l ∷ []) ≡ (judge mine (shown_on mine r ls) l.chars l.more).reading)
unfolding answers_on shown_on
at_place mine r ls rs l = (
  rw (answers-append mine r ls (l ∷ rs)) (get_or_at (answers_on mine r ls) _ _ 0 (length ls) (length-answers mine r ls)),
  shown-append mine r ls (l ∷ []),
)

-- ---- an answer is one of twelve
choice : (t : Bool) (a b : ℕ) → IsAnswer a → IsAnswer b → IsAnswer (first t a b)
unfolding first
choice true a b p q = p
choice false a b p q = q

between : (n : ℕ) → 11 ≤ n → n ≤ 20 → IsAnswer n
between n p q = inr (inl (p, q))

damage-answers : (l : List ℕ) (m : Bool) → IsAnswer (damage_of l m)
unfolding damage_of
damage-answers l m =
    choice _ 11 _ (between 11 (omega arith) (omega arith))
    (choice _ 12 _ (between 12 (omega arith) (omega arith))
    (choice _ 13 _ (between 13 (omega arith) (omega arith))
    (choice _ 14 _ (between 14 (omega arith) (omega arith))
    (choice _ 15 _ (between 15 (omega arith) (omega arith))
    (choice _ 16 0 (between 16 (omega arith) (omega arith)) (inl refl))))))

judged-answers : (mine : ℕ) (f : List ℕ) → IsAnswer (judged_of mine f)
unfolding judged_of of_fields
judged-answers mine f =
    choice _ 17 _ (between 17 (omega arith) (omega arith))
    (choice _ 18 _ (between 18 (omega arith) (omega arith))
    (choice _ 19 _ (between 19 (omega arith) (omega arith))
    (choice _ 20 0 (between 20 (omega arith) (omega arith)) (inl refl))))

either : (t : Bool) (a b : ℕ) → IsAnswer a → IsAnswer b → IsAnswer (if t then a else b)
either true a b p q = p
either false a b p q = q

of-line : (mine : ℕ) (l : List ℕ) (m : Bool) → IsAnswer (of_line mine l m)
unfolding of_line
of-line mine l m = either (eqb (damage_of l m) 0) _ _ (judged-answers mine (unhex l)) (damage-answers l m)

settle-by : (t u : Bool) (n : ℕ) (r s : Shown) → IsAnswer n
    → IsAnswer (if◌then◌else◌ {A = Verdict} t (if u then record { answer = 0; reading = s } else record { answer = 34; reading = r }) (record { answer = n; reading = r })).answer
settle-by true true n r s h = inl refl
settle-by true false n r s h = inr (inr refl)
settle-by false u n r s h = h

pub judge-answers : (mine : ℕ) (r : Shown) (l : List ℕ) (m : Bool) → IsAnswer (judge mine r l m).answer
unfolding judge settle
judge-answers mine r l m =
    settle-by (eqb (of_line mine l m) 0) (later r (reading_of (unhex l))) (of_line mine l m) r (shows (reading_of (unhex l))) (of-line mine l m)

-- its place
abbrev Placed : ℕ → ℕ → Type 0
Placed n k = ((n ≡ 0) × (k ≡ 0)) ⊎ (((11 ≤ n) × (n ≤ 20) × (k ≡ n - 10)) ⊎ ((n ≡ 34) × (k ≡ 11)))

placed : (n : ℕ) → IsAnswer n → Placed n (place n)
unfolding place
placed n (inl e) = inl (e, rw e refl)
placed n (inr (inl h)) =
    let a : n ≡ 0 → ⊥ = λ e. omega arith in
    let b : n ≡ 34 → ⊥ = λ e. omega arith in
    inr (inl (h.0, h.1, rw (ne_eqb n 0 a, ne_eqb n 34 b, le-leb 11 n h.0, le-leb n 20 h.1) refl))
placed n (inr (inr e)) = inr (inr (e, rw e refl))

lt_of : (n k : ℕ) → Placed n k → k < 12
lt_of n k (inl h) = omega arith
lt_of n k (inr (inl h)) = omega arith
lt_of n k (inr (inr h)) = omega arith

same_of : (m n j k : ℕ) → Placed m j → Placed n k → j ≡ k → m ≡ n
same_of m n j k (inl h) (inl g) e = omega arith
same_of m n j k (inl h) (inr (inl g)) e = omega arith
same_of m n j k (inl h) (inr (inr g)) e = omega arith
same_of m n j k (inr (inl h)) (inl g) e = omega arith
same_of m n j k (inr (inl h)) (inr (inl g)) e = omega arith
same_of m n j k (inr (inl h)) (inr (inr g)) e = omega arith
same_of m n j k (inr (inr h)) (inl g) e = omega arith
same_of m n j k (inr (inr h)) (inr (inl g)) e = omega arith
same_of m n j k (inr (inr h)) (inr (inr g)) e = omega arith

pub place-lt : (n : ℕ) → IsAnswer n → place n < 12
place-lt n h = lt_of n (place n) (placed n h)

-- two answers have two counts
pub place_same : (m n : ℕ) → IsAnswer m → IsAnswer n → place m ≡ place n → m ≡ n
place_same m n p q e = same_of m n _ _ (placed m p) (placed n q) e

-- ---- the counts
bump-one : (t : Bool) (cs : List ℕ) (n a : ℕ) → eqb n a ≡ t → length cs ≡ 12 → IsAnswer n → IsAnswer a
    → get_or (bump cs a) (place n) 0 ≡ get_or cs (place n) 0 + (if t then 1 else 0)
unfolding bump
bump-one true cs n a e l p q =
    let h = place-lt a q in
    let k : place a < length cs = omega arith in
    rw (eqb-true n a e, get_or-set_same cs (place a) _ 0 k) refl
bump-one false cs n a e l p q =
    let h : place n ≡ place a → ⊥ = λ d. eqb-false n a e (place_same n a p q d) in
    rw (get_or-set_other cs (place a) (place n) _ 0 h) (omega arith)

total-set : (cs : List ℕ) (k : ℕ) → k < length cs → total (set cs k (get_or cs k 0 + 1)) ≡ total cs + 1
unfolding total
total-set [] k h = omega arith
total-set (c ∷ cs) zero h = omega arith
total-set (c ∷ cs) (suc k) h =
    let g : k < length cs = omega arith in
    let r = total-set cs k g in
    omega arith

pub bump-total : (cs : List ℕ) (a : ℕ) → length cs ≡ 12 → IsAnswer a → total (bump cs a) ≡ total cs + 1
unfolding bump
bump-total cs a l q = let h = place-lt a q in total-set cs (place a) (omega arith)

tallied-none : (cs : List ℕ) → length cs ≡ 12 → Tallied cs cs []
unfolding times
tallied-none cs l = record { long = l; each = λ n h. omega arith; whole = omega arith }

pub times-append : (n : ℕ) (us vs : List ℕ) → times n (us ++ vs) ≡ times n us + times n vs
unfolding times
times-append n [] vs = omega arith
times-append n (u ∷ us) vs = let h = times-append n us vs in omega arith

tallied-more : (cs ds es us vs : List ℕ) → Tallied cs ds us → Tallied ds es vs → Tallied cs es (us ++ vs)
tallied-more cs ds es us vs a b =
    record {
      long = b.long;
      each = λ n h. omega (arith, a.each n h, b.each n h, times-append n us vs);
      whole = omega (arith, length-append us vs);
    }

tallied-one : (cs : List ℕ) (a : ℕ) → length cs ≡ 12 → IsAnswer a → Tallied cs (bump cs a) (a ∷ [])
unfolding times
tallied-one cs a l q =
    record {
      long = unfold bump in rw length-set l;
      each = λ n h. omega (arith, bump-one (eqb n a) cs n a refl l h q);
      whole = omega (arith, bump-total cs a l q);
    }

tallied-move : (m : Move) (d : Decoder) → length d.counts ≡ 12 → Tallied d.counts (moved d m).counts (verdict_at d m)
unfolding moved ended grown cleared
tallied-move ends d l = tallied-one d.counts _ l (unfold verdict in judge-answers _ _ _ _)
tallied-move (grows c) d l = tallied-none d.counts l
tallied-move loses d l = tallied-none d.counts l
tallied-move resumes d l = tallied-none d.counts l
tallied-move stays d l = tallied-none d.counts l

pub tallied-heard : (hs : List Happening) (d : Decoder) → length d.counts ≡ 12 → Tallied d.counts (took_all d hs).counts (verdicts_in d hs)
unfolding took_all took verdicts_in
tallied-heard [] d l = tallied-none d.counts l
tallied-heard (h ∷ hs) d l =
    let k = tallied-move (move_at d h) d l in
    tallied-more _ _ _ _ _ k (tallied-heard hs (took d h) k.long)

-- ---- as many lines as answers, and no more than bytes
lines-by : (m : Move) (d : Decoder) → length (line_at d m) ≡ length (verdict_at d m)
lines-by ends d = refl
lines-by (grows c) d = refl
lines-by loses d = refl
lines-by resumes d = refl
lines-by stays d = refl

few-by-test : (d : Decoder) (m k : Move) (t : Bool) → length (verdict_at d m) ≤ 1 → length (verdict_at d k) ≤ 1 → length (verdict_at d (if t then m else k)) ≤ 1
few-by-test d m k true p q = p
few-by-test d m k false p q = q

few-byte : (d : Decoder) (skipping : Bool) (c : ℕ) → length (verdict_at d (byte_move skipping c)) ≤ 1
unfolding byte_move
few-byte d false c = few-by-test d _ _ (eqb c 10) (omega arith) (omega arith)
few-byte d true c = few-by-test d _ _ (eqb c 10) (omega arith) (omega arith)

few-by : (d : Decoder) (skipping : Bool) (h : Happening) → length (verdict_at d (move_of h skipping)) ≤ length (byte_of h)
unfolding move_of
few-by d skipping (Byte c) = few-byte d skipping c
few-by d skipping BadStop = omega arith
few-by d skipping Lost = omega arith
few-by d skipping Up = omega arith
few-by d skipping Down = omega arith

pub lines-verdicts : (hs : List Happening) (d : Decoder) → (length (lines_in d hs) ≡ length (verdicts_in d hs)) × (length (verdicts_in d hs) ≤ length (bytes_in hs))
unfolding lines_in verdicts_in bytes_in
lines-verdicts [] d = (refl, omega arith)
lines-verdicts (h ∷ hs) d =
    let m = move_at d h in
    let r = lines-verdicts hs (took d h) in
    let p = length-append (line_at d m) (lines_in (took d h) hs) in
    let q = length-append (verdict_at d m) (verdicts_in (took d h) hs) in
    let b = length-append (byte_of h) (bytes_in hs) in
    (omega (arith, p, q, lines-by m d, r.0), omega (arith, q, b, few-by d d.skipping h, r.1))

-- the counts together grow by no more than the bytes
pub total-heard : (hs : List Happening) (d : Decoder) → length d.counts ≡ 12 → total (took_all d hs).counts ≤ total d.counts + length (bytes_in hs)
total-heard hs d l = omega (arith, (tallied-heard hs d l).whole, (lines-verdicts hs d).1)

-- ---- counts that hold: while together they are no more than one count can say, none has to
held_same : (cs : List ℕ) → total cs ≤ most_count → held cs ≡ cs
unfolding held total
held_same [] h = refl
held_same (n ∷ cs) h =
    let k : n ≤ most_count = omega arith in
    let g : total cs ≤ most_count = omega arith in
    ap₂ (λ (x : ℕ) (xs : List ℕ). x ∷ xs) (min-eq_left k) (held_same cs g)

pub holds : (d : Decoder) → total d.counts ≤ most_count → holding d ≡ d
unfolding holding
holds d h = rw (held_same d.counts h) refl

pub holds-heard : (hs : List Happening) (d : Decoder) → length d.counts ≡ 12 → total d.counts + length (bytes_in hs) ≤ most_count → holding (took_all d hs) ≡ took_all d hs
holds-heard hs d l h = holds (took_all d hs) (omega (arith, total-heard hs d l))

zeros : (n k : ℕ) → ◌≡◌ {A = ℕ} (get_or (replicate n 0) k 0) 0
zeros zero k = refl
zeros (suc n) zero = refl
zeros (suc n) (suc k) = zeros n k

zero-total : total (replicate 12 0) ≡ 0
unfolding total
zero-total = refl

fresh-along : (station : ℕ) (hs : List Happening)
    → Along station none (lines_in (fresh_decoder station) hs) (verdicts_in (fresh_decoder station) hs) (took_all (fresh_decoder station) hs).reading
unfolding fresh_decoder
fresh-along station hs = along-heard hs (fresh_decoder station)

fresh-best : (station : ℕ) (hs : List Happening) → Best (goods station (lines_in (fresh_decoder station) hs)) (took_all (fresh_decoder station) hs).reading
unfolding fresh_decoder
fresh-best station hs = best-heard hs (fresh_decoder station) station [] refl refl

fresh-tallied : (station : ℕ) (hs : List Happening) → Tallied (replicate 12 0) (took_all (fresh_decoder station) hs).counts (verdicts_in (fresh_decoder station) hs)
unfolding fresh_decoder
fresh-tallied station hs = tallied-heard hs (fresh_decoder station) refl

pub since-fresh : (station : ℕ) (hs : List Happening) → SinceFresh station hs
since-fresh station hs =
    let b = fresh-best station hs in
    let t = fresh-tallied station hs in
    let a = fresh-along station hs in
    record {
      reading = b;
      empty = best_none _ _ b;
      counts = λ n h. omega (arith, t.each n h, zeros 12 (place n));
      judged = omega (arith, (lines-verdicts hs (fresh_decoder station)).0, t.whole, zero-total);
      verdicts = a.said;
      shown = a.left;
      each = λ ls rs l e. rw (a.said, e) (at_place station none ls rs l);
      writers = λ ls rs l e p. some-writer l.chars l.more p;
    }

-- ---- a line judged at a decoder
-- two lines that writers write for readers from 1 on, alike in station, stamp, age and level, at decoders alike in station and reading
pub alike : (c d : Decoder) (v w : Writer) → Rules v → Rules w → v.reader ≡ 1 → w.reader ≡ 1
    → v.station ≡ w.station → v.stamp ≡ w.stamp → v.age ≡ w.age → v.level ≡ w.level
    → c.station ≡ d.station → c.reading ≡ d.reading
    → c.line ≡ record { chars = line_by v; more = false } → d.line ≡ record { chars = line_by w; more = false }
    → verdict c ≡ verdict d
unfolding verdict
alike c d v w i j e h s t a l m r p q = rw (p, q, m, r) (fields-alike v w i j e h s t a l d.station d.reading)

-- an intact line for newer readers leaves the reading, and is counted as newer
pub newer : (d : Decoder) (f : List ℕ) → Intact f → 1 < reader_of f → d.line ≡ record { chars = hex_line f; more = false }
    → ((ended d).reading ≡ d.reading) × ((ended d).counts ≡ bump d.counts 17)
unfolding ended verdict
newer d f i h e =
    (rw (e, judge-newer d.station d.reading f i h) refl, rw (e, judge-newer d.station d.reading f i h) refl)

-- ---- answers laid in a slice
take_none : (n : ℕ) → take {A = ℕ} n [] ≡ []
take_none zero = refl
take_none (suc n) = refl

-- one more stands behind those before it, where there is room
pub laid_more : (vs : List ℕ) (a : ℕ) (out : List ℕ) → laid_in (vs ++ a ∷ []) out ≡ set (laid_in vs out) (length vs) a
unfolding laid_in
laid_more [] a [] = refl
laid_more [] a (o ∷ out) = rw (take_none (length out)) refl
laid_more (v ∷ vs) a [] = refl
laid_more (v ∷ vs) a (o ∷ out) = ap (λ (xs : List ℕ). v ∷ xs) (laid_more vs a out)

pub laid_none : (out : List ℕ) → laid_in [] out ≡ out
unfolding laid_in
laid_none out = rw (take_none (length out)) refl

pub laid-length : (vs out : List ℕ) → length (laid_in vs out) ≡ length out
unfolding laid_in
laid-length [] out = rw (take_none (length out)) refl
laid-length (v ∷ vs) [] = refl
laid-length (v ∷ vs) (o ∷ out) = ap suc (laid-length vs out)

-- where there is room for all, all stand at the front
pub laid-front : (vs out : List ℕ) → length vs ≤ length out → take (length vs) (laid_in vs out) ≡ vs
unfolding laid_in
laid-front [] out h = refl
laid-front (v ∷ vs) [] h = absurd (omega arith)
laid-front (v ∷ vs) (o ∷ out) h = ap (λ (xs : List ℕ). v ∷ xs) (laid-front vs out (omega arith))
