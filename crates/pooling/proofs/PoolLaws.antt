-- What holds of every three gauges (specs/Claims.antt). Assumes nothing.
use Prim.Native.Nat.{ℕ, ◌+◌, ◌-◌, ◌≤◌}
use mathlib.Core.Path.{◌≡◌, refl, sym, ap₂, subst, ◌∙◌}
use mathlib.Core.Logic.{◌⊎◌, inl, inr}
use mathlib.Core.Bool.{Bool, true, false}
use mathlib.Core.List.{List, [], ◌∷◌, ◌++◌, append-nil}
use native.Mathlib.Omega.{arith, min_cases, max_cases}
use borrow.Author.Tests.{ltb-true, ltb-false}
use lib.IntN.{ℤ}
use Rattle.std.specs.Prelude.{if◌then◌else◌}
use Rattle.refusal.specs.Refusals.{Reply, given, refused}
use Rattle.tide.specs.Judge.{Reading, Shown, none, shows}
use Rattle.pooling.specs.Pool.{there, readings, newest, too_old, kept_of, kept, oldest, lower, higher, level_of, shown_by, pooled, pool_of}
use Rattle.pooling.specs.Claims.{Each, Some, Middle, Shows, Pools, Missing}
use Rattle.pooling.proofs.LevelLaws.{Ordered, sides, is-middle, lower-swap, middle-first-two, middle-last-two}

-- ---- each and some
each_map : {P Q : Reading → Type 0} → ((r : Reading) → P r → Q r) → (rs : List Reading) → Each P rs → Each Q rs
each_map f [] e = tt
each_map f (r ∷ rs) e = (f r e.0, each_map f rs e.1)

some-map : {P Q : Reading → Type 0} → ((r : Reading) → P r → Q r) → (rs : List Reading) → Some P rs → Some Q rs
some-map {P = P} {Q = Q} f [] x' = elim x' [ ]
some-map f (r ∷ rs) (inl p) = inl (f r p)
some-map f (r ∷ rs) (inr s) = inr (some-map f rs s)

some_out : {P : Reading → Type 0} {Q : Type 0} → ((r : Reading) → P r → Q) → (rs : List Reading) → Some P rs → Q
some_out {P = P} {Q = Q} f [] x' = elim x' [ ]
some_out f (r ∷ rs) (inl p) = f r p
some_out f (r ∷ rs) (inr s) = some_out f rs s

both : (P Q : Reading → Type 0) (rs : List Reading) → Some P rs → Each Q rs → Some (λ (r : Reading). P r × Q r) rs
both P Q [] x'' e = elim x'' [ ]
both P Q (r ∷ rs) (inl p) e = inl (p, e.0)
both P Q (r ∷ rs) (inr s) e = inr (both P Q rs s e.1)

-- ---- what is kept
-- no kept reading is more than 5 minutes older
recent-at : (n : ℕ) (rs : List Reading) → Each (λ (r : Reading). n ≤ r.water + 5) (kept_of n rs)
unfolding kept_of
recent-at n [] = tt
recent-at n (r ∷ rs) = by (too_old n r) refl (recent-at n rs)
  where
    by : (t : Bool) → too_old n r ≡ t → Each (λ (k : Reading). n ≤ k.water + 5) (kept_of n rs)
        → Each (λ (k : Reading). n ≤ k.water + 5) (if t then kept_of n rs else r ∷ kept_of n rs)
    by true e h = h
    by false e h = let l = ltb-false 5 (n - r.water) e in (omega arith, h)

-- one that was kept is kept, whatever stands before it
some-kept : (P : Reading → Type 0) (n : ℕ) (r : Reading) (rs : List Reading) → Some P (kept_of n rs) → Some P (kept_of n (r ∷ rs))
unfolding kept_of
some-kept P n r rs s = by (too_old n r)
  where
    by : (t : Bool) → Some P (if t then kept_of n rs else r ∷ kept_of n rs)
    by true = s
    by false = inr s

-- every one within 5 minutes is kept
all-at : (n : ℕ) (rs : List Reading) → Each (λ (r : Reading). n ≤ r.water + 5 → Some (λ (k : Reading). k ≡ r) (kept_of n rs)) rs
all-at n [] = tt
all-at n (r ∷ rs) = (first, each_map (λ s h w. some-kept (λ (k : Reading). k ≡ s) n r rs (h w)) rs (all-at n rs))
  where
    by : (t : Bool) → too_old n r ≡ t → n ≤ r.water + 5 → Some (λ (k : Reading). k ≡ r) (if t then kept_of n rs else r ∷ kept_of n rs)
    by true e w = let l = ltb-true 5 (n - r.water) e in absurd (omega arith)
    by false e w = inl refl

    first : n ≤ r.water + 5 → Some (λ (k : Reading). k ≡ r) (kept_of n (r ∷ rs))
    first w = unfold kept_of in by (too_old n r) refl w

-- one that is kept is there
each-kept : (P : Reading → Type 0) (n : ℕ) (rs : List Reading) → Each P rs → Each P (kept_of n rs)
unfolding kept_of
each-kept P n [] e = tt
each-kept P n (r ∷ rs) e = by (too_old n r) (each-kept P n rs e.1)
  where
    by : (t : Bool) → Each P (kept_of n rs) → Each P (if t then kept_of n rs else r ∷ kept_of n rs)
    by true h = h
    by false h = (e.0, h)

each-there : (rs : List Reading) → Each (λ (k : Reading). Some (λ (r : Reading). r ≡ k) rs) rs
each-there [] = tt
each-there (r ∷ rs) = (inl refl, each_map (λ k s. inr s) rs (each-there rs))

-- the newest is one of those that are there
newest-some : (r : Reading) (rs : List Reading) → Some (λ (s : Reading). s.water ≡ newest (r ∷ rs)) (r ∷ rs)
unfolding newest
newest-some r [] = inl (omega arith)
newest-some r (s ∷ rs) =
    let h = newest-some s rs in
    max_cases r.water (newest (s ∷ rs)) (Some (λ (k : Reading). k.water ≡ newest (r ∷ s ∷ rs)) (r ∷ s ∷ rs))
    (λ l e. inr (some-map (λ k f. f ∙ sym e) (s ∷ rs) h))
    (λ l e. inl (sym e))

-- and so it is kept: where there is a reading, one is kept
pub record Kept (rs : List Reading) : Type 0 where
  pub first : Reading
  pub others : List Reading
  pub are : kept rs ≡ first ∷ others

some_first : (P : Reading → Type 0) (rs ks : List Reading) → kept rs ≡ ks → Some P ks → Kept rs
some_first P rs [] e s = elim s [ ]
some_first P rs (k ∷ ks) e s = record { first = k; others = ks; are = e }

pub kept-some : (r : Reading) (rs : List Reading) → Kept (r ∷ rs)
kept-some r rs =
    let n = newest (r ∷ rs) in
    let s = both (λ (k : Reading). k.water ≡ n) (λ (k : Reading). n ≤ k.water + 5 → Some (λ (x : Reading). x ≡ k) (kept (r ∷ rs))) (r ∷ rs)
    (newest-some r rs) (all-at n (r ∷ rs)) in
    some_out (λ k h. some_first (λ (x : Reading). x ≡ k) (r ∷ rs) _ refl (h.1 (omega (arith, h.0)))) (r ∷ rs) s

-- ---- what is shown of those kept
-- the minute is at most that of each, and one of theirs
oldest-least : (r : Reading) (rs : List Reading) → Each (λ (k : Reading). oldest r rs ≤ k.water) (r ∷ rs)
unfolding oldest
oldest-least r [] = (omega arith, tt)
oldest-least r (s ∷ rs) = (omega arith, each_map (λ k h. omega arith) (s ∷ rs) (oldest-least s rs))

oldest-one : (r : Reading) (rs : List Reading) → Some (λ (k : Reading). k.water ≡ oldest r rs) (r ∷ rs)
unfolding oldest
oldest-one r [] = inl refl
oldest-one r (s ∷ rs) =
    let h = oldest-one s rs in
    min_cases r.water (oldest s rs) (Some (λ (k : Reading). k.water ≡ oldest r (s ∷ rs)) (r ∷ s ∷ rs))
    (λ l e. inl (sym e))
    (λ l e. inr (some-map (λ k f. f ∙ sym e) (s ∷ rs) h))

-- the level is one of theirs
level-one : (r : Reading) (rs : List Reading) → Some (λ (k : Reading). k.level ≡ level_of r rs) (r ∷ rs)
unfolding level_of
level-one r [] = inl refl
level-one r (s ∷ []) = by (sides r.level s.level)
  where
    by : Ordered r.level s.level (lower r.level s.level) (higher r.level s.level)
        ⊎ Ordered s.level r.level (lower r.level s.level) (higher r.level s.level)
        → Some (λ (k : Reading). k.level ≡ lower r.level s.level) (r ∷ s ∷ [])
    by (inl o) = inl (sym o.low)
    by (inr o) = inr (inl (sym o.low))
level-one r (s ∷ t ∷ rs) = by (is-middle r.level s.level t.level).one
  where
    by : {m : ℤ} → (r.level ≡ m) ⊎ (s.level ≡ m) ⊎ (t.level ≡ m) → Some (λ (k : Reading). k.level ≡ m) (r ∷ s ∷ t ∷ rs)
    by (inl e) = inl e
    by (inr (inl e)) = inr (inl e)
    by (inr (inr e)) = inr (inr (inl e))

-- of three it is the middle
level-middle : (r s t : Reading) (k : Reading) (ks : List Reading) → k ∷ ks ≡ r ∷ s ∷ t ∷ [] → Middle r.level s.level t.level (level_of k ks)
unfolding level_of
level-middle r s t k ks e =
    let f : k ≡ r = cc in
    let g : ks ≡ s ∷ t ∷ [] = cc in
    rw (f, g) (is-middle r.level s.level t.level).is

shows_kept : (rs : List Reading) (k : Kept rs) → Shows rs (shown_by k.first k.others)
unfolding shown_by
shows_kept rs k =
    record {
      among = each-kept _ (newest rs) rs (each-there rs);
      recent = recent-at (newest rs) rs;
      all = all-at (newest rs) rs;
      level = rw k.are (level-one k.first k.others);
      middle = λ r s t e. level-middle r s t k.first k.others (sym k.are ∙ e);
      oldest = rw k.are (oldest-least k.first k.others);
      minute = rw k.are (oldest-one k.first k.others);
      no_fresher = rw k.are (both _ _ (k.first ∷ k.others) (level-one k.first k.others) (oldest-least k.first k.others));
    }

-- ---- the order of two neighbours
-- of those kept
swap : (r s : Reading) (rs : List Reading) → pooled (r ∷ s ∷ rs) ≡ pooled (s ∷ r ∷ rs)
unfolding pooled shown_by oldest level_of
swap r s [] = ap₂ (λ (w : ℕ) (z : ℤ). given (record { water = w; level = z })) (omega arith) (lower-swap r.level s.level)
swap r s (t ∷ rs) =
    ap₂ (λ (w : ℕ) (z : ℤ). given (record { water = w; level = z })) (omega arith) (middle-first-two r.level s.level t.level)

swap-behind : (q r s : Reading) (rs : List Reading) → pooled (q ∷ r ∷ s ∷ rs) ≡ pooled (q ∷ s ∷ r ∷ rs)
unfolding pooled shown_by oldest level_of
swap-behind q r s [] =
    ap₂ (λ (w : ℕ) (z : ℤ). given (record { water = w; level = z })) (omega arith) (middle-last-two q.level r.level s.level)
swap-behind q r s (t ∷ rs) =
    ap₂ (λ (w : ℕ) (z : ℤ). given (record { water = w; level = z })) (omega arith) (middle-last-two q.level r.level s.level)

-- of those that are there: each is kept or not
kept-swap : (f : List Reading → Reply Reading) (r s : Reading) → ((ks : List Reading) → f (r ∷ s ∷ ks) ≡ f (s ∷ r ∷ ks))
    → (n : ℕ) (rs : List Reading) → f (kept_of n (r ∷ s ∷ rs)) ≡ f (kept_of n (s ∷ r ∷ rs))
unfolding kept_of
kept-swap f r s h n rs = by (too_old n r) (too_old n s) (kept_of n rs)
  where
    by : (t u : Bool) (ks : List Reading)
        → f (if t then (if u then ks else s ∷ ks) else r ∷ (if u then ks else s ∷ ks))
        ≡ f (if u then (if t then ks else r ∷ ks) else s ∷ (if t then ks else r ∷ ks))
    by true true ks = refl
    by true false ks = refl
    by false true ks = refl
    by false false ks = h ks

kept-swap-behind : (q r s : Reading) (n : ℕ) → pooled (kept_of n (q ∷ r ∷ s ∷ [])) ≡ pooled (kept_of n (q ∷ s ∷ r ∷ []))
unfolding kept_of
kept-swap-behind q r s n = by (too_old n q)
  where
    by : (t : Bool) → pooled (if t then kept_of n (r ∷ s ∷ []) else q ∷ kept_of n (r ∷ s ∷ []))
        ≡ pooled (if t then kept_of n (s ∷ r ∷ []) else q ∷ kept_of n (s ∷ r ∷ []))
    by true = kept-swap pooled r s (swap r s) n []
    by false = kept-swap (λ (ks : List Reading). pooled (q ∷ ks)) r s (swap-behind q r s) n []

newest-swap : (r s : Reading) (rs : List Reading) → newest (r ∷ s ∷ rs) ≡ newest (s ∷ r ∷ rs)
unfolding newest
newest-swap r s rs = omega arith

pub first_two : (a b c : Shown) → pool_of a b c ≡ pool_of b a c
unfolding pool_of
first_two none none c = refl
first_two none (shows s) c = refl
first_two (shows r) none c = refl
first_two (shows r) (shows s) c = rw (newest-swap r s (there c)) (kept-swap pooled r s (swap r s) (newest (s ∷ r ∷ there c)) (there c))

newest-behind : (q r s : Reading) → newest (q ∷ r ∷ s ∷ []) ≡ newest (q ∷ s ∷ r ∷ [])
unfolding newest
newest-behind q r s = omega arith

pub last_two : (a b c : Shown) → pool_of a b c ≡ pool_of a c b
unfolding pool_of
last_two none none none = refl
last_two none none (shows t) = refl
last_two none (shows s) none = refl
last_two none (shows s) (shows t) = rw (newest-swap s t []) (kept-swap pooled s t (swap s t) (newest (t ∷ s ∷ [])) [])
last_two (shows r) none none = refl
last_two (shows r) none (shows t) = refl
last_two (shows r) (shows s) none = refl
last_two (shows r) (shows s) (shows t) = rw (newest-behind r s t) (kept-swap-behind r s t (newest (r ∷ t ∷ s ∷ [])))

-- ---- 46, and a missing reading
-- where there is a reading, the answer is one
shown-some : (rs : List Reading) (k : Kept rs) → pooled (kept rs) ≡ given (shown_by k.first k.others)
unfolding pooled
shown-some rs k = rw k.are refl

never : {rs : List Reading} (k : Kept rs) → pooled (kept rs) ≡ refused 46 → ⊥
never {rs} k e = let f = shown-some rs k in let z : ◌≡◌ {A = ℕ} 0 1 = cc in omega arith

nothing : pooled (kept []) ≡ refused 46
unfolding pooled kept_of
nothing = refl

pub missing : (a b : Shown) → Missing a b
unfolding pool_of
missing a b = record { first = refl; second = rw (append-nil (there a)) refl; third = rw (append-nil (there a ++ there b)) refl }

answered : (rs : List Reading) → (pooled (kept rs) ≡ refused 46) ⊎ ((p : Reading) × (pooled (kept rs) ≡ given p) × Shows rs p)
answered [] = inl nothing
answered (r ∷ rs) = let k = kept-some r rs in inr (shown_by k.first k.others, shown-some (r ∷ rs) k, shows_kept (r ∷ rs) k)

all-missing : (a b c : Shown) → pool_of a b c ≡ refused 46 → (a ≡ none) × (b ≡ none) × (c ≡ none)
unfolding pool_of
all-missing none none none e = (refl, refl, refl)
all-missing none none (shows t) e = absurd (never (kept-some t []) e)
all-missing none (shows s) c e = absurd (never (kept-some s (there c)) e)
all-missing (shows r) b c e = absurd (never (kept-some r (there b ++ there c)) e)

none-there : (a b c : Shown) → (a ≡ none) × (b ≡ none) × (c ≡ none) → pool_of a b c ≡ refused 46
unfolding pool_of
none-there a b c e = rw (e.0, e.1, e.2) nothing

pub pools : (a b c : Shown) → Pools a b c
pools a b c =
    record {
      missing = (all-missing a b c, none-there a b c);
      shown = unfold pool_of in answered (readings a b c);
      first_two = first_two a b c;
      last_two = last_two a b c;
    }

-- ---- no fresh stamp on old water
shown_by_lem : {rs : List Reading} {o : Reply Reading} → (o ≡ refused 46) ⊎ ((q : Reading) × (o ≡ given q) × Shows rs q) → (p : Reading) → o ≡ given p → Shows rs p
shown_by_lem (inl f) p e = let z : ◌≡◌ {A = ℕ} 0 1 = cc in absurd (omega arith)
shown_by_lem {rs} (inr s) p e = let h = s.1 in let q : s.0 ≡ p = cc in subst (λ (x : Reading). Shows rs x) q s.2

-- what three gauges show
pub shows-pooled : (a b c : Shown) (p : Reading) → pool_of a b c ≡ given p → Shows (readings a b c) p
shows-pooled a b c p e = shown_by_lem (pools a b c).shown p e

-- the shown minute is never newer than the water that the shown level was read from
pub no-fresh-stamp : (a b c : Shown) (p : Reading) → pool_of a b c ≡ given p
    → Some (λ (k : Reading). (k.level ≡ p.level) × (p.water ≤ k.water)) (kept (readings a b c))
no-fresh-stamp a b c p e = (shows-pooled a b c p e).no_fresher
