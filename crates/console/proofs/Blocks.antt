-- Bytes of a block, one after the other. Assumes nothing.
use Prim.Native.Nat.{ℕ, ◌+◌, ◌≤◌, ◌<◌, min}
use mathlib.Core.Path.{◌≡◌, refl, sym, ap, ◌∙◌}
use mathlib.Core.Logic.{◌⊎◌, inl, inr}
use mathlib.Core.Bool.{Bool}
use mathlib.Core.List.{List, [], ◌∷◌, ◌++◌}
use lib.ListN.{length, get_or, drop, length-append}
use lib.Seq.{drop-cons, drop-length}
use native.Mathlib.Nat.{min-eq_left, min-eq_right}
use native.Mathlib.Numerals.{add-one}
use native.Mathlib.Omega.{arith}
use Rattle.std.proofs.lemmas.Option.{cond_some}
use Rattle.std.specs.Prelude.{Some, None, if◌then◌else◌, Result, Ok, Err, IfOk, IfErr}
use Rattle.happenings.specs.Happening.{typed}
use Rattle.happenings.specs.declared.happening.Happening.{Happening}
use Rattle.happenings.specs.declared.happening.Happening.TheVariants.{Byte}
use Rattle.tide.specs.Decoder as plain
use Rattle.tide.specs.DecoderRep.{decoder_of, most_count, holding, Sound, is_end, Stepped}
use Rattle.tide.specs.Decoder.{fresh_decoder}
use Rattle.tide.proofs.DecoderLaws.{took_all-append, lines_in-append}
use Rattle.tide.proofs.DecoderRepLaws.{min-by, holding-heard, holding-lines, unheld, ended_none}
use Rattle.tide.specs.declared.decoder.Step.{Step}
use Rattle.console.specs.Text.{Taken, Read, ReadSome, Judges}
use Rattle.console.specs.declared.text.Text.{Text}

pub taken-end : (t : Text) (c k a : ℕ) (s : Step) → Stepped t.decoder (plain.move_at (decoder_of t.decoder) (Byte c)) s → s.answer ≡ Some a → k ≡ min (t.lines + 1) most_count
    → (told : Bool) → Taken t c (record { decoder = s.decoder; lines = k; told = told })
unfolding plain.took
taken-end t c k a s h e n told =
    let b = cond_some _ _ a (sym h.answer ∙ e) in
    record { decoder = h.same; lines = rw b.0 n; sound = h.sound }

pub taken-on : (t : Text) (c : ℕ) (s : Step) → Stepped t.decoder (plain.move_at (decoder_of t.decoder) (Byte c)) s → s.answer ≡ None
    → Taken t c (record { decoder = s.decoder; lines = t.lines; told = t.told })
unfolding plain.took
taken-on t c s h e =
    let b = ended_none _ _ (sym e ∙ h.answer) in
    record { decoder = h.same; lines = rw b refl; sound = h.sound }

-- part of the way through the block
pub record Going (t : Text) (bs : List ℕ) (i : ℕ) (r : Text) : Type 0 where
  pub decoder : holding (plain.took_all (decoder_of r.decoder) (typed (drop i bs))) ≡ holding (plain.took_all (decoder_of t.decoder) (typed bs))
  pub lines :
      min (r.lines + length (plain.lines_in (decoder_of r.decoder) (typed (drop i bs)))) most_count
      ≡ min (t.lines + length (plain.lines_in (decoder_of t.decoder) (typed bs))) most_count
  pub sound : Sound r.decoder

pub going_start : (t : Text) (bs : List ℕ) → Sound t.decoder → Going t bs 0 t
going_start t bs s = record { decoder = refl; lines = refl; sound = s }

-- a count that holds, and then more
pub min-add : (a k m : ℕ) → min (min a m + k) m ≡ min (a + k) m
min-add a k m = by (min-by a m)
  where
    by : ((a ≤ m) × (min a m ≡ a)) ⊎ ((m ≤ a) × (min a m ≡ m)) → min (min a m + k) m ≡ min (a + k) m
    by (inl h) = rw h.1 refl
    by (inr h) =
        let p : m ≤ m + k = omega arith in
        let q : m ≤ a + k = omega (arith, h.0) in
        rw h.1 (min-eq_right p ∙ sym (min-eq_right q))

lines-by : (m : plain.Move) (n : ℕ) (d : plain.Decoder) (r : List plain.Line)
    → min ((if is_end m then min (n + 1) most_count else n) + length r) most_count ≡ min (n + length (plain.line_at d m ++ r)) most_count
lines-by plain.ends n d r =
    let e : n + 1 + length r ≡ n + length (d.line ∷ r) = omega arith in
    min-add (n + 1) (length r) most_count ∙ ap (λ (k : ℕ). min k most_count) e
lines-by (plain.grows c) n d r = refl
lines-by plain.loses n d r = refl
lines-by plain.resumes n d r = refl
lines-by plain.stays n d r = refl

pub going_on : (t : Text) (bs : List ℕ) (i : ℕ) (r s : Text) → Going t bs i r → i < length bs → Taken r (get_or bs i 0) s → Going t bs (i + 1) s
unfolding plain.took_all plain.lines_in typed
going_on t bs i r s g h b =
    let c = get_or bs i 0 in
    let rest = typed (drop (i + 1) bs) in
    let next = plain.took (decoder_of r.decoder) (Byte c) in
    let e : drop i bs ≡ c ∷ drop (i + 1) bs = rw (add-one i) (drop-cons bs i 0 h) in
    record {
      decoder = rw b.decoder (holding-heard rest next ∙ (rw e at g.decoder));
      lines =
          rw (b.decoder, holding-lines rest next, b.lines)
          (lines-by (plain.move_at (decoder_of r.decoder) (Byte c)) r.lines (decoder_of r.decoder) (plain.lines_in next rest) ∙ (rw e at g.lines));
      sound = b.sound;
    }

pub going_end : (t : Text) (bs : List ℕ) (i : ℕ) (r : Text) → Going t bs i r → i ≤ length bs → length bs ≤ i → r.lines ≤ most_count → Read t bs r
unfolding plain.took_all plain.lines_in typed
going_end t bs i r g p q m =
    let e : i ≡ length bs = omega arith in
    let k : drop i bs ≡ [] = rw (e, drop-length bs) refl in
    let z : r.lines + 0 ≤ most_count = omega arith in
    record {
      decoder = sym (unheld r.decoder) ∙ (rw k at g.decoder);
      lines = (let w : r.lines ≡ r.lines + 0 = omega arith in w) ∙ (sym (min-eq_left z) ∙ (rw k at g.lines));
      sound = g.sound;
    }

-- ---- block after block
typed-append : (bs cs : List ℕ) → typed (bs ++ cs) ≡ typed bs ++ typed cs
unfolding typed
typed-append [] cs = refl
typed-append (b ∷ bs) cs = ap (λ (hs : List Happening). Byte b ∷ hs) (typed-append bs cs)

pub read_none : (t : Text) → Sound t.decoder → t.lines ≤ most_count → ReadSome t t
read_none t s h = record { bytes = []; read = going_end t [] 0 t (going_start t [] s) (omega arith) (omega arith) h }

pub read_more : (t : Text) (bs : List ℕ) (r u : Text) → Read t bs r → ReadSome r u → ReadSome t u
read_more t bs r u h k =
    let d = decoder_of t.decoder in
    let cs = k.bytes in
    let n = length (plain.lines_in d (typed bs)) in
    let e : typed (bs ++ cs) ≡ typed bs ++ typed cs = typed-append bs cs in
    let l : length (plain.lines_in d (typed bs ++ typed cs)) ≡ n + length (plain.lines_in (plain.took_all d (typed bs)) (typed cs)) =
    rw (lines_in-append d (typed bs) (typed cs)) (length-append (plain.lines_in d (typed bs)) (plain.lines_in (plain.took_all d (typed bs)) (typed cs))) in
    let m : t.lines + (n + length (plain.lines_in (plain.took_all d (typed bs)) (typed cs))) ≡ t.lines + n + length (plain.lines_in (plain.took_all d (typed bs)) (typed cs)) = omega arith in
    record {
      bytes = bs ++ cs;
      read =
          record {
            decoder = k.read.decoder ∙ rw (h.decoder, holding-heard (typed cs) (plain.took_all d (typed bs)), e, took_all-append d (typed bs) (typed cs)) refl;
            lines =
                k.read.lines
                ∙ rw (h.decoder, holding-lines (typed cs) (plain.took_all d (typed bs)), h.lines, e, l, m)
                (min-add (t.lines + n) (length (plain.lines_in (plain.took_all d (typed bs)) (typed cs))) most_count);
            sound = k.read.sound;
          };
    }

pub some_more : (t r u : Text) → ReadSome t r → ReadSome r u → ReadSome t u
some_more t r u h k = read_more t h.bytes r u h.read k

-- from a fresh decoder on
pub judges : (station : ℕ) (t r : Text) → decoder_of t.decoder ≡ fresh_decoder station → t.lines ≡ 0 → ReadSome t r → Judges station r
judges station t r e z h =
    let n = length (plain.lines_in (fresh_decoder station) (typed h.bytes)) in
    let k : 0 + n ≡ n = omega arith in
    record {
      bytes = h.bytes;
      decoder = h.read.decoder ∙ rw e refl;
      lines = h.read.lines ∙ rw (e, z) (ap (λ (m : ℕ). min m most_count) k);
    }

-- where no read failed
pub judges_ok : {E : Type 0} (station : ℕ) (t : Text) (a : Result Text E) → decoder_of t.decoder ≡ fresh_decoder station → t.lines ≡ 0 → IfOk a (ReadSome t)
    → IfOk a (Judges station)
judges_ok station t (Ok r) e z h = judges station t r e z h
judges_ok station t (Err x) e z h = tt

-- and where one failed
pub judges_err : {T : Type 0} (station : ℕ) (t : Text) (a : Result T Text) → decoder_of t.decoder ≡ fresh_decoder station → t.lines ≡ 0 → IfErr a (ReadSome t)
    → IfErr a (Judges station)
judges_err station t (Ok x) e z h = tt
judges_err station t (Err r) e z h = judges station t r e z h
