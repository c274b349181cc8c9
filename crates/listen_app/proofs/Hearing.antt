-- The reader and a host that acts on its progress hear what the definition hears. Assumes nothing.
use Prim.Native.Nat.{ℕ, ◌+◌, ◌≤◌, ◌<◌}
use mathlib.Core.Path.{◌≡◌, refl, sym, ap, subst, ◌∙◌}
use mathlib.Core.Bool.{Bool, true, false}
use mathlib.Core.List.{List, [], ◌∷◌, ◌++◌}
use native.Mathlib.Numerals.{add-one}
use native.Mathlib.Omega.{arith}
use borrow.Author.Tests.{eqb-true}
use lib.Dec.{eqb}
use lib.ListN.{length, take, drop, get_or, set, length-set}
use lib.Seq.{drop-cons, drop-length, length-take-le, take-suc-set, take_all}
use lib.Ieee.{Float}
use Rattle.std.specs.Prelude.{if◌then◌else◌}
use Rattle.wav.specs.Wav.{add_byte, finish_of}
use Rattle.wav.specs.declared.wav.Wav.{Wav}
use Rattle.wav.specs.declared.wav.Step.{Step}
use Rattle.wav.specs.declared.wav.Out.{Out}
use Rattle.wav.specs.declared.wav.Out.TheVariants as out
use Rattle.listen_app.specs.BlockReader.{block_length, Gathered, BlockReaderSound, with_sample, reader_out, reader_byte, is_quiet}
use Rattle.listen_app.specs.Host.{PlainHost, heard_block}
use Rattle.listen_app.specs.HostRep.{host_of, Hosts}
use Rattle.listen_app.specs.Listener.{Listener, listener, heard_sample, heard_out, heard_byte, heard_bytes, ended, view, acted_by, acted}
use Rattle.listen_app.specs.Session.{SessionSound, listening, HeardSome, HeardAll}
use Rattle.listen_app.specs.declared.block_reader.Progress.{Progress}
use Rattle.listen_app.specs.declared.block_reader.Progress.TheVariants as progress
use Rattle.listen_app.specs.declared.session.Session.{Session}
use Rattle.listen_app.specs.declared.session.Closed.{Closed}

-- the samples so far, and one more
more : (e : Gathered) (x : Float) → BlockReaderSound e.block e.n → take (e.n + 1) (set e.block e.n x) ≡ take e.n e.block ++ x ∷ []
more e x s = rw (add-one e.n) (take-suc-set e.block e.n x (omega (arith, s.few, s.room)))

full : (e : Gathered) (x : Float) → BlockReaderSound e.block e.n → e.n + 1 ≡ block_length → set e.block e.n x ≡ take e.n e.block ++ x ∷ []
full e x s h =
    let l : length (set e.block e.n x) ≤ e.n + 1 = omega (arith, length-set e.block e.n x, s.room) in
    sym (take_all (e.n + 1) (set e.block e.n x) l) ∙ more e x s

held-length : (e : Gathered) → BlockReaderSound e.block e.n → length (take e.n e.block) ≡ e.n
held-length e s = length-take-le e.n e.block (omega (arith, s.few, s.room))

sample-heard : (h : PlainHost) (e : Gathered) (w : Wav) (x : Float) → BlockReaderSound e.block e.n
    → acted h (with_sample e w x) ≡ heard_sample (view e h) w x
unfolding with_sample heard_sample acted_by
sample-heard h e w x s = rw (held-length e s) (by (eqb (e.n + 1) block_length) refl)
  where
    a : Gathered
    a = record { wav = w; block = set e.block e.n x; n = 0; progress = progress.Block }

    b : Gathered
    b = record { wav = w; block = set e.block e.n x; n = e.n + 1; progress = progress.None }

    by : (t : Bool) → eqb (e.n + 1) block_length ≡ t
        → acted h (if t then a else b)
        ≡ (if t then listener w [] (heard_block h (take e.n e.block ++ x ∷ [])) else listener w (take e.n e.block ++ x ∷ []) h)
    by true q = ap (λ (xs : List Float). listener w [] (heard_block h xs)) (full e x s (eqb-true (e.n + 1) block_length q))
    by false q = ap (λ (xs : List Float). listener w xs h) (more e x s)

out-heard : (h : PlainHost) (e : Gathered) (o : Out) (w : Wav) → BlockReaderSound e.block e.n
    → acted h (reader_out o e w) ≡ heard_out o (view e h) w
unfolding reader_out heard_out acted_by
out-heard h e out.Going w s = refl
out-heard h e (out.Start rate) w s = refl
out-heard h e (out.Sample x) w s = sample-heard h e w x s
out-heard h e (out.Bad f) w s = refl

byte-heard : (h : PlainHost) (e : Gathered) (b : ℕ) → BlockReaderSound e.block e.n → acted h (reader_byte e b) ≡ heard_byte (view e h) b
unfolding reader_byte heard_byte
byte-heard h e b s = out-heard h e (add_byte e.wav b).out (add_byte e.wav b).state s

quiet-acted : (h : PlainHost) (e : Gathered) (n : Progress) → is_quiet n ≡ true → acted_by n h e ≡ view e h
unfolding acted_by
quiet-acted h e progress.None k = refl
quiet-acted h e (progress.Start rate) k = absurd (let z : ◌≡◌ {A = ℕ} 0 1 = cc in omega arith)
quiet-acted h e progress.Block k = absurd (let z : ◌≡◌ {A = ℕ} 0 1 = cc in omega arith)
quiet-acted h e (progress.Bad f) k = absurd (let z : ◌≡◌ {A = ℕ} 0 1 = cc in omega arith)

-- ---- bytes of an input
module _ (h : PlainHost) (input : List ℕ) (i : ℕ) (e r : Gathered) (s : BlockReaderSound e.block e.n) (l : i < length input)
    (q : r ≡ reader_byte e (get_or input i 0)) where
  -- the byte at i, where there was no progress to act on
  pub next-heard : is_quiet e.progress ≡ true → heard_bytes (acted h r) (drop (i + 1) input) ≡ heard_bytes (acted h e) (drop i input)
  unfolding heard_bytes
  next-heard k =
      let d : drop i input ≡ get_or input i 0 ∷ drop (i + 1) input = rw (add-one i) (drop-cons input i 0 l) in
      let a = quiet-acted h e e.progress k in
      rw (d, q, a) (ap (λ (m : Listener). heard_bytes m (drop (i + 1) input)) (byte-heard h e (get_or input i 0) s))

-- progress comes behind the first byte
pub read-on : (from i : ℕ) (t : Bool) → from ≤ i → (i ≡ from → t ≡ true) → t ≡ false → from < i
read-on from i t h k e =
    let n : i ≡ from → ⊥ = λ q. (let a = sym (k q) ∙ e in let z : ◌≡◌ {A = ℕ} 0 1 = cc in omega (arith, z)) in
    omega (arith, h, n)

-- the last byte is in
pub parts-end : (input : List ℕ) (i : ℕ) (l m : Listener) → i ≤ length input → length input ≤ i → heard_bytes l (drop i input) ≡ m → l ≡ m
unfolding heard_bytes
parts-end input i l m p q h =
    let e : i ≡ length input = omega arith in
    rw (e, drop-length input) at h

-- ---- what the progress do
pub acted-at : {p q : Progress} (h : PlainHost) (e : Gathered) {r : Listener} → p ≡ q → r ≡ acted_by q h e → r ≡ acted_by p h e
acted-at h e k g = rw k g

pub byte_at : (e : Gathered) (b : ℕ) (s : Step) {r : Gathered} → s ≡ add_byte e.wav b → r ≡ reader_out s.out e s.state → r ≡ reader_byte e b
unfolding reader_byte
byte_at e b s h g = g ∙ ap (λ (z : Step). reader_out z.out e z.state) h

-- ---- part after part, and the end
heard-append : (l : Listener) (bs cs : List ℕ) → heard_bytes l (bs ++ cs) ≡ heard_bytes (heard_bytes l bs) cs
unfolding heard_bytes
heard-append l [] cs = refl
heard-append l (b ∷ bs) cs = heard-append (heard_byte l b) bs cs

pub heard-none : (s : Session) → SessionSound s → HeardSome (listening s) s
unfolding heard_bytes
heard-none s k = record { bytes = []; same = refl; sound = k }

pub heard-part : (l : Listener) (bs : List ℕ) (r : Session) → SessionSound r → listening r ≡ heard_bytes l bs → HeardSome l r
heard-part l bs r k e = record { bytes = bs; same = e; sound = k }

pub heard-more : (l : Listener) (r u : Session) → HeardSome l r → HeardSome (listening r) u → HeardSome l u
heard-more l r u h k =
    record {
      bytes = h.bytes ++ k.bytes;
      same = k.same ∙ rw (h.same, heard-append l h.bytes k.bytes) refl;
      sound = k.sound;
    }

pub begun : (s : Session) (w : Wav) (h : PlainHost) → s.reader.n ≡ 0 → s.reader.wav ≡ w → host_of s.host ≡ h → listening s ≡ listener w [] h
begun s w h n v e = rw (n, v, e) refl

pub heard-from : {l m : Listener} {r : Session} → l ≡ m → HeardSome l r → HeardSome m r
heard-from e k = rw e at k

pub heard_all : (l : Listener) (s : Session) (r : Closed) → HeardSome l s → Hosts (ended (listening s)) r.host → r.end ≡ finish_of s.reader.wav
    → HeardAll l r
heard_all l s r h k e =
    record {
      bytes = h.bytes;
      host = subst (λ (m : Listener). Hosts (ended m) r.host) h.same k;
      end = e ∙ ap (λ (m : Listener). finish_of m.wav) h.same;
    }
