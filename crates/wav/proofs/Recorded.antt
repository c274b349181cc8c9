-- The reader on whole recordings: it tells the rate, and then exactly the samples of the first channel. Assumes nothing.
use Prim.Native.Nat.{ℕ, suc, ◌+◌, ◌-◌, ◌*◌, ◌/◌, ◌%◌, ◌≤◌, ◌<◌}
use mathlib.Core.Path.{◌≡◌, refl, sym, ap, ◌∙◌}
use mathlib.Core.Bool.{Bool, true, false}
use mathlib.Core.List.{List, [], ◌∷◌, ◌++◌, append_assoc, append-nil}
use native.Mathlib.Nat.{zero-mul, mul_comm, mul-pos, mul-mod_left, mul-div_cancel}
use native.Mathlib.Omega.{arith}
use borrow.Author.Tests.{lt-ltb, le-ltb, eq-eqb, ne_eqb, eqb-true, eqb-false}
use lib.Dec.{eqb, lit<}
use lib.ListN.{length, length-append}
use Rattle.std.specs.Prelude.{if◌then◌else◌, Ok, Some}
use Rattle.refusal.specs.Refusals.{rate_refused}
use Rattle.wav.specs.Sample.{sample_of, bytes_in, upper_of}
use Rattle.wav.specs.Wav.{riff, wave, fmt, data', fresh_wav, raw_wav, raw16_wav, step, words, framed, counting, going, fixed, skip, padded, named, format_size, settle_as, settle, shape_word, data_size, next_frame, over_others, sampled, done, add_byte, finish_frame, finish_of}
use Rattle.wav.specs.Words.{shifted, last_four, pcm_known, float_known, only8, encoding_of, is_endless}
use Rattle.wav.specs.Recording.{two, three, four, eight, tag_of, written, Frame, frame_bytes, Frames, Chunk, pad, chunk_bytes, Others, Extension, plain, extensible, front_tag, Extends, Recording, align_of, opening, format_chunk, data_head, header, Proper, Tells, emits, outs, after, samples}
use Rattle.wav.specs.declared.sample.Encoding.{Encoding}
use Rattle.wav.specs.declared.sample.Encoding.TheVariants as coding
use Rattle.wav.specs.declared.wav.Wav as state
use Rattle.wav.specs.declared.wav.Step.{Step}
use Rattle.wav.specs.declared.wav.Place.{Place}
use Rattle.wav.specs.declared.wav.Place.TheVariants as at
use Rattle.wav.specs.declared.wav.Out.{Out}
use Rattle.wav.specs.declared.wav.Out.TheVariants as out

-- from w these bytes tell these things, and lead to v
record Reads (w : state.Wav) (bs : List ℕ) (os : List Out) (v : state.Wav) : Type 0 where
  tells : outs w bs ≡ os
  leads : after w bs ≡ v

outs-append : (w : state.Wav) (bs cs : List ℕ) → outs w (bs ++ cs) ≡ outs w bs ++ outs (after w bs) cs
unfolding outs after
outs-append w [] cs = refl
outs-append w (b ∷ bs) cs =
    rw (outs-append (add_byte w b).state bs cs) (sym (append_assoc (emits (add_byte w b).out) _ _))

after-append : (w : state.Wav) (bs cs : List ℕ) → after w (bs ++ cs) ≡ after (after w bs) cs
unfolding after
after-append w [] cs = refl
after-append w (b ∷ bs) cs = after-append (add_byte w b).state bs cs

next : {w v u : state.Wav} {bs cs : List ℕ} {os ps : List Out} → Reads w bs os v → Reads v cs ps u → Reads w (bs ++ cs) (os ++ ps) u
next {w} {v} {u} {bs} {cs} x y =
    record {
      tells = outs-append w bs cs ∙ rw (x.tells, x.leads, y.tells) refl;
      leads = after-append w bs cs ∙ rw x.leads y.leads;
    }

-- at a place, with so many bytes of it to come
abbrev put : state.Wav → Place → ℕ → ℕ → state.Wav
put w place left word =
    record {
      place = place;
      left = left;
      word = word;
      rest = w.rest;
      format = w.format;
      rate = w.rate;
      shape = w.shape;
      align = w.align;
      encoding = w.encoding;
      width = w.width;
      frames = w.frames;
    }

-- ---- a place of some bytes
-- the last eight bytes as a number, once these are in
fed : ℕ → List ℕ → ℕ
fed x [] = x
fed x (b ∷ bs) = fed (shifted x b) bs

-- what its last byte does, all of them do
fills : (w : state.Wav) (p : Place) (x b : ℕ) (bs : List ℕ) (v : state.Wav) (o : Out)
    → ((y : ℕ) → done p (put w p 1 y) (last_four (fed x (b ∷ bs))) (fed x (b ∷ bs)) ≡ step v o) → Reads (put w p (length (b ∷ bs)) x) (b ∷ bs) (emits o) v
unfolding outs after add_byte fed
fills w p x b [] v o d =
    record { tells = ap (λ (s : Step). emits s.out ++ []) (d x) ∙ append-nil (emits o); leads = ap (λ (s : Step). s.state) (d x) }
fills w p x b (c ∷ bs) v o d =
    let r = fills w p (shifted x b) c bs v o d in
    let l : 1 < length (b ∷ c ∷ bs) = omega arith in
    let m : length (b ∷ c ∷ bs) - 1 ≡ length (c ∷ bs) = omega arith in
    record { tells = rw (lt-ltb 1 (length (b ∷ c ∷ bs)) l, m) r.tells; leads = rw (lt-ltb 1 (length (b ∷ c ∷ bs)) l, m) r.leads }

-- ---- numbers of some bytes
shift : (x y b : ℕ) → x ≡ 256 * y → shifted x b ≡ y + b * 0x100_0000_0000_0000
shift x y b e = omega arith

shift_two : (a b : ℕ) → shifted (shifted 0 a) b ≡ 0x1_0000_0000_0000 * (a + 256 * b)
shift_two a b = shift (shifted 0 a) (a * 0x1_0000_0000_0000) b (shift 0 0 a refl ∙ omega arith) ∙ omega arith

shift-three : (a b c : ℕ) → shifted (shifted (shifted 0 a) b) c ≡ 0x100_0000_0000 * (a + 256 * b + 65536 * c)
shift-three a b c =
    shift (shifted (shifted 0 a) b) (0x100_0000_0000 * (a + 256 * b)) c (shift_two a b ∙ omega arith) ∙ omega arith

-- four bytes behind what may stand there already
shift-four : (x y a b c d : ℕ) → x ≡ 0x1_0000_0000 * y
    → shifted (shifted (shifted (shifted x a) b) c) d ≡ y + 0x1_0000_0000 * (a + 256 * b + 65536 * c + 16777216 * d)
shift-four x y a b c d e =
    let e₁ : shifted x a ≡ 0x100_0000 * (y + 0x1_0000_0000 * a) = shift x (0x100_0000 * y) a (e ∙ omega arith) ∙ omega arith in
    let e₂ : shifted (shifted x a) b ≡ 65536 * (y + 0x1_0000_0000 * (a + 256 * b)) = shift (shifted x a) (65536 * (y + 0x1_0000_0000 * a)) b (e₁ ∙ omega arith) ∙ omega arith in
    let e₃ : shifted (shifted (shifted x a) b) c ≡ 256 * (y + 0x1_0000_0000 * (a + 256 * b + 65536 * c)) = shift (shifted (shifted x a) b) (256 * (y + 0x1_0000_0000 * (a + 256 * b))) c (e₂ ∙ omega arith) ∙ omega arith in
    shift (shifted (shifted (shifted x a) b) c) (y + 0x1_0000_0000 * (a + 256 * b + 65536 * c)) d e₃ ∙ omega arith

digit-1 : (n : ℕ) → n / 65536 ≡ n / 256 / 256
digit-1 n = omega arith

digit-2 : (n : ℕ) → n / 16777216 ≡ n / 65536 / 256
digit-2 n = omega arith

digits : (n : ℕ) → n % 256 + 256 * (n / 256 % 256) + 65536 * (n / 65536 % 256) + 16777216 * (n / 16777216) ≡ n
digits n = by (n / 256) (n / 65536) (n / 16777216) refl (digit-1 n) (digit-2 n)
  where
    by : (p q r : ℕ) → n / 256 ≡ p → q ≡ n / 256 / 256 → r ≡ q / 256 → n % 256 + 256 * (p % 256) + 65536 * (q % 256) + 16777216 * r ≡ n
    by p q r e f g = omega arith

two-fed : (n : ℕ) → fed 0 (two n) ≡ 0x1_0000_0000_0000 * n
unfolding fed two
two-fed n = shift_two (n % 256) (n / 256) ∙ ap (λ (x : ℕ). 0x1_0000_0000_0000 * x) (omega arith)

three-fed : (n : ℕ) → fed 0 (three n) ≡ 0x100_0000_0000 * n
unfolding fed three
three-fed n = shift-three (n % 256) (n / 256 % 256) (n / 65536) ∙ ap (λ (x : ℕ). 0x100_0000_0000 * x) (by (n / 256) (n / 65536) refl (digit-1 n))
  where
    by : (p q : ℕ) → n / 256 ≡ p → q ≡ n / 256 / 256 → n % 256 + 256 * (p % 256) + 65536 * q ≡ n
    by p q e f = omega arith

four-fed : (x y n : ℕ) → x ≡ 0x1_0000_0000 * y → fed x (four n) ≡ y + 0x1_0000_0000 * n
unfolding fed four
four-fed x y n e =
    shift-four x y (n % 256) (n / 256 % 256) (n / 65536 % 256) (n / 16777216) e ∙ ap (λ (z : ℕ). y + 0x1_0000_0000 * z) (digits n)

fed-append : (x : ℕ) (bs cs : List ℕ) → fed x (bs ++ cs) ≡ fed (fed x bs) cs
unfolding fed
fed-append x [] cs = refl
fed-append x (b ∷ bs) cs = fed-append (shifted x b) bs cs

eight-fed : (n : ℕ) → fed 0 (eight n) ≡ n
unfolding eight
eight-fed n =
    fed-append 0 (four (n % 0x1_0000_0000)) (four (n / 0x1_0000_0000))
    ∙ four-fed _ (n % 0x1_0000_0000) (n / 0x1_0000_0000) (four-fed 0 0 (n % 0x1_0000_0000) refl ∙ omega arith)
    ∙ omega arith

last-four : (n : ℕ) → last_four (fed 0 (four n)) ≡ n
last-four n = rw (four-fed 0 0 n refl) (omega arith)

word : (w : state.Wav) (p : Place) (n : ℕ) → (v : state.Wav) (o : Out)
    → ((x y : ℕ) → done p (put w p 1 x) n y ≡ step v o) → Reads (put w p 4 0) (four n) (emits o) v
unfolding four
word w p n v o d =
    fills w p 0 _ _ v o (λ x. rw (last-four n) (d x (fed 0 (four n))))

-- ---- the words of a header
-- two numbers of two bytes are one of four
low : (a b : ℕ) → a < 256 → (a + 256 * b) % 256 ≡ a
low a b h = omega arith

pair : (a b : ℕ) → a < 65536 → two a ++ two b ≡ four (a + 65536 * b)
unfolding two four
pair a b h =
    let e₀ : (a + 65536 * b) % 256 ≡ a % 256 = omega arith in
    let f₁ : (a + 65536 * b) / 256 ≡ a / 256 + 256 * b = omega arith in
    let f₂ : (a + 65536 * b) / 65536 ≡ b = omega arith in
    let e₁ : (a + 65536 * b) / 256 % 256 ≡ a / 256 = rw f₁ (low (a / 256) b (omega arith)) in
    let e₂ : (a + 65536 * b) / 65536 % 256 ≡ b % 256 = rw f₂ refl in
    let e₃ : (a + 65536 * b) / 16777216 ≡ b / 256 = digit-2 (a + 65536 * b) ∙ rw f₂ refl in
    rw (e₀, e₁, e₂, e₃) refl

lower : (a b : ℕ) → a < 65536 → (a + 65536 * b) % 65536 ≡ a
lower a b h = omega arith

upper : (a b : ℕ) → a < 65536 → (a + 65536 * b) / 65536 ≡ b
upper a b h = omega arith

-- RIFF, the total and WAVE
opens : (total : ℕ) → Reads fresh_wav (opening total) [] (put fresh_wav at.Name 4 0)
unfolding opening four done fixed
opens total =
    next (word fresh_wav at.Riff riff (put fresh_wav at.Length 4 0) out.Going (λ x y. refl))
    (next (word fresh_wav at.Length total (put fresh_wav at.Wave 4 0) out.Going (λ x y. refl))
    (word fresh_wav at.Wave wave (put fresh_wav at.Name 4 0) out.Going (λ x y. refl)))

fmt-letters : (0x66 ∷ 0x6D ∷ 0x74 ∷ 0x20 ∷ []) ≡ four fmt
unfolding four
fmt-letters = refl

data-letters : (0x64 ∷ 0x61 ∷ 0x74 ∷ 0x61 ∷ []) ≡ four data'
unfolding four
data-letters = refl

same : {w v : state.Wav} {bs cs : List ℕ} {os : List Out} → cs ≡ bs → Reads w bs os v → Reads w cs os v
same e r = rw e r

-- ---- bytes are skipped
skips : (w : state.Wav) (b : ℕ) (bs : List ℕ) → Reads (put w at.Skip (length (b ∷ bs)) 0) (b ∷ bs) [] (put w at.Name 4 0)
unfolding done
skips w b bs = fills w at.Skip 0 b bs (put w at.Name 4 0) out.Going (λ x. refl)

over-rest : (w : state.Wav) (bs : List ℕ) → Reads (skip w (length bs)).state bs [] (put w at.Name 4 0)
unfolding skip outs after
over-rest w [] = record { tells = refl; leads = refl }
over-rest w (b ∷ bs) = rw (ne_eqb (length (b ∷ bs)) 0 (λ z. omega arith)) (skips w b bs)

skip-goes : (w : state.Wav) (n : ℕ) → skip w n ≡ step (skip w n).state out.Going
unfolding skip
skip-goes w n = by (eqb n 0)
  where
    by : (t : Bool)
        → (if t then going w at.Name 4 else going w at.Skip n) ≡ step (if t then going w at.Name 4 else going w at.Skip n).state out.Going
    by true = refl
    by false = refl

put-skip : (p : Place) (x : ℕ) (w : state.Wav) (n : ℕ) → skip (put w p 1 x) n ≡ step (skip w n).state out.Going
unfolding skip
put-skip p x w n = skip-goes w n

pad-length : (n : ℕ) → length (pad n) ≡ n % 2
unfolding pad
pad-length n = by (eqb (n % 2) 0) refl
  where
    by : (t : Bool) → eqb (n % 2) 0 ≡ t → length {A = ℕ} (if t then [] else (0 ∷ [])) ≡ n % 2
    by true e = omega (arith, eqb-true (n % 2) 0 e)
    by false e = let z = eqb-false (n % 2) 0 e in omega arith

-- ---- the format chunk
-- a reader with these words of it
abbrev read : ℕ → ℕ → ℕ → ℕ → state.Wav
read rest f rate shape = words fresh_wav rest f rate shape

-- and one that knows the format
abbrev playing : state.Wav → Encoding → ℕ → ℕ → state.Wav
playing w k channels frames = counting (framed w (channels * bytes_in k) k) frames

known_is : (k : Encoding) → encoding_of (tag_of k) (8 * bytes_in k) ≡ Some k
unfolding encoding_of pcm_known float_known only8
known_is coding.MuLaw = refl
known_is coding.ALaw = refl
known_is coding.Pcm8 = refl
known_is coding.Pcm16 = refl
known_is coding.Pcm24 = refl
known_is coding.Pcm32 = refl
known_is coding.Float32 = refl
known_is coding.Float64 = refl

tag_small : (k : Encoding) → tag_of k < 8
tag_small coding.MuLaw = omega arith
tag_small coding.ALaw = omega arith
tag_small coding.Pcm8 = omega arith
tag_small coding.Pcm16 = omega arith
tag_small coding.Pcm24 = omega arith
tag_small coding.Pcm32 = omega arith
tag_small coding.Float32 = omega arith
tag_small coding.Float64 = omega arith

four-length : (n : ℕ) → length (four n) ≡ 4
unfolding four
four-length n = refl

-- what of the chunk is skipped
abbrev left : Encoding → Extension → ℕ
left k (plain more) = length (more ++ pad (16 + length more))
left k (extensible extra more) = length (more ++ pad (16 + length (extra ++ (four (tag_of k) ++ more))))

module _ (k : Encoding) (channels rate flow : ℕ) (some : 0 < channels) (few : channels * bytes_in k < 65536) (good : rate_refused rate ≡ false) where
  abbrev align : ℕ
  align = channels * bytes_in k

  abbrev shape : ℕ
  shape = align + 65536 * (8 * bytes_in k)

  -- the four words
  words-in : (rest size front : ℕ) (bs : List ℕ) (v : state.Wav) → front < 65536 → 16 ≤ size → size - 16 + size % 2 ≡ rest
      → Reads (put (read rest (front + 65536 * channels) rate 0) at.Align 4 0) (four shape ++ bs) [] v
      → Reads (put fresh_wav at.Name 4 0)
      ((0x66 ∷ 0x6D ∷ 0x74 ∷ 0x20 ∷ []) ++ (four size ++ ((two front ++ two channels) ++ (four rate ++ (four flow ++ ((two align ++ two (8 * bytes_in k)) ++ bs))))))
      [] v
  unfolding done named format_size
  words-in rest size front bs v small l e r =
      let f = front + 65536 * channels in
      rw (pair front channels small, pair align (8 * bytes_in k) few)
      (next (same fmt-letters (word fresh_wav at.Name fmt (put fresh_wav at.FormatSize 4 0) out.Going (λ x y. refl)))
      (next (word fresh_wav at.FormatSize size (put (read rest 0 0 0) at.Format 4 0) out.Going (λ x y. rw (le-ltb size 16 l, e) refl))
      (next (word (read rest 0 0 0) at.Format f (put (read rest f 0 0) at.Rate 4 0) out.Going (λ x y. refl))
      (next (word (read rest f 0 0) at.Rate rate (put (read rest f rate 0) at.Flow 4 0) out.Going (λ x y. refl))
      (next (word (read rest f rate 0) at.Flow flow (put (read rest f rate 0) at.Align 4 0) out.Going (λ x y. refl)) r)))))

  -- the format is one that is read
  settles : (p : Place) (x rest front : ℕ) → front < 65536
      → settle (put (read rest (front + 65536 * channels) rate shape) p 1 x) (tag_of k)
      ≡ step (skip (framed (read rest (front + 65536 * channels) rate shape) align k) rest).state out.Going
  unfolding settle settle_as
  settles p x rest front small =
      let n : channels ≡ 0 → ⊥ = λ z. omega arith in
      rw (upper align (8 * bytes_in k) few, known_is k, lower align (8 * bytes_in k) few, upper front channels small, ne_eqb channels 0 n, good, eq-eqb align align refl)
      (put-skip p x (framed (read rest (front + 65536 * channels) rate shape) align k) rest)

  abbrev ready : ℕ → ℕ → state.Wav
  ready rest front = framed (read rest (front + 65536 * channels) rate shape) align k

  plain-shape : (rest x : ℕ)
      → shape_word (put (read rest (tag_of k + 65536 * channels) rate 0) at.Align 1 x) shape ≡ step (skip (ready rest (tag_of k)) rest).state out.Going
  unfolding shape_word
  plain-shape rest x =
      let t = tag_small k in
      let small : tag_of k < 65536 = omega arith in
      rw (lower (tag_of k) channels small, ne_eqb (tag_of k) 0xFFFE (λ z. omega arith)) (settles at.Align x rest (tag_of k) small)

  extensible-shape : (t x : ℕ) → 12 ≤ t
      → shape_word (put (read (12 + t) (0xFFFE + 65536 * channels) rate 0) at.Align 1 x) shape
      ≡ step (put (read t (0xFFFE + 65536 * channels) rate shape) at.Extra 8 0) out.Going
  unfolding shape_word
  extensible-shape t x h =
      let m : 12 + t - 12 ≡ t = omega arith in
      rw (lower 0xFFFE channels (omega arith), le-ltb (12 + t) 24 (omega arith), m) refl

  extra-in : (w : state.Wav) (extra : List ℕ) → length extra ≡ 8 → Reads (put w at.Extra 8 0) extra [] (put w at.Sub 4 0)
  unfolding done
  extra-in w [] e = absurd (omega arith)
  extra-in w (b ∷ bs) e = rw e at (fills w at.Extra 0 b bs (put w at.Sub 4 0) out.Going (λ x. refl))

  sub_in : (t x : ℕ) → settle (put (read t (0xFFFE + 65536 * channels) rate shape) at.Sub 1 x) (tag_of k % 65536)
      ≡ step (skip (ready t 0xFFFE) t).state out.Going
  sub_in t x =
      let s = tag_small k in
      let m : tag_of k % 65536 ≡ tag_of k = omega arith in
      rw m (settles at.Sub x t 0xFFFE (omega arith))

  format : (x : Extension) → Extends x → Reads (put fresh_wav at.Name 4 0) (format_chunk k channels rate flow x) [] (put (ready (left k x) (front_tag k x)) at.Name 4 0)
  unfolding format_chunk done
  format (plain more) h =
      let size = 16 + length more in
      let bs = more ++ pad size in
      let s = tag_small k in
      let l : length bs ≡ length more + size % 2 = length-append more (pad size) ∙ ap (λ (z : ℕ). length more + z) (pad-length size) in
      words-in (length bs) size (tag_of k) bs (put (ready (length bs) (tag_of k)) at.Name 4 0) (omega arith) (omega arith) (omega (arith, l))
      (next (word (read (length bs) (tag_of k + 65536 * channels) rate 0) at.Align shape (skip (ready (length bs) (tag_of k)) (length bs)).state out.Going (λ x y. plain-shape (length bs) x))
      (over-rest (ready (length bs) (tag_of k)) bs))
  format (extensible extra more) h =
      let size = 16 + length (extra ++ (four (tag_of k) ++ more)) in
      let bs = more ++ pad size in
      let t = length bs in
      let w = read t (0xFFFE + 65536 * channels) rate shape in
      let l : t ≡ length more + size % 2 = length-append more (pad size) ∙ ap (λ (z : ℕ). length more + z) (pad-length size) in
      let m : length (extra ++ (four (tag_of k) ++ more)) ≡ length extra + (4 + length more) = length-append extra (four (tag_of k) ++ more) ∙ ap (λ (z : ℕ). length extra + z) (length-append (four (tag_of k)) more ∙ ap (λ (z : ℕ). z + length more) (four-length (tag_of k))) in
      words-in (12 + t) size 0xFFFE ((extra ++ (four (tag_of k) ++ more)) ++ pad size) (put (ready t 0xFFFE) at.Name 4 0) (omega arith) (omega arith) (omega (arith, l, m, h.0))
      (same (regroup (four shape) extra (four (tag_of k)) more (pad size))
      (next (word (read (12 + t) (0xFFFE + 65536 * channels) rate 0) at.Align shape (put w at.Extra 8 0) out.Going (λ x y. extensible-shape t x (omega (arith, l, h.1))))
      (next (extra-in w extra h.0)
      (next (word w at.Sub (tag_of k) (skip (ready t 0xFFFE) t).state out.Going (λ x y. sub_in t x)) (over-rest (ready t 0xFFFE) bs)))))
    where
      regroup : (a b c d e : List ℕ) → a ++ ((b ++ (c ++ d)) ++ e) ≡ a ++ (b ++ (c ++ (d ++ e)))
      regroup a b c d e = simp append_assoc

-- ---- other chunks are skipped
padded-length : (bs : List ℕ) → length (bs ++ pad (length bs)) ≡ padded (length bs)
padded-length bs = length-append bs (pad (length bs)) ∙ rw (pad-length (length bs)) refl

chunk : (w : state.Wav) (c : Chunk) → (c.name ≡ fmt → ⊥) → (c.name ≡ data' → ⊥)
    → Reads (put w at.Name 4 0) (four c.name ++ (four (length c.body) ++ (c.body ++ pad (length c.body)))) [] (put w at.Name 4 0)
unfolding done named
chunk w c p q =
    let bs = c.body ++ pad (length c.body) in
    let n = length c.body in
    let e : length bs ≡ padded n = padded-length c.body in
    next (word w at.Name c.name (put w at.OtherSize 4 0) out.Going (λ x y. rw (ne_eqb c.name fmt p, ne_eqb c.name data' q) refl))
    (next (word w at.OtherSize n (skip w (padded n)).state out.Going (λ x y. put-skip at.OtherSize x w (padded n)))
    (rw e at (over-rest w bs)))

chunks : (w : state.Wav) (cs : List Chunk) → Others cs → Reads (put w at.Name 4 0) (chunk_bytes cs) [] (put w at.Name 4 0)
unfolding chunk_bytes Others outs after
chunks w [] o = record { tells = refl; leads = refl }
chunks w (c ∷ cs) o = same (regroup (four c.name) (four (length c.body)) (c.body ++ pad (length c.body)) (chunk_bytes cs)) (next (chunk w c o.0 o.1) (chunks w cs o.2))
  where
    regroup : (a b c d : List ℕ) → a ++ (b ++ (c ++ d)) ≡ (a ++ (b ++ c)) ++ d
    regroup a b c d = simp append_assoc

-- ---- frames
-- a sample's bytes are a place's, and in the end the upper ones of the last eight
bytes_of : (k : Encoding) (m : ℕ) → length (written k m) ≡ bytes_in k
unfolding two three four eight
bytes_of coding.MuLaw m = refl
bytes_of coding.ALaw m = refl
bytes_of coding.Pcm8 m = refl
bytes_of coding.Pcm16 m = refl
bytes_of coding.Pcm24 m = refl
bytes_of coding.Pcm32 m = refl
bytes_of coding.Float32 m = refl
bytes_of coding.Float64 m = refl

one-fed : (m : ℕ) → shifted 0 m / 0x100_0000_0000_0000 ≡ m
one-fed m = omega arith

times-over : (d m : ℕ) → 0 < d → (d * m) / d ≡ m
times-over d m h = ap (λ (z : ℕ). z / d) (mul_comm d m) ∙ mul-div_cancel m h

upper_is : (k : Encoding) (m : ℕ) → upper_of k (fed 0 (written k m)) ≡ m
unfolding fed
upper_is coding.MuLaw m = one-fed m
upper_is coding.ALaw m = one-fed m
upper_is coding.Pcm8 m = one-fed m
upper_is coding.Pcm16 m = ap (upper_of coding.Pcm16) (two-fed m) ∙ times-over 0x1_0000_0000_0000 m (lit< tt)
upper_is coding.Pcm24 m = ap (upper_of coding.Pcm24) (three-fed m) ∙ times-over 0x100_0000_0000 m (lit< tt)
upper_is coding.Pcm32 m = last-four m
upper_is coding.Float32 m = last-four m
upper_is coding.Float64 m = ap (upper_of coding.Float64) (eight-fed m) ∙ omega arith

-- a place that these bytes fill
fills-all : (w : state.Wav) (p : Place) (n : ℕ) (bs : List ℕ) (v : state.Wav) (o : Out) → 0 < n → length bs ≡ n
    → ((y : ℕ) → done p (put w p 1 y) (last_four (fed 0 bs)) (fed 0 bs) ≡ step v o) → Reads (put w p n 0) bs (emits o) v
fills-all w p n [] v o h e d = absurd (omega arith)
fills-all w p n (b ∷ bs) v o h e d = rw e at (fills w p 0 b bs v o d)

some_bytes : (k : Encoding) → 0 < bytes_in k
some_bytes coding.MuLaw = lit< tt
some_bytes coding.ALaw = lit< tt
some_bytes coding.Pcm8 = lit< tt
some_bytes coding.Pcm16 = lit< tt
some_bytes coding.Pcm24 = lit< tt
some_bytes coding.Pcm32 = lit< tt
some_bytes coding.Float32 = lit< tt
some_bytes coding.Float64 = lit< tt

sample_in_lem : (w : state.Wav) (k : Encoding) (channels n m : ℕ)
    → Reads (put (playing w k channels n) at.Sample (bytes_in k) 0) (written k m) (out.Sample (sample_of k m) ∷ []) (over_others (playing w k channels n))
unfolding done sampled over_others next_frame
sample_in_lem w k channels n m =
    fills-all (playing w k channels n) at.Sample (bytes_in k) (written k m) (over_others (playing w k channels n)) (out.Sample (sample_of k m)) (some_bytes k) (bytes_of k m)
    (λ y. ap (λ (x : ℕ). step (over_others (playing w k channels n)) (out.Sample (sample_of k x))) (upper_is k m))

others-in : (w : state.Wav) (bs : List ℕ) → w.width + length bs ≡ w.align → Reads (over_others w) bs [] (next_frame w)
unfolding over_others outs after done next_frame
others-in w [] e = rw (le-ltb w.width w.align (omega arith)) (record { tells = refl; leads = refl })
others-in w (b ∷ bs) e =
    let d : w.align - w.width ≡ length (b ∷ bs) = omega arith in
    rw (lt-ltb w.width w.align (omega arith), d) (fills w at.Rest 0 b bs (next_frame w) out.Going (λ x. refl))

next_more : (w : state.Wav) (k : Encoding) (channels n : ℕ) → next_frame (playing w k channels (suc (suc n))) ≡ put (playing w k channels (suc n)) at.Sample (bytes_in k) 0
unfolding next_frame
next_more w k channels n =
    let z : suc (suc n) ≡ 0 → ⊥ = λ e. omega arith in
    let y : suc (suc n) ≡ 1 → ⊥ = λ e. omega arith in
    let m : suc (suc n) - 1 ≡ suc n = omega arith in
    rw (ne_eqb (suc (suc n)) 0 z, ne_eqb (suc (suc n)) 1 y, m) refl

-- the last one
last : (w : state.Wav) (k : Encoding) (channels : ℕ) → Reads (next_frame (playing w k channels 1)) [] [] (put (playing w k channels 1) at.Over 1 0)
unfolding next_frame outs after
last w k channels = record { tells = refl; leads = refl }

-- as many as were promised
plays : (w : state.Wav) (k : Encoding) (channels : ℕ) (x : Frame) (xs : List Frame) → Frames k channels (x ∷ xs)
    → Reads (put (playing w k channels (suc (length xs))) at.Sample (bytes_in k) 0) (frame_bytes k (x ∷ xs)) (samples k (x ∷ xs)) (put (playing w k channels 1) at.Over 1 0)
unfolding frame_bytes Frames samples
plays w k channels x [] h =
    next (sample_in_lem w k channels 1 x.first) (next (others-in (playing w k channels 1) x.others h.0) (last w k channels))
plays w k channels x (y ∷ ys) h =
    let n = suc (suc (length ys)) in
    next (sample_in_lem w k channels n x.first)
    (next (others-in (playing w k channels n) x.others h.0) (rw (next_more w k channels (length ys)) (plays w k channels y ys h.1)))

-- to the end of the file
plays-on : (w : state.Wav) (k : Encoding) (channels : ℕ) (xs : List Frame) → Frames k channels xs
    → Reads (put (playing w k channels 0) at.Sample (bytes_in k) 0) (frame_bytes k xs) (samples k xs) (put (playing w k channels 0) at.Sample (bytes_in k) 0)
unfolding frame_bytes Frames samples outs after next_frame
plays-on w k channels [] h = record { tells = refl; leads = refl }
plays-on w k channels (x ∷ xs) h =
    next (sample_in_lem w k channels 0 x.first)
    (next (others-in (playing w k channels 0) x.others h.0) (plays-on w k channels xs h.1))

-- behind the data nothing is read
ignores : (w : state.Wav) (bs : List ℕ) → Reads (put w at.Over 1 0) bs [] (put w at.Over 1 0)
unfolding outs after add_byte done
ignores w [] = record { tells = refl; leads = refl }
ignores w (b ∷ bs) = let r = ignores w bs in record { tells = r.tells; leads = r.leads }

-- ---- "data" and its size
align-some : (k : Encoding) (channels : ℕ) → 0 < channels → channels * bytes_in k ≡ 0 → ⊥
align-some k channels h e = let p = mul-pos h (some_bytes k) in omega arith

starts : (w : state.Wav) (k : Encoding) (channels n : ℕ) → 0 < channels → is_endless (n * (channels * bytes_in k)) ≡ false
    → Reads (put (playing w k channels 0) at.Name 4 0) (data_head (n * (channels * bytes_in k))) (out.Start w.rate ∷ []) (put (playing w k channels n) at.Sample (bytes_in k) 0)
unfolding data_head done named data_size
starts w k channels n h e =
    let a = channels * bytes_in k in
    let v = playing w k channels 0 in
    next (same data-letters (word v at.Name data' (put v at.DataSize 4 0) out.Going (λ x y. refl)))
    (word v at.DataSize (n * a) (put (playing w k channels n) at.Sample (bytes_in k) 0) (out.Start w.rate)
    (λ x y. rw (ne_eqb a 0 (align-some k channels h), e, mul-mod_left n a, mul-div_cancel n (mul-pos h (some_bytes k))) refl))

starts-endless : (w : state.Wav) (k : Encoding) (channels size : ℕ) → 0 < channels → is_endless size ≡ true
    → Reads (put (playing w k channels 0) at.Name 4 0) (data_head size) (out.Start w.rate ∷ []) (put (playing w k channels 0) at.Sample (bytes_in k) 0)
unfolding data_head done named data_size
starts-endless w k channels size h e =
    let v = playing w k channels 0 in
    next (same data-letters (word v at.Name data' (put v at.DataSize 4 0) out.Going (λ x y. refl)))
    (word v at.DataSize size (put v at.Sample (bytes_in k) 0) (out.Start w.rate)
    (λ x y. rw (ne_eqb (channels * bytes_in k) 0 (align-some k channels h), e) refl))

-- ---- the whole header: the format is known, and the rate
abbrev headed : Recording → state.Wav
headed r =
    let k = r.encoding in
    read (left k r.extension) (front_tag k r.extension + 65536 * r.channels) r.rate (align_of r + 65536 * (8 * bytes_in k))

heads : (r : Recording) (size : ℕ) → Proper r → {os : List Out} {v : state.Wav}
    → Reads (put (playing (headed r) r.encoding r.channels 0) at.Name 4 0) (data_head size) os v → Reads fresh_wav (header r size) os v
unfolding header
heads r size p d =
    next (opens r.total)
    (next (chunks fresh_wav r.before p.before)
    (next (format r.encoding r.channels r.rate r.flow p.some p.few p.rate r.extension p.extension)
    (next (chunks (playing (headed r) r.encoding r.channels 0) r.between p.between) d)))

over-whole : (w : state.Wav) → finish_of (put w at.Over 1 0) ≡ Ok tt
unfolding finish_of
over-whole w = refl

frame-whole : (w : state.Wav) (k : Encoding) (channels : ℕ) → finish_of (put (playing w k channels 0) at.Sample (bytes_in k) 0) ≡ Ok tt
unfolding finish_of finish_frame
frame-whole w k channels = rw (eq-eqb (bytes_in k) (bytes_in k) refl) refl

-- no frame has the size 0
none : (a : ℕ) → is_endless (0 * a) ≡ false → ⊥
unfolding is_endless
none a e = let h : is_endless 0 ≡ false = rw (zero-mul a) at e in let z : ◌≡◌ {A = ℕ} 0 1 = cc in omega arith

-- ---- the theorems
-- a recording whose header gives the size of its frames, whatever stands behind them
pub recorded : (r : Recording) (tail : List ℕ) → Proper r → is_endless (length r.frames * align_of r) ≡ false
    → Tells fresh_wav (header r (length r.frames * align_of r) ++ (frame_bytes r.encoding r.frames ++ tail)) (out.Start r.rate ∷ samples r.encoding r.frames)
recorded r tail p e = by r.frames p.frames e
  where
    by : (xs : List Frame) → Frames r.encoding r.channels xs → is_endless (length xs * align_of r) ≡ false
        → Tells fresh_wav (header r (length xs * align_of r) ++ (frame_bytes r.encoding xs ++ tail)) (out.Start r.rate ∷ samples r.encoding xs)
    by [] h e = absurd (none (align_of r) e)
    by (x ∷ xs) h e =
        let t =
        next (heads r (length (x ∷ xs) * align_of r) p (starts (headed r) r.encoding r.channels (length (x ∷ xs)) p.some e))
        (next (plays (headed r) r.encoding r.channels x xs h) (ignores (playing (headed r) r.encoding r.channels 1) tail)) in
        record {
          emits = t.tells ∙ ap (λ (l : List Out). out.Start r.rate ∷ l) (append-nil (samples r.encoding (x ∷ xs)));
          whole = ap finish_of t.leads ∙ over-whole (playing (headed r) r.encoding r.channels 1);
        }

-- a recording whose header can't give it, to the end of the file
pub streamed : (r : Recording) (size : ℕ) → Proper r → is_endless size ≡ true
    → Tells fresh_wav (header r size ++ frame_bytes r.encoding r.frames) (out.Start r.rate ∷ samples r.encoding r.frames)
streamed r size p e =
    let t =
    next (heads r size p (starts-endless (headed r) r.encoding r.channels size p.some e))
    (plays-on (headed r) r.encoding r.channels r.frames p.frames) in
    record {
      emits = t.tells;
      whole = ap finish_of t.leads ∙ frame-whole (headed r) r.encoding r.channels;
    }

-- "raw 32-bit little-endian floats"
pub raw : (xs : List Frame) → Frames coding.Float32 1 xs → Tells raw_wav (frame_bytes coding.Float32 xs) (samples coding.Float32 xs)
raw xs h =
    let t = plays-on fresh_wav coding.Float32 1 xs h in
    record { emits = t.tells; whole = ap finish_of t.leads ∙ frame-whole fresh_wav coding.Float32 1 }

-- raw PCM of 16 bits
pub raw-16 : (xs : List Frame) → Frames coding.Pcm16 1 xs → Tells raw16_wav (frame_bytes coding.Pcm16 xs) (samples coding.Pcm16 xs)
raw-16 xs h =
    let t = plays-on fresh_wav coding.Pcm16 1 xs h in
    record { emits = t.tells; whole = ap finish_of t.leads ∙ frame-whole fresh_wav coding.Pcm16 1 }
