-- Frames and a deframer's answers, one behind the other. Assumes nothing.
use Prim.Native.Nat.{ℕ, ◌+◌, ◌*◌, ◌<◌, ◌≤◌}
use mathlib.Core.Path.{◌≡◌, refl, sym, ap, ◌∙◌}
use mathlib.Core.Bool.{Bool, false}
use mathlib.Core.List.{List, [], ◌∷◌, ◌++◌, map, map-append, append_assoc, append-nil}
use native.Mathlib.Numerals.{add-one}
use native.Mathlib.Omega.{arith}
use lib.ListN.{length, get_or, set, take, drop, length-append, length-map, get_or-map}
use lib.Seq.{take-suc, take_at, drop-drop, length-take-le, paste, paste-suc}
use Rattle.numeric.proofs.Parts.{drop-behind}
use Rattle.framing.proofs.FramingLaws.{frames-length, after-append}
use Rattle.framing.specs.Frame.{Deframed, frame_of, push_bit, after}
use Rattle.framing.specs.Framing.{frames_of}
use Rattle.framing.specs.declared.frame.Deframer.{Deframer}
use Rattle.framing.specs.declared.frame.Heard.{Heard}
use Rattle.framing.specs.declared.frame.Heard.TheVariants.{Byte, Waiting, BadStop}
use Rattle.calls.specs.Answers.{bit}
use Rattle.calls.specs.Frames.{mark_in, frames_for, frames_run, heard_numbers, deframer_numbers, push_reply, push_replies, bits_for, deframe_run}
use Rattle.calls.specs.Resample.{ran}

-- ---- answers, one behind the other: new elements go behind those that stand in front of the list as it was
pub laid-step : {A : Type 0} (at at' : ℕ) (l0 l l' front new : List A) → length front ≡ at → at' ≡ at + length new → l ≡ front ++ drop at l0
    → l' ≡ take at l ++ (new ++ drop (at + length new) l) → l' ≡ (front ++ new) ++ drop at' l0
laid-step at at' l0 l l' front new long next is e =
    e
    ∙ rw (
      is,
      take_at front (drop at l0) at long,
      drop-behind front (drop at l0) at (length new) long,
      drop-drop (length new) at l0,
      next,
      append_assoc front,
    )

-- one more of a list's first elements
more : {A : Type 0} (l : List A) (i : ℕ) (z : A) → i < length l → take (i + 1) l ≡ take i l ++ (get_or l i z ∷ [])
more l i z h = rw (add-one i) (take-suc l i z h)

-- ---- frames
frames-append : (xs ys : List ℕ) → frames_of (xs ++ ys) ≡ frames_of xs ++ frames_of ys
unfolding frames_of
frames-append [] ys = refl
frames-append (x ∷ xs) ys = ap (λ (l : List Bool). frame_of x ++ l) (frames-append xs ys) ∙ sym (append_assoc (frame_of x) (frames_of xs) (frames_of ys))

one-frame : (b : ℕ) → frames_of (b ∷ []) ≡ frame_of b
unfolding frames_of
one-frame b = refl

module _ (bytes : List ℕ) (i : ℕ) (some : i < length bytes) where
  frames-long : length (map bit (frames_of (take i bytes))) ≡ 10 * i
  frames-long = rw (length-map (frames_of (take i bytes)) bit, frames-length (take i bytes), length-take-le i bytes (omega arith))

  frames-more : map bit (frames_of (take (i + 1) bytes)) ≡ map bit (frames_of (take i bytes)) ++ map bit (frame_of (get_or bytes i 0))
  frames-more =
      rw (more bytes i 0 some, frames-append (take i bytes) (get_or bytes i 0 ∷ []), one-frame (get_or bytes i 0))
      (map-append bit (frames_of (take i bytes)) (frame_of (get_or bytes i 0)))

  pub frames-step : (l0 l l' : List ℕ) → l ≡ map bit (frames_of (take i bytes)) ++ drop (10 * i) l0
      → l' ≡ take (10 * i) l ++ (map bit (frame_of (get_or bytes i 0)) ++ drop (10 * i + 10) l) → l' ≡ map bit (frames_of (take (i + 1) bytes)) ++ drop (10 * (i + 1)) l0
  frames-step l0 l l' is e =
      rw frames-more (laid-step (10 * i) (10 * (i + 1)) l0 l l' (map bit (frames_of (take i bytes))) (map bit (frame_of (get_or bytes i 0))) frames-long (omega arith) is e)

-- ---- a deframer's answers
reply-length : (heard : Heard) → length (heard_numbers heard) ≡ 2
reply-length (Byte b) = refl
reply-length Waiting = refl
reply-length BadStop = refl

replies-length : (d : Deframer) (bs : List Bool) → length (push_replies d bs) ≡ 6 * length bs
unfolding push_replies
replies-length d [] = refl
replies-length d (b ∷ bs) =
    rw (length-append (push_reply (push_bit d b)) (push_replies (push_bit d b).state bs), length-append (heard_numbers (push_bit d b).heard), reply-length (push_bit d b).heard)
    (omega (arith, replies-length (push_bit d b).state bs))

replies-append : (d : Deframer) (xs : List Bool) (b : Bool) → push_replies d (xs ++ (b ∷ [])) ≡ push_replies d xs ++ push_reply (push_bit (after d xs) b)
unfolding push_replies after
replies-append d [] b = append-nil (push_reply (push_bit d b))
replies-append d (x ∷ xs) b =
    ap (λ (l : List ℕ). push_reply (push_bit d x) ++ l) (replies-append (push_bit d x).state xs b)
    ∙ sym (append_assoc (push_reply (push_bit d x)) (push_replies (push_bit d x).state xs) (push_reply (push_bit (after (push_bit d x).state xs) b)))

after_one : (d : Deframer) (b : Bool) → after d (b ∷ []) ≡ (push_bit d b).state
unfolding after
after_one d b = refl

-- from the state d0 on, i bits were pushed
module _ (d0 : Deframer) (bits : List ℕ) (i : ℕ) (some : i < length bits) where
  abbrev pushed : List Bool
  pushed = map mark_in (take i bits)

  abbrev next : Bool
  next = mark_in (get_or bits i 0)

  pushed_more : map mark_in (take (i + 1) bits) ≡ pushed ++ (next ∷ [])
  pushed_more = rw (more bits i 0 some) (map-append mark_in (take i bits) (get_or bits i 0 ∷ []))

  pushed_long : length (push_replies d0 pushed) ≡ 6 * i
  pushed_long = rw (replies-length d0 pushed, length-map (take i bits) mark_in, length-take-le i bits (omega arith))

  pub bits-state : (d d' : Deframer) → d ≡ after d0 pushed → d' ≡ (push_bit d next).state → d' ≡ after d0 (map mark_in (take (i + 1) bits))
  bits-state d d' is e = e ∙ rw (is, pushed_more, after-append d0 pushed (next ∷ []), after_one (after d0 pushed) next)

  pub bits-step : (d : Deframer) (l0 l l' : List ℕ) → d ≡ after d0 pushed → l ≡ push_replies d0 pushed ++ drop (6 * i) l0
      → l' ≡ take (6 * i) l ++ (push_reply (push_bit d next) ++ drop (6 * i + 6) l) → l' ≡ push_replies d0 (map mark_in (take (i + 1) bits)) ++ drop (6 * (i + 1)) l0
  bits-step d l0 l l' d-is is e =
      let new : List ℕ = push_reply (push_bit d next) in
      let six : length new ≡ 6 = rw (length-append (heard_numbers (push_bit d next).heard), reply-length (push_bit d next).heard) in
      rw (pushed_more, replies-append d0 pushed next, ← d-is)
      (laid-step (6 * i) (6 * (i + 1)) l0 l l' (push_replies d0 pushed) new pushed_long (omega (arith, six)) is (rw six e))

-- ---- loops
-- a frame, bit by bit
module _ (d : List ℕ) (at b i : ℕ) where
  pub frame_step : (frame : List Bool) (out : List ℕ) (x : ℕ) → frame ≡ frame_of b → i < 10 → at + 10 ≤ length d → out ≡ paste d at (map bit (frame_of b)) i
      → x ≡ bit (get_or frame i false) → set out (at + i) x ≡ paste d at (map bit (frame_of b)) (i + 1)
  frame_step frame out x is some room e x-is =
      let x-at : x ≡ get_or (map bit (frame_of b)) i 0 = x-is ∙ ap (λ (l : List Bool). bit (get_or l i false)) is ∙ sym (get_or-map bit (frame_of b) i false) in
      rw (e, x-at, add-one i) (paste-suc d at (map bit (frame_of b)) i 0 (omega arith) some)

  pub frame-end : (out : List ℕ) → i ≡ 10 → out ≡ paste d at (map bit (frame_of b)) i → out ≡ take at d ++ (map bit (frame_of b) ++ drop (at + 10) d)
  frame-end out is e = e ∙ rw is (append_assoc (take at d) (map bit (frame_of b)) (drop (at + 10) d))

-- the last frame, and the last bit
pub frames-end : (i n : ℕ) (bytes l0 l : List ℕ) → n ≡ frames_for bytes l0 → i ≡ n → l ≡ map bit (frames_of (take i bytes)) ++ drop (10 * i) l0 → ran n [] l ≡ frames_run bytes l0
unfolding frames_run
frames-end i n bytes l0 l n-is i-is e = rw (← n-is, ← i-is, e)

pub bits-end : (i n : ℕ) (d : Deframer) (bits l0 l : List ℕ) → n ≡ bits_for bits l0 → i ≡ n → l ≡ push_replies d (map mark_in (take i bits)) ++ drop (6 * i) l0 → ran n [] l ≡ deframe_run d bits l0
unfolding deframe_run
bits-end i n d bits l0 l n-is i-is e = rw (← n-is, ← i-is, e)

-- a bit's answer, as the code holds it
pub push-told : (p q : Deframed) (a b : ℕ) (before behind ans : List ℕ) → p ≡ q → a ∷ b ∷ [] ≡ heard_numbers p.heard
    → ans ≡ before ++ ((a ∷ b ∷ deframer_numbers p.state) ++ behind) → ans ≡ before ++ (push_reply q ++ behind)
push-told p q a b before behind ans is y e = rw (← is) (e ∙ ap (λ (h : List ℕ). before ++ ((h ++ deframer_numbers p.state) ++ behind)) y)
