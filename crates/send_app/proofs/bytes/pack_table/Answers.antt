-- So many samples are laid, one after the other. Assumes nothing.
use Rattle.std.proofs.Common.{◌≡◌, ℕ, ◌+◌, ◌*◌, List, length, get_or, take, pos, ap, ◌∙◌, w32, to_z, of_z}
use mir.ValLaws.{to_z-of_z}
use Rattle.send_app.specs.Bytes.{sixteen_of, whole_bytes, with_half}
use Rattle.send_app.proofs.BytesLaws.{half_length, packs-none, table_more}
use Rattle.send_app.proofs.bytes.pack_table.Goals as goal

pub loop-i-init : goal.loop-i-init
loop-i-init c = (c.requires.1, packs-none whole_bytes 2 c.args.bytes.now c.args.samples.now)

pub loop-i-preserved : goal.loop-i-preserved
loop-i-preserved c =
    let i = c.loop-i.i in
    let bytes = c.loop-i.bytes in
    let x = get_or c.args.samples.now i (pos 0) in
    let same : to_z w32 (of_z w32 x) ≡ x = to_z-of_z w32 x (record { sfits = c.x-1.given }) in
    let e = c.put_half.ensures ∙ ap (λ (n : ℕ). with_half bytes (2 * i) n) (c.sixteen_bits.ensures ∙ ap sixteen_of same) in (
      ap length e ∙ half_length bytes (2 * i) _ ∙ c.loop-i.invariant.0,
      ap (λ (z : List ℕ). take (2 * (i + 1)) z) e ∙ table_more bytes _ i _ c.loop-i-test.true c.requires.0 c.loop-i.invariant.0 c.loop-i.invariant.1,
    )
