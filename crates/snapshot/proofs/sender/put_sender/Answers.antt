-- `sender::put_sender` meets its contract: the parts, one behind the other. Assumes nothing.
use mathlib.Core.Path.{◌≡◌}
use lib.ListN.{length}
use Rattle.modulation.specs.TxRep.{sender_of}
use Rattle.snapshot.proofs.SenderCalls.{sender-put}
use borrow.Author.Rules.{rules}
use Rattle.snapshot.proofs.sender.put_sender.Goals as goal

pub returns : goal.returns
returns c =
    let k = c.keying_numbers-keying in
    let b = c.bit_numbers-bits in
    let p = c.pending_numbers-pending in
    let k-long : length k.result ≡ 8 = search rules in
    let b-long : length b.result ≡ 4096 = search rules in
    let p-long : length p.result ≡ 64 = search rules in
    sender-put (sender_of c.args.tx) _ _ _ _ _ _ _ _ _ c.resampler-r.ensures k.ensures b.ensures p.ensures k-long b-long p-long
    c.put_numbers.ensures c.put.ensures c.put-2.ensures c.put-3.ensures
