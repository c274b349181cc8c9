-- Behind the last count there is none. Assumes nothing.
use mathlib.Core.Path.{sym}
use native.Mathlib.Omega.{arith}
use Rattle.tide.proofs.Stores.{get_d-out, place_none}
use Rattle.tide.proofs.decoder.Decoder.count.Goals as goal

pub returns-in-None : goal.returns-in-None
returns-in-None c = sym (get_d-out c.args.self.counts _ (omega (arith, place_none _ c.in-None.ensures, c.args.self.places)))
