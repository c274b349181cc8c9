-- `design::design_lowpass` meets its contract, by those of its three steps. Assumes nothing.
use Rattle.resampling.specs.Design.{lowpass}
use Rattle.resampling.proofs.design.design_lowpass.Goals as goal

pub returns : goal.returns
unfolding lowpass
returns c =
    let r = c.raw_taps-raw in
    rw (c.normalise.ensures, c.sum_of-sum.ensures, r.ensures)
