-- The correlator's sums, and its cosines and sines, from sample to sample. Assumes nothing.
use mathlib.Core.Path.{◌≡◌, sym, ap, ◌∙◌, subst}
use lib.Ieee.{Float}
use Rattle.demodulation.specs.Correlation.{advanced}
use Rattle.demodulation.specs.Summing.{Summed, next_place}
use Rattle.demodulation.specs.Waves.{Waved}
use Rattle.demodulation.proofs.SummingLaws.{summed-to, summed_kept}
use Rattle.demodulation.specs.Demod.{Demodulator, Step, step_of}
use Rattle.demodulation.proofs.DemodLaws.{corr-after, rings-after}
use Rattle.demodulation.specs.declared.correlator.Correlator.{Correlator}
use Rattle.demodulation.specs.declared.correlator.Rings.{Rings}
use Rattle.demodulation.specs.declared.correlator.Sums.{Sums}
use Rattle.demodulation.specs.declared.waves.Quadrature.{Quadrature}

module _ (d : Demodulator) (s : Float) (x : Step) (e : x ≡ step_of d s) where
  pub summed-step : (p : Sums) → Summed d.corr.pos d.rings p → Summed d.corr.pos x.state.rings p
  summed-step p h = summed_kept d.corr s d.rings x.state.rings p h (ap (λ (y : Step). y.state.rings) e ∙ rings-after d s)

  next_place_lem : x.state.corr.pos ≡ next_place d.corr.pos
  unfolding advanced
  next_place_lem = ap (λ (y : Step). y.state.corr.pos) e ∙ ap (λ (c : Correlator). c.pos) (corr-after d s)

  pub summed-next : (r : Rings) (p : Sums) → Summed (next_place d.corr.pos) r p → Summed x.state.corr.pos r p
  summed-next r p h = summed-to r p h (sym next_place_lem)

  pub waved-next : (w : Quadrature) → Waved (advanced d.corr) w → Waved x.state.corr w
  waved-next w h = subst (λ (c : Correlator). Waved c w) (sym (ap (λ (y : Step). y.state.corr) e ∙ corr-after d s)) h
