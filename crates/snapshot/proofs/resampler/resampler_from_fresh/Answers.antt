-- `resampler::resampler_from_fresh` meets its contract. Assumes nothing.
use mathlib.Core.Path.{◌∙◌}
use Rattle.calls.proofs.Made.{count-given}
use Rattle.snapshot.specs.ResamplerState.{resampler_run}
use Rattle.snapshot.proofs.StateCalls.{traced-by}
use Rattle.snapshot.proofs.resampler.resampler_from_fresh.Goals as goal

pub returns : goal.returns
unfolding resampler_run
returns c = rw (c.unwrap_or.ensures ∙ count-given c.scripted_from_fresh-s.result.answer) (traced-by _ _ _ _ c.scripted_from_fresh-s.ensures.state_after c.show_accepted.ensures)
