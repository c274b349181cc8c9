-- Where a recording that is cut is cut in its header. Assumes nothing.
use Rattle.std.specs.Prelude.{Err}
use mathlib.Core.Path.{◌≡◌, refl}
use Rattle.wav.specs.Wav.{finish_at}
use Rattle.wav.specs.declared.wav.Wav.{Wav}
use Rattle.wav.specs.declared.wav.Fault.{Fault}
use Rattle.wav.specs.declared.wav.Fault.TheVariants as fault
use Rattle.wav.specs.declared.wav.Place.{Place}
use Rattle.wav.specs.declared.wav.Place.TheVariants as at

-- the places of a header are all others
pub in-header : (p : Place) (w : Wav) → (p ≡ at.Sample → ⊥) → (p ≡ at.Rest → ⊥) → (p ≡ at.Over → ⊥) → ((f : Fault) → p ≡ at.Bad f → ⊥)
    → Err fault.HeaderCut ≡ finish_at p w
in-header at.Riff w s r o b = refl
in-header at.Length w s r o b = refl
in-header at.Wave w s r o b = refl
in-header at.Name w s r o b = refl
in-header at.FormatSize w s r o b = refl
in-header at.DataSize w s r o b = refl
in-header at.OtherSize w s r o b = refl
in-header at.Format w s r o b = refl
in-header at.Rate w s r o b = refl
in-header at.Flow w s r o b = refl
in-header at.Align w s r o b = refl
in-header at.Extra w s r o b = refl
in-header at.Sub w s r o b = refl
in-header at.Skip w s r o b = refl
in-header at.Sample w s r o b = absurd (s refl)
in-header at.Rest w s r o b = absurd (r refl)
in-header at.Over w s r o b = absurd (o refl)
in-header (at.Bad f) w s r o b = absurd (b f refl)
