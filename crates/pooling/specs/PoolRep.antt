-- How the code answers what specs/Pool.antt speaks of. Assumes nothing.
use Rattle.tide.specs.declared.judge.Reading.{Reading}
use Rattle.refusal.specs.declared.Refusal.{Refusal}
use Rattle.std.specs.Prelude.{Result, Ok, Err}
use Rattle.refusal.specs.Refusals.{Reply, given, refused, number_of}
use Rattle.tide.specs.Judge as plain
use Rattle.tide.specs.JudgeRep.{read_of}

-- what each case of an answer gives
abbrev pub pooled_of : Result Reading Refusal → Reply plain.Reading
pooled_of (Ok r) = given (read_of r)
pooled_of (Err r) = refused (number_of r)
