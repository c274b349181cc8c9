-- `settings::morkhetta_settings_write` meets its contract: what `write` ensures, in the role that the number says. Assumes nothing.
use Rattle.ffi.proofs.Laying.{write-told}
use Rattle.ffi.proofs.settings.morkhetta_settings_write.Goals as goal

pub returns : goal.returns
returns c =
    let a = c.args in let all = write-told _ _ _ a.role _ c.write-answer.result _ _ c.role_of.ensures c.write-answer.ensures c.number_in.ensures in record { value = all.0; buffer_after = all.1 }
