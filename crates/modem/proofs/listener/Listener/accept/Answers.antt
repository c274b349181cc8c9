-- Both ways do what the definition says. Assumes nothing.
use mathlib.Core.Path.{sym, ◌∙◌}
use Rattle.modem.proofs.listener.Listener.accept.Goals as goal

pub accept_plain-requires : goal.accept_plain-requires
accept_plain-requires c =
    (c.requires, sym c.is_identity.ensures ∙ c.if-is_identity.true)
