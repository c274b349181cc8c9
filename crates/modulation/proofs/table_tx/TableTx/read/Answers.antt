-- `TableTx::read` meets its contract: a read that no check refuses fills the slice, and any other changes nothing. Assumes nothing.
use mathlib.Core.Path.{sym, ◌∙◌}
use Rattle.refusal.proofs.RefusalLaws.{accepted-none}
use Rattle.modulation.specs.TableTxRep.{table_of}
use Rattle.modulation.proofs.Calls.{none-refused}
use Rattle.modulation.proofs.TableSteps.{reads_none, reads_whole}
use Rattle.modulation.proofs.table_tx.TableTx.read.Goals.{then-is_ok, else-is_ok}
use Rattle.modulation.proofs.table_tx.TableTx.read.Goals as goal

pub fill-self-requires : goal.fill-self-requires
fill-self-requires c =
    let n = none-refused _ _ (accepted-none _ _ c.check-answer.ensures (sym c.is_ok.ensures.value ∙ c.if-is_ok.true)) in
    (c.args.self.keyed, c.args.self.hops_held, n.1)

pub returns : goal.returns
unfolding table_of
returns c =
    record {
      out_after = elim c.if-is_ok.branch [
        | then-is_ok w ↦
            let n = accepted-none _ _ c.check-answer.ensures (sym c.is_ok.ensures.value ∙ w.if-is_ok.true) in
            rw (w.out-is, w.self-is, reads_whole c.args.self c.args.out.now _ _ _ c.check-answer.ensures n w.fill-self.ensures.result_after)
        | else-is_ok w ↦ rw (w.out-is, w.self-is, reads_none c.args.self c.args.out.now _ c.check-answer.ensures (sym c.is_ok.ensures.value ∙ w.if-is_ok.false))
      ];
    }
