use Rattle.std.proofs.Common.{inl, refl, subst, sym}
use Rattle.tb_words.specs.FirstFaults.{IsFaultList}
use Rattle.tb_desk.proofs.faults.put_faults.Goals as goal

pub returns-in-Ok : goal.returns-in-Ok
returns-in-Ok g c =
    inl (c.as_slice.result.now, c.in-Ok.list.status, subst (λ t. IsFaultList c.args.file.now c.args.most t c.in-Ok.list.status) (sym c.as_slice.ensures.value) c.in-Ok.ensures, c.put_text.ensures, refl)
