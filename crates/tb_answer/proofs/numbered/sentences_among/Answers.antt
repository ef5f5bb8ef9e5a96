use Rattle.std.proofs.Common.{◌≡◌, ◌∙◌, None, Some, ap, inl, option_map, refl, sym}
use Rattle.tb_core.specs.declared.refusals.Refusal.TheVariants.{NoSuchBatch}
use Rattle.tb_answer.specs.Numbered.{name_in, name_of}
use Rattle.tb_answer.proofs.Failing.{if_err, if_ok}
use Rattle.tb_answer.proofs.Numbering.{numbered}
use Rattle.tb_answer.proofs.Questioned.{unread}
use Rattle.tb_answer.proofs.numbered.sentences_among.Goals as goal

pub returns-in-Some-clause-read : goal.returns-in-Some-clause-read
returns-in-Some-clause-read g c = record {
  answered = λ clean. if_ok c.view_sentences.result (c.view_sentences.ensures.read.answered clean) (λ v all s stands are.
      let named : name_of s c.args.no ≡ Some c.in-Some.name.now = ap (name_in c.args.no) (sym are) ∙ (sym c.name_in.ensures ∙ ap (option_map (λ n. n.now)) c.in-Some.is) in
      (c.in-Some.name.now, named, all s stands));
  reported = λ clean. if_err c.view_sentences.result (c.view_sentences.ensures.read.reported clean) (λ r all s stands are.
      let named : name_of s c.args.no ≡ Some c.in-Some.name.now = ap (name_in c.args.no) (sym are) ∙ (sym c.name_in.ensures ∙ ap (option_map (λ n. n.now)) c.in-Some.is) in
      numbered s c.args.no c.in-Some.name.now r named (λ why. why) (all s stands));
  read_only = c.view_sentences.ensures.read.read_only;
}

pub returns-in-None-clause-read : goal.returns-in-None-clause-read
returns-in-None-clause-read g c = record {
  answered = λ clean. tt;
  reported = λ clean s stands are.
      let none : name_of s c.args.no ≡ None = ap (name_in c.args.no) (sym are) ∙ (sym c.name_in.ensures ∙ ap (option_map (λ n. n.now)) c.in-None.is) in
      inl (NoSuchBatch, refl, inl (none, refl));
  read_only = unread g.S.Store c.args.desk.now;
}
