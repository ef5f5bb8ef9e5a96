-- Sentences that keep the rules have names, and those of a valid file have different ones.
use Rattle.std.proofs.Common.{◌≡◌, List, [], ◌∷◌, ◌++◌, refl, sym, ap, subst, append_assoc}
use Rattle.std.specs.List.{AllByRecursion}
use Rattle.std.specs.Prelude.{unwrap_or}
use Rattle.tb_conllu.specs.Text.{BlockText}
use Rattle.tb_conllu.specs.Shape.{AllShaped}
use Rattle.tb_rules.specs.Comments.{HasSentId, only}
use Rattle.tb_rules.specs.Rules.{KeepsRules, sent_id}
use Rattle.tb_rules.specs.File.{IsNamed, IsFree, HasNewName, IsValid}
use Rattle.tb_core.specs.Names.{Lacks, AreApart}
use Rattle.tb_core.specs.Machine.{sent_id_of, IsLawful}
use Rattle.tb_core.specs.Acts.{ids_in}

pub named_self : (b : BlockText) → KeepsRules b → IsNamed b (sent_id_of b)
named_self b k =
    let h : HasSentId b = k sent_id in
    subst (λ l. l ≡ unwrap_or (only l) [] ∷ []) (sym h.one) refl

pub lawful_all : (bs : List BlockText) → AllShaped bs → AllByRecursion KeepsRules bs → AllByRecursion IsLawful bs
lawful_all [] h k = tt
lawful_all (b ∷ bs) h k = (record { shaped = h.0; rules = k.0 }, lawful_all bs h.1 k.1)

abbrev NewNames : List BlockText → Type 0
NewNames bs = (before : List BlockText) (b : BlockText) (after : List BlockText) → bs ≡ before ++ b ∷ after → HasNewName before b

lacks_rest : (b : BlockText) (mid rest : List BlockText) → NewNames (b ∷ (mid ++ rest)) → KeepsRules b → AllByRecursion KeepsRules rest → Lacks (ids_in rest) (sent_id_of b)
lacks_rest b mid [] new k ks = tt
lacks_rest b mid (c ∷ rest) new k ks = (
  λ e.
      let free : IsFree (b ∷ mid) (sent_id_of c) = new (b ∷ mid) c rest refl (sent_id_of c) (named_self c ks.0) in
      free.0 (subst (λ n. IsNamed b n) e (named_self b k)),
  lacks_rest b (mid ++ c ∷ []) rest (subst (λ l. NewNames (b ∷ l)) (sym (append_assoc mid (c ∷ []) rest)) new) k ks.1,
)

pub valid_tail : (b : BlockText) (bs : List BlockText) → IsValid (b ∷ bs) → IsValid bs
valid_tail b bs h = record {
  rules = h.rules.1;
  names = λ before c after e name is. let free : IsFree (b ∷ before) name = h.names (b ∷ before) c after (ap (λ l. b ∷ l) e) name is in free.1;
}

pub valid_apart : (bs : List BlockText) → IsValid bs → AreApart (ids_in bs)
valid_apart [] h = tt
valid_apart (b ∷ bs) h = (lacks_rest b [] bs h.names h.rules.0 h.rules.1, valid_apart bs (valid_tail b bs h))
