-- What a text asks, and what is wrong with it, by what the language reads in it.
use Rattle.std.proofs.Common.{◌≡◌, ◌≤◌, ℕ, List, length, map, string_bytes, String, Global, refl, sym, ap, subst, ◌∙◌}
use Rattle.tb_match.specs.Trees.{Tree}
use Rattle.tb_syntax.specs.declared.expr.Expr.{Expr}
use Rattle.tb_syntax.specs.Exprs.{test}
use Rattle.tb_syntax.specs.declared.fault.Fault.{Fault}
use Rattle.tb_syntax.specs.declared.fault.Fault.TheVariants as reported
use Rattle.tb_syntax.specs.Reading.{IsQueryText}
use Rattle.tb_syntax.specs.declared.expr.Literal.{Literal}
use Rattle.tb_literal.specs.Literals.{PlainLit}
use Rattle.tb_syntax.specs.Tests.{Test, literals_of}
use Rattle.tb_syntax.specs.Saying.{Says}
use Rattle.tb_query.specs.declared.fault.QueryFault.{QueryFault}
use Rattle.tb_query.specs.declared.fault.QueryFault.TheVariants.{TooLong, Syntax, TooMany, TooDeep, Repeat, Pattern, Memory}
use Rattle.tb_query.specs.Refusing.{IsRefusalAmong}
use Rattle.tb_query.specs.Reported.{query_fault}
use Rattle.tb_query.specs.Reading.{with_text, with_texts, AreAccepted, IsQuery, IsFault}
use Rattle.tb_query.specs.Search.{Asked}
use Rattle.tb_query.proofs.Refusals.{texts_of_each, first_refused}

-- what was read, and what the exprs were attached to, are the same lists
says_same : (text : List ℕ) (t : Tree) (xs ys : List (Expr Literal)) (ss ts : List (String Global)) → xs ≡ ys → ss ≡ ts →
    Says text t (map test ys) (map string_bytes ts) → Says text t (map test xs) (map string_bytes ss)
says_same text t xs ys ss ts p q h =
    subst (λ (zs : List (String Global)). Says text t (map test xs) (map string_bytes zs)) (sym q)
    (subst (λ (zs : List (Expr Literal)). Says text t (map test zs) (map string_bytes ts)) (sym p) h)

asks : (text : List ℕ) (pat : Tree) (es : List (Test Literal)) (said : List (List ℕ)) (ts : List (Test PlainLit)) → Says text pat es said → ts ≡ map (with_texts said) es →
    AreAccepted (map (with_text said) (literals_of es)) → IsQuery text (record { pat = pat; tests = ts })
asks text pat es said ts h e a =
    ((es, said, h, e), subst AreAccepted (sym (ap literals_of e ∙ texts_of_each said es)) a)

pub is_query : (text : List ℕ) (pat : Tree) (xs ys : List (Expr Literal)) (ss us : List (String Global)) (ts : List (Test PlainLit)) (q : Asked) → xs ≡ ys → ss ≡ us →
    Says text pat (map test ys) (map string_bytes us) → ts ≡ map (with_texts (map string_bytes ss)) (map test xs) →
    AreAccepted (map (with_text (map string_bytes ss)) (literals_of (map test xs))) → q ≡ record { pat = pat; tests = ts } → IsQuery text q
is_query text pat xs ys ss us ts q p r h e a is =
    subst (IsQuery text) (sym is) (asks text pat (map test xs) (map string_bytes ss) ts (says_same text pat xs ys ss us p r h) e a)

refuses : (text : List ℕ) (t : Tree) (es : List (Test Literal)) (said : List (List ℕ)) (e : QueryFault) → Says text t es said → IsRefusalAmong said (literals_of es) e → IsFault text e
refuses text t es said (Pattern k) h r = (t, map (with_texts said) es, (es, said, h, refl), first_refused text t es said k h r)
refuses text t es said Memory h r = tt
refuses text t es said TooLong h r = absurd r
refuses text t es said (Syntax b) h r = absurd r
refuses text t es said TooMany h r = absurd r
refuses text t es said TooDeep h r = absurd r
refuses text t es said Repeat h r = absurd r

pub is_fault : (text : List ℕ) (t : Tree) (xs ys : List (Expr Literal)) (ss us : List (String Global)) (e : QueryFault) → xs ≡ ys → ss ≡ us →
    Says text t (map test ys) (map string_bytes us) → IsRefusalAmong (map string_bytes ss) (literals_of (map test xs)) e → IsFault text e
is_fault text t xs ys ss us e p r h f = refuses text t (map test xs) (map string_bytes ss) e (says_same text t xs ys ss us p r h) f

-- a text for which memory was wanting when it was read is a query within the limits
pub wanting : (text : List ℕ) (f : Fault) (e : QueryFault) → (f ≡ reported.Memory → IsQueryText text) → e ≡ query_fault f → e ≡ Memory → IsQueryText text
wanting text reported.Memory e h is m = h refl
wanting text reported.TooLong e h is m = absurd cc
wanting text (reported.Syntax b) e h is m = absurd cc
wanting text reported.TooMany e h is m = absurd cc
wanting text reported.TooDeep e h is m = absurd cc
wanting text reported.Repeat e h is m = absurd cc

-- such a text is short
pub short : (text : List ℕ) → IsQueryText text → length text ≤ 2000
short text (ls, ss, (q, within)) = within.0.0

-- what says something is a query within the limits
pub query_text_of : (text : List ℕ) (t : Tree) (es : List (Test Literal)) (said : List (List ℕ)) → Says text t es said → IsQueryText text
query_text_of text t es said (ls, ss, (q, within, pattern, tests), saying) = (ls, ss, (q, within))
