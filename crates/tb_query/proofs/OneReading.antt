-- A text says one thing at most, nothing is wrong with one that is a query, and one fault is told of one that is none.
use Rattle.std.proofs.Common.{◌≡◌, ◌⊎◌, ℕ, suc, List, [], ◌∷◌, ◌++◌, length, map, refl, sym, ap, subst, ◌∙◌, inl, inr, ⊎_elim, arith}
use Rattle.tb_match.specs.Trees.{Tree}
use Rattle.tb_syntax.specs.declared.fault.Fault.{Fault}
use Rattle.tb_syntax.specs.declared.fault.Fault.TheVariants as fault
use Rattle.tb_syntax.specs.declared.expr.Literal.{Literal}
use Rattle.tb_syntax.specs.Tests.{Test, literals_of}
use Rattle.tb_syntax.specs.Reading as reported
use Rattle.tb_syntax.specs.Saying.{Says}
use Rattle.tb_literal.specs.Literals.{PlainLit, IsAccepted}
use Rattle.tb_query.specs.declared.fault.QueryFault.{QueryFault}
use Rattle.tb_query.specs.declared.fault.QueryFault.TheVariants.{TooLong, Syntax, TooMany, TooDeep, Repeat, Pattern, Memory}
use Rattle.tb_query.specs.Reading.{with_texts, Reads, AreAccepted, IsFirstRefused, IsQuery, IsFault}
use Rattle.tb_query.specs.Search.{Asked}
use Rattle.tb_query.specs.Reported.{query_fault}

-- the same pattern, tests and literals are the same tests
pub same_tests : (es fs : List (Test Literal)) (said reported : List (List ℕ)) (ts us : List (Test PlainLit)) → ts ≡ map (with_texts said) es → us ≡ map (with_texts reported) fs →
    es ≡ fs → said ≡ reported → ts ≡ us
same_tests es fs said reported ts us e f p q = e ∙ ap (map (with_texts said)) p ∙ ap (λ z. map (with_texts z) fs) q ∙ sym f

accepted_at : (before after : List PlainLit) (l : PlainLit) → AreAccepted (before ++ l ∷ after) → AreAccepted (l ∷ after)
accepted_at [] after l h = h
accepted_at (b ∷ before) after l h = accepted_at before after l h.1

-- the first literal that is refused is the same one, however the literals are parted
one_place : (bs cs vs ws : List PlainLit) (l m : PlainLit) → bs ++ l ∷ vs ≡ cs ++ m ∷ ws → AreAccepted bs → AreAccepted cs →
    (IsAccepted l.flag l.text → ⊥) → (IsAccepted m.flag m.text → ⊥) → length bs ≡ length cs
one_place [] [] vs ws l m e p q bad wrong = refl
one_place [] (c ∷ cs) vs ws l m e p q bad wrong =
    let same : l ≡ c = cc e in
    absurd (bad (subst (λ (x : PlainLit). IsAccepted x.flag x.text) (sym same) q.0))
one_place (b ∷ bs) [] vs ws l m e p q bad wrong =
    let same : b ≡ m = cc e in
    absurd (wrong (subst (λ (x : PlainLit). IsAccepted x.flag x.text) same p.0))
one_place (b ∷ bs) (c ∷ cs) vs ws l m e p q bad wrong =
    let rest : bs ++ l ∷ vs ≡ cs ++ m ∷ ws = cc e in
    ap suc (one_place bs cs vs ws l m rest p.1 q.1 bad wrong)

one_refused : (ls : List PlainLit) (j k : ℕ) → IsFirstRefused ls j → IsFirstRefused ls k → j ≡ k
one_refused ls j k (bs, l, vs, parts, number, those, bad) (cs, m, ws, parts', number', those', bad') =
    let same = one_place bs cs vs ws l m (sym parts ∙ parts') those those' bad bad' in
    omega (arith)

-- a fault of the language, and a literal that is refused

abbrev OfLanguage : List ℕ → QueryFault → Type 0
OfLanguage text e = (f : Fault) × reported.IsFault text f × (e ≡ query_fault f)

abbrev OfLiteral : List ℕ → QueryFault → Type 0
OfLiteral text e = (k : ℕ) × (t : Tree) × (ts : List (Test PlainLit)) × Reads text t ts × IsFirstRefused (literals_of ts) k × (e ≡ Pattern k)

module _ (none_reported : (text : List ℕ) (t : Tree) (es : List (Test Literal)) (said : List (List ℕ)) (e : Fault) → Says text t es said → reported.IsFault text e → e ≡ fault.Memory)
    (one_list : (text : List ℕ) (t u : Tree) (ts us : List (Test PlainLit)) → Reads text t ts → Reads text u us → ts ≡ us) where
  no_syntax_fault : (text : List ℕ) (t : Tree) (ts : List (Test PlainLit)) (e : Fault) → Reads text t ts → reported.IsFault text e → e ≡ fault.Memory
  no_syntax_fault text t ts e (es, said, says, tests) h = none_reported text t es said e says h

  -- a fault is one of the language, or a literal is refused
  kind : (text : List ℕ) (e : QueryFault) → IsFault text e → OfLanguage text e ⊎ OfLiteral text e
  kind text TooLong x = inl (fault.TooLong, x, refl)
  kind text (Syntax b) x = inl (fault.Syntax b, x, refl)
  kind text TooMany x = inl (fault.TooMany, x, refl)
  kind text TooDeep x = inl (fault.TooDeep, x, refl)
  kind text Repeat x = inl (fault.Repeat, x, refl)
  kind text (Pattern k) (t, ts, reads, refused) = inr (k, t, ts, reads, refused, refl)
  kind text Memory x = inl (fault.Memory, x, refl)

  pub no_fault : (text : List ℕ) (q : Asked) (e : QueryFault) → IsQuery text q → IsFault text e → e ≡ Memory
  no_fault text q e (reads, good) h = ⊎_elim
      (λ (f, x, same). same ∙ ap query_fault (no_syntax_fault text _ q.tests f reads x))
      (λ (k, t, ts, again, (before, l, after, parts, number, those, bad), same).
      absurd (bad (accepted_at before after l (subst AreAccepted (ap literals_of (one_list text _ t q.tests ts reads again) ∙ parts) good)).0))
      (kind text e h)

  module _ (one_of_language : (text : List ℕ) (e f : Fault) → reported.IsFault text e → reported.IsFault text f → (e ≡ fault.Memory → ⊥) → (f ≡ fault.Memory → ⊥) → e ≡ f) where
    other : (e : QueryFault) (f : Fault) → e ≡ query_fault f → (e ≡ Memory → ⊥) → f ≡ fault.Memory → ⊥
    other e f same not is = not (same ∙ ap query_fault is)

    apart : (text : List ℕ) (e f : QueryFault) → OfLanguage text e → OfLiteral text f → (e ≡ Memory → ⊥) → ⊥
    apart text e f (g, x, same) (k, t, ts, reads, refused, is) not = other e g same not (no_syntax_fault text t ts g reads x)

    both_refused : (text : List ℕ) (e f : QueryFault) → OfLiteral text e → OfLiteral text f → e ≡ f
    both_refused text e f (j, t, ts, reads, first, is) (k, u, us, again, second, is') =
        let same = ap literals_of (one_list text t u ts us reads again) in
        is ∙ ap Pattern (one_refused (literals_of us) j k (subst (λ ls. IsFirstRefused ls j) same first) second) ∙ sym is'

    met : (text : List ℕ) (e f : QueryFault) → OfLanguage text e ⊎ OfLiteral text e → OfLanguage text f ⊎ OfLiteral text f → (e ≡ Memory → ⊥) → (f ≡ Memory → ⊥) → e ≡ f
    met text e f (inl (g, x, same)) (inl (h, y, same')) not nor =
        same ∙ ap query_fault (one_of_language text g h x y (other e g same not) (other f h same' nor)) ∙ sym same'
    met text e f (inl x) (inr y) not nor = absurd (apart text e f x y not)
    met text e f (inr x) (inl y) not nor = absurd (apart text f e y x nor)
    met text e f (inr x) (inr y) not nor = both_refused text e f x y

    pub one_fault : (text : List ℕ) (e f : QueryFault) → IsFault text e → IsFault text f → (e ≡ Memory → ⊥) → (f ≡ Memory → ⊥) → e ≡ f
    one_fault text e f x y not nor = met text e f (kind text e x) (kind text f y) not nor
