use Rattle.std.proofs.Common.{◌≡◌, ◌++◌, map, drop, string_bytes}
use Rattle.tb_syntax.specs.Exprs.{test}
use Rattle.tb_query.specs.declared.fault.QueryFault.{QueryFault}
use Rattle.tb_syntax.specs.Tests.{literals_of}
use Rattle.tb_query.specs.Refusing.{IsRefusalAmong}
use Rattle.tb_query.specs.Reading.{with_text, with_texts, AreAccepted}
use Rattle.tb_query.proofs.attaching.+attaching.Given as goal

abbrev pub invariant-attach_all-loop-expr : goal.invariant-attach_all-loop-expr
invariant-attach_all-loop-expr l = record {
  values : map test l.attached.items ++ map (with_texts (map string_bytes l.texts)) (map test (drop l.expr-index l.exprs)) ≡ map (with_texts (map string_bytes l.texts)) (map test l.exprs);
  accepted : AreAccepted (map (with_text (map string_bytes l.texts)) (literals_of (map test (drop l.expr-index l.exprs)))) →
      AreAccepted (map (with_text (map string_bytes l.texts)) (literals_of (map test l.exprs)));
  refused : (e : QueryFault) → IsRefusalAmong (map string_bytes l.texts) (literals_of (map test (drop l.expr-index l.exprs))) e →
      IsRefusalAmong (map string_bytes l.texts) (literals_of (map test l.exprs)) e;
}
