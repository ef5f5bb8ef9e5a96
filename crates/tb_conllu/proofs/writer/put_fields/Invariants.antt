use Rattle.std.proofs.Common.{◌∷◌, take}
use Rattle.std.specs.Io.KnownBytes.{Appends}
use Rattle.std.specs.List.{flat_map}
use Rattle.tb_conllu.proofs.writer.put_fields.Given as goal

abbrev pub invariant-loop-field : goal.invariant-loop-field
invariant-loop-field g l = Appends (g.S.Sink.held l.initial.out) (g.S.Sink.held l.out) (flat_map (λ field. 9 ∷ field.now) (take l.field-index l.fields))
