-- What is written of an allowed import stands for the state after it.
use Rattle.std.proofs.Common.{◌≡◌, ℕ, ◌+◌, List, length, ◌∙◌, arith}
use Rattle.std.proofs.lemmas.List.{length-map}
use Rattle.tb_core.specs.declared.kinds.State.TheVariants.{Opened}
use Rattle.tb_core.specs.Machine.{Machine}
use Rattle.tb_core.specs.Acts.{Act, IsAllowed, importing, after}
use Rattle.tb_core.specs.Reaching.{Reached}
use Rattle.tb_conllu.specs.Text.{BlockText}
use Rattle.tb_tables.specs.Values.{move_of, total_of}
use Rattle.tb_tables.specs.Commands.{NewSentenceRecord, after_import}
use Rattle.tb_tables.specs.declared.recording.MoveWrite.{MoveWrite}
use Rattle.tb_refine.specs.DeskTables.{tables_of, sentence_record, batch_record, total_record}
use Rattle.tb_refine.specs.Written.{import_written}
use Rattle.tb_refine.proofs.Next.{import_next}
use Rattle.tb_refine.proofs.Written.{total_reported}
use Rattle.tb_refine.specs.Recorded.{IsWritten}
use Rattle.tb_import.specs.Planned.{IsMadeBatch}

pub import_stands : (s : Machine) (name user : List ℕ) (bodies : List BlockText) (number first : ℕ) (items : List NewSentenceRecord) (c : MoveWrite) → Reached s → IsMadeBatch s number first bodies items → IsAllowed s (importing name user bodies)
    → IsWritten s (importing name user bodies) c → after_import (tables_of s) name user items (move_of c.row) (total_of c.left) (total_of c.reached) ≡ tables_of (after s (importing name user bodies))
import_stands s name user bodies number first items c reached is allowed w =
    let a : Act = importing name user bodies in
    let there : total_of c.reached ≡ total_record (after s a) Opened = total_reported w.totals (after s a) Opened c.reached w.stand w.change.reached in
    let same : after_import (tables_of s) name user items (move_of c.row) (total_of c.left) (total_of c.reached) ≡ import_written s name user bodies (total_of c.left) =
    λ j. after_import (tables_of s) name user (is.reported j) (w.change.row j) (total_of c.left) (there j) in
    same ∙ import_next s name user bodies reached allowed (total_of c.left)

pub next_batch : (s : Machine) (number first : ℕ) (bodies : List BlockText) (items : List NewSentenceRecord) → IsMadeBatch s number first bodies items → (number ≡ 1 + length (tables_of s).batches) × (first ≡ 1 + length (tables_of s).sentences)
next_batch s number first bodies items is =
    let batches = length-map s.batches batch_record in
    let sentences = length-map s.sentences sentence_record in
    let n = is.next in
    let f = is.first_next in
    (omega (arith, n, batches), omega (arith, f, sentences))
