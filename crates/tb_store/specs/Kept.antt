-- What a desk keeps: its connection, its limits, and what it read or wrote last of counts and totals.
use Rattle.std.specs.Prelude.{◌≡◌, ◌≤◌, ℕ, Bool, false, None, refl}
use Rattle.std.specs.Coded.{Coded, code_by, coded×, coded_ℕ, coded_bool}
use Rattle.sqlite.specs.Held.{Held, held_code}
use Rattle.tb_core.specs.contracts.limits.Limits as limits
use Rattle.tb_core.specs.contracts.sums.Totals as totals
use Rattle.tb_core.specs.declared.limits.Limits.{Limits}
use Rattle.tb_core.specs.declared.sums.Totals.{Totals}
use Rattle.tb_refine.specs.declared.counters.Counters.{Counters}
use Rattle.tb_refine.specs.Counted.{IsWithin}
use Rattle.tb_import.specs.declared.counters.ImportCounters.{ImportCounters}

-- `batches`, `sentences` and `moves` are how many there are. It is in doubt after a command that failed where memory was
-- refused for the question whether the store is open.
pub record Kept (S : Type 0) : Type 0 where
  pub conn : Held S
  pub limits : Limits
  pub batches : ℕ
  pub sentences : ℕ
  pub moves : ℕ
  pub totals : Totals
  pub in_doubt : Bool

abbrev pub kept_code : {S : Type 0} → Coded S → Coded (Kept S)
kept_code {S} store =
    code_by (Held S × (Limits × (ℕ × (ℕ × (ℕ × (Totals × Bool))))))
    (coded× (held_code store) (coded× limits.the_row.coded
    (coded× coded_ℕ (coded× coded_ℕ (coded× coded_ℕ (coded× totals.the_row.coded coded_bool))))))
    (λ d. (d.conn, (d.limits, (d.batches, (d.sentences, (d.moves, (d.totals, d.in_doubt)))))))
    (λ p. record {
      conn = p.0;
      limits = p.1.0;
      batches = p.1.1.0;
      sentences = p.1.1.1.0;
      moves = p.1.1.1.1.0;
      totals = p.1.1.1.1.1.0;
      in_doubt = p.1.1.1.1.1.1;
    })
    (λ _. refl)

-- What each call needs of a desk, independent of the tables: no open transaction and no step limit. There is room for
-- one more batch, sentence and move.
pub record IsReady {S : Type 0} (d : Kept S) : Type 0 where
  pub autocommit : d.conn.in_transaction ≡ false
  pub unlimited : d.conn.step_limit ≡ None
  pub limited : IsWithin d.limits
  pub batches : d.batches ≤ d.moves
  pub sentences : d.sentences ≤ 1000000
  pub moves : d.moves ≤ 1000000000

-- what a command needs of it beside the tables
abbrev pub counts_of : {S : Type 0} → Kept S → Counters
counts_of d = record { limits = d.limits; moves = d.moves; totals = d.totals }

-- and what an import needs
abbrev pub known_of : {S : Type 0} → Kept S → ImportCounters
known_of d = record { counts = counts_of d; batches = d.batches; sentences = d.sentences }
