-- The list of a file's faults as CSV, in the form of the tables of a desk.
use Rattle.std.specs.Prelude.{ℕ, List, [], ◌∷◌, ◌++◌, Bool, cond, map, codes}
use Rattle.std.specs.Fmt.{decimal}
use Rattle.tb_report.specs.Csv.{csv_of}
use Rattle.tb_check.specs.declared.fault.Fault.{Fault}
use Rattle.tb_check.specs.declared.fault.Fault.TheVariants.{Line, Rule}

-- the fault, its line, the ID and the column at fault, what is in it, and what is wrong in words
pub record FaultText : Type 0 where
  pub fault : Fault
  pub line : ℕ
  pub id : List ℕ
  pub column : List ℕ
  pub value : List ℕ
  pub message : List ℕ

abbrev pub faults_head : List (List ℕ)
faults_head =
    codes "line" ∷ codes "code" ∷ codes "sentence" ∷ codes "rule" ∷ codes "row" ∷ codes "id"
    ∷ codes "column" ∷ codes "value" ∷ codes "message" ∷ []

-- a faulty line: its number and its code
abbrev pub line_fields : (line code : ℕ) → FaultText → List (List ℕ)
line_fields line code x =
    decimal line ∷ decimal code ∷ [] ∷ [] ∷ [] ∷ x.id ∷ x.column ∷ x.value ∷ x.message ∷ []

-- a rule that a sentence breaks: a line at fault, the sentence, the rule and the row
abbrev pub rule_fields : (sentence rule row : ℕ) → FaultText → List (List ℕ)
rule_fields sentence rule row x =
    decimal x.line ∷ [] ∷ decimal sentence ∷ decimal rule ∷ decimal row ∷ x.id ∷ x.column ∷ x.value ∷ x.message ∷ []

abbrev pub fields_of : Fault → FaultText → List (List ℕ)
fields_of (Line line code) x = line_fields line code x
fields_of (Rule sentence rule row) x = rule_fields sentence rule row x

abbrev pub fault_fields : FaultText → List (List ℕ)
fault_fields x = fields_of x.fault x

-- the row that says that there are more faults
abbrev pub more_fields : List (List ℕ)
more_fields =
    [] ∷ [] ∷ [] ∷ [] ∷ [] ∷ [] ∷ [] ∷ [] ∷ codes "there are more faults; --most N lists as many as N" ∷ []

abbrev pub last_rows : (more : Bool) → List (List (List ℕ))
last_rows more = cond more (more_fields ∷ []) []

-- a row for each fault, and one more where there are more faults
abbrev pub faults_csv : (more : Bool) → List FaultText → List ℕ
faults_csv more faults = csv_of (faults_head ∷ (map fault_fields faults ++ last_rows more))
