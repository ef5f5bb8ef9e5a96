-- One fault more of a list.
use Rattle.std.proofs.Common.{◌≡◌, ◌∙◌, ◌++◌, ◌∷◌, [], ◌+◌, ◌<◌, ℕ, List, add-one, ap, append-nil, append_assoc, drop, get_or, length, map, max, refl, subst, sym, take, Result, Ok, Err, IfOk}
use Rattle.std.proofs.Math.Seq.{drop-cons}
use Rattle.std.proofs.lemmas.List.{map-append, take_more}
use Rattle.tb_check.specs.declared.fault.Fault.{Fault}
use Rattle.tb_report.specs.FaultList.{FaultText}
use Rattle.tb_check.specs.declared.fault.Fault.TheVariants.{Line, Rule}
use Rattle.tb_words.specs.Told.{AreTold, IsShownAs, TellsFault, TellsLineAt, TellsSentence, line_told, sentence_told}
use Rattle.tb_words.specs.declared.findings.Finding.{Finding}

-- what is left of a list begins with the fault at the place
left_at : (faults : List Fault) (at : ℕ) (d : Fault) → at < length faults
    → drop at faults ≡ get_or faults at d ∷ drop (at + 1) faults
left_at faults at d within =
    drop-cons faults at d within ∙ ap (λ (n : ℕ). get_or faults at d ∷ drop n faults) (sym (add-one at))

pub one_more_told : (file : List ℕ) (faults : List Fault) (at line sentence next_line next_sentence : ℕ) (d : Fault)
    (first : FaultText) (told more : List FaultText) → at < length faults
    → TellsFault file line sentence (get_or faults at d) first → next_line ≡ line_told line (get_or faults at d)
    → next_sentence ≡ sentence_told sentence (get_or faults at d) → more ≡ told ++ first ∷ []
    → ((others : List FaultText) → AreTold file line sentence (drop at faults) others → AreTold file 0 0 faults (told ++ others))
    → (others : List FaultText) → AreTold file next_line next_sentence (drop (at + 1) faults) others
    → AreTold file 0 0 faults (more ++ others)
one_more_told file faults at line sentence next_line next_sentence d first told more within tells line_is sentence_is pushed so_far others
    come =
    let fault = get_or faults at d in
    let rest : AreTold file (line_told line fault) (sentence_told sentence fault) (drop (at + 1) faults) others =
    subst (λ (n : ℕ). AreTold file n (sentence_told sentence fault) (drop (at + 1) faults) others) line_is
    (subst (λ (n : ℕ). AreTold file next_line n (drop (at + 1) faults) others) sentence_is come) in
    let all : AreTold file line sentence (drop at faults) (first ∷ others) =
    subst (λ (fs : List Fault). AreTold file line sentence fs (first ∷ others)) (sym (left_at faults at d within))
    (first, others, refl, tells, rest) in
    subst (λ (ts : List FaultText). AreTold file 0 0 faults ts)
    (sym (ap (λ (ts : List FaultText). ts ++ others) pushed ∙ append_assoc told (first ∷ []) others)) (so_far (first ∷ others) all)

pub all_told : (file : List ℕ) (faults : List Fault) (at line sentence : ℕ) (told : List FaultText) → drop at faults ≡ []
    → ((others : List FaultText) → AreTold file line sentence (drop at faults) others → AreTold file 0 0 faults (told ++ others))
    → AreTold file 0 0 faults told
all_told file faults at line sentence told none so_far =
    subst (λ (ts : List FaultText). AreTold file 0 0 faults ts) (append-nil told)
    (so_far [] (subst (λ (fs : List Fault). AreTold file line sentence fs []) (sym none) refl))

-- what is found at a line is told, and so is what is found in a sentence
pub line_row : {E : Type 0} (file : List ℕ) (line sentence number code : ℕ) (found : Finding) (told : Result FaultText E)
    → TellsLineAt file (max line number) code found → IfOk told (IsShownAs found)
    → IfOk told (TellsFault file line sentence (Line number code))
line_row file line sentence number code found (Ok row) tells shown = (found, tells, shown)
line_row file line sentence number code found (Err e) tells shown = tt

pub sentence_row : {E : Type 0} (file : List ℕ) (line sentence number rule row : ℕ) (found : Finding) (told : Result FaultText E)
    → TellsSentence file (max sentence number) rule row found → IfOk told (IsShownAs found)
    → IfOk told (TellsFault file line sentence (Rule number rule row))
sentence_row file line sentence number rule row found (Ok shown_row) tells shown = (found, tells, shown)
sentence_row file line sentence number rule row found (Err e) tells shown = tt

-- nothing was told yet
pub none_told : (file : List ℕ) (faults : List Fault) (line sentence : ℕ) (told others : List FaultText) → line ≡ 0 → sentence ≡ 0
    → told ≡ [] → AreTold file line sentence (drop 0 faults) others → AreTold file 0 0 faults (told ++ others)
none_told file faults line sentence told others line_is sentence_is none come =
    subst (λ (ts : List FaultText). AreTold file 0 0 faults (ts ++ others)) (sym none)
    (subst (λ (n : ℕ). AreTold file 0 n faults others) sentence_is (subst (λ (n : ℕ). AreTold file n sentence faults others) line_is come))

-- the faults that were told
pub one_more_fault : (faults : List Fault) (at : ℕ) (d : Fault) (first : FaultText) (told more : List FaultText) → at < length faults
    → first.fault ≡ get_or faults at d → more ≡ told ++ first ∷ [] → map (λ x. x.fault) told ≡ take at faults
    → map (λ x. x.fault) more ≡ take (at + 1) faults
one_more_fault faults at d first told more within is pushed so_far =
    let faults_of : List FaultText → List Fault = λ ts. map (λ x. x.fault) ts in
    ap faults_of pushed ∙ (map-append (λ (x : FaultText). x.fault) told (first ∷ [])
    ∙ (ap (λ (fs : List Fault). fs ++ first.fault ∷ []) so_far
    ∙ (ap (λ (f : Fault). take at faults ++ f ∷ []) is ∙ sym (take_more faults at d within))))
