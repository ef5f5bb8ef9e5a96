-- A page of trees: sentences as text of HTML, after the style and before the script that draws them.
use Rattle.std.specs.Prelude.{◌≢◌, ℕ, List, [], ◌∷◌, ◌++◌, codes, if◌then◌else◌, nat_eq}
use Rattle.std.specs.List.{AllByRecursion, flat_map}
use Rattle.tb_assets.specs.declared.files.rows.TheConstants.{ROWS_JS}
use Rattle.tb_assets.specs.declared.files.style.TheConstants.{PAGE_CSS}
use Rattle.tb_assets.specs.declared.files.tree.TheConstants.{TREE_JS}
use Rattle.tb_assets.specs.declared.parts.TheConstants.{TREES_BODY, TREES_END, TREES_HEAD, TREES_JS, TREES_SCRIPT}

-- A byte as text of HTML. An ampersand, and the sign with which a tag begins, have names.
abbrev pub escaped_byte : ℕ → List ℕ
escaped_byte b = if nat_eq b 38 then codes "&amp;" else if nat_eq b 60 then codes "&lt;" else b ∷ []

-- a text as text of HTML
abbrev pub escaped : List ℕ → List ℕ
escaped text = flat_map escaped_byte text

-- what comes before the sentences
abbrev pub trees_head : List ℕ
trees_head = TREES_HEAD.now ++ PAGE_CSS.now ++ TREES_BODY.now

-- the script that draws the trees
abbrev pub trees_script : List ℕ
trees_script = TREES_SCRIPT.now ++ ROWS_JS.now ++ TREE_JS.now ++ TREES_JS.now

-- the page with the trees of these sentences
unfoldable pub trees_page : List ℕ → List ℕ
trees_page text = trees_head ++ escaped text ++ trees_script ++ TREES_END.now

-- no byte of the text is the sign with which a tag begins
abbrev pub BeginsNoTag : List ℕ → Type 0
BeginsNoTag text = AllByRecursion (λ b. b ≢ 60) text
